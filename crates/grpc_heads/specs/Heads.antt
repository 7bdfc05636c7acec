-- What the head of a request asks for (gRPC over HTTP/2, "Requests"), or the first refusal that it decides.
use Rattle.std.specs.Prelude.{ℕ, ◌-◌, ◌&&◌, ◌||◌, Bool, false, not, nat_le, nat_eq, if◌then◌else◌, List, length, take, drop, Option, Some, None, option_map, codes}
use Rattle.std.specs.List.{list_all, find, starts_with}
use Rattle.std.specs.Str.{bytes_eq}
use Rattle.hpack_tables.specs.declared.field.Field.{Field}
use Rattle.grpc_heads.specs.declared.head.HeadRead.{HeadRead}
use Rattle.grpc_heads.specs.declared.head.HeadRead.TheVariants as head
use Rattle.grpc_heads.specs.declared.head.Method.{Method}
use Rattle.grpc_heads.specs.declared.head.Method.TheVariants.{Modify, Get, Flush}
use Rattle.hpack_tables.specs.Malformed.{is_malformed_request, is_named}

-- the value of the first field of a name
abbrev pub first_value : List ℕ → List Field → Option (List ℕ)
first_value name fields = option_map (λ (f : Field). f.value) (find (is_named name) fields)

abbrev pub is_text : List ℕ → Option (List ℕ) → Bool
is_text text None = false
is_text text (Some value) = bytes_eq value text

-- a content type of gRPC, with a format or parameters or without
abbrev pub is_grpc : Option (List ℕ) → Bool
is_grpc None = false
is_grpc (Some value) =
    bytes_eq value (codes "application/grpc") || starts_with nat_eq value (codes "application/grpc+")
    || starts_with nat_eq value (codes "application/grpc;")

abbrev pub is_digit : ℕ → Bool
is_digit c = nat_le 48 c && nat_le c 57

-- hours, minutes, seconds, and their thousandth, millionth and billionth parts
abbrev pub is_unit : List ℕ → Bool
is_unit unit =
    bytes_eq unit (codes "H") || bytes_eq unit (codes "M") || bytes_eq unit (codes "S")
    || bytes_eq unit (codes "m") || bytes_eq unit (codes "u") || bytes_eq unit (codes "n")

-- one to eight digits and a unit
abbrev pub is_timeout : List ℕ → Bool
is_timeout text =
    nat_le 2 (length text) && nat_le (length text) 9
    && list_all is_digit (take (length text - 1) text) && is_unit (drop (length text - 1) text)

abbrev pub method_of : Option (List ℕ) → Option Method
method_of None = None
method_of (Some path) =
    if bytes_eq path (codes "/gribi.gRIBI/Modify") then Some Modify
    else if bytes_eq path (codes "/gribi.gRIBI/Get") then Some Get
    else if bytes_eq path (codes "/gribi.gRIBI/Flush") then Some Flush
    else None

-- a field that is there has another value than it may have
abbrev pub is_present_but_not : (List ℕ → Bool) → Option (List ℕ) → Bool
is_present_but_not fits None = false
is_present_but_not fits (Some value) = not (fits value)

abbrev pub ends : ℕ → List ℕ → HeadRead
ends code message = head.Status (record { code = code; message = message; reason = None })

abbrev pub served : Option Method → Bool → Bool → HeadRead
served None compressed late = ends 12 (codes "unknown method")
served (Some method) compressed late =
    if compressed then ends 12 (codes "compression is not served")
    else if late then ends 3 (codes "bad timeout")
    else head.Method method

-- what a POST of gRPC asks for
abbrev pub call_of : List Field → HeadRead
call_of fields =
    served (method_of (first_value (codes ":path") fields))
    (is_present_but_not (λ value. bytes_eq value (codes "identity")) (first_value (codes "grpc-encoding") fields))
    (is_present_but_not is_timeout (first_value (codes "grpc-timeout") fields))

-- the first refusal, or the method
unfoldable pub head_of : List Field → HeadRead
head_of fields =
    if is_malformed_request fields then head.Malformed
    else if not (is_text (codes "POST") (first_value (codes ":method") fields)) then head.Http 405
    else if not (is_grpc (first_value (codes "content-type") fields)) then head.Http 415
    else call_of fields
