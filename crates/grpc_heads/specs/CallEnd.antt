-- How a side of a call ends: the end that a head, the framing or a response's last fields say (gRPC over HTTP/2, "Responses").
use Rattle.std.specs.Prelude.{ℕ, ◌==◌, ◌&&◌, List, [], ◌∷◌, length, Option, Some, None, Result, Ok, Err, codes, if◌then◌else◌}
use Rattle.std.specs.List.{find}
use Rattle.std.specs.Str.{bytes_eq}
use Rattle.hpack_tables.specs.declared.field.Field.{Field}
use Rattle.schema_numbers.specs.Numbers.{Numbers}
use Rattle.grpc_heads.specs.declared.head.HeadRead.{HeadRead}
use Rattle.grpc_heads.specs.declared.head.HeadRead.TheVariants as head
use Rattle.grpc_heads.specs.declared.head.Method.{Method}
use Rattle.grpc_heads.specs.declared.reading.TrailerFault.{TrailerFault}
use Rattle.grpc_heads.specs.GrpcStatus.{GrpcStatus}
use Rattle.grpc_heads.specs.Heads.{first_value, is_grpc}
use Rattle.grpc_heads.specs.Trailers.{status_in_trailers}

pub data CallEnd : Type 0 where
  -- trailers with a status
  Status : GrpcStatus → CallEnd
  -- a response head alone, with this status of HTTP
  Http : ℕ → CallEnd
  -- a client asks no more
  HalfClose : CallEnd
  -- fields that say no end
  Unreadable : CallEnd

abbrev pub status_only : ℕ → List ℕ → CallEnd
status_only code message = Status (record { code = code; message = message; reason = None })

-- a head begins a call, or is refused; a malformed one never comes so far
abbrev pub method_by : HeadRead → Result Method CallEnd
method_by (head.Method method) = Ok method
method_by (head.Status ending) = Err (Status ending)
method_by (head.Http status) = Err (Http status)
method_by head.Malformed = Err (Http 400)
method_by head.NoMemory = Err (Http 500)

-- the ends that framing decides
abbrev pub compressed : CallEnd
compressed = status_only 12 (codes "compression is not served")

abbrev pub too_long : CallEnd
too_long = status_only 8 (codes "message longer than 4194304")

abbrev pub truncated : CallEnd
truncated = status_only 3 (codes "truncated message")

-- a call without a status that can be read
abbrev pub unknown : GrpcStatus
unknown = record { code = 2; message = []; reason = None }

abbrev pub status_by : Result GrpcStatus TrailerFault → GrpcStatus
status_by (Ok ending) = ending
status_by (Err fault) = unknown

abbrev pub end_read : Result GrpcStatus TrailerFault → CallEnd
end_read (Ok ending) = Status ending
end_read (Err fault) = Unreadable

-- the statuses of HTTP that stand alone
abbrev pub http_statuses : List (List ℕ × ℕ)
http_statuses = (codes "400", 400) ∷ (codes "405", 405) ∷ (codes "415", 415) ∷ (codes "500", 500) ∷ []

abbrev pub http_by : Option (List ℕ × ℕ) → CallEnd
http_by None = Unreadable
http_by (Some status) = Http status.1

-- Trailers say their status. A head that is the end says a status behind the fields of each response head, or stands alone
-- with a status of HTTP.
abbrev pub call_end_by : Numbers → List Field → Option (List ℕ) → CallEnd
call_end_by n fields None = end_read (status_in_trailers n fields)
call_end_by n fields (Some status) =
    if bytes_eq status (codes "200") && is_grpc (first_value (codes "content-type") fields) then end_read (status_in_trailers n fields)
    else if length fields == 1 then http_by (find (λ (s : List ℕ × ℕ). bytes_eq status s.0) http_statuses)
    else Unreadable

-- the end that a response's last fields say
abbrev pub call_end_of : Numbers → List Field → CallEnd
call_end_of n fields = call_end_by n fields (first_value (codes ":status") fields)
