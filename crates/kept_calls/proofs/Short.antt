-- The last header blocks of a server's side may be sent.
use Rattle.std.proofs.Common.{◌≡◌, ℕ, ◌+◌, ◌≤◌, ◌==◌, Bool, true, false, List, [], ◌∷◌, ◌++◌, Option, Some, None, refl, sym, ap, subst, ◌∙◌, length, codes, arith, sum_by}
use Rattle.std.specs.Prelude.{not, if◌then◌else◌}
use Rattle.std.specs.Str.{bytes_eq}
use Rattle.std.proofs.lemmas.List.Sums.{sum_by-append}
use Rattle.hpack_tables.specs.EntrySizes.{size_of}
use Rattle.hpack_tables.specs.Malformed.{is_malformed_request}
use Rattle.hpack_tables.specs.declared.field.Field.{Field}
use Rattle.schema_numbers.specs.Numbers.{Numbers}
use Rattle.grpc_heads.specs.GrpcStatus.{GrpcStatus}
use Rattle.grpc_heads.specs.Heads.{call_of, first_value, head_of, is_grpc, is_present_but_not, is_text, is_timeout, method_of, served}
use Rattle.grpc_heads.specs.Written.{field, response_fields, trailer_fields}
use Rattle.grpc_heads.specs.declared.head.HeadRead.TheVariants as head
use Rattle.grpc_heads.specs.declared.head.Method.{Method}
use Rattle.grpc_heads.proofs.Fitting.{short_trailers_fit}
use Rattle.kept_calls.specs.Endings.{http_code}

last_is_short : (n : Numbers) (status : GrpcStatus) (is_alone : Bool) → sum_by size_of (response_fields ++ trailer_fields n status) ≤ 65536 →
    sum_by size_of (if is_alone then response_fields ++ trailer_fields n status else trailer_fields n status) ≤ 65536
last_is_short n status true h = h
last_is_short n status false h = omega (arith, h, sum_by-append size_of response_fields (trailer_fields n status))

-- trailers fit where they fit behind the fields of a response
pub end_is_short : (n : Numbers) (status : GrpcStatus) (is_alone : Bool) (fields : List Field) →
    fields ≡ (if is_alone then response_fields ++ trailer_fields n status else trailer_fields n status) →
    sum_by size_of (response_fields ++ trailer_fields n status) ≤ 65536 → sum_by size_of fields ≤ 65536
end_is_short n status is_alone fields same h = subst (λ (l : List Field). sum_by size_of l ≤ 65536) (sym same) (last_is_short n status is_alone h)

-- those of a status whose message has at most 64 bytes fit
pub refusal_is_short : (n : Numbers) (status : GrpcStatus) (is_alone : Bool) (fields : List Field) →
    fields ≡ (if is_alone then response_fields ++ trailer_fields n status else trailer_fields n status) →
    length status.message ≤ 64 → sum_by size_of fields ≤ 65536
refusal_is_short n status is_alone fields same short = end_is_short n status is_alone fields same (short_trailers_fit n status short)

three : (a b c : Bool) → length (if a then codes "405" else if b then codes "415" else if c then codes "400" else codes "500") ≡ 3
three true b c = refl
three false true c = refl
three false false true = refl
three false false false = refl

size_is : (name value : List ℕ) (n m : ℕ) → length name ≡ n → length value ≡ m → size_of (field name value) ≡ n + m + 32
size_is name value n m e f = ap (λ (k : ℕ). k + length value + 32) e ∙ ap (λ (k : ℕ). n + k + 32) f

-- a status of HTTP alone fits
pub http_is_short : (status : ℕ) (fields : List Field) → fields ≡ field (codes ":status") (http_code status) ∷ [] → sum_by size_of fields ≤ 65536
http_is_short status fields same =
    let f : Field = field (codes ":status") (http_code status) in
    let alone : sum_by size_of (f ∷ []) ≡ 0 + size_of f = refl in
    subst (λ (l : List Field). sum_by size_of l ≤ 65536) (sym same)
    (omega (arith, alone, size_is (codes ":status") (http_code status) 7 3 refl (three (status == 405) (status == 415) (status == 400))))

text_of : (code : ℕ) (text : List ℕ) (n : ℕ) (status : GrpcStatus) → length text ≡ n → n ≤ 64 →
    head.Status (record { code = code; message = text; reason = None }) ≡ head.Status status → length status.message ≤ 64
text_of code text n status size short e =
    let is : GrpcStatus = record { code = code; message = text; reason = None } in
    let same : is ≡ status = cc in
    subst (λ (s : GrpcStatus). length s.message ≤ 64) same (omega (arith, size, short))

served_short : (method : Option Method) (compressed late : Bool) (status : GrpcStatus) → served method compressed late ≡ head.Status status → length status.message ≤ 64
served_short None compressed late status e = text_of 12 (codes "unknown method") 14 status refl (omega arith) e
served_short (Some method) true late status e = text_of 12 (codes "compression is not served") 25 status refl (omega arith) e
served_short (Some method) false true status e = text_of 3 (codes "bad timeout") 11 status refl (omega arith) e
served_short (Some method) false false status e = absurd cc

-- a head is refused with a short text
pub head_refusal_is_short : (fields : List Field) (status : GrpcStatus) → head_of fields ≡ head.Status status → length status.message ≤ 64
unfolding head_of
head_refusal_is_short fields status e =
    by (is_malformed_request fields) (not (is_text (codes "POST") (first_value (codes ":method") fields))) (not (is_grpc (first_value (codes "content-type") fields))) e
  where
    by : (a b c : Bool) → (if a then head.Malformed else if b then head.Http 405 else if c then head.Http 415 else call_of fields) ≡ head.Status status → length status.message ≤ 64
    by true b c e = absurd cc
    by false true c e = absurd cc
    by false false true e = absurd cc
    by false false false e =
        served_short (method_of (first_value (codes ":path") fields)) (is_present_but_not (λ (value : List ℕ). bytes_eq value (codes "identity")) (first_value (codes "grpc-encoding") fields))
        (is_present_but_not is_timeout (first_value (codes "grpc-timeout") fields)) status e
