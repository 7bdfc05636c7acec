-- What refuses a call may be sent.
use Rattle.std.proofs.Common.{◌≡◌, ℕ, ◌≤◌, Bool, true, List, [], ◌∷◌, ◌++◌, Result, Ok, Err, IfOk, length, codes, sum_by}
use Rattle.std.specs.Prelude.{if◌then◌else◌}
use Rattle.hpack_tables.specs.EntrySizes.{size_of}
use Rattle.hpack_tables.specs.declared.field.Field.{Field}
use Rattle.schema_numbers.specs.Numbers.{Numbers}
use Rattle.grpc_heads.specs.GrpcStatus.{GrpcStatus}
use Rattle.grpc_heads.specs.Heads.{head_of}
use Rattle.grpc_heads.specs.Written.{field, response_fields, trailer_fields}
use Rattle.grpc_heads.specs.declared.head.HeadRead.TheVariants as head
use Rattle.kept_calls.specs.Endings.{http_code}
use Rattle.kept_calls.proofs.Short.{head_refusal_is_short, http_is_short, refusal_is_short}

-- a status whose message has at most 64 bytes
pub refusal_fits : {E : Type 0} (r : Result (List Field) E) (n : Numbers) (status : GrpcStatus) (is_alone : Bool) →
    IfOk r (λ fields. fields ≡ (if is_alone then response_fields ++ trailer_fields n status else trailer_fields n status)) → length status.message ≤ 64 →
    IfOk r (λ fields. sum_by size_of fields ≤ 65536)
refusal_fits (Ok fields) n status is_alone same short = refusal_is_short n status is_alone fields same short
refusal_fits (Err e) n status is_alone same short = same

-- the status that a head is refused with
pub head_refusal_fits : {E : Type 0} (r : Result (List Field) E) (n : Numbers) (status : GrpcStatus) (heads : List Field) → head_of heads ≡ head.Status status →
    IfOk r (λ fields. fields ≡ (if true then response_fields ++ trailer_fields n status else trailer_fields n status)) → IfOk r (λ fields. sum_by size_of fields ≤ 65536)
head_refusal_fits r n status heads refused same = refusal_fits r n status true same (head_refusal_is_short heads status refused)

-- a status of HTTP alone
pub http_fits : {E : Type 0} (r : Result (List Field) E) (status : ℕ) → IfOk r (λ fields. fields ≡ field (codes ":status") (http_code status) ∷ []) → IfOk r (λ fields. sum_by size_of fields ≤ 65536)
http_fits (Ok fields) status same = http_is_short status fields same
http_fits (Err e) status same = same
