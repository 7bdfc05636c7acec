-- The end that the last header block of a server's side says.
use Rattle.std.proofs.Common.{◌≡◌, ℕ, false, List, [], ◌∷◌, ◌++◌, Option, Some, None, Ok, refl, ap, ◌∙◌}
use Rattle.std.specs.Prelude.{codes}
use Rattle.grpc_heads.specs.CallEnd.{Status, call_end_by, call_end_of, end_read}
use Rattle.grpc_heads.specs.GrpcStatus.{GrpcStatus}
use Rattle.grpc_heads.specs.Heads.{first_value}
use Rattle.grpc_heads.specs.Trailers.{status_in_trailers}
use Rattle.grpc_heads.specs.Written.{digits, field, message_fields, reason_fields, response_fields, trailer_fields}
use Rattle.grpc_heads.specs.declared.status.ModifyReason.{ModifyReason}
use Rattle.hpack_tables.specs.declared.field.Field.{Field}
use Rattle.h2_exchange.specs.Malformed.{is_malformed_trailers}
use Rattle.schema_numbers.specs.Numbers.{Numbers}

plain_by : (n : Numbers) (code : ℕ) (message : List ℕ) (reason : Option ModifyReason) → is_malformed_trailers (field (codes "grpc-status") (digits code) ∷ message_fields message ++ reason_fields n code message reason) ≡ false
plain_by n code [] None = refl
plain_by n code [] (Some reason) = refl
plain_by n code (b ∷ message) None = refl
plain_by n code (b ∷ message) (Some reason) = refl

-- trailers of a status are well formed
pub trailers_plain : (n : Numbers) (ending : GrpcStatus) → is_malformed_trailers (trailer_fields n ending) ≡ false
unfolding trailer_fields
trailers_plain n ending = plain_by n ending.code ending.message ending.reason

alone_by : (n : Numbers) (code : ℕ) (message : List ℕ) (reason : Option ModifyReason) → first_value (codes ":status") (field (codes "grpc-status") (digits code) ∷ message_fields message ++ reason_fields n code message reason) ≡ None
alone_by n code [] None = refl
alone_by n code [] (Some reason) = refl
alone_by n code (b ∷ message) None = refl
alone_by n code (b ∷ message) (Some reason) = refl

no_status : (n : Numbers) (ending : GrpcStatus) → first_value (codes ":status") (trailer_fields n ending) ≡ None
unfolding trailer_fields
no_status n ending = alone_by n ending.code ending.message ending.reason

-- and say it
pub trailers_say : (n : Numbers) (ending : GrpcStatus) → status_in_trailers n (trailer_fields n ending) ≡ Ok ending → call_end_of n (trailer_fields n ending) ≡ Status ending
trailers_say n ending read = ap (call_end_by n (trailer_fields n ending)) (no_status n ending) ∙ ap end_read read

same_status : (n : Numbers) (fields : List Field) → status_in_trailers n (response_fields ++ fields) ≡ status_in_trailers n fields
unfolding status_in_trailers
same_status n fields = refl

-- a head that is the end says it behind the fields of each response
pub head_says : (n : Numbers) (ending : GrpcStatus) → status_in_trailers n (trailer_fields n ending) ≡ Ok ending → call_end_of n (response_fields ++ trailer_fields n ending) ≡ Status ending
head_says n ending read = ap end_read (same_status n (trailer_fields n ending) ∙ read)
