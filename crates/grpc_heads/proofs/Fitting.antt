-- A response head and the trailers of a short status take few bytes.
use Rattle.std.proofs.Common.{◌≡◌, ℕ, ◌+◌, ◌*◌, ◌/◌, ◌%◌, ◌≤◌, Bool, true, false, List, [], ◌∷◌, ◌++◌, Option, Some, None, refl, ap, ◌∙◌, length, codes, arith, sum_by}
use Rattle.std.specs.Prelude.{nat_lt, if◌then◌else◌}
use Rattle.std.proofs.lemmas.List.{append-nil, length-append}
use Rattle.std.proofs.lemmas.List.Sums.{sum_by-append}
use Rattle.base64.specs.Engines.{standard_no_pad_indifferent}
use Rattle.base64.specs.GeneralPurpose.{encode_of}
use Rattle.base64.specs.Rfc4648.{encode_symbols, unpadded_len}
use Rattle.base64.proofs.RoundTrip.{length-encode_symbols}
use Rattle.percent_encoding.specs.Percent.{percent_encode_byte}
use Rattle.proto_wire.specs.Written.{varint, bytes_field}
use Rattle.hpack_tables.specs.EntrySizes.{size_of}
use Rattle.hpack_tables.specs.declared.field.Field.{Field}
use Rattle.schema_numbers.specs.Numbers.{Numbers, field_of, value_of}
use Rattle.schema_numbers.specs.declared.names.FieldName.TheVariants.{ModifyRpcErrorDetailsReason}
use Rattle.grpc_heads.specs.declared.status.ModifyReason.{ModifyReason}
use Rattle.grpc_heads.specs.GrpcStatus.{GrpcStatus}
use Rattle.grpc_heads.specs.Written.{field, response_fields, digits, is_escaped, escaped, message_fields, type_url, reason_name, reason_bytes, any_bytes, details, reason_fields, trailer_fields, uint_or_none, bytes_or_none}
use Rattle.grpc_heads.proofs.Again.{uint_length, field_length, varint_length}

first_and : (f : Field) (fs : List Field) → sum_by size_of (f ∷ fs) ≡ size_of f + sum_by size_of fs
first_and f fs =
    let alone : sum_by size_of (f ∷ []) ≡ 0 + size_of f = refl in
    omega (arith, alone, sum_by-append size_of (f ∷ []) fs)

size_is : (name value : List ℕ) (n : ℕ) → length name ≡ n → size_of (field name value) ≡ n + length value + 32
size_is name value n e = ap (λ (k : ℕ). k + length value + 32) e

digits_length : (n : ℕ) → length (digits n) ≤ 2
digits_length n = by (nat_lt n 10)
  where
    by : (t : Bool) → length (if t then (48 + n) ∷ [] else (48 + n / 10) ∷ (48 + n % 10) ∷ []) ≤ 2
    by true = omega arith
    by false = omega arith

escaped_length : (message : List ℕ) → length (escaped message) ≤ 3 * length message
unfolding escaped percent_encode_byte
escaped_length [] = omega arith
escaped_length (byte ∷ message) =
    let more = escaped_length message in
    omega (arith, length-append (if is_escaped byte then percent_encode_byte byte else byte ∷ []) (escaped message), one (is_escaped byte), more)
  where
    one : (t : Bool) → length (if t then percent_encode_byte byte else byte ∷ []) ≤ 3
    one true = omega arith
    one false = omega arith

message_size : (message : List ℕ) → sum_by size_of (message_fields message) ≤ 44 + 3 * length message
message_size [] = omega arith
message_size (byte ∷ message) =
    omega (arith, first_and (field (codes "grpc-message") (escaped (byte ∷ message))) [], size_is (codes "grpc-message") (escaped (byte ∷ message)) 12 refl, escaped_length (byte ∷ message))

text_length : (number : ℕ) (value : List ℕ) → length (bytes_field number value) ≤ 20 + length value
text_length number value =
    omega (arith, length-append (varint (number * 8 + 2) ++ varint (length value)) value, length-append (varint (number * 8 + 2)) (varint (length value)), varint_length 9 (number * 8 + 2), varint_length 9 (length value))

any_length : (n : Numbers) (reason : ModifyReason) → length (any_bytes n reason) ≤ 120
unfolding any_bytes
any_length n reason =
    let url : length type_url ≡ 47 = refl in
    omega (arith, length-append (bytes_field 1 type_url) (bytes_or_none 2 (reason_bytes n reason)), text_length 1 type_url, url, field_length 2 (reason_bytes n reason), uint_length (field_of n ModifyRpcErrorDetailsReason) (value_of n (reason_name reason)))

details_length : (n : Numbers) (code : ℕ) (message : List ℕ) (reason : ModifyReason) → length (details n code message reason) ≤ 180 + length message
unfolding details
details_length n code message reason =
    omega (
      arith,
      length-append (uint_or_none 1 code ++ bytes_or_none 2 message) (bytes_field 3 (any_bytes n reason)),
      length-append (uint_or_none 1 code) (bytes_or_none 2 message),
      uint_length 1 code,
      field_length 2 message,
      text_length 3 (any_bytes n reason),
      any_length n reason,
    )

encoded_length : (bytes : List ℕ) → length (encode_of standard_no_pad_indifferent bytes) ≡ unpadded_len (length bytes)
encoded_length bytes =
    ap length (append-nil (encode_symbols standard_no_pad_indifferent.encode_table bytes)) ∙ length-encode_symbols standard_no_pad_indifferent.encode_table bytes

reason_size : (n : Numbers) (code : ℕ) (message : List ℕ) (reason : Option ModifyReason) → sum_by size_of (reason_fields n code message reason) ≤ 300 + 2 * length message
reason_size n code message None = omega arith
reason_size n code message (Some reason) =
    let value = encode_of standard_no_pad_indifferent (details n code message reason) in
    omega (
      arith,
      first_and (field (codes "grpc-status-details-bin") value) [],
      size_is (codes "grpc-status-details-bin") value 23 refl,
      encoded_length (details n code message reason),
      details_length n code message reason,
    )

pub short_trailers_fit : (n : Numbers) (status : GrpcStatus) → length status.message ≤ 64 → sum_by size_of (response_fields ++ trailer_fields n status) ≤ 65536
unfolding trailer_fields
short_trailers_fit n status short =
    let head : sum_by size_of response_fields ≡ 102 = refl in
    let code = field (codes "grpc-status") (digits status.code) in
    let rest = message_fields status.message ++ reason_fields n status.code status.message status.reason in
    omega (
      arith,
      short,
      head,
      sum_by-append size_of response_fields (code ∷ rest),
      first_and code rest,
      size_is (codes "grpc-status") (digits status.code) 11 refl,
      digits_length status.code,
      sum_by-append size_of (message_fields status.message) (reason_fields n status.code status.message status.reason),
      message_size status.message,
      reason_size n status.code status.message status.reason,
    )
