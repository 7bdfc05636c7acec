-- Answers are read again.
use Rattle.std.proofs.Common.{eqb, false, ◌≡◌, ℕ, ◌<◌, ◌^◌, List, [], ◌∷◌, ◌++◌, map, get_or, refl, true, sym, ap, ◌∙◌, arith, Option, None, Some, append_assoc, length-append}
use Rattle.std.specs.Prelude.{All, IfSome, FitsSigned}
use Rattle.std.specs.List.{flat_map}
use Rattle.std.specs.Option.{option_map, option_map_or}
use Rattle.std.proofs.lemmas.List.Concat.{flat_map-cons}
use Rattle.proto_wire.specs.Written.{WrittenField, Text, field_encoding, encoded_fields, IsLegal}
use Rattle.std.specs.Int.{w64, cast_unsigned}
use Rattle.std.proofs.lemmas.Int.{to_z-of_z}
use Rattle.std.proofs.Math.Facts.{Fits-of_z, Fits-lt-pow}
use Rattle.std.proofs.lemmas.List.{append-nil}
use Rattle.std.proofs.lemmas.List.Elements.{All-nil, All-cons, All-head, All-tail, All-weaker}
use Rattle.schema_numbers.specs.Numbers.{Numbers, field_of}
use Rattle.schema_numbers.specs.declared.names.FieldName.{FieldName}
use Rattle.schema_numbers.specs.declared.names.FieldName.TheVariants as field
use Rattle.schema_numbers.specs.Valid.{IsValid, are_distinct}
use Rattle.proto_schema.specs.declared.schema.MessageKind.TheVariants as message
use Rattle.proto_schema.specs.Legal.{first_fault, deeper_than}
use Rattle.proto_schema.specs.Schema.{fields_of, kind_of}
use Rattle.proto_schema.specs.declared.schema.MessageKind.{MessageKind}
use Rattle.proto_schema.specs.declared.schema.FieldKind.TheVariants.{Unknown, Message}
use Rattle.proto_schema.specs.FieldValues.{pieces, merged_onto, message_at, repeated_at}
use Rattle.proto_wire.specs.Fields.{ParsedFields, fields}
use Rattle.aft_messages.specs.Writing.{nonzero_uint_field}
use Rattle.gribi_messages.specs.declared.asks.FlushResponse.{FlushResponse}
use Rattle.gribi_messages.specs.GetAndFlush.{flush_response, flush_response_bytes}
use Rattle.gribi_messages.specs.declared.response.AftResult.{AftResult}
use Rattle.gribi_messages.specs.declared.response.ModifyResponse.{ModifyResponse}
use Rattle.gribi_messages.specs.Request.{uint128_of}
use Rattle.gribi_messages.specs.Response.{result_bytes, uint128_bytes, result_field, params_field, election_field, response_bytes, result_of, status_of, modify_response}
use Rattle.gribi_messages.specs.EncodableMessages.{IsEncodableResult, IsEncodableResponse}
use Rattle.gribi_messages.proofs.Embedded.{IsSound, nonzero_uint_field-len, apart, optional, many, three, first_scanned, second_scanned, third_scanned, three_all, message_good, id_read, id_sound}
use Rattle.gribi_messages.proofs.Schemas.{listed_at, distinct_at}
use Rattle.gribi_messages.proofs.ReadAgain.{Rows, keys, rows_bytes, IsFitting, one_fit, two_fit, four_fit, row_read, no_fault_in_rows, in_range, one_spelled, encoded_fields-append, pieces-field_spans, cut_of, no_fault, IsGood, turned}

fits : (n : Numbers) → IsValid n → (name : FieldName) (value : ℕ) → value < 2 ^ 64 → IsFitting (field_of n name, value)
fits n valid name value lt = let r = in_range n name valid in (r.0, r.1, lt)

flush_rows : Numbers → FlushResponse → Rows
flush_rows n r = (field_of n field.FlushResponseTimestamp, cast_unsigned w64 r.timestamp) ∷ (field_of n field.FlushResponseResult, r.result) ∷ []

flush_bytes_are : (n : Numbers) (r : FlushResponse) → flush_response_bytes n r ≡ rows_bytes (flush_rows n r)
unfolding flush_response_bytes flush_rows rows_bytes
flush_bytes_are n r = ap (λ (x : List ℕ). nonzero_uint_field (field_of n field.FlushResponseTimestamp) (cast_unsigned w64 r.timestamp) ++ x) (sym (append-nil (nonzero_uint_field (field_of n field.FlushResponseResult) r.result)))

flush_fit : (n : Numbers) (r : FlushResponse) → IsValid n → FitsSigned w64 r.timestamp → r.result < 2 ^ 64 → All IsFitting (flush_rows n r)
unfolding flush_rows
flush_fit n r valid signed lt =
    two_fit (field_of n field.FlushResponseTimestamp, cast_unsigned w64 r.timestamp) (field_of n field.FlushResponseResult, r.result)
    (fits n valid field.FlushResponseTimestamp (cast_unsigned w64 r.timestamp) (Fits-lt-pow (Fits-of_z signed))) (fits n valid field.FlushResponseResult r.result lt)

pub flush_response_again : (n : Numbers) (r : FlushResponse) → IsValid n → FitsSigned w64 r.timestamp → r.result < 2 ^ 64
    → (first_fault n message.FlushResponse (flush_response_bytes n r) ≡ None) × (flush_response n (flush_response_bytes n r) ≡ r)
unfolding first_fault flush_response flush_rows
flush_response_again n r valid signed lt =
    let rows = flush_rows n r in
    let fit : All IsFitting rows = flush_fit n r valid signed lt in
    let distinct : are_distinct (keys rows) ≡ true = distinct_at n valid 11 (omega arith) in
    let one = row_read rows 0 (0, 0) distinct fit (omega arith) in
    let two = row_read rows 1 (0, 0) distinct fit (omega arith) in
    rw (flush_bytes_are n r) (no_fault_in_rows 6 n message.FlushResponse 0 rows fit, rw (one, two, to_z-of_z w64 r.timestamp signed) refl)

-- ---- a result of an operation

result_rows : Numbers → AftResult → Rows
result_rows n r =
    (field_of n field.AftResultId, r.id) ∷ (field_of n field.AftResultStatus, r.status) ∷ (field_of n field.AftResultTimestamp, cast_unsigned w64 r.timestamp) ∷ (field_of n field.AftResultReason, r.reason) ∷ []

result_is : (n : Numbers) (r : AftResult) → result_bytes n r ≡ rows_bytes (result_rows n r)
unfolding result_bytes result_rows rows_bytes
result_is n r =
    let a = nonzero_uint_field (field_of n field.AftResultId) r.id in
    let b = nonzero_uint_field (field_of n field.AftResultStatus) r.status in
    let c = nonzero_uint_field (field_of n field.AftResultTimestamp) (cast_unsigned w64 r.timestamp) in
    let d = nonzero_uint_field (field_of n field.AftResultReason) r.reason in
    append_assoc (a ++ b) c d ∙ append_assoc a b (c ++ d) ∙ ap (λ (x : List ℕ). a ++ (b ++ (c ++ x))) (sym (append-nil d))

result_fit : (n : Numbers) (r : AftResult) → IsValid n → IsEncodableResult r → All IsFitting (result_rows n r)
unfolding result_rows
result_fit n r valid h =
    four_fit (field_of n field.AftResultId, r.id) (field_of n field.AftResultStatus, r.status) (field_of n field.AftResultTimestamp, cast_unsigned w64 r.timestamp) (field_of n field.AftResultReason, r.reason)
    (fits n valid field.AftResultId r.id h.id) (fits n valid field.AftResultStatus r.status h.status)
    (fits n valid field.AftResultTimestamp (cast_unsigned w64 r.timestamp) (Fits-lt-pow (Fits-of_z h.timestamp))) (fits n valid field.AftResultReason r.reason h.reason)

result_read : (n : Numbers) (r : AftResult) → IsValid n → IsEncodableResult r → result_of n (result_bytes n r) ≡ r
unfolding result_of result_rows
result_read n r valid h =
    let rows = result_rows n r in
    let fit : All IsFitting rows = result_fit n r valid h in
    let distinct : are_distinct (keys rows) ≡ true = distinct_at n valid 5 (omega arith) in
    let one = row_read rows 0 (0, 0) distinct fit (omega arith) in
    let two = row_read rows 1 (0, 0) distinct fit (omega arith) in
    let three_ = row_read rows 2 (0, 0) distinct fit (omega arith) in
    let four = row_read rows 3 (0, 0) distinct fit (omega arith) in
    rw (result_is n r) (rw (one, two, three_, four, to_z-of_z w64 r.timestamp h.timestamp) refl)

result_sound : (n : Numbers) (r : AftResult) → IsValid n → IsEncodableResult r → IsSound n message.AftResult (result_bytes n r)
unfolding result_bytes
result_sound n r valid h =
    let a = nonzero_uint_field (field_of n field.AftResultId) r.id in
    let b = nonzero_uint_field (field_of n field.AftResultStatus) r.status in
    let c = nonzero_uint_field (field_of n field.AftResultTimestamp) (cast_unsigned w64 r.timestamp) in
    let d = nonzero_uint_field (field_of n field.AftResultReason) r.reason in (
      omega (
        arith,
        length-append ((a ++ b) ++ c) d,
        length-append (a ++ b) c,
        length-append a b,
        nonzero_uint_field-len (field_of n field.AftResultId) r.id,
        nonzero_uint_field-len (field_of n field.AftResultStatus) r.status,
        nonzero_uint_field-len (field_of n field.AftResultTimestamp) (cast_unsigned w64 r.timestamp),
        nonzero_uint_field-len (field_of n field.AftResultReason) r.reason,
      ),
      λ base. rw (result_is n r) (no_fault_in_rows 5 n message.AftResult base (result_rows n r) (result_fit n r valid h)),
    )

-- ---- a status

status_rows : Numbers → ℕ → Rows
status_rows n status = (field_of n field.SessionParametersResultStatus, status) ∷ []

abbrev status_bytes : Numbers → ℕ → List ℕ
status_bytes n status = nonzero_uint_field (field_of n field.SessionParametersResultStatus) status

status_is : (n : Numbers) (status : ℕ) → status_bytes n status ≡ rows_bytes (status_rows n status)
unfolding status_rows rows_bytes
status_is n status = sym (append-nil (status_bytes n status))

status_fit : (n : Numbers) (status : ℕ) → IsValid n → status < 2 ^ 64 → All IsFitting (status_rows n status)
unfolding status_rows
status_fit n status valid lt = one_fit (field_of n field.SessionParametersResultStatus, status) (fits n valid field.SessionParametersResultStatus status lt)

status_read : (n : Numbers) (status : ℕ) → IsValid n → status < 2 ^ 64 → status_of n (status_bytes n status) ≡ status
unfolding status_rows
status_read n status valid lt =
    let rows = status_rows n status in
    let fit : All IsFitting rows = status_fit n status valid lt in
    let distinct : are_distinct (keys rows) ≡ true = distinct_at n valid 6 (omega arith) in
    rw (status_is n status) (row_read rows 0 (0, 0) distinct fit (omega arith))

status_sound : (n : Numbers) (status : ℕ) → IsValid n → status < 2 ^ 64 → IsSound n message.SessionParametersResult (status_bytes n status)
status_sound n status valid lt = (
  omega (arith, nonzero_uint_field-len (field_of n field.SessionParametersResultStatus) status),
  λ base. rw (status_is n status) (no_fault_in_rows 5 n message.SessionParametersResult base (status_rows n status) (status_fit n status valid lt)),
)

-- ---- a response

abbrev result_number : Numbers → ℕ
result_number n = field_of n field.ModifyResponseResult

abbrev params_number : Numbers → ℕ
params_number n = field_of n field.ModifyResponseSessionParamsResult

abbrev election_number : Numbers → ℕ
election_number n = field_of n field.ModifyResponseElectionId

response_parts : Numbers → ModifyResponse → List WrittenField
response_parts n r =
    three (result_number n) (map (result_bytes n) r.results) (params_number n) (option_map (status_bytes n) r.params) (election_number n) (option_map (uint128_bytes n) r.election)

results_spelled : (n : Numbers) (rs : List AftResult) → flat_map (result_field n) rs ≡ encoded_fields (many (result_number n) (map (result_bytes n) rs))
unfolding result_field many
results_spelled n [] = refl
results_spelled n (r ∷ rs) =
    flat_map-cons (result_field n) r rs ∙ ap (λ (x : List ℕ). result_field n r ++ x) (results_spelled n rs)
    ∙ sym (flat_map-cons field_encoding (Text (result_number n) (result_bytes n r)) (many (result_number n) (map (result_bytes n) rs)))

params_spelled : (n : Numbers) (o : Option ℕ) → option_map_or (params_field n) o [] ≡ encoded_fields (optional (params_number n) (option_map (status_bytes n) o))
unfolding params_field optional
params_spelled n None = refl
params_spelled n (Some status) = one_spelled (Text (params_number n) (status_bytes n status))

election_spelled : (n : Numbers) (o : Option ℕ) → option_map_or (election_field n) o [] ≡ encoded_fields (optional (election_number n) (option_map (uint128_bytes n) o))
unfolding election_field optional
election_spelled n None = refl
election_spelled n (Some id) = one_spelled (Text (election_number n) (uint128_bytes n id))

response_spelled : (n : Numbers) (r : ModifyResponse) → response_bytes n r ≡ encoded_fields (response_parts n r)
unfolding response_bytes response_parts three
response_spelled n r =
    let a = many (result_number n) (map (result_bytes n) r.results) in
    let b = optional (params_number n) (option_map (status_bytes n) r.params) in
    let c = optional (election_number n) (option_map (uint128_bytes n) r.election) in
    rw (results_spelled n r.results, params_spelled n r.params, election_spelled n r.election)
    (ap (λ (x : List ℕ). x ++ encoded_fields c) (sym (encoded_fields-append a b)) ∙ sym (encoded_fields-append (a ++ b) c))

-- what each part of a response is known for
abbrev IsKnown : Numbers → WrittenField → Type 0
IsKnown n part = IsLegal part × IsGood (deeper_than 6 n) (kind_of n message.ModifyResponse) part

kind_at : (n : Numbers) → IsValid n → (i : ℕ) → i < 3 → kind_of n message.ModifyResponse (get_or (fields_of n message.ModifyResponse) i (0, Unknown)).0 ≡ (get_or (fields_of n message.ModifyResponse) i (0, Unknown)).1
unfolding kind_of
kind_at n valid i lt = listed_at (fields_of n message.ModifyResponse) i (0, Unknown) (distinct_at n valid 4 (omega arith)) lt

known : (n : Numbers) → IsValid n → (name : FieldName) (inner : MessageKind) (bytes : List ℕ) → kind_of n message.ModifyResponse (field_of n name) ≡ Message inner → IsSound n inner bytes → IsKnown n (Text (field_of n name) bytes)
known n valid name inner bytes is sound =
    let r = in_range n name valid in
    ((r.0, r.1, sound.0), message_good n message.ModifyResponse inner (field_of n name) bytes is sound)

results_known : (n : Numbers) → IsValid n → (rs : List AftResult) → All IsEncodableResult rs → All (λ bytes. IsKnown n (Text (result_number n) bytes)) (map (result_bytes n) rs)
results_known n valid [] h = All-nil (λ bytes. IsKnown n (Text (result_number n) bytes))
results_known n valid (r ∷ rs) h =
    All-cons (λ bytes. IsKnown n (Text (result_number n) bytes)) (result_bytes n r) (map (result_bytes n) rs)
    (known n valid field.ModifyResponseResult message.AftResult (result_bytes n r) (kind_at n valid 0 (omega arith)) (result_sound n r valid (All-head IsEncodableResult r rs h)))
    (results_known n valid rs (All-tail IsEncodableResult r rs h))

params_known : (n : Numbers) → IsValid n → (o : Option ℕ) → IfSome o (λ status. status < 2 ^ 64) → IfSome (option_map (status_bytes n) o) (λ bytes. IsKnown n (Text (params_number n) bytes))
params_known n valid None h = tt
params_known n valid (Some status) h =
    known n valid field.ModifyResponseSessionParamsResult message.SessionParametersResult (status_bytes n status) (kind_at n valid 1 (omega arith)) (status_sound n status valid h)

election_known : (n : Numbers) → IsValid n → (o : Option ℕ) → IfSome o (λ id. id < 2 ^ 128) → IfSome (option_map (uint128_bytes n) o) (λ bytes. IsKnown n (Text (election_number n) bytes))
election_known n valid None h = tt
election_known n valid (Some id) h =
    known n valid field.ModifyResponseElectionId message.Uint128 (uint128_bytes n id) (kind_at n valid 2 (omega arith)) (id_sound n id valid h)

all_known : (n : Numbers) (r : ModifyResponse) → IsValid n → IsEncodableResponse r → All (IsKnown n) (response_parts n r)
unfolding response_parts
all_known n r valid h =
    three_all (IsKnown n) (result_number n) (params_number n) (election_number n) (map (result_bytes n) r.results) (option_map (status_bytes n) r.params) (option_map (uint128_bytes n) r.election)
    (results_known n valid r.results h.results) (params_known n valid r.params h.params) (election_known n valid r.election h.election)

results_again : (n : Numbers) → IsValid n → (rs : List AftResult) → All IsEncodableResult rs → map (result_of n) (map (result_bytes n) rs) ≡ rs
results_again n valid [] h = refl
results_again n valid (r ∷ rs) h =
    rw (result_read n r valid (All-head IsEncodableResult r rs h)) (ap (λ (x : List AftResult). r ∷ x) (results_again n valid rs (All-tail IsEncodableResult r rs h)))

params_again : (n : Numbers) → IsValid n → (o : Option ℕ) → IfSome o (λ status. status < 2 ^ 64) → option_map (status_of n) (option_map (status_bytes n) o) ≡ o
params_again n valid None h = refl
params_again n valid (Some status) h = ap Some (status_read n status valid h)

election_again : (n : Numbers) → IsValid n → (o : Option ℕ) → IfSome o (λ id. id < 2 ^ 128) → option_map (uint128_of n) (option_map (uint128_bytes n) o) ≡ o
election_again n valid None h = refl
election_again n valid (Some id) h = ap Some (id_read n id valid h)

pub modify_response_again : (n : Numbers) (r : ModifyResponse) → IsValid n → IsEncodableResponse r
    → (first_fault n message.ModifyResponse (response_bytes n r) ≡ None) × (modify_response n (response_bytes n r) ≡ r)
unfolding first_fault modify_response repeated_at message_at response_parts
modify_response_again n r valid h =
    let parts = response_parts n r in
    let a = result_number n in
    let b = params_number n in
    let c = election_number n in
    let all = map (result_bytes n) r.results in
    let second = option_map (status_bytes n) r.params in
    let third = option_map (uint128_bytes n) r.election in
    let every : All (IsKnown n) parts = all_known n r valid h in
    let legal : All IsLegal parts = All-weaker (IsKnown n) IsLegal (λ p k. k.0) parts every in
    let good : All (IsGood (deeper_than 6 n) (kind_of n message.ModifyResponse)) parts = All-weaker (IsKnown n) (IsGood (deeper_than 6 n) (kind_of n message.ModifyResponse)) (λ p k. k.1) parts every in
    let is = response_spelled n r in
    let cut = cut_of 0 parts (response_bytes n r) is legal in
    let distinct : are_distinct (a ∷ b ∷ c ∷ []) ≡ true = distinct_at n valid 4 (omega arith) in
    let ba : eqb b a ≡ false = apart (a ∷ b ∷ c ∷ []) 0 1 0 distinct (omega arith) (omega arith) in
    let ca : eqb c a ≡ false = apart (a ∷ b ∷ c ∷ []) 0 2 0 distinct (omega arith) (omega arith) in
    let cb : eqb c b ≡ false = apart (a ∷ b ∷ c ∷ []) 1 2 0 distinct (omega arith) (omega arith) in
    let one : pieces a (fields (response_bytes n r)).fields ≡ all = ap (λ (x : ParsedFields). pieces a x.fields) cut ∙ pieces-field_spans a 0 parts ∙ first_scanned a b c all second third ba ca in
    let two : merged_onto None (pieces b (fields (response_bytes n r)).fields) ≡ second =
    ap (λ (x : ParsedFields). merged_onto None (pieces b x.fields)) cut ∙ ap (merged_onto None) (pieces-field_spans b 0 parts) ∙ second_scanned a b c all second third (turned b a ba) cb in
    let last : merged_onto None (pieces c (fields (response_bytes n r)).fields) ≡ third =
    ap (λ (x : ParsedFields). merged_onto None (pieces c x.fields)) cut ∙ ap (merged_onto None) (pieces-field_spans c 0 parts) ∙ third_scanned a b c all second third (turned c a ca) (turned c b cb) in (
      no_fault 6 n message.ModifyResponse 0 parts (response_bytes n r) is legal good,
      rw (one, two, last, results_again n valid r.results h.results, params_again n valid r.params h.params, election_again n valid r.election h.election) refl,
    )
