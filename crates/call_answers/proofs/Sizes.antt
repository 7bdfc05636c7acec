-- No answer is long.
use Rattle.std.proofs.Common.{◌≡◌, ℕ, zero, suc, ◌+◌, ◌*◌, ◌/◌, ◌%◌, ◌^◌, ◌≤◌, Bool, true, false, cond, ltb, eqb, List, [], ◌∷◌, ◌++◌, length, Option, Some, None, arith}
use Rattle.std.specs.List.{flat_map}
use Rattle.std.specs.Int.{w64, cast_unsigned}
use Rattle.std.specs.Option.{option_map_or}
use Rattle.std.proofs.lemmas.List.{length-append}
use Rattle.std.proofs.lemmas.List.Concat.{flat_map-cons}
use Rattle.proto_wire.specs.Written.{varint_upto, varint, uint_field, bytes_field}
use Rattle.schema_numbers.specs.Numbers.{Numbers, field_of}
use Rattle.schema_numbers.specs.declared.names.FieldName.TheVariants as field
use Rattle.gribi_messages.specs.declared.response.AftResult.{AftResult}
use Rattle.gribi_messages.specs.declared.response.ModifyResponse.{ModifyResponse}
use Rattle.aft_messages.specs.Writing.{nonzero_uint_field}
use Rattle.gribi_messages.specs.Response.{result_bytes, uint128_bytes, result_field, params_field, election_field, response_bytes}
use Rattle.call_answers.specs.Answers.{MAX_MESSAGE_SIZE}

bytes_upto : (b : Bool) (k n m : ℕ) (xs : List ℕ) → length xs ≤ k + 1 → length (cond b (n ∷ []) (m ∷ xs)) ≤ suc k + 1
bytes_upto true k n m xs le = omega arith
bytes_upto false k n m xs le = omega arith

varint_upto-len : (k n : ℕ) → length (varint_upto k n) ≤ k + 1
unfolding varint_upto
varint_upto-len zero n = omega arith
varint_upto-len (suc k) n = bytes_upto (ltb n 128) k n ((n % 128) + 128) (varint_upto k (n / 128)) (varint_upto-len k (n / 128))

varint-len : (n : ℕ) → length (varint n) ≤ 10
varint-len n = varint_upto-len 9 n

unless_zero-len : (b : Bool) (xs : List ℕ) → length xs ≤ 20 → length (cond b [] xs) ≤ 20
unless_zero-len true xs le = omega arith
unless_zero-len false xs le = le

nonzero_uint_field-len : (number value : ℕ) → length (nonzero_uint_field number value) ≤ 20
unfolding nonzero_uint_field
nonzero_uint_field-len number value =
    unless_zero-len (eqb value 0) (uint_field number value) (omega (arith, length-append (varint (number * 8)) (varint value), varint-len (number * 8), varint-len value))

bytes_field-len : (number : ℕ) (bytes : List ℕ) → length (bytes_field number bytes) ≤ 20 + length bytes
bytes_field-len number bytes =
    let head = varint (number * 8 + 2) in
    let size = varint (length bytes) in
    omega (arith, length-append (head ++ size) bytes, length-append head size, varint-len (number * 8 + 2), varint-len (length bytes))

result_bytes-len : (n : Numbers) (r : AftResult) → length (result_bytes n r) ≤ 80
unfolding result_bytes
result_bytes-len n r =
    let a = nonzero_uint_field (field_of n field.AftResultId) r.id in
    let b = nonzero_uint_field (field_of n field.AftResultStatus) r.status in
    let c = nonzero_uint_field (field_of n field.AftResultTimestamp) (cast_unsigned w64 r.timestamp) in
    let d = nonzero_uint_field (field_of n field.AftResultReason) r.reason in
    omega (
      arith,
      length-append ((a ++ b) ++ c) d,
      length-append (a ++ b) c,
      length-append a b,
      nonzero_uint_field-len (field_of n field.AftResultId) r.id,
      nonzero_uint_field-len (field_of n field.AftResultStatus) r.status,
      nonzero_uint_field-len (field_of n field.AftResultTimestamp) (cast_unsigned w64 r.timestamp),
      nonzero_uint_field-len (field_of n field.AftResultReason) r.reason,
    )

result_field-len : (n : Numbers) (r : AftResult) → length (result_field n r) ≤ 100
unfolding result_field
result_field-len n r = omega (arith, bytes_field-len (field_of n field.ModifyResponseResult) (result_bytes n r), result_bytes-len n r)

params_field-len : (n : Numbers) (status : ℕ) → length (params_field n status) ≤ 40
unfolding params_field
params_field-len n status =
    let inner = nonzero_uint_field (field_of n field.SessionParametersResultStatus) status in
    omega (arith, bytes_field-len (field_of n field.ModifyResponseSessionParamsResult) inner, nonzero_uint_field-len (field_of n field.SessionParametersResultStatus) status)

uint128_bytes-len : (n : Numbers) (value : ℕ) → length (uint128_bytes n value) ≤ 40
unfolding uint128_bytes
uint128_bytes-len n value =
    let high = nonzero_uint_field (field_of n field.Uint128High) (value / 2 ^ 64) in
    let low = nonzero_uint_field (field_of n field.Uint128Low) (value % 2 ^ 64) in
    omega (arith, length-append high low, nonzero_uint_field-len (field_of n field.Uint128High) (value / 2 ^ 64), nonzero_uint_field-len (field_of n field.Uint128Low) (value % 2 ^ 64))

election_field-len : (n : Numbers) (id : ℕ) → length (election_field n id) ≤ 60
unfolding election_field
election_field-len n id = omega (arith, bytes_field-len (field_of n field.ModifyResponseElectionId) (uint128_bytes n id), uint128_bytes-len n id)

params-len : (n : Numbers) (params : Option ℕ) → length (option_map_or (params_field n) params []) ≤ 40
params-len n None = omega arith
params-len n (Some status) = params_field-len n status

election-len : (n : Numbers) (id : Option ℕ) → length (option_map_or (election_field n) id []) ≤ 60
election-len n None = omega arith
election-len n (Some id) = election_field-len n id

results-len : (n : Numbers) (rs : List AftResult) → length (flat_map (result_field n) rs) ≤ length rs * 100
results-len n [] = omega arith
results-len n (r ∷ rs) =
    rw (flat_map-cons (result_field n) r rs) (omega (arith, length-append (result_field n r) (flat_map (result_field n) rs), result_field-len n r, results-len n rs))

response-short : (n : Numbers) (r : ModifyResponse) → length r.results ≤ 256 → length (response_bytes n r) ≤ MAX_MESSAGE_SIZE
unfolding response_bytes
response-short n r few =
    let results = flat_map (result_field n) r.results in
    let params = option_map_or (params_field n) r.params [] in
    let election = option_map_or (election_field n) r.election [] in
    omega (arith, length-append (results ++ params) election, length-append results params, results-len n r.results, few, params-len n r.params, election-len n r.election)

pub short : (n : Numbers) (r : ModifyResponse) (before after : List ℕ) → length r.results ≤ 256 → after ≡ before ++ response_bytes n r → length after ≤ length before + MAX_MESSAGE_SIZE
short n r before after few e = rw e (omega (arith, length-append before (response_bytes n r), response-short n r few))
