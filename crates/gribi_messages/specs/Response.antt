-- What the bytes of a ModifyResponse say, and its one spelling: the fields in the order of their table, no number that is 0,
-- each embedded message that is set (Protocol Buffers encoding).
use Rattle.std.specs.Prelude.{ℕ, ◌/◌, ◌%◌, ◌^◌, List, [], ◌++◌, map, Option}
use Rattle.std.specs.List.{flat_map}
use Rattle.std.specs.Option.{option_map, option_map_or}
use Rattle.std.specs.Int.{w64, cast_signed, cast_unsigned}
use Rattle.proto_wire.specs.Written.{bytes_field}
use Rattle.aft_messages.specs.Writing.{nonzero_uint_field}
use Rattle.schema_numbers.specs.Numbers.{Numbers, field_of}
use Rattle.schema_numbers.specs.declared.names.FieldName.TheVariants as field
use Rattle.proto_schema.specs.FieldValues.{number_at, message_at, repeated_at}
use Rattle.gribi_messages.specs.Request.{uint128_of}
use Rattle.gribi_messages.specs.declared.response.AftResult.{AftResult}
use Rattle.gribi_messages.specs.declared.response.ModifyResponse.{ModifyResponse}

-- the moment is written as its u64 in two's complement
unfoldable pub result_bytes : Numbers → AftResult → List ℕ
result_bytes n r =
    nonzero_uint_field (field_of n field.AftResultId) r.id
    ++ nonzero_uint_field (field_of n field.AftResultStatus) r.status
    ++ nonzero_uint_field (field_of n field.AftResultTimestamp) (cast_unsigned w64 r.timestamp)
    ++ nonzero_uint_field (field_of n field.AftResultReason) r.reason

unfoldable pub uint128_bytes : Numbers → ℕ → List ℕ
uint128_bytes n value =
    nonzero_uint_field (field_of n field.Uint128High) (value / 2 ^ 64) ++ nonzero_uint_field (field_of n field.Uint128Low) (value % 2 ^ 64)

unfoldable pub result_field : Numbers → AftResult → List ℕ
result_field n r = bytes_field (field_of n field.ModifyResponseResult) (result_bytes n r)

unfoldable pub params_field : Numbers → ℕ → List ℕ
params_field n status =
    bytes_field (field_of n field.ModifyResponseSessionParamsResult) (nonzero_uint_field (field_of n field.SessionParametersResultStatus) status)

unfoldable pub election_field : Numbers → ℕ → List ℕ
election_field n id = bytes_field (field_of n field.ModifyResponseElectionId) (uint128_bytes n id)

unfoldable pub response_bytes : Numbers → ModifyResponse → List ℕ
response_bytes n r =
    flat_map (result_field n) r.results
    ++ option_map_or (params_field n) r.params []
    ++ option_map_or (election_field n) r.election []

-- ---- reading

unfoldable pub result_of : Numbers → List ℕ → AftResult
result_of n bytes = record {
  id = number_at (field_of n field.AftResultId) bytes;
  status = number_at (field_of n field.AftResultStatus) bytes;
  timestamp = cast_signed w64 (number_at (field_of n field.AftResultTimestamp) bytes);
  reason = number_at (field_of n field.AftResultReason) bytes;
}

abbrev pub results_of : Numbers → List ℕ → List AftResult
results_of n bytes = map (result_of n) (repeated_at (field_of n field.ModifyResponseResult) bytes)

abbrev pub status_of : Numbers → List ℕ → ℕ
status_of n bytes = number_at (field_of n field.SessionParametersResultStatus) bytes

abbrev pub statuses_of : Numbers → List ℕ → Option ℕ
statuses_of n bytes = option_map (status_of n) (message_at (field_of n field.ModifyResponseSessionParamsResult) bytes)

unfoldable pub modify_response : Numbers → List ℕ → ModifyResponse
modify_response n bytes = record {
  results = results_of n bytes;
  params = statuses_of n bytes;
  election = option_map (uint128_of n) (message_at (field_of n field.ModifyResponseElectionId) bytes);
}
