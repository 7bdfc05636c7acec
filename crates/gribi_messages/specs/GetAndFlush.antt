-- What the messages of a Get and a Flush say, and how they are spelled (Protocol Buffers encoding).
use Rattle.std.specs.Prelude.{ℕ, List, [], ◌∷◌, ◌++◌, Option, None, ◌==◌, if◌then◌else◌}
use Rattle.std.specs.List.{last_or}
use Rattle.std.specs.Option.{option_map, option_map_or}
use Rattle.std.specs.Int.{w64, cast_signed, cast_unsigned}
use Rattle.proto_wire.specs.Fields.{fields}
use Rattle.proto_wire.specs.Written.{bytes_field}
use Rattle.schema_numbers.specs.Numbers.{Numbers, field_of}
use Rattle.schema_numbers.specs.declared.names.FieldName.TheVariants as field
use Rattle.proto_schema.specs.FieldValues.{members, number_at, oneof_at}
use Rattle.gribi_messages.specs.declared.asks.InstanceAsk.{InstanceAsk}
use Rattle.gribi_messages.specs.declared.asks.InstanceAsk.TheVariants.{All, Named}
use Rattle.gribi_messages.specs.declared.asks.FlushAsk.{FlushAsk}
use Rattle.gribi_messages.specs.declared.asks.FlushAsk.TheVariants.{Id, Override}
use Rattle.gribi_messages.specs.declared.asks.GetRequest.{GetRequest}
use Rattle.gribi_messages.specs.declared.asks.FlushRequest.{FlushRequest}
use Rattle.gribi_messages.specs.declared.asks.FlushResponse.{FlushResponse}
use Rattle.gribi_messages.specs.Request.{uint128_of}
use Rattle.aft_messages.specs.Writing.{nonzero_uint_field}
use Rattle.gribi_messages.specs.Response.{uint128_bytes}

-- ---- the instances that are asked for

-- The last member of a oneof, and its last occurrence. A text has no other.
unfoldable pub last_member_at : List ℕ → List ℕ → Option (ℕ × List ℕ)
last_member_at among bytes = last_or None (members among (fields bytes).fields)

-- one instance by its name, or all of them by an empty message
abbrev pub instance_ask : ℕ → (ℕ × List ℕ) → InstanceAsk
instance_ask name member = if member.0 == name then Named member.1 else All

-- a member of a oneof is written also where it is empty
abbrev pub instance_field : ℕ → ℕ → InstanceAsk → List ℕ
instance_field name all All = bytes_field all []
instance_field name all (Named text) = bytes_field name text

-- ---- a GetRequest

abbrev pub get_members : Numbers → List ℕ
get_members n = field_of n field.GetRequestName ∷ field_of n field.GetRequestAll ∷ []

unfoldable pub get_request : Numbers → List ℕ → GetRequest
get_request n bytes = record {
  instance = option_map (instance_ask (field_of n field.GetRequestName)) (last_member_at (get_members n) bytes);
  aft = number_at (field_of n field.GetRequestAft) bytes;
}

unfoldable pub get_bytes : Numbers → GetRequest → List ℕ
get_bytes n r =
    option_map_or (instance_field (field_of n field.GetRequestName) (field_of n field.GetRequestAll)) r.instance []
    ++ nonzero_uint_field (field_of n field.GetRequestAft) r.aft

-- ---- a FlushRequest

abbrev pub flush_election_members : Numbers → List ℕ
flush_election_members n = field_of n field.FlushRequestId ∷ field_of n field.FlushRequestOverride ∷ []

abbrev pub flush_instance_members : Numbers → List ℕ
flush_instance_members n = field_of n field.FlushRequestName ∷ field_of n field.FlushRequestAll ∷ []

-- under an election id, or whatever the election says
abbrev pub flush_ask : Numbers → (ℕ × List ℕ) → FlushAsk
flush_ask n member = if member.0 == field_of n field.FlushRequestId then Id (uint128_of n member.1) else Override

unfoldable pub flush_request : Numbers → List ℕ → FlushRequest
flush_request n bytes = record {
  election = option_map (flush_ask n) (oneof_at (flush_election_members n) bytes);
  instance = option_map (instance_ask (field_of n field.FlushRequestName)) (last_member_at (flush_instance_members n) bytes);
}

abbrev pub flush_ask_field : Numbers → FlushAsk → List ℕ
flush_ask_field n (Id id) = bytes_field (field_of n field.FlushRequestId) (uint128_bytes n id)
flush_ask_field n Override = bytes_field (field_of n field.FlushRequestOverride) []

unfoldable pub flush_bytes : Numbers → FlushRequest → List ℕ
flush_bytes n r =
    option_map_or (flush_ask_field n) r.election []
    ++ option_map_or (instance_field (field_of n field.FlushRequestName) (field_of n field.FlushRequestAll)) r.instance []

-- ---- a FlushResponse

-- the moment is a number in two's complement
unfoldable pub flush_response : Numbers → List ℕ → FlushResponse
flush_response n bytes = record {
  timestamp = cast_signed w64 (number_at (field_of n field.FlushResponseTimestamp) bytes);
  result = number_at (field_of n field.FlushResponseResult) bytes;
}

unfoldable pub flush_response_bytes : Numbers → FlushResponse → List ℕ
flush_response_bytes n r =
    nonzero_uint_field (field_of n field.FlushResponseTimestamp) (cast_unsigned w64 r.timestamp)
    ++ nonzero_uint_field (field_of n field.FlushResponseResult) r.result
