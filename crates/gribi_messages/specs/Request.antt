-- What the bytes of a ModifyRequest say (gRIBI, Protocol Buffers encoding).
use Rattle.std.specs.Prelude.{ℕ, ◌+◌, ◌*◌, ◌^◌, List, [], ◌∷◌, map, Option, Some, None, ◌==◌, if◌then◌else◌}
use Rattle.std.specs.Option.{option_map}
use Rattle.schema_numbers.specs.Numbers.{Numbers, field_of, value_of}
use Rattle.schema_numbers.specs.declared.names.FieldName.TheVariants as field
use Rattle.schema_numbers.specs.declared.names.ValueName.TheVariants as value
use Rattle.proto_schema.specs.FieldValues.{number_at, message_at, repeated_at, oneof_at}
use Rattle.aft_entries.specs.declared.key.Kind.TheVariants as kind
use Rattle.aft_entries.specs.declared.operation.Op.{Op}
use Rattle.aft_entries.specs.declared.operation.Op.TheVariants.{Add, Replace, Delete}
use Rattle.aft_entries.specs.declared.operation.RawEntry.{RawEntry}
use Rattle.aft_entries.specs.declared.operation.RawEntry.TheVariants.{Mac, Policy}
use Rattle.aft_entries.specs.declared.operation.RawOperation.{RawOperation}
use Rattle.aft_messages.specs.Reading.{name_at, entry_of}
use Rattle.gribi_messages.specs.declared.request.RawParams.{RawParams}
use Rattle.gribi_messages.specs.declared.request.ModifyRequest.{ModifyRequest}

abbrev pub params_of : Numbers → List ℕ → RawParams
params_of n bytes = record {
  redundancy = number_at (field_of n field.SessionParametersRedundancy) bytes;
  persistence = number_at (field_of n field.SessionParametersPersistence) bytes;
  ack = number_at (field_of n field.SessionParametersAckType) bytes;
}

abbrev pub uint128_of : Numbers → List ℕ → ℕ
uint128_of n bytes = number_at (field_of n field.Uint128High) bytes * 2 ^ 64 + number_at (field_of n field.Uint128Low) bytes

-- the operation of a number, where it is in the table
abbrev pub op_of : Numbers → ℕ → Option Op
op_of n number =
    if number == value_of n value.OpAdd then Some Add else
    if number == value_of n value.OpReplace then Some Replace else
    if number == value_of n value.OpDelete then Some Delete else
    None

-- the members of the oneof that an operation's entry is
abbrev pub entry_members : Numbers → List ℕ
entry_members n =
    field_of n field.AftOperationIpv4 ∷
    field_of n field.AftOperationIpv6 ∷
    field_of n field.AftOperationMpls ∷
    field_of n field.AftOperationNextHopGroup ∷
    field_of n field.AftOperationNextHop ∷
    field_of n field.AftOperationMacAddress ∷
    field_of n field.AftOperationPolicyForwardingEntry ∷
    []

-- Of the last two the bytes are not read.
abbrev pub unread_member : Numbers → ℕ → RawEntry
unread_member n number = if number == field_of n field.AftOperationMacAddress then Mac else Policy

-- What a member of that oneof says.
abbrev pub member_entry : Numbers → (ℕ × List ℕ) → RawEntry
member_entry n member =
    if member.0 == field_of n field.AftOperationIpv4 then entry_of n kind.V4 member.1 else
    if member.0 == field_of n field.AftOperationIpv6 then entry_of n kind.V6 member.1 else
    if member.0 == field_of n field.AftOperationMpls then entry_of n kind.Label member.1 else
    if member.0 == field_of n field.AftOperationNextHopGroup then entry_of n kind.Group member.1 else
    if member.0 == field_of n field.AftOperationNextHop then entry_of n kind.Hop member.1 else
    unread_member n member.0

unfoldable pub operation_of : Numbers → List ℕ → RawOperation
operation_of n bytes = record {
  id = number_at (field_of n field.AftOperationId) bytes;
  instance = name_at (field_of n field.AftOperationNetworkInstance) bytes;
  op = op_of n (number_at (field_of n field.AftOperationOp) bytes);
  entry = option_map (member_entry n) (oneof_at (entry_members n) bytes);
  election = option_map (uint128_of n) (message_at (field_of n field.AftOperationElectionId) bytes);
}

abbrev pub operations_of : Numbers → List ℕ → List RawOperation
operations_of n bytes = map (operation_of n) (repeated_at (field_of n field.ModifyRequestOperation) bytes)

abbrev pub parameters_of : Numbers → List ℕ → Option RawParams
parameters_of n bytes = option_map (params_of n) (message_at (field_of n field.ModifyRequestParams) bytes)

unfoldable pub modify_request : Numbers → List ℕ → ModifyRequest
modify_request n bytes = record {
  operations = operations_of n bytes;
  params = parameters_of n bytes;
  election = option_map (uint128_of n) (message_at (field_of n field.ModifyRequestElectionId) bytes);
}
