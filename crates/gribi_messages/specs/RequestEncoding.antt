-- The one spelling of a ModifyRequest: the fields in the order of their table, no number that is 0 and no text that is empty,
-- each embedded message that is set (gRIBI, Protocol Buffers encoding).
use Rattle.std.specs.Prelude.{ℕ, List, [], ◌++◌, Option}
use Rattle.std.specs.List.{flat_map}
use Rattle.std.specs.Option.{option_map_or}
use Rattle.proto_wire.specs.Written.{bytes_field}
use Rattle.schema_numbers.specs.Numbers.{Numbers, field_of, value_of}
use Rattle.schema_numbers.specs.declared.names.FieldName.TheVariants as field
use Rattle.schema_numbers.specs.declared.names.ValueName.TheVariants as value
use Rattle.aft_entries.specs.declared.operation.Op.{Op}
use Rattle.aft_entries.specs.declared.operation.Op.TheVariants.{Add, Replace, Delete}
use Rattle.aft_entries.specs.declared.operation.RawEntry.{RawEntry}
use Rattle.aft_entries.specs.declared.operation.RawEntry.TheVariants as entry
use Rattle.aft_entries.specs.declared.operation.RawOperation.{RawOperation}
use Rattle.aft_messages.specs.Writing.{nonzero_uint_field, nonempty_field, raw_bytes}
use Rattle.gribi_messages.specs.Response.{uint128_bytes}
use Rattle.gribi_messages.specs.declared.request.RawParams.{RawParams}
use Rattle.gribi_messages.specs.declared.request.ModifyRequest.{ModifyRequest}

abbrev pub number_of_op : Numbers → Op → ℕ
number_of_op n Add = value_of n value.OpAdd
number_of_op n Replace = value_of n value.OpReplace
number_of_op n Delete = value_of n value.OpDelete

-- An operation that is not in the table has no number to write.
abbrev pub op_number : Numbers → Option Op → ℕ
op_number n op = option_map_or (number_of_op n) op 0

-- the member of the oneof that an entry is
abbrev pub member_number : Numbers → RawEntry → ℕ
member_number n (entry.Hop index hop) = field_of n field.AftOperationNextHop
member_number n (entry.Group id group) = field_of n field.AftOperationNextHopGroup
member_number n (entry.V4 prefix route) = field_of n field.AftOperationIpv4
member_number n (entry.V6 prefix route) = field_of n field.AftOperationIpv6
member_number n (entry.Label label route) = field_of n field.AftOperationMpls
member_number n entry.Mac = field_of n field.AftOperationMacAddress
member_number n entry.Policy = field_of n field.AftOperationPolicyForwardingEntry

unfoldable pub entry_field : Numbers → RawEntry → List ℕ
entry_field n e = bytes_field (member_number n e) (raw_bytes n e)

-- an election id in an embedded message of this number
abbrev pub id_field : Numbers → ℕ → ℕ → List ℕ
id_field n number id = bytes_field number (uint128_bytes n id)

unfoldable pub operation_bytes : Numbers → RawOperation → List ℕ
operation_bytes n o =
    nonzero_uint_field (field_of n field.AftOperationId) o.id
    ++ nonempty_field (field_of n field.AftOperationNetworkInstance) o.instance
    ++ nonzero_uint_field (field_of n field.AftOperationOp) (op_number n o.op)
    ++ option_map_or (entry_field n) o.entry []
    ++ option_map_or (id_field n (field_of n field.AftOperationElectionId)) o.election []

unfoldable pub operation_field : Numbers → RawOperation → List ℕ
operation_field n o = bytes_field (field_of n field.ModifyRequestOperation) (operation_bytes n o)

unfoldable pub params_bytes : Numbers → RawParams → List ℕ
params_bytes n p =
    nonzero_uint_field (field_of n field.SessionParametersRedundancy) p.redundancy
    ++ nonzero_uint_field (field_of n field.SessionParametersPersistence) p.persistence
    ++ nonzero_uint_field (field_of n field.SessionParametersAckType) p.ack

unfoldable pub request_params_field : Numbers → RawParams → List ℕ
request_params_field n p = bytes_field (field_of n field.ModifyRequestParams) (params_bytes n p)

unfoldable pub request_bytes : Numbers → ModifyRequest → List ℕ
request_bytes n r =
    flat_map (operation_field n) r.operations
    ++ option_map_or (request_params_field n) r.params []
    ++ option_map_or (id_field n (field_of n field.ModifyRequestElectionId)) r.election []
