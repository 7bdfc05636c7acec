-- What is heard of a message in one pass over its fields.
use Rattle.std.specs.Prelude.{ℕ, List, [], ◌++◌, Option, Some, None, unwrap_or}
use Rattle.std.specs.Option.{option_map, option_copied}
use Rattle.schema_numbers.specs.Numbers.{Numbers}
use Rattle.proto_schema.specs.OneofMember.{oneof_member_view}
use Rattle.proto_schema.specs.FieldValues.{with_occurrence}
use Rattle.aft_entries.specs.declared.operation.RawOperation.{RawOperation}
use Rattle.aft_messages.specs.Reading.{text_of}
use Rattle.gribi_messages.specs.declared.scanned.ScannedFields.{ScannedFields}
use Rattle.gribi_messages.specs.Request.{op_of, member_entry, uint128_of}

-- one more occurrence of an embedded message
abbrev pub merged_with : Option (List ℕ) → Option (List ℕ) → Option (List ℕ)
merged_with before None = before
merged_with before (Some piece) = Some (unwrap_or before [] ++ piece)

-- one more member of a oneof
abbrev pub oneof_with : Option (ℕ × List ℕ) → Option (ℕ × List ℕ) → Option (ℕ × List ℕ)
oneof_with before None = before
oneof_with before (Some member) = Some (with_occurrence before member)

-- what was heard of an operation, put together
abbrev pub operation_of_scanned : Numbers → ScannedFields → RawOperation
operation_of_scanned n scanned = record {
  id = unwrap_or scanned.id 0;
  instance = text_of (unwrap_or (option_copied scanned.instance) []);
  op = op_of n (unwrap_or scanned.op 0);
  entry = option_map (member_entry n) (option_map oneof_member_view scanned.entry);
  election = option_map (uint128_of n) scanned.election;
}
