use Rattle.std.proofs.Common.{◌≡◌, None, length}
use Rattle.proto_schema.specs.FieldValues.{members, oneof_after}
use Rattle.proto_schema.specs.OneofMember.{oneof_member_view}
use Rattle.std.specs.Option.{option_map}
use Rattle.proto_wire.specs.Fields.{fields, fields_from}
use Rattle.proto_schema.proofs.field_values.oneof_at.Given as goal

abbrev pub invariant-loop-field : goal.invariant-loop-field
invariant-loop-field l = oneof_after (option_map oneof_member_view l.found) (members l.among (fields_from l.reader.0 l.reader.1).fields) ≡ oneof_after None (members l.among (fields l.bytes).fields)

abbrev pub decreases-loop-field : goal.decreases-loop-field
decreases-loop-field l = length l.reader.1
