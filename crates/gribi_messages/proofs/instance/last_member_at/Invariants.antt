use Rattle.std.proofs.Common.{◌≡◌, None, length}
use Rattle.std.specs.List.{last_or}
use Rattle.std.specs.Option.{option_map}
use Rattle.proto_schema.specs.FieldValues.{members}
use Rattle.proto_wire.specs.Fields.{fields, fields_from}
use Rattle.gribi_messages.proofs.instance.last_member_at.Given as goal

abbrev pub invariant-loop-field : goal.invariant-loop-field
invariant-loop-field l = last_or (option_map (λ m. (m.0, m.1.now)) l.last) (members l.among (fields_from l.reader.0 l.reader.1).fields) ≡ last_or None (members l.among (fields l.bytes).fields)

abbrev pub decreases-loop-field : goal.decreases-loop-field
decreases-loop-field l = length l.reader.1
