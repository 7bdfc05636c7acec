use Rattle.std.proofs.Common.{◌≡◌, None, length}
use Rattle.std.specs.List.{last_or}
use Rattle.proto_schema.specs.FieldValues.{numbers}
use Rattle.proto_wire.specs.Fields.{fields, fields_from}
use Rattle.proto_schema.proofs.field_values.last_number_at.Given as goal

abbrev pub invariant-loop-field : goal.invariant-loop-field
invariant-loop-field l = last_or l.last (numbers l.wanted (fields_from l.reader.0 l.reader.1).fields) ≡ last_or None (numbers l.wanted (fields l.bytes).fields)

abbrev pub decreases-loop-field : goal.decreases-loop-field
decreases-loop-field l = length l.reader.1
