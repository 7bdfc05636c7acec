use Rattle.std.proofs.Common.{◌≡◌, None, length}
use Rattle.proto_schema.specs.FieldValues.{pieces, merged_onto}
use Rattle.proto_wire.specs.Fields.{fields, fields_from}
use Rattle.proto_schema.proofs.field_values.message_in.Given as goal

abbrev pub invariant-loop-field : goal.invariant-loop-field
invariant-loop-field l = merged_onto (l.all) (pieces l.wanted (fields_from l.reader.0 l.reader.1).fields) ≡ merged_onto None (pieces l.wanted (fields l.bytes).fields)

abbrev pub decreases-loop-field : goal.decreases-loop-field
decreases-loop-field l = length l.reader.1
