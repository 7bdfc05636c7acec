use Rattle.std.proofs.Common.{◌≡◌, length}
use Rattle.proto_wire.specs.Fields.{fields_from}
use Rattle.proto_schema.specs.FieldValues.{pieces}
use Rattle.gribi_messages.proofs.pieces.OperationReader.next.Given as goal

abbrev pub invariant-loop-field : goal.invariant-loop-field
invariant-loop-field l = pieces l.self-inside.wanted (fields_from l.self-inside.reader.0 l.self-inside.reader.1).fields ≡ l.fn.self

abbrev pub decreases-loop-field : goal.decreases-loop-field
decreases-loop-field l = length l.self-inside.reader.1
