use Rattle.std.proofs.Common.{length}
use Rattle.proto_wire.specs.Fields.{fields, fields_from}
use Rattle.gribi_messages.proofs.TwoNumbers.{AreScannedSoFar}
use Rattle.gribi_messages.proofs.scanned.numbers_at.Given as goal

abbrev pub invariant-loop-field : goal.invariant-loop-field
invariant-loop-field l = AreScannedSoFar l.one l.other l.first l.second (fields_from l.reader.0 l.reader.1).fields (fields l.bytes).fields

abbrev pub decreases-loop-field : goal.decreases-loop-field
decreases-loop-field l = length l.reader.1
