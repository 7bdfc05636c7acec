use Rattle.std.proofs.Common.{length}
use Rattle.proto_wire.specs.Fields.{fields, fields_from}
use Rattle.aft_messages.proofs.IndexAlone.{IsIndexOnlySoFar}
use Rattle.aft_messages.proofs.index_only.index_only_hop_index.Given as goal

abbrev pub invariant-loop-field : goal.invariant-loop-field
invariant-loop-field l = IsIndexOnlySoFar l.index_number l.payload_number l.index (fields_from l.reader.0 l.reader.1).fields (fields l.bytes).fields

abbrev pub decreases-loop-field : goal.decreases-loop-field
decreases-loop-field l = length l.reader.1
