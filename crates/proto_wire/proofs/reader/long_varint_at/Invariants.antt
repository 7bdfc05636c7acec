use Rattle.proto_wire.proofs.Varint.{IsVarintSoFar}
use Rattle.proto_wire.proofs.reader.long_varint_at.Given as goal

abbrev pub invariant-loop-i : goal.invariant-loop-i
invariant-loop-i l = IsVarintSoFar l.bytes l.value l.scale l.i
