use Rattle.proto_wire.proofs.Writing.{IsWrittenSoFar}
use Rattle.std.proofs.Common.{◌-◌}
use Rattle.proto_wire.proofs.writer.write_long_varint.Given as goal

abbrev pub invariant-loop-rest : goal.invariant-loop-rest
invariant-loop-rest l = IsWrittenSoFar l.value l.bytes l.count l.rest

abbrev pub decreases-loop-rest : goal.decreases-loop-rest
decreases-loop-rest l = 9 - l.count
