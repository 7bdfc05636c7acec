use Rattle.std.proofs.Common.{◌-◌}
use Rattle.aft_messages.proofs.VarintSize.{IsSizeSoFar}
use Rattle.aft_messages.proofs.sizes.varint_size.Given as goal

abbrev pub invariant-loop-rest : goal.invariant-loop-rest
invariant-loop-rest l = IsSizeSoFar l.value l.size l.rest

abbrev pub decreases-loop-rest : goal.decreases-loop-rest
decreases-loop-rest l = 10 - l.size
