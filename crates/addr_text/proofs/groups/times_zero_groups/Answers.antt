use Rattle.std.proofs.Common.{arith}
use Rattle.addr_text.proofs.Grouping.{below_next, raise_step, raise_end}
use Rattle.addr_text.proofs.groups.times_zero_groups.Goals as goal

pub overflow_mul-number : goal.overflow_mul-number
overflow_mul-number c = omega (arith, below_next c.zeros.number c.zeros.place c.zeros.invariant.1 c.zeros-test.true)

pub zeros-preserved : goal.zeros-preserved
zeros-preserved c = raise_step c.zeros.number c.zeros.place _ c.zeros.invariant.0 c.zeros.invariant.1 c.zeros-test.true

pub returns : goal.returns
returns c = raise_end c.zeros.number c.zeros.place _ c.zeros.invariant.0 c.zeros-test.false
