use Rattle.std.proofs.Common.{◌+◌, arith}
use Rattle.addr_text.proofs.Grouping.{next_small, power_fits}
use Rattle.addr_text.proofs.groups.with_group.Goals as goal

pub overflow_mul-result : goal.overflow_mul-result
overflow_mul-result c =
    omega (arith, next_small c.args.bits c.args.count 0 c.requires.1 (omega arith), power_fits (c.args.count + 1) (omega (arith, c.requires.0)))

pub overflow_add-result-2 : goal.overflow_add-result-2
overflow_add-result-2 c =
    omega (arith, next_small c.args.bits c.args.count c.in_ok-group.group c.requires.1 c.in_ok-group.ensures.small, power_fits (c.args.count + 1) (omega (arith, c.requires.0)))

pub returns-clause-small : goal.returns-clause-small
returns-clause-small c = (omega (arith, c.requires.0), next_small c.args.bits c.args.count c.in_ok-group.group c.requires.1 c.in_ok-group.ensures.small)
