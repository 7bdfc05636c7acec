use Rattle.std.proofs.Common.{ℕ, ◌+◌, Some, sym, ap, ◌∙◌, true, false, arith}
use Rattle.addr_text.specs.AddressGrammar as spec
use Rattle.addr_text.proofs.Grouping.{gapped_over, gapped_few, sum_fits}
use Rattle.addr_text.proofs.groups.compressed.Goals as goal

pub returns-then-count-others-ge8 : goal.returns-then-count-others-ge8
returns-then-count-others-ge8 c =
    sym (gapped_over (spec.side false c.args.front.now) (spec.side true c.args.back.now) c.in_ok-count.count c.in_ok-count.bits c.in_ok-others.others c.in_ok-others.low c.in_ok-count.ensures.value c.in_ok-others.ensures.value c.if-count-others-ge8.true)

pub overflow_add-result : goal.overflow_add-result
overflow_add-result c =
    omega (arith, c.times_zero_groups.ensures, sum_fits c.in_ok-count.bits c.in_ok-others.low c.in_ok-count.count c.in_ok-others.others c.in_ok-count.ensures.small.1 c.in_ok-others.ensures.small.1 c.if-count-others-ge8.false)

pub returns : goal.returns
returns c =
    ap (λ (n : ℕ). Some (n + c.in_ok-others.low)) c.times_zero_groups.ensures
    ∙ sym (gapped_few (spec.side false c.args.front.now) (spec.side true c.args.back.now) c.in_ok-count.count c.in_ok-count.bits c.in_ok-others.others c.in_ok-others.low c.in_ok-count.ensures.value c.in_ok-others.ensures.value c.if-count-others-ge8.false)
