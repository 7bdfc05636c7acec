use Rattle.std.proofs.Common.{◌≤◌, length, sym, ◌∙◌, arith}
use Rattle.table_model.specs.Table.{stays}
use Rattle.flush_get.proofs.Settling.{one_more, settled_on}
use Rattle.flush_get.proofs.flush.mark_reached.Goals as goal

pub returns-then-not-pass-clause-values : goal.returns-then-not-pass-clause-values
returns-then-not-pass-clause-values c =
    let left = c.passes-test.true in
    let end = c.len-end.ensures in
    let within : c.passes.counter ≤ length c.args.store.now.entries = omega arith in
    let as_before = c.pass.ensures.settled c.if-not-pass.true ∙ c.passes.invariant.0 in
    as_before ∙ sym (settled_on c.args.store.now.entries c.args.which c.passes.counter (length c.args.store.now.entries) within
    (one_more c.args.store.now.entries c.args.which c.passes.counter ∙ sym (c.if-not-pass.ensures.values (λ e. stays c.passes.counter c.args.store.now.entries c.args.which e.key) c.passes.invariant.0) ∙ as_before))

pub passes-preserved : goal.passes-preserved
passes-preserved c = (
  c.if-not-pass.ensures.values (λ e. stays c.passes.counter c.args.store.now.entries c.args.which e.key) c.passes.invariant.0 ∙ sym (one_more c.args.store.now.entries c.args.which c.passes.counter),
  c.if-not-pass.ensures.room ∙ c.passes.invariant.1,
)
