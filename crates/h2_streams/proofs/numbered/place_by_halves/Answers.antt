use Rattle.std.proofs.Common.{ℕ, ◌+◌, ◌-◌, ◌/◌, ◌<◌, sym, ap, subst, ◌∙◌, arith}
use Rattle.h2_streams.proofs.Rising.{is_at, goes_up, goes_down, is_nowhere, strictly}
use Rattle.h2_streams.proofs.numbered.place_by_halves.Goals as goal

pub returns-then-number-id : goal.returns-then-number-id
returns-then-number-id g c =
    let left = c.halves-test.true in
    is_at g.T.Numbered.number 0 c.requires.0 c.args.items.now c.args.id (c.halves.low + (c.halves.high - c.halves.low) / 2) c.index-items-at.result c.requires.1 (omega (arith, left, c.halves.invariant.bound))
    (ap g.T.Numbered.number (sym c.index-items-at.is) ∙ sym c.number-number.ensures ∙ c.if-number-id.true)

pub halves-preserved-then-number-id-2 : goal.halves-preserved-then-number-id-2
halves-preserved-then-number-id-2 g c =
    let left = c.halves-test.true in
    goes_up g.T.Numbered.number 0 c.requires.0 c.args.items.now c.args.id c.halves.low (c.halves.low + (c.halves.high - c.halves.low) / 2) c.halves.high c.index-items-at.result c.requires.1 c.halves.invariant (omega (arith, left))
    (subst (λ (n : ℕ). n < c.args.id) (c.number-number.ensures ∙ ap g.T.Numbered.number c.index-items-at.is) c.if-number-id-2.true)

pub halves-preserved : goal.halves-preserved
halves-preserved g c =
    let left = c.halves-test.true in
    goes_down g.T.Numbered.number 0 c.requires.0 c.args.items.now c.args.id c.halves.low (c.halves.low + (c.halves.high - c.halves.low) / 2) c.halves.high c.index-items-at.result c.requires.1 c.halves.invariant (omega (arith, left))
    (subst (λ (n : ℕ). c.args.id < n) (c.number-number.ensures ∙ ap g.T.Numbered.number c.index-items-at.is) (strictly _ _ c.if-number-id.false c.if-number-id-2.false))

pub returns : goal.returns
returns g c = is_nowhere g.T.Numbered.number c.args.id c.args.items.now c.halves.low c.halves.high c.halves.invariant (λ l. omega (arith, l, c.halves-test.false))
