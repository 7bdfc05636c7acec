use Rattle.std.proofs.Common.{◌+◌, ◌-◌, ◌/◌, sym, ◌∙◌, arith}
use Rattle.aft_store.proofs.Placing.{goes_up, goes_down, is_found}
use Rattle.aft_store.proofs.Unboxing.{value_at}
use Rattle.aft_store.proofs.place.place_of.Goals as goal

pub halves-preserved-in-Less : goal.halves-preserved-in-Less
halves-preserved-in-Less c =
    let left = c.halves-test.true in
    goes_up _ _ _ _ _ _ c.requires c.halves.invariant (omega (arith, left)) (omega (arith, left)) (value_at c.args.entries.now (c.halves.low + (c.halves.high - c.halves.low) / 2) _ c.index-entries-at.is) (rw (← c.deref-entry.ensures, ← c.entry.view_is) (sym c.order.ensures ∙ c.in-Less.is))

pub returns-in-Equal-clause-found : goal.returns-in-Equal-clause-found
returns-in-Equal-clause-found c =
    let left = c.halves-test.true in
    is_found _ _ _ _ _ _ c.requires c.halves.invariant (omega (arith, left)) (omega (arith, left)) (value_at c.args.entries.now (c.halves.low + (c.halves.high - c.halves.low) / 2) _ c.index-entries-at.is) (rw (← c.deref-entry.ensures, ← c.entry.view_is) (sym c.order.ensures ∙ c.in-Equal.is))

pub halves-preserved : goal.halves-preserved
halves-preserved c =
    let left = c.halves-test.true in
    goes_down _ _ _ _ _ _ c.requires c.halves.invariant (omega (arith, left)) (omega (arith, left)) (value_at c.args.entries.now (c.halves.low + (c.halves.high - c.halves.low) / 2) _ c.index-entries-at.is) (rw (← c.deref-entry.ensures, ← c.entry.view_is) (sym c.order.ensures ∙ c.in-Greater.is))
