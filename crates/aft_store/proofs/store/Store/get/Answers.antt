use Rattle.std.proofs.Common.{ap, ◌∙◌, refl, Some}
use Rattle.aft_store.proofs.Placing.{found_lookup, gap_lookup}
use Rattle.aft_store.proofs.Unboxing.{value_at}
use Rattle.aft_store.proofs.store.Store.get.Goals as goal

pub returns-in-Ok : goal.returns-in-Ok
returns-in-Ok c =
    let found = rw c.deref.ensures.value at c.in-Ok.ensures.found in
    rw (← c.self.view_is, found_lookup _ _ _ c.index.result.now.value found) (ap (λ e. Some e.payload) (c.entry.view_is ∙ c.deref-entry.ensures ∙ value_at c.self.inside.entries.items c.in-Ok.at _ c.index.ensures))

pub returns-in-Err : goal.returns-in-Err
returns-in-Err c =
    let gap = rw c.deref.ensures.value at c.in-Err.ensures.absent in
    rw (← c.self.view_is, gap_lookup _ _ _ gap) refl
