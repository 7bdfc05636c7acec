use Rattle.std.proofs.Common.{sym, ap, ◌∙◌, refl, Some, arith}
use Rattle.table_model.proofs.TableLemmas.{in_order_take_out}
use Rattle.aft_store.proofs.Placing.{found_lookup, gap_lookup, found_take_out, gap_take_out}
use Rattle.aft_store.proofs.Unboxing.{value_at, box_out}
use Rattle.aft_store.proofs.store.Store.remove_box.Goals as goal

pub invariant_of-self : goal.invariant_of-self
invariant_of-self c =
    let found = rw c.deref.ensures.value at c.in-Ok.ensures.found in
    record {
      sorted = rw (c.remove.ensures.items, box_out _ _, ← found_take_out _ _ _ c.remove.result.value found) (in_order_take_out _ _ c.self.invariant.sorted);
      fits = omega arith;
    }

pub returns-in-Ok-clause-removed : goal.returns-in-Ok-clause-removed
returns-in-Ok-clause-removed c =
    let found = rw c.deref.ensures.value at c.in-Ok.ensures.found in
    rw (← c.self.view_is, found_lookup _ _ _ c.remove.result.value found) (ap Some (value_at c.self.inside.entries.items c.in-Ok.at _ c.remove.ensures.value))

pub returns-in-Ok-clause-entries : goal.returns-in-Ok-clause-entries
returns-in-Ok-clause-entries c =
    let found = rw c.deref.ensures.value at c.in-Ok.ensures.found in
    rw (← c.self.view_is, c.remove.ensures.items, box_out _ _, found_take_out _ _ _ c.remove.result.value found) refl

pub returns-in-Err-clause-removed : goal.returns-in-Err-clause-removed
returns-in-Err-clause-removed c =
    let gap = rw c.deref.ensures.value at c.in-Err.ensures.absent in
    rw (← c.self.view_is) (sym (gap_lookup _ _ _ gap))

pub returns-in-Err-clause-entries : goal.returns-in-Err-clause-entries
returns-in-Err-clause-entries c =
    let gap = rw c.deref.ensures.value at c.in-Err.ensures.absent in
    rw (← c.self.view_is) (sym (gap_take_out _ _ _ gap))
