use Rattle.std.proofs.Common.{sym, ap, ◌∙◌, refl, Some, arith, inl, inr}
use Rattle.aft_entries.specs.declared.entry.Entry.{Entry}
use Rattle.table_model.specs.Table.{has}
use Rattle.table_model.proofs.TableLemmas.{in_order_put}
use Rattle.aft_store.specs.Boxes.{unboxed}
use Rattle.aft_store.proofs.Placing.{found_lookup, gap_lookup, found_put, gap_put, gap_has}
use Rattle.aft_store.proofs.Unboxing.{value_at, box_set, box_in}
use Rattle.aft_store.proofs.store.Store.put_reserved.Goals as goal

pub invariant_of-self : goal.invariant_of-self
invariant_of-self c =
    let found = rw c.deref.ensures.value at c.in-Ok.ensures.found in
    record {
      sorted = rw (box_set _ _ _, c.replace.ensures.after, ← found_put _ _ _ c.replace.result found c.args.entry (ap (λ (e : Entry). e.key) (sym c.entry.view_is))) (in_order_put _ _ c.self.invariant.sorted);
      fits = c.self.invariant.fits;
    }

pub take_box-place-requires : goal.take_box-place-requires
take_box-place-requires c =
    let gap = rw c.deref.ensures.value at c.in-Err.ensures.absent in
    let room = rw (← c.self.view_is) at c.requires.room in
    elim room [ inl more ↦ more | inr there ↦ absurd (gap_has _ _ _ gap (ap (λ (e : Entry). has (unboxed c.self.inside.entries.items) e.key) c.entry.view_is ∙ there)) ]

pub invariant_of-self-in-Err : goal.invariant_of-self-in-Err
invariant_of-self-in-Err c =
    let gap = rw c.deref.ensures.value at c.in-Err.ensures.absent in
    record {
      sorted = rw (c.insert_box.ensures.items, box_in _ _ _, c.take_box-place.ensures.value, ← gap_put _ _ _ gap c.args.entry (ap (λ (e : Entry). e.key) (sym c.entry.view_is))) (in_order_put _ _ c.self.invariant.sorted);
      fits = omega arith;
    }

pub returns-in-Ok-clause-displaced : goal.returns-in-Ok-clause-displaced
returns-in-Ok-clause-displaced c =
    let found = rw c.deref.ensures.value at c.in-Ok.ensures.found in
    rw (← c.self.view_is, ← c.entry.view_is, found_lookup _ _ _ c.index_mut.result.now.value found) (ap Some (c.replace.ensures.value ∙ value_at c.self.inside.entries.items c.in-Ok.at _ c.index_mut.ensures.value))

pub returns-in-Ok-clause-entries : goal.returns-in-Ok-clause-entries
returns-in-Ok-clause-entries c =
    let found = rw c.deref.ensures.value at c.in-Ok.ensures.found in
    rw (← c.self.view_is, box_set _ _ _, c.replace.ensures.after, found_put _ _ _ c.replace.result found c.args.entry (ap (λ (e : Entry). e.key) (sym c.entry.view_is))) refl

pub returns-in-Err-clause-displaced : goal.returns-in-Err-clause-displaced
returns-in-Err-clause-displaced c =
    let gap = rw c.deref.ensures.value at c.in-Err.ensures.absent in
    rw (← c.self.view_is, ← c.entry.view_is) (sym (gap_lookup _ _ _ gap))

pub returns-in-Err-clause-entries : goal.returns-in-Err-clause-entries
returns-in-Err-clause-entries c =
    let gap = rw c.deref.ensures.value at c.in-Err.ensures.absent in
    rw (← c.self.view_is, c.insert_box.ensures.items, box_in _ _ _, c.take_box-place.ensures.value) (sym (gap_put _ _ _ gap c.args.entry (ap (λ (e : Entry). e.key) (sym c.entry.view_is))))

pub returns-in-Err-clause-in_place : goal.returns-in-Err-clause-in_place
returns-in-Err-clause-in_place c there =
    let gap = rw c.deref.ensures.value at c.in-Err.ensures.absent in
    absurd (gap_has _ _ _ gap (ap (λ (e : Entry). has (unboxed c.self.inside.entries.items) e.key) c.entry.view_is ∙ rw (← c.self.view_is) at there))
