use Rattle.std.proofs.Common.{refl, arith}
use Rattle.aft_store.proofs.Parted.{in_order_chosen, map_chosen, map_unchosen, removed_unchosen}
use Rattle.aft_store.proofs.Unboxing.{in_box}
use Rattle.aft_store.specs.Boxes.{unboxed}
use Rattle.aft_store.proofs.store.Store.move_unmarked.Goals as goal

pub invariant_of-self : goal.invariant_of-self
invariant_of-self c =
    let len = c.move_marked.ensures.len in
    let gone_len = c.move_all.ensures.gone_len in
    let capacity = c.move_all.ensures.capacity in
    let kept = c.move_marked.ensures.capacity in
    let fits = c.self.invariant.fits in
    record {
      sorted = rw (c.move_marked.ensures.entries, c.move_all.ensures.gone, map_chosen in_box _ _) (in_order_chosen c.args.marks.now (unboxed c.self.inside.entries.items) c.self.invariant.sorted);
      fits = omega arith;
    }

pub returns-clause-entries : goal.returns-clause-entries
returns-clause-entries c = rw (← c.self.view_is, c.move_marked.ensures.entries, c.move_all.ensures.gone, map_chosen in_box _ _) refl

pub returns-clause-gone : goal.returns-clause-gone
returns-clause-gone c = rw (← c.self.view_is, c.move_marked.ensures.gone, c.move_all.ensures.gone, map_unchosen in_box _ _) refl

pub returns-clause-removed : goal.returns-clause-removed
returns-clause-removed c =
    rw (← c.self.view_is, c.move_marked.ensures.gone, c.move_marked.ensures.entries, c.move_all.ensures.gone, map_unchosen in_box _ _, map_chosen in_box _ _, removed_unchosen c.args.marks.now (unboxed c.self.inside.entries.items) c.self.invariant.sorted) refl
