use Rattle.std.proofs.Common.{◌≡◌, ◌≤◌, arith, refl, ap, sym, ◌∙◌, Option}
use Rattle.aft_entries.specs.declared.entry.Entry.{Entry}
use Rattle.fib_board.specs.BoxedWork.{entry_in}
use Rattle.table_model.specs.declared.job.Work.TheVariants.{Remove}
use Rattle.table_model.specs.Table.{lookup}
use Rattle.rib_core.specs.Tables.{made_with}
use Rattle.rib_core.specs.Removals.{removal_cost_in}
use Rattle.rib_core.proofs.Older.{older_added}
use Rattle.rib_core.proofs.Owing.{take_out_costs, length_take_out, in_box, room_for_removal, left_by_removal}
use Rattle.rib_core.proofs.tables.Tables.remove_reserved.Goals as goal

pub overflow_sub-self : goal.overflow_sub-self
overflow_sub-self c =
    let found : entry_in c.remove_box-displaced.result ≡ lookup c.args.key c.self.inside.table.entries = in_box _ ∙ c.remove_box-displaced.ensures.removed in
    let all = take_out_costs c.args.key c.self.inside.table.entries in
    let sum = c.self.invariant.sum in
    rw (c.removal_cost_of_box.ensures, found) (omega arith)

pub add_reserved-requires-clause-room : goal.add_reserved-requires-clause-room
add_reserved-requires-clause-room c =
    let found : entry_in c.remove_box-displaced.result ≡ lookup c.args.key c.self.inside.table.entries = in_box _ ∙ c.remove_box-displaced.ensures.removed in
    let all = take_out_costs c.args.key c.self.inside.table.entries in
    let sum = c.self.invariant.sum in
    let free = rw (← c.self.view_is) at c.requires.room in
    rw (c.job_to_remove.ensures, found) (room_for_removal (lookup c.args.key c.self.inside.table.entries) c.self.inside.owed c.self.inside.board.spare free (omega arith) c.self.invariant.places)

pub invariant_of-self : goal.invariant_of-self
invariant_of-self c =
    let found : entry_in c.remove_box-displaced.result ≡ lookup c.args.key c.self.inside.table.entries = in_box _ ∙ c.remove_box-displaced.ensures.removed in
    let all = take_out_costs c.args.key c.self.inside.table.entries in
    let short = length_take_out c.args.key c.self.inside.table.entries in
    let sum = c.self.invariant.sum in
    let marks = c.self.invariant.marks in
    let room = c.self.invariant.room in
    let free = rw (← c.self.view_is) at c.requires.room in
    let falls = rw (c.job_to_remove.ensures, found) at c.add_reserved.ensures.spare in
    record {
      sum = rw (c.remove_box-displaced.ensures.entries, c.removal_cost_of_box.ensures, found) (omega arith);
      places = rw (c.removal_cost_of_box.ensures, found) (left_by_removal (lookup c.args.key c.self.inside.table.entries) c.self.inside.owed c.self.inside.board.spare _ free (omega arith) c.self.invariant.places falls);
      marks = rw c.remove_box-displaced.ensures.entries (omega arith);
      room = rw c.remove_box-displaced.ensures.entries (omega arith);
      older = rw (c.add_reserved.ensures.undone, c.job_to_remove.ensures) (older_added c.self.inside.events (made_with c.self.inside.events c.args.origin (Remove c.args.key) (entry_in c.remove_box-displaced.result)) c.self.inside.board.undone refl c.self.invariant.older);
    }
