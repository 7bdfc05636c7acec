use Rattle.std.proofs.Common.{◌≡◌, ◌+◌, ◌<◌, ◌≤◌, ◌∙◌, arith, sym, ap}
use Rattle.aft_store.specs.Marked.{chosen, unchosen}
use Rattle.fib_board.specs.Removals.{removal_costs}
use Rattle.table_model.specs.Jobs.{removed}
use Rattle.rib_core.proofs.Older.{older_purged}
use Rattle.rib_core.proofs.Owing.{parted_costs, length_chosen}
use Rattle.rib_core.proofs.tables.Tables.flush.Goals as goal

pub purge-requires-clause-places : goal.purge-requires-clause-places
purge-requires-clause-places c =
    let parts = parted_costs c.as_slice.result.now c.self.inside.table.entries in
    let sum = c.self.invariant.sum in
    let places = c.self.invariant.places in
    omega arith

pub removal_costs-self-inside-requires : goal.removal_costs-self-inside-requires
removal_costs-self-inside-requires c =
    let parts = parted_costs c.as_slice.result.now c.self.inside.table.entries in
    let sum = c.self.invariant.sum in
    rw c.purge.ensures.entries (omega arith)

pub invariant_of-self : goal.invariant_of-self
invariant_of-self c =
    let parts = parted_costs c.as_slice.result.now c.self.inside.table.entries in
    let short = length_chosen c.as_slice.result.now c.self.inside.table.entries in
    let sum = c.self.invariant.sum in
    let places = c.self.invariant.places in
    let falls = c.purge.ensures.spare in
    let marks = c.self.invariant.marks in
    let room = c.self.invariant.room in
    record {
      sum = rw c.removal_costs-self-inside.ensures (omega arith);
      places = rw (c.removal_costs-self-inside.ensures, c.purge.ensures.entries) (omega arith);
      marks = rw (c.purge.ensures.entries, c.mark_flush-remain.ensures.room) (omega arith);
      room = rw (c.purge.ensures.entries, c.purge.ensures.room) (omega arith);
      older = rw c.purge.ensures.undone (older_purged c.self.inside.events c.self.inside.table.entries (removed c.self.inside.table.entries c.purge.new.table.entries) c.self.inside.board.undone c.self.invariant.older);
    }
