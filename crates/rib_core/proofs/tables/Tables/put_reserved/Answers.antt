use Rattle.std.proofs.Common.{◌≡◌, ◌≤◌, arith, refl, ap, sym, ◌∙◌, Option}
use Rattle.table_model.specs.declared.job.Work.TheVariants.{Install}
use Rattle.table_model.specs.Table.{lookup}
use Rattle.rib_core.specs.Tables.{made_with}
use Rattle.rib_core.proofs.Older.{older_added}
use Rattle.rib_core.proofs.Owing.{put_costs, length_put, refs_cost}
use Rattle.rib_core.proofs.tables.Tables.put_reserved.Goals as goal

pub overflow_sub-self : goal.overflow_sub-self
overflow_sub-self c =
    let all = put_costs c.args.entry c.self.inside.table.entries in
    let sum = c.self.invariant.sum in
    rw (c.removal_cost_in.ensures, c.removal_cost-cost.ensures.cost, c.put_reserved-displaced.ensures.displaced) (omega arith)

pub add_reserved-requires-clause-room : goal.add_reserved-requires-clause-room
add_reserved-requires-clause-room c =
    let all = put_costs c.args.entry c.self.inside.table.entries in
    let sum = c.self.invariant.sum in
    let refs = refs_cost (lookup c.args.entry.key c.self.inside.table.entries) in
    let places = rw (← c.self.view_is) at c.requires.room.places in
    rw (c.job_to_install.ensures, c.requires.copies.work, c.put_reserved-displaced.ensures.displaced) (omega arith)

pub invariant_of-self : goal.invariant_of-self
invariant_of-self c =
    let all = put_costs c.args.entry c.self.inside.table.entries in
    let short = length_put c.args.entry c.self.inside.table.entries in
    let sum = c.self.invariant.sum in
    let refs = refs_cost (lookup c.args.entry.key c.self.inside.table.entries) in
    let places = rw (← c.self.view_is) at c.requires.room.places in
    let marks = rw (← c.self.view_is) at c.requires.room.marks in
    let room = rw (← c.self.view_is) at c.requires.room.room in
    let falls = rw (c.job_to_install.ensures, c.requires.copies.work, c.put_reserved-displaced.ensures.displaced) at c.add_reserved.ensures.spare in
    record {
      sum = rw (c.put_reserved-displaced.ensures.entries, c.removal_cost_in.ensures, c.removal_cost-cost.ensures.cost, c.put_reserved-displaced.ensures.displaced) (omega arith);
      places = rw (c.removal_cost_in.ensures, c.removal_cost-cost.ensures.cost, c.put_reserved-displaced.ensures.displaced) (omega arith);
      marks = rw c.put_reserved-displaced.ensures.entries (omega arith);
      room = rw c.put_reserved-displaced.ensures.entries (omega arith);
      older = rw (c.add_reserved.ensures.undone, c.job_to_install.ensures) (older_added c.self.inside.events (made_with c.self.inside.events c.args.origin (Install c.args.copies.work.value) c.put_reserved-displaced.result) c.self.inside.board.undone refl c.self.invariant.older);
    }
