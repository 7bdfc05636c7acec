use Rattle.std.proofs.Common.{arith}
use Rattle.fib_board.specs.Steps.{undone_after_take}
use Rattle.table_model.specs.Jobs.{next_task}
use Rattle.rib_core.proofs.Older.{older_next, older_after_take}
use Rattle.rib_core.proofs.tables.Tables.take.Goals as goal

pub invariant_of-self : goal.invariant_of-self
invariant_of-self c =
    let falls = c.take-given.ensures.spare in
    let held = c.self.invariant.places in
    record {
      sum = c.self.invariant.sum;
      places = omega arith;
      marks = c.self.invariant.marks;
      room = c.self.invariant.room;
      older = rw c.take-given.ensures.undone (older_next c.self.inside.events (undone_after_take c.self.inside.board.fib c.self.inside.board.undone (next_task c.self.inside.board.workers c.self.inside.board.undone c.args.worker)) (older_after_take c.self.inside.events c.self.inside.board.fib c.self.inside.board.undone (next_task c.self.inside.board.workers c.self.inside.board.undone c.args.worker) c.self.invariant.older));
    }
