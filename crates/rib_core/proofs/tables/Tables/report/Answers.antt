use Rattle.std.proofs.Common.{arith}
use Rattle.fib_board.specs.Steps.{out_task, undone_after_report}
use Rattle.rib_core.proofs.Older.{older_next, older_after_report}
use Rattle.rib_core.proofs.tables.Tables.report.Goals as goal

pub invariant_of-self : goal.invariant_of-self
invariant_of-self c =
    let falls = c.report-was_out.ensures.spare in
    let held = c.self.invariant.places in
    record {
      sum = c.self.invariant.sum;
      places = omega arith;
      marks = c.self.invariant.marks;
      room = c.self.invariant.room;
      older = rw c.report-was_out.ensures.undone (older_next c.self.inside.events (undone_after_report c.self.inside.board.undone (out_task c.args.job c.self.inside.board.undone)) (older_after_report c.self.inside.events c.self.inside.board.undone (out_task c.args.job c.self.inside.board.undone) c.self.invariant.older));
    }
