use Rattle.std.proofs.Common.{map}
use Rattle.fib_board.specs.Steps.{unwanted}
use Rattle.rib_core.proofs.Older.{older_next, older_unwanted}
use Rattle.rib_core.proofs.tables.Tables.leave_alone.Goals as goal

pub invariant_of-self : goal.invariant_of-self
invariant_of-self c = record {
  sum = c.self.invariant.sum;
  places = rw c.forget.ensures.spare c.self.invariant.places;
  marks = c.self.invariant.marks;
  room = c.self.invariant.room;
  older = rw c.forget.ensures.undone (older_next c.self.inside.events (map (unwanted c.args.session) c.self.inside.board.undone) (older_unwanted c.self.inside.events c.args.session c.self.inside.board.undone c.self.invariant.older));
}
