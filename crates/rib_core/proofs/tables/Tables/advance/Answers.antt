use Rattle.rib_core.proofs.Older.{older_next}
use Rattle.rib_core.proofs.tables.Tables.advance.Goals as goal

pub invariant_of-self : goal.invariant_of-self
invariant_of-self c = record {
  sum = c.self.invariant.sum;
  places = c.self.invariant.places;
  marks = c.self.invariant.marks;
  room = c.self.invariant.room;
  older = older_next c.self.inside.events c.self.inside.board.undone c.self.invariant.older;
}
