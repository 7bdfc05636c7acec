use Rattle.rib_core.proofs.Older.{older_next}
use Rattle.rib_core.proofs.tables.Tables.collect.Goals as goal

pub invariant_of-self : goal.invariant_of-self
invariant_of-self c = record {
  sum = c.self.invariant.sum;
  places = rw c.collect-batch.ensures.spare c.self.invariant.places;
  marks = c.self.invariant.marks;
  room = c.self.invariant.room;
  older = rw c.collect-batch.ensures.undone (older_next c.self.inside.events c.self.inside.board.undone c.self.invariant.older);
}
