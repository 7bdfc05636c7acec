use Rattle.std.proofs.Common.{arith}
use Rattle.table_model.specs.Jobs.{removed}
use Rattle.rib_core.proofs.Older.{older_unwanted, older_purged}
use Rattle.rib_core.proofs.tables.Tables.leave_with_all.Goals as goal

pub purge-requires-clause-last : goal.purge-requires-clause-last
purge-requires-clause-last c = rw c.forget.ensures.undone (older_unwanted c.self.inside.events c.args.session c.self.inside.board.undone c.self.invariant.older)

pub invariant_of-self : goal.invariant_of-self
invariant_of-self c = record {
  sum = rw c.purge.ensures.entries (omega arith);
  places = omega arith;
  marks = rw c.purge.ensures.entries (omega arith);
  room = rw c.purge.ensures.entries (omega arith);
  older = rw c.purge.ensures.undone (older_purged c.self.inside.events c.self.inside.table.entries (removed c.self.inside.table.entries c.purge.new.table.entries) c.forget.new.self.undone (rw c.forget.ensures.undone (older_unwanted c.self.inside.events c.args.session c.self.inside.board.undone c.self.invariant.older)));
}
