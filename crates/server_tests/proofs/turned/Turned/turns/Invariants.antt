use Rattle.table_lock.specs.Passes.{IsPassOf}
use Rattle.server_tests.proofs.turned.Turned.turns.Given as goal

abbrev pub invariant-turns : goal.invariant-turns
invariant-turns g l = IsPassOf l.lock l.self.pass
