use Rattle.table_lock.specs.Passes.{IsPassOf}
use Rattle.server_tests.proofs.beside.turns.Given as goal

abbrev pub invariant-turns : goal.invariant-turns
invariant-turns g l = IsPassOf l.lock l.served.pass × IsPassOf l.lock l.worker.pass
