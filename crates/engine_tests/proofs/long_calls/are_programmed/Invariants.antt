use Rattle.table_lock.specs.Passes.{IsPassOf}
use Rattle.engine_tests.proofs.long_calls.are_programmed.Given as goal

abbrev pub invariant-loop : goal.invariant-loop
invariant-loop g l = IsPassOf l.one.lock l.one.pass
