use Rattle.table_lock.specs.Passes.{IsPassOf}
use Rattle.engine_tests.proofs.scripts.is_played.Given as goal

abbrev pub invariant-loop-stream : goal.invariant-loop-stream
invariant-loop-stream g l = IsPassOf l.one.lock l.one.pass
