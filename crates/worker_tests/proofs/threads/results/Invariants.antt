use Rattle.std.proofs.Common.{◌≡◌}
use Rattle.table_lock.specs.Passes.{IsPassOf}
use Rattle.worker_tests.proofs.threads.results.Given as goal

abbrev pub invariant-asks : goal.invariant-asks
invariant-asks g l = IsPassOf l.lock l.root × (l.root.number ≡ l.fn.root.number)
