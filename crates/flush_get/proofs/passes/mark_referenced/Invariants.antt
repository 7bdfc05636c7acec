use Rattle.std.proofs.Common.{◌≡◌, ◌≤◌}
use Rattle.flush_get.proofs.Passing.{IsPassed}
use Rattle.flush_get.proofs.passes.mark_referenced.Given as goal

abbrev pub invariant-loop-n : goal.invariant-loop-n
invariant-loop-n l = IsPassed l.store.entries l.before l.after.items l.n l.more × (l.after.len ≡ l.n) × (l.initial.after.cap ≤ l.after.cap)
