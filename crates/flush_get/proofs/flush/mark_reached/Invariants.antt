use Rattle.std.proofs.Common.{◌≡◌}
use Rattle.flush_get.specs.Marking.{staying_marks}
use Rattle.flush_get.proofs.flush.mark_reached.Given as goal

abbrev pub invariant-passes : goal.invariant-passes
invariant-passes l = (l.marks.values ≡ staying_marks l.counter l.fn.store.entries l.fn.which) × (l.marks.room ≡ l.initial.marks.room)
