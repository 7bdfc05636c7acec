use Rattle.std.proofs.Common.{◌≡◌, false, take}
use Rattle.std.specs.List.{list_any}
use Rattle.flush_get.proofs.Remaining.{counts}
use Rattle.flush_get.proofs.flush.is_marked.Given as goal

-- none so far
abbrev pub invariant-loop-n : goal.invariant-loop-n
invariant-loop-n l = list_any (counts l.fn.store.entries l.fn.which) (take l.n l.fn.store.entries) ≡ false
