use Rattle.std.proofs.Common.{◌≡◌, false, take}
use Rattle.std.specs.List.{list_any}
use Rattle.fib_board.specs.BoardInvariant.{may_start}
use Rattle.fib_board.proofs.jobs.next_place.Given as goal

-- none so far
abbrev pub invariant-loop-at : goal.invariant-loop-at
invariant-loop-at l = list_any (may_start l.fn.workers l.fn.jobs.items l.fn.worker) (take l.at l.fn.jobs.items) ≡ false
