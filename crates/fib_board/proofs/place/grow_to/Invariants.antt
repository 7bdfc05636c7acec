use Rattle.std.proofs.Common.{◌≤◌, ◌-◌}
use Rattle.fib_board.proofs.place.grow_to.Given as goal

abbrev pub invariant-places : goal.invariant-places
invariant-places l = (l.initial.places.len ≤ l.places.len) × (l.places.len ≤ l.count)

abbrev pub decreases-places : goal.decreases-places
decreases-places l = l.count - l.places.len
