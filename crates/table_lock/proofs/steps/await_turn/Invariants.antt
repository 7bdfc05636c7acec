use Rattle.std.proofs.Common.{◌≡◌}
use Rattle.table_lock.specs.Seats.{IsSameSeat}
use Rattle.table_lock.proofs.steps.await_turn.Given as goal

abbrev pub invariant-loop : goal.invariant-loop
invariant-loop g l = (goal.iterator-loop g).can_next l.iterator' × (goal.iterator-loop g).is_finite l.iterator' × IsSameSeat l.fn.seat l.seat × (l.seat.me ≡ l.fn.seat.me)
