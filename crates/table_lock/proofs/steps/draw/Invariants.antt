use Rattle.std.proofs.Common.{◌≡◌}
use Rattle.table_lock.specs.Seats.{IsSameSeat, glances}
use Rattle.table_lock.proofs.steps.draw.Given as goal

abbrev pub invariant-loop : goal.invariant-loop
invariant-loop g l = (goal.iterator-loop g).can_next l.iterator' × (goal.iterator-loop g).is_finite l.iterator' × IsSameSeat l.fn.seat l.seat × (l.seat.me ≡ glances l.fn.seat.me l.ticket)
