use Rattle.std.proofs.Common.{◌≡◌, ◌+◌, ◌≤◌, ℕ, length}
use Rattle.table_lock.specs.Passes.{IsPassOf}
use Rattle.link_serving.specs.Serving.{HasAccepted, ServesItems, Start, links_of}
use Rattle.link_serving.proofs.serving.accept.Given as goal

abbrev pub invariant-links : goal.invariant-links
invariant-links g l =
    IsPassOf l.lock l.root × (l.root.number ≡ 0)
    × (g.A.Acceptor.retired_count l.acceptor + (length l.turns.live + length l.turns.over) ≤ g.A.Acceptor.given_count l.acceptor)
    × ((start : Start g.row.M-Command.Denot g.row.M-Reply.Denot g.row.M-Setup.Denot g.row.A-Link.Denot)
    → ServesItems g.V.Service.served g.V.Service.origin start l.fn.root (links_of g.A.Acceptor.given_count g.A.Acceptor.retired_count g.A.Acceptor.given g.A.Acceptor.retired l.fn.acceptor)
    l.fn.turns l.fn.course.tally.lacks_memory l.fn.course.tally.is_spent
    → ServesItems g.V.Service.served g.V.Service.origin start l.root (links_of g.A.Acceptor.given_count g.A.Acceptor.retired_count g.A.Acceptor.given g.A.Acceptor.retired l.acceptor)
    l.turns l.course.tally.lacks_memory l.course.tally.is_spent)
    × ((faults : ℕ) (asked : ℕ × ℕ)
    → HasAccepted faults (g.A.Acceptor.faults l.fn.acceptor) asked (g.A.Acceptor.asked l.fn.acceptor) (g.A.Acceptor.given_count l.fn.acceptor) l.fn.course.has_ended l.fn.course.tally.has_failed
    → HasAccepted faults (g.A.Acceptor.faults l.acceptor) asked (g.A.Acceptor.asked l.acceptor) (g.A.Acceptor.given_count l.acceptor) l.course.has_ended l.course.tally.has_failed)
