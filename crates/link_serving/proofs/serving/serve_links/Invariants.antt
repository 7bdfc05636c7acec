use Rattle.std.proofs.Common.{◌≡◌, ◌+◌, ◌≤◌, [], length}
use Rattle.table_lock.specs.Passes.{IsPassOf}
use Rattle.link_serving.specs.Serving.{HasAccepted, ServesItems, links_of, start_at}
use Rattle.link_serving.proofs.serving.serve_links.Given as goal

abbrev pub invariant-rounds : goal.invariant-rounds
invariant-rounds g l =
    (goal.iterator-rounds g).can_next l.iterator' × (goal.iterator-rounds g).is_finite l.iterator'
    × IsPassOf l.lock l.root × (l.root.number ≡ 0)
    × (g.A.Acceptor.retired_count l.acceptor + (length l.turns.live + length l.turns.over) ≤ g.A.Acceptor.given_count l.acceptor)
    × (l.turns.over ≡ [])
    × ServesItems g.V.Service.served g.V.Service.origin
    (start_at l.fn.root (links_of g.A.Acceptor.given_count g.A.Acceptor.retired_count g.A.Acceptor.given g.A.Acceptor.retired l.fn.acceptor)) l.root
    (links_of g.A.Acceptor.given_count g.A.Acceptor.retired_count g.A.Acceptor.given g.A.Acceptor.retired l.acceptor)
    l.turns l.course.tally.lacks_memory l.course.tally.is_spent
    × HasAccepted (g.A.Acceptor.faults l.fn.acceptor) (g.A.Acceptor.faults l.acceptor) (g.A.Acceptor.asked l.fn.acceptor) (g.A.Acceptor.asked l.acceptor)
    (g.A.Acceptor.given_count l.acceptor) l.course.has_ended l.course.tally.has_failed
