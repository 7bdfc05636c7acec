use Rattle.std.proofs.Common.{◌≡◌, ◌↔◌, ◌<◌, ℕ, List, true, length}
use Rattle.compliance_client.specs.Turns.{Puts}
use Rattle.compliance_client.proofs.Putting.{bytes_of}
use Rattle.compliance_client.proofs.conn.ClientConn.put_all.Given as goal

-- these pieces were put so far, and nothing else came of the calls of the link
abbrev pub invariant-puts : goal.invariant-puts
invariant-puts g l =
    ((texts : List (List ℕ)) × Puts g.K.CallConnection.stands g.K.CallConnection.output l.fn.self.calls l.self.calls (g.L.Link.pieces l.fn.link)
    (g.L.Link.pieces l.link) texts × (l.has_moved ≡ true ↔ 0 < length (bytes_of texts)))
    × (g.L.Link.faults l.link ≡ g.L.Link.faults l.fn.link)
    × (g.L.Link.write_idles l.link ≡ g.L.Link.write_idles l.fn.link)
    × (g.L.Link.read_idles l.link ≡ g.L.Link.read_idles l.fn.link)
    × (g.L.Link.ends l.link ≡ g.L.Link.ends l.fn.link)
    × (l.self ≡ record l.fn.self { calls = l.self.calls })

abbrev pub decreases-puts : goal.decreases-puts
decreases-puts g l = length (g.K.CallConnection.output l.self.calls)
