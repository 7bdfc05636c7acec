use Rattle.std.proofs.Common.{◌≡◌, None, []}
use Rattle.compliance_client.specs.Standing.{Past, Works}
use Rattle.compliance_client.specs.Turns.{Turned}
use Rattle.compliance_client.proofs.conn.ClientConn.hear_all.Given as goal

-- what was told so far is heard
abbrev pub invariant-events : goal.invariant-events
invariant-events g l =
    (l.self ≡ record l.fn.self { calls = l.self.calls; kept = l.self.kept; tally = l.self.tally })
    × ((past : Past) → Works g.K.CallConnection.stands l.fn.n l.fn.self.calls l.fn.self.kept.items l.fn.self.tally past →
    Turned g.K.CallConnection.stands l.fn.n None l.self.calls l.self.kept.items l.self.tally past [])

abbrev pub decreases-events : goal.decreases-events
decreases-events g l = g.K.CallConnection.ahead l.self.calls
