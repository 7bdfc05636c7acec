use Rattle.std.proofs.Common.{◌≡◌}
use Rattle.http_connection.specs.ConnectionTrace.{ConnectionTrace}
use Rattle.http_connection.proofs.draining.discard_events.Given as goal

-- it goes on from each course, with the same bytes fed
abbrev pub invariant-events : goal.invariant-events
invariant-events g l = (c : ConnectionTrace) → g.C.HttpConnection.stands l.fn.conn c → (d : ConnectionTrace) × g.C.HttpConnection.stands l.conn d × (d.fed ≡ c.fed)

abbrev pub decreases-events : goal.decreases-events
decreases-events g l = g.C.HttpConnection.ahead l.conn
