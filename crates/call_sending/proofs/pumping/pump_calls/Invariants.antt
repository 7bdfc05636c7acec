use Rattle.std.proofs.Common.{◌≡◌, None}
use Rattle.http_connection.specs.ConnectionTrace.{ConnectionTrace}
use Rattle.kept_calls.specs.CallState.{states}
use Rattle.call_sending.specs.Pumping.{cutters_of, left_in}
use Rattle.call_sending.proofs.Rounds.{Leads}
use Rattle.call_sending.proofs.pumping.pump_calls.Given as goal

-- the rounds so far lead here
abbrev pub invariant-rounds : goal.invariant-rounds
invariant-rounds g l =
    ((c : ConnectionTrace) → g.C.HttpConnection.stands l.fn.conn c → c.refusal ≡ None →
    (d : ConnectionTrace) × g.C.HttpConnection.stands l.conn d × (d.refusal ≡ None) × Leads c (states l.fn.calls.items) d (states l.calls.items))
    × (g.C.HttpConnection.ahead l.conn ≡ g.C.HttpConnection.ahead l.fn.conn)
    × (cutters_of l.calls.items ≡ cutters_of l.fn.calls.items)

abbrev pub decreases-rounds : goal.decreases-rounds
decreases-rounds g l = left_in (states l.calls.items)
