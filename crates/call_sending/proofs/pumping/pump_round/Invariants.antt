use Rattle.std.proofs.Common.{◌≡◌, None, length}
use Rattle.http_connection.specs.ConnectionTrace.{ConnectionTrace}
use Rattle.kept_calls.specs.CallState.{states}
use Rattle.call_sending.specs.Pumping.{Lessens, cutters_of, left_in}
use Rattle.call_sending.proofs.Rounds.{HaveTurned}
use Rattle.call_sending.proofs.pumping.pump_round.Given as goal

-- the calls before this one had their turn, and the others are as they were
abbrev pub invariant-calls : goal.invariant-calls
invariant-calls g l =
    (length l.calls.items ≡ length l.fn.calls.items)
    × ((c : ConnectionTrace) → g.C.HttpConnection.stands l.fn.conn c → c.refusal ≡ None →
    (d : ConnectionTrace) × g.C.HttpConnection.stands l.conn d × (d.refusal ≡ None) × HaveTurned l.at c (states l.fn.calls.items) l.goes_on (states l.calls.items) d)
    × (g.C.HttpConnection.ahead l.conn ≡ g.C.HttpConnection.ahead l.fn.conn)
    × (cutters_of l.calls.items ≡ cutters_of l.fn.calls.items)
    × Lessens l.goes_on (left_in (states l.fn.calls.items)) (left_in (states l.calls.items))
