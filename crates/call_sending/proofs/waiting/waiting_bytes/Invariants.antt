use Rattle.std.proofs.Common.{◌≡◌, ◌^◌, ◌-◌, None, min, take}
use Rattle.http_connection.specs.ConnectionTrace.{ConnectionTrace}
use Rattle.h2_exchange.specs.Streams.{is_live}
use Rattle.kept_calls.specs.CallState.{states}
use Rattle.kept_calls.specs.Table.{waiting_on}
use Rattle.call_sending.proofs.waiting.waiting_bytes.Given as goal

-- those so far are counted
abbrev pub invariant-calls : goal.invariant-calls
invariant-calls g l =
    (c : ConnectionTrace) → g.C.HttpConnection.stands l.fn.conn c → c.refusal ≡ None →
    l.waiting ≡ min (waiting_on (is_live c.role c.frames) (states (take l.at l.fn.calls))) (2 ^ 64 - 1)
