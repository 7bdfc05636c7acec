use Rattle.std.proofs.Common.{◌≡◌, ◌≤◌, ◌-◌, length, None}
use Rattle.std.specs.Prelude.{sum_by}
use Rattle.h2_exchange.specs.Streams.{is_live}
use Rattle.http_connection.specs.ConnectionTrace.{ConnectionTrace}
use Rattle.kept_calls.specs.declared.call.Call.{Call}
use Rattle.call_standing.proofs.Forgetting.{Sorted}
use Rattle.grpc_calls.proofs.calls.receiving.forget_over.Given as goal

-- those before this one live
abbrev pub invariant-calls : goal.invariant-calls
invariant-calls g l =
    ((c : ConnectionTrace) → g.C.HttpConnection.stands l.fn.conn c → c.refusal ≡ None → Sorted (λ (call : Call). is_live c.role c.frames call.stream) l.fn.calls.items l.at l.calls.items)
    × (sum_by (λ (call : Call). length call.cutter.held) l.calls.items ≤ sum_by (λ (call : Call). length call.cutter.held) l.fn.calls.items)

abbrev pub decreases-calls : goal.decreases-calls
decreases-calls g l = length l.calls.items - l.at
