use Rattle.std.proofs.Common.{ℕ, ◌-◌, ◌^◌, List, min, ap, ◌∙◌}
use Rattle.h2_exchange.specs.Streams.{is_live}
use Rattle.kept_calls.specs.declared.call.Call.{Call}
use Rattle.kept_calls.specs.CallState.{states}
use Rattle.kept_calls.specs.Table.{waiting_on}
use Rattle.call_standing.specs.Standing.{bare}
use Rattle.grpc_calls.specs.Object.{state_in}
use Rattle.call_standing.proofs.PumpLaw.{as_going}
use Rattle.call_standing.proofs.Waits.{waits}
use Rattle.grpc_calls.proofs.calls.call_connection_impl.CallsCallConnection.waiting.Goals as goal

pub returns-in-Going : goal.returns-in-Going
returns-in-Going g c = λ t h a.
    let x = c.args.self.now in
    let going = as_going g.C.HttpConnection.stands g.C.HttpConnection.output x.fate x.conn (state_in x) t c.in-Going.is h in
    c.waiting_bytes.ensures t.connection_trace going.connected a
    ∙ ap (λ (items : List Call). min (waiting_on (is_live t.connection_trace.role t.connection_trace.frames) (states items)) (2 ^ 64 - 1)) c.as_slice.ensures.value
    ∙ ap (λ (n : ℕ). min n (2 ^ 64 - 1)) (waits (state_in x) (bare t) going.holds)
