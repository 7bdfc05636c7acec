use Rattle.std.proofs.Common.{ℕ, List, length, ◌*◌, ◌-◌, ◌^◌, min, ap, ◌∙◌, arith}
use Rattle.h2_exchange.specs.Streams.{is_live}
use Rattle.kept_calls.specs.declared.call.Call.{Call}
use Rattle.kept_calls.specs.CallState.{states}
use Rattle.kept_calls.specs.Table.{waiting_on}
use Rattle.call_standing.specs.Standing.{State, bare}
use Rattle.call_standing.proofs.PumpLaw.{as_going, going_as, hides_rest, later_kept, pumps_going, starved_as}
use Rattle.call_standing.proofs.Waits.{waits}
use Rattle.grpc_calls.proofs.calls.Calls.pump_going.Goals as goal

pub returns-in-Ok-clause-ok : goal.returns-in-Ok-clause-ok
returns-in-Ok-clause-ok g c = λ t h is.
    let x = c.args.self.now in
    let s : State = record { role = x.role; calls = states x.calls.items; pending = x.pending } in
    let now : State = record { role = x.role; calls = states c.pump_calls.new.calls.items; pending = x.pending } in
    let going = as_going g.C.HttpConnection.stands g.C.HttpConnection.output x.fate x.conn s t is h in
    let r = c.in-Ok.ensures.turns t.connection_trace going.connected going.alive in
    let u = pumps_going g.C.HttpConnection.stands g.C.HttpConnection.output g.met.C.HttpConnection.sound x.conn c.pump_calls.new.conn s (states c.pump_calls.new.calls.items) t r.0 going r.2 r.1 in
    (u.0, going_as g.C.HttpConnection.stands g.C.HttpConnection.output x.fate c.pump_calls.new.conn now u.0 is u.1, u.2)

pub returns-in-Ok-clause-ahead : goal.returns-in-Ok-clause-ahead
returns-in-Ok-clause-ahead g c =
    let x = c.args.self.now in
    omega (arith, ap (λ (n : ℕ). 16386 * n) c.pump_calls.ensures.ahead, later_kept (states c.pump_calls.new.calls.items) (states x.calls.items) x.pending c.pump_calls.ensures.cutters)

pub returns-in-Err-clause-err : goal.returns-in-Err-clause-err
returns-in-Err-clause-err g c = λ is t h.
    let x = c.args.self.now in
    let s : State = record { role = x.role; calls = states x.calls.items; pending = x.pending } in
    let now : State = record { role = x.role; calls = states c.pump_calls.new.calls.items; pending = x.pending } in
    let going = as_going g.C.HttpConnection.stands g.C.HttpConnection.output x.fate x.conn s t is h in
    let r = c.in-Err.ensures.turns t.connection_trace going.connected going.alive in
    let waiting = c.waiting_bytes-waiting.ensures t.connection_trace going.connected going.alive
    ∙ ap (λ (items : List Call). min (waiting_on (is_live t.connection_trace.role t.connection_trace.frames) (states items)) (2 ^ 64 - 1)) c.as_slice.ensures.value
    ∙ ap (λ (n : ℕ). min n (2 ^ 64 - 1)) (waits s (bare t) going.holds) in
    starved_as g.C.HttpConnection.stands g.C.HttpConnection.output c.pump_calls.new.conn now t _ (length c.out-shown.result.now) c.waiting_bytes-waiting.result (ap length c.out-shown.ensures)
    (hides_rest g.C.HttpConnection.stands g.C.HttpConnection.output g.met.C.HttpConnection.sound x.conn c.pump_calls.new.conn s t r.0 c.waiting_bytes-waiting.result now going r.2 r.1 waiting)

pub returns-in-Err-clause-ahead : goal.returns-in-Err-clause-ahead
returns-in-Err-clause-ahead g c =
    let x = c.args.self.now in
    omega (arith, ap (λ (n : ℕ). 16386 * n) c.pump_calls.ensures.ahead, later_kept (states c.pump_calls.new.calls.items) (states x.calls.items) x.pending c.pump_calls.ensures.cutters)
