use Rattle.std.proofs.Common.{◌≡◌, ◌∙◌, List, [], ◌∷◌, ◌++◌, true, ap}
use Rattle.std.proofs.lemmas.List.{map-append}
use Rattle.kept_calls.specs.declared.call.Call.{Call}
use Rattle.kept_calls.specs.declared.call.Receiving.TheVariants.{Open}
use Rattle.kept_calls.specs.CallState.{CallState, began, state_of, states}
use Rattle.call_standing.proofs.Calling.{begins_stands, client_too}
use Rattle.call_standing.proofs.PumpLaw.{as_going}
use Rattle.grpc_calls.specs.Object.{state_in}
use Rattle.grpc_calls.proofs.calls.Calls.begin.Goals as goal

pub begin-requires-clause-client : goal.begin-requires-clause-client
begin-requires-clause-client g c =
    let x = c.args.self.now in
    let q = c.requires in
    (q.0.connection_trace, (as_going g.C.HttpConnection.stands g.C.HttpConnection.output x.fate x.conn (state_in x) q.0 q.3 q.1).connected, q.2)

pub returns-in-Ok-begin-clause-ok : goal.returns-in-Ok-begin-clause-ok
returns-in-Ok-begin-clause-ok g c = λ t h.
    let x = c.args.self.now in
    let q = c.requires in
    let stream = c.in-Ok-begin.stream in
    let made : states c.push_reserved.new.self.items ≡ states x.calls.items ++ began stream Open true ∷ [] =
    ap states (c.push_reserved.ensures.items ∙ ap (λ (items : List Call). items ++ c.new.result ∷ []) c.reserve.ensures.items)
    ∙ map-append state_of x.calls.items (c.new.result ∷ []) ∙ ap (λ (s : CallState). states x.calls.items ++ s ∷ []) c.new.ensures in
    let connected = (as_going g.C.HttpConnection.stands g.C.HttpConnection.output x.fate x.conn (state_in x) t q.3 h).connected in
    begins_stands g.C.HttpConnection.stands g.C.HttpConnection.output g.met.C.HttpConnection.sound x.conn c.begin.new.self (state_in x) x.fate q.3 stream c.args.method c.in-Ok.fields
    (states c.push_reserved.new.self.items) c.in-Ok.ensures made t
    (client_too g.C.HttpConnection.stands g.C.HttpConnection.output g.met.C.HttpConnection.sound x.conn c.begin.new.self (state_in x) x.fate q.3 t q.0 h q.1 q.2) h
    (c.in-Ok-begin.ensures.begins t.connection_trace connected).2 (c.in-Ok-begin.ensures.ok t.connection_trace connected)
