use Rattle.std.proofs.Common.{◌==◌, ◌∙◌, List, ap, sym}
use Rattle.std.specs.List.{position}
use Rattle.kept_calls.specs.declared.call.Call.{Call}
use Rattle.kept_calls.specs.CallState.{state_of}
use Rattle.grpc_calls.specs.Object.{state_in}
use Rattle.call_standing.proofs.Found.{absent, found}
use Rattle.call_standing.proofs.Taking.{ended_call, no_call, open_call}
use Rattle.grpc_calls.proofs.calls.Calls.taking.Goals as goal

pub returns-then-is_ended-clause-sends : goal.returns-then-is_ended-clause-sends
returns-then-is_ended-clause-sends g c = λ t h.
    let at = ap (λ (xs : List Call). position (λ (d : Call). d.stream == c.args.stream) xs) (sym c.as_slice.ensures.value) ∙ sym c.find_call.ensures ∙ c.in-Some.is in
    let is = found c.args.self.now.calls.items c.args.stream c.in-Some.at c.index.result.now at c.index.ensures in
    ended_call g.C.HttpConnection.stands g.C.HttpConnection.output c.args.self.now.conn (state_in c.args.self.now) c.args.self.now.fate t c.in-Going.is h c.args.stream
    (state_of c.index.result.now) is.0 c.if-is_ended.ensures

pub returns-else-is_ended-clause-sends : goal.returns-else-is_ended-clause-sends
returns-else-is_ended-clause-sends g c = λ t h.
    let at = ap (λ (xs : List Call). position (λ (d : Call). d.stream == c.args.stream) xs) (sym c.as_slice.ensures.value) ∙ sym c.find_call.ensures ∙ c.in-Some.is in
    let is = found c.args.self.now.calls.items c.args.stream c.in-Some.at c.index.result.now at c.index.ensures in
    open_call g.C.HttpConnection.stands g.C.HttpConnection.output c.args.self.now.conn (state_in c.args.self.now) c.args.self.now.fate t c.in-Going.is h c.args.stream
    (state_of c.index.result.now) is.0 c.if-is_ended.ensures c.is_open.result c.is_open.ensures c.if-not-is_open.false

pub returns-in-None-clause-sends : goal.returns-in-None-clause-sends
returns-in-None-clause-sends g c = λ t h.
    let none = ap (λ (xs : List Call). position (λ (d : Call). d.stream == c.args.stream) xs) (sym c.as_slice.ensures.value) ∙ sym c.find_call.ensures ∙ c.in-None.is in
    no_call g.C.HttpConnection.stands g.C.HttpConnection.output c.args.self.now.conn (state_in c.args.self.now) c.args.self.now.fate t c.in-Going.is h c.args.stream
    (absent c.args.self.now.calls.items c.args.stream none)
