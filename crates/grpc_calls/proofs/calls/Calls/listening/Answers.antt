use Rattle.std.proofs.Common.{◌∙◌, ◌==◌, List, sym, ap}
use Rattle.std.specs.List.{position}
use Rattle.kept_calls.specs.declared.call.Call.{Call}
use Rattle.call_standing.proofs.Found.{absent, found}
use Rattle.call_telling.specs.Giving.{is_listening, listens}
use Rattle.grpc_calls.proofs.calls.Calls.listening.Goals as goal

pub returns-in-Open-clause-heard : goal.returns-in-Open-clause-heard
returns-in-Open-clause-heard g c =
    let at = ap (λ (xs : List Call). position (λ (d : Call). d.stream == c.args.stream) xs) (sym c.as_slice.ensures.value) ∙ sym c.find_call.ensures ∙ c.in-Some.is in
    let is = found c.args.self.now.calls.items c.args.stream c.in-Some.at c.index.result.now at c.index.ensures in
    sym (ap listens is.0 ∙ ap is_listening c.in-Open.is)

pub returns-in-Closed-clause-heard : goal.returns-in-Closed-clause-heard
returns-in-Closed-clause-heard g c =
    let at = ap (λ (xs : List Call). position (λ (d : Call). d.stream == c.args.stream) xs) (sym c.as_slice.ensures.value) ∙ sym c.find_call.ensures ∙ c.in-Some.is in
    let is = found c.args.self.now.calls.items c.args.stream c.in-Some.at c.index.result.now at c.index.ensures in
    sym (ap listens is.0 ∙ ap is_listening c.in-Closed.is)

pub returns-in-None-clause-heard : goal.returns-in-None-clause-heard
returns-in-None-clause-heard g c =
    let none = ap (λ (xs : List Call). position (λ (d : Call). d.stream == c.args.stream) xs) (sym c.as_slice.ensures.value) ∙ sym c.find_call.ensures ∙ c.in-None.is in
    sym (ap listens (absent c.args.self.now.calls.items c.args.stream none))
