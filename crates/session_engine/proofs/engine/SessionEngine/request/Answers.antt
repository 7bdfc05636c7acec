use Rattle.std.proofs.Common.{ap, ◌∙◌}
use Rattle.std.specs.Option.{option_map}
use Rattle.session_engine.specs.declared.step.Step.{Step}
use Rattle.session_engine.specs.Queries.{OpenCallsView, call_on, open_session, receiving}
use Rattle.session_engine.specs.Stands.{items_in}
use Rattle.session_engine.proofs.Opening.{elsewhere_view, request_kept}
use Rattle.session_engine.proofs.engine.SessionEngine.request.Goals as goal

pub returns-in-Some-clause-spent : goal.returns-in-Some-clause-spent
returns-in-Some-clause-spent g c = rw (← c.as_slice-bytes.ensures) c.request_modify.ensures.spent

pub returns-in-None-clause-done : goal.returns-in-None-clause-done
returns-in-None-clause-done g c =
    request_kept g.M.Machine.lawful c.args.lock.now.setup c.args.setting.now c.args.pass.now c.args.self.now c.receive.new.self c.args.stream c.args.message c.new.result c.requires.sound
    (c.in-None.ensures ∙ ap (λ (l : OpenCallsView). open_session (call_on l c.args.stream)) c.self.view_is)
    (c.receive.ensures.received ∙ ap (λ (l : OpenCallsView). option_map (receiving c.args.message) (call_on l c.args.stream)) c.self.view_is)
    (elsewhere_view c.args.stream c.self.inside.calls c.args.self.now c.receive.new.self c.self.view_is c.receive.ensures.others)
    (ap items_in c.new.ensures) (ap (λ (x : Step). x.halted) c.new.ensures)
