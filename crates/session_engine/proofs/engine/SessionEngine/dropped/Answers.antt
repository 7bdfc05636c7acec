use Rattle.std.proofs.Common.{ap, ◌∙◌}
use Rattle.session_engine.specs.Queries.{OpenCallsView, call_on, session_in}
use Rattle.session_engine.proofs.Modifying.{if_err, session_is}
use Rattle.session_engine.proofs.Opening.{drop_spent, drops_session, drops_without, elsewhere_view}
use Rattle.session_engine.proofs.engine.SessionEngine.dropped.Goals as goal
use Rattle.session_engine.proofs.engine.SessionEngine.dropped.Goals.{in-Some+in_ok-leave, in_default}

pub returns-in_err-leave-clause-spent : goal.returns-in_err-leave-clause-spent
returns-in_err-leave-clause-spent g c = if_err c.from_residual.result _ (λ s call d.
    drop_spent g.M.Machine.lawful c.args.lock.now.setup s c.args.pass.now c.leave.new.pass c.args.self.now c.args.stream c.in-Some.session c.in-Some.field-0-1 call d
    (session_is (call_on c.args.self.now c.args.stream) c.in-Some.session c.in-Some.field-0-1 (c.in-Some.ensures ∙ ap (λ (l : OpenCallsView). session_in (call_on l c.args.stream)) c.self.view_is))
    c.in_err-leave.ensures.spent)

pub returns-clause-done : goal.returns-clause-done
returns-clause-done g c = λ s call d. elim c.match-session.branch [
  | in-Some+in_ok-leave w ↦ rw w.pass-is (drops_session g.M.Machine.lawful c.args.lock.now.setup s c.args.pass.now w.leave.new.pass c.args.self.now c.remove.new.self c.args.stream w.in-Some.session w.in-Some.field-0-1 call w.in_ok-leave.ensures.left.0 d
      (session_is (call_on c.args.self.now c.args.stream) w.in-Some.session w.in-Some.field-0-1 (w.in-Some.ensures ∙ ap (λ (l : OpenCallsView). session_in (call_on l c.args.stream)) c.self.view_is))
      w.in_ok-leave.ensures.left.1 c.remove.ensures.removed (elsewhere_view c.args.stream c.self.inside.calls c.args.self.now c.remove.new.self c.self.view_is c.remove.ensures.others))
  | in_default w ↦ rw w.pass-is (drops_without g.M.Machine.lawful c.args.lock.now.setup s c.args.pass.now c.args.self.now c.remove.new.self c.args.stream call c.requires.sound d
      (w.in_default.ensures ∙ ap (λ (l : OpenCallsView). session_in (call_on l c.args.stream)) c.self.view_is)
      c.remove.ensures.removed (elsewhere_view c.args.stream c.self.inside.calls c.args.self.now c.remove.new.self c.self.view_is c.remove.ensures.others))
]
