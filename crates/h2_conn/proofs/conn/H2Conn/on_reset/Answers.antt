use Rattle.std.proofs.Common.{◌∷◌, [], ap, sym, subst, ◌∙◌}
use Rattle.h2_frames.specs.declared.frame.FrameBody.{FrameBody}
use Rattle.h2_frames.specs.declared.code.ErrorCode.{ErrorCode}
use Rattle.h2_exchange.specs.Events.{Reset}
use Rattle.h2_exchange.specs.Frames.{stream_of}
use Rattle.h2_conn.specs.Hears.{Taken}
use Rattle.h2_conn.specs.Receiving.{with_cut}
use Rattle.h2_conn.specs.State.{State, state_of}
use Rattle.h2_conn.specs.Watching.{cut_on}
use Rattle.h2_conn.proofs.Facts.{not_true, not_false}
use Rattle.h2_conn.proofs.Loose.{reset_is}
use Rattle.h2_conn.proofs.ResetHeard.{dead_quiet, reset_taken, reset_ends}
use Rattle.h2_conn.proofs.conn.H2Conn.on_reset.Goals as goal

pub returns-then-not-seen-clause-took : goal.returns-then-not-seen-clause-took
returns-then-not-seen-clause-took c = λ d h.
    dead_quiet (state_of c.args.self.now) d c.args.frame.now c.args.seen c.args.last h c.requires.is_reset (reset_is c.args.frame.now c.requires.is_reset) (not_true c.args.seen.was_live c.if-not-seen.true) _ c.pass.ensures.state

pub returns-then-take_cut-clause-took : goal.returns-then-take_cut-clause-took
returns-then-take_cut-clause-took c = λ d h.
    reset_ends (state_of c.args.self.now) d c.args.frame.now c.args.seen c.args.last h c.requires.is_reset (reset_is c.args.frame.now c.requires.is_reset) (not_false c.args.seen.was_live c.if-not-seen.false) (state_of c.take_cut.new.self)
    (c.take_cut.ensures.state ∙ ap (with_cut c.args.frame.now) c.pass.ensures.state)
    (ap (λ (s : State). (cut_on (stream_of c.args.frame.now) s.watch).is_passed) (sym c.pass.ensures.state) ∙ sym c.take_cut.ensures.passed ∙ c.if-take_cut.true)

pub returns-clause-took : goal.returns-clause-took
returns-clause-took c = λ d h.
    subst (λ (b : FrameBody). Taken (state_of c.take_cut.new.self) d (Reset b.stream c.code_of.result ∷ [])) (sym c.body.ensures)
    (subst (λ (why : ErrorCode). Taken (state_of c.take_cut.new.self) d (Reset (stream_of c.args.frame.now) why ∷ [])) (sym c.code_of.ensures)
    (reset_taken (state_of c.args.self.now) d c.args.frame.now c.args.seen c.args.last h c.requires.is_reset (reset_is c.args.frame.now c.requires.is_reset) (not_false c.args.seen.was_live c.if-not-seen.false) (state_of c.take_cut.new.self)
    (c.take_cut.ensures.state ∙ ap (with_cut c.args.frame.now) c.pass.ensures.state)
    (ap (λ (s : State). (cut_on (stream_of c.args.frame.now) s.watch).is_passed) (sym c.pass.ensures.state) ∙ sym c.take_cut.ensures.passed ∙ c.if-take_cut.false)))
