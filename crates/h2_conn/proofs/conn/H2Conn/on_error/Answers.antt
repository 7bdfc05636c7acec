use Rattle.std.proofs.Common.{◌∷◌, [], ap, sym, subst, ◌∙◌}
use Rattle.h2_frames.specs.declared.frame.FrameBody.{FrameBody}
use Rattle.h2_exchange.specs.Events.{Reset}
use Rattle.h2_exchange.specs.Frames.{stream_of}
use Rattle.h2_conn.specs.Credit.{with_credit}
use Rattle.h2_conn.specs.Hears.{Taken}
use Rattle.h2_conn.specs.Receiving.{with_reset_of}
use Rattle.h2_conn.specs.State.{state_of}
use Rattle.h2_conn.proofs.LooseErrors.{error_taken}
use Rattle.h2_conn.proofs.conn.H2Conn.on_error.Goals as goal

pub returns-clause-took : goal.returns-clause-took
returns-clause-took c = λ d seen last h.
    let f = c.args.frame.now in
    subst (λ (b : FrameBody). Taken (state_of c.credit.new.self) d (Reset b.stream c.args.code ∷ [])) (sym c.body.ensures)
    (error_taken (state_of c.args.self.now) d f c.args.code seen last h c.requires.part (state_of c.credit.new.self)
    (c.credit.ensures.state ∙ ap (λ (b : FrameBody). with_credit b.stream (state_of c.put_error.new.self)) c.body.ensures
    ∙ ap (with_credit (stream_of f)) (c.put_error.ensures.state ∙ ap (λ (b : FrameBody). with_reset_of b.stream c.args.code (state_of c.pass.new.self)) c.body.ensures ∙ ap (with_reset_of (stream_of f) c.args.code) c.pass.ensures.state)))
