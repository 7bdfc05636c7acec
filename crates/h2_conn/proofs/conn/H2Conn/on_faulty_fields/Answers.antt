use Rattle.std.proofs.Common.{◌∷◌, [], Bool, ap, sym, subst, ◌∙◌, refl}
use Rattle.std.specs.Prelude.{Some, if◌then◌else◌}
use Rattle.h2_frames.specs.declared.frame.FrameBody.{FrameBody}
use Rattle.h2_exchange.specs.Events.{Reset}
use Rattle.h2_exchange.specs.Frames.{stream_of}
use Rattle.h2_streams.specs.Laws.{with_malformed}
use Rattle.h2_conn.specs.Hears.{Taken}
use Rattle.h2_conn.specs.Receiving.{with_reset_of}
use Rattle.h2_conn.specs.State.{state_of}
use Rattle.h2_conn.proofs.BlockHeard.{faulty_taken, longf}
use Rattle.h2_conn.proofs.conn.H2Conn.on_faulty_fields.Goals as goal

pub returns-then-is_long-clause-took : goal.returns-then-is_long-clause-took
returns-then-is_long-clause-took c = λ d r.
    let s = state_of c.args.self.now in
    longf s d c.args.frame.now c.args.fields.now c.args.code c.args.seen c.args.last r s refl (sym c.is_long.ensures ∙ c.if-is_long.true)

pub returns-clause-took : goal.returns-clause-took
returns-clause-took c = λ d r.
    let s = state_of c.args.self.now in
    let f = c.args.frame.now in
    subst (λ (b : FrameBody). Taken (state_of c.put_error.new.self) d (Reset b.stream c.code_by-why.result ∷ [])) (sym c.body.ensures)
    (faulty_taken s d f c.args.fields.now c.args.code c.args.seen c.args.last r (sym c.is_long.ensures ∙ c.if-is_long.false) c.code_by-why.result
    (c.code_by-why.ensures ∙ ap (λ (b : Bool). if b then with_malformed (Some c.args.code) else c.args.code) c.is_malformed.ensures) (state_of c.put_error.new.self)
    (c.put_error.ensures.state ∙ ap (λ (b : FrameBody). with_reset_of b.stream c.code_by-why.result (state_of c.pass.new.self)) c.body.ensures ∙ ap (with_reset_of (stream_of f) c.code_by-why.result) c.pass.ensures.state))
