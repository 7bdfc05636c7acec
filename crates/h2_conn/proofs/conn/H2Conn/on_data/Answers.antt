use Rattle.std.proofs.Common.{◌≡◌, ◌∷◌, [], ap, sym, subst, ◌∙◌}
use Rattle.h2_frames.specs.declared.frame.FrameBody.{FrameBody}
use Rattle.h2_exchange.specs.Blocks.{data_of}
use Rattle.h2_exchange.specs.Events.{Data}
use Rattle.h2_exchange.specs.Frames.{stream_of}
use Rattle.h2_conn.specs.Credit.{with_credit}
use Rattle.h2_conn.specs.Hears.{Taken}
use Rattle.h2_conn.specs.Receiving.{passed, with_heard, with_told}
use Rattle.h2_conn.specs.State.{state_of}
use Rattle.h2_conn.proofs.DataHeard.{dead_quiet, data_starves, live_taken}
use Rattle.h2_conn.proofs.Facts.{ok_holds, err_holds, not_true, not_false}
use Rattle.h2_conn.proofs.Loose.{data_is}
use Rattle.h2_conn.proofs.conn.H2Conn.on_data.Goals as goal

pub returns-then-is_err-clause-took : goal.returns-then-is_err-clause-took
returns-then-is_err-clause-took c = λ d l h.
    data_starves (state_of c.args.self.now) d c.args.frame.now c.args.seen l h c.requires.is_data (data_is c.args.frame.now c.requires.is_data) _
    (err_holds (state_of c.watch_data.new.self ≡ state_of c.args.self.now) _ c.watch_data.result c.is_err.ensures.value c.if-is_err.true c.watch_data.ensures.err)

pub returns-then-not-seen-clause-took : goal.returns-then-not-seen-clause-took
returns-then-not-seen-clause-took c = λ d l h.
    let s = state_of c.args.self.now in
    let f = c.args.frame.now in
    let ok = ok_holds (state_of c.watch_data.new.self ≡ with_heard c.args.seen.was_live f s) _ c.watch_data.result c.is_err.ensures.value c.if-is_err.false c.watch_data.ensures.ok in
    dead_quiet s d f c.args.seen l h c.requires.is_data (data_is f c.requires.is_data) (not_true c.args.seen.was_live c.if-not-seen.true) _
    (c.credit.ensures.state ∙ ap (λ (b : FrameBody). with_credit b.stream (state_of c.pass.new.self)) c.body.ensures
    ∙ ap (with_credit (stream_of f)) (c.pass.ensures.state ∙ ap (passed f) ok))

pub returns-clause-took : goal.returns-clause-took
returns-clause-took c = λ d l h.
    let s = state_of c.args.self.now in
    let f = c.args.frame.now in
    let ok = ok_holds (state_of c.watch_data.new.self ≡ with_heard c.args.seen.was_live f s) _ c.watch_data.result c.is_err.ensures.value c.if-is_err.false c.watch_data.ensures.ok in
    subst (λ (b : FrameBody). Taken (state_of c.tell_end.new.self) d (Data b.stream (data_of f) ∷ [])) (sym c.body.ensures)
    (live_taken s d f c.args.seen l h c.requires.is_data (data_is f c.requires.is_data) (not_false c.args.seen.was_live c.if-not-seen.false) _
    (c.tell_end.ensures.state ∙ ap (with_told c.args.seen.is_live f)
    (c.credit.ensures.state ∙ ap (λ (b : FrameBody). with_credit b.stream (state_of c.pass.new.self)) c.body.ensures
    ∙ ap (with_credit (stream_of f)) (c.pass.ensures.state ∙ ap (passed f) ok))))
