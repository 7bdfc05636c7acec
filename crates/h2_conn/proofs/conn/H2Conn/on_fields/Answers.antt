use Rattle.std.proofs.Common.{◌≡◌, ◌∷◌, [], ap, sym, subst, ◌∙◌, refl}
use Rattle.h2_frames.specs.declared.frame.FrameBody.{FrameBody}
use Rattle.h2_frames.specs.declared.code.TheConstants.ErrorCode as code
use Rattle.h2_exchange.specs.declared.role.Role.{Role}
use Rattle.h2_exchange.specs.Events.{Reset}
use Rattle.h2_conn.specs.declared.heard.Took.{Took}
use Rattle.h2_conn.specs.HeaderParts.{block_tells, is_long, is_malformed_by, with_block}
use Rattle.h2_conn.specs.Hears.{Taken, TookSo}
use Rattle.h2_conn.specs.State.{State, state_of}
use Rattle.h2_conn.proofs.BlockHeard.{dead_block, live_block, long, malformed_taken, seen_at, starves_here}
use Rattle.h2_conn.proofs.Facts.{err_holds, ok_holds}
use Rattle.h2_conn.proofs.conn.H2Conn.on_fields.Goals as goal

pub returns-then-is_long-clause-took : goal.returns-then-is_long-clause-took
returns-then-is_long-clause-took c = λ d r.
    let s = state_of c.args.self.now in
    long s d c.args.frame.now c.args.fields c.args.ends c.args.seen c.args.last r s refl (sym (c.is_long.ensures ∙ ap (is_long s.limits.list) c.as_slice.ensures) ∙ c.if-is_long.true)

pub returns-then-not-is_on_stream-clause-took : goal.returns-then-not-is_on_stream-clause-took
returns-then-not-is_on_stream-clause-took c = λ d r.
    let s = state_of c.args.self.now in
    dead_block s d c.args.frame.now c.args.fields c.args.ends c.args.seen c.args.last r (sym (c.is_long.ensures ∙ ap (is_long s.limits.list) c.as_slice.ensures) ∙ c.if-is_long.false)
    (sym (c.is_on_stream.ensures ∙ seen_at s d c.args.frame.now c.args.fields c.args.ends c.args.seen c.args.last r) ∙ c.if-not-is_on_stream.true) _ c.pass.ensures.state

pub returns-then-is_malformed-clause-took : goal.returns-then-is_malformed-clause-took
returns-then-is_malformed-clause-took c = λ d r.
    let s = state_of c.args.self.now in
    subst (λ (b : FrameBody). Taken (state_of c.drop_malformed.new.self) d (Reset b.stream code.PROTOCOL_ERROR ∷ [])) (sym c.body.ensures)
    (malformed_taken s d c.args.frame.now c.args.fields c.args.ends c.args.seen c.args.last r (sym (c.is_long.ensures ∙ ap (is_long s.limits.list) c.as_slice.ensures) ∙ c.if-is_long.false)
    (sym (c.is_on_stream.ensures ∙ seen_at s d c.args.frame.now c.args.fields c.args.ends c.args.seen c.args.last r) ∙ c.if-not-is_on_stream.false)
    (sym (c.is_malformed.ensures ∙ ap (is_malformed_by s.role c.args.seen.had_head) c.as_slice-2.ensures) ∙ c.if-is_malformed.true) (state_of c.drop_malformed.new.self) c.drop_malformed.ensures.state)

pub returns-then-is_err-clause-took : goal.returns-then-is_err-clause-took
returns-then-is_err-clause-took c = λ d r.
    starves_here (state_of c.args.self.now) d c.args.frame.now c.args.fields c.args.ends c.args.seen c.args.last r _
    (err_holds (state_of c.end_block.new.self ≡ state_of c.args.self.now) _ c.end_block.result c.is_err.ensures.value c.if-is_err.true c.end_block.ensures.err)

pub returns-clause-took : goal.returns-clause-took
returns-clause-took c = λ d r.
    let s = state_of c.args.self.now in
    let f = c.args.frame.now in
    let t = state_of c.end_block.new.self in
    let ok = ok_holds (t ≡ with_block c.args.ends c.args.seen.is_live f s) _ c.end_block.result c.is_err.ensures.value c.if-is_err.false c.end_block.ensures.ok in
    let got = live_block s d f c.args.fields c.args.ends c.args.seen c.args.last r (sym (c.is_long.ensures ∙ ap (is_long s.limits.list) c.as_slice.ensures) ∙ c.if-is_long.false)
    (sym (c.is_on_stream.ensures ∙ seen_at s d f c.args.fields c.args.ends c.args.seen c.args.last r) ∙ c.if-not-is_on_stream.false)
    (sym (c.is_malformed.ensures ∙ ap (is_malformed_by s.role c.args.seen.had_head) c.as_slice-2.ensures) ∙ c.if-is_malformed.false) t ok in
    let role : c.end_block.new.self.role ≡ s.role = ap (λ (q : State). q.role) ok in
    subst (λ (x : Took). TookSo d f x t)
    (sym (c.block_tells.ensures ∙ ap (λ (q : Role). block_tells q c.args.seen.had_head c.body.result.now.stream c.args.fields c.args.ends) role
    ∙ ap (λ (b : FrameBody). block_tells s.role c.args.seen.had_head b.stream c.args.fields c.args.ends) c.body.ensures)) got
