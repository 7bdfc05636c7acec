use Rattle.std.proofs.Common.{◌≡◌, ℕ, List, drop, sym, ap, ◌∙◌}
use Rattle.h2_streams.specs.Stands as streams
use Rattle.h2_exchange.specs.Exchange.{Step, Received}
use Rattle.std.proofs.Common.{◌∷◌, ◌++◌, []}
use Rattle.h2_conn.specs.State.{state_of}
use Rattle.h2_conn.proofs.Facts.{if_ok}
use Rattle.h2_conn.proofs.Failing.{fails}
use Rattle.h2_conn.proofs.Halting.{starves}
use Rattle.h2_conn.proofs.Judged.{stands, sounds}
use Rattle.h2_conn.proofs.Reading.{last_waiting}
use Rattle.h2_conn.proofs.conn.H2Conn.take.Goals as goal

pub returns-then-is_err-clause-took : goal.returns-then-is_err-clause-took
returns-then-is_err-clause-took c = λ d w.
    let s = state_of c.args.self.now in
    starves s _ d c.args.frame.now w w.stands.role_is w.stands.limits_are w.stands.holding_is (ap (λ (l : List ℕ). drop c.args.self.now.start l) c.reserve.ensures.items)

pub returns-in-Ok-clause-took : goal.returns-in-Ok-clause-took
returns-in-Ok-clause-took c = λ d w.
    let s = state_of c.args.self.now in
    let f = c.args.frame.now in
    let on = stands s d f w in
    let seen = c.on_frame_seen-answer.ensures in
    let same : drop c.args.self.now.start _ ≡ drop c.args.self.now.start _ = ap (λ (l : List ℕ). drop c.args.self.now.start l) c.reserve.ensures.items in
    c.sound.ensures.took d
    (sounds s d f w c.on_frame_seen-answer.new.self _ c.on_frame_seen-answer.result.0 c.on_frame_seen-answer.result.1 c.last_begun-last.result same (seen.answer d.frames on) c.in-Ok.is
    (if_ok ((x : List Step) → streams.StandsFor s.set x → streams.StandsFor c.on_frame_seen-answer.new.self (x ++ Received f ∷ [])) c.on_frame_seen-answer.result.0 _ c.in-Ok.is seen.taken d.frames on) seen.kept seen.seen seen.live (last_waiting s d f w ∙ sym c.last_begun-last.ensures))

pub returns-in-Err-clause-took : goal.returns-in-Err-clause-took
returns-in-Err-clause-took c = λ d w.
    let s = state_of c.args.self.now in
    let f = c.args.frame.now in
    let on = stands s d f w in
    let seen = c.on_frame_seen-answer.ensures in
    c.on_fault.ensures.took d
    (fails s d f w c.on_frame_seen-answer.new.self _ c.on_frame_seen-answer.result.0 c.in-Err.fault c.on_frame_seen-answer.result.1 c.last_begun-last.result (ap (λ (l : List ℕ). drop c.args.self.now.start l) c.reserve.ensures.items) (seen.answer d.frames on)
    c.in-Err.is (λ id why e b k. seen.failed id why e d.frames b on k) seen.kept seen.seen (last_waiting s d f w ∙ sym c.last_begun-last.ensures))
