use Rattle.std.proofs.Common.{sym, ap, ◌∙◌, arith, [], ◌∷◌}
use Rattle.h2_exchange.specs.Events as event
use Rattle.h2_exchange.specs.declared.limits.CalmCause.TheVariants.{Resets}
use Rattle.h2_conn.specs.declared.heard.End.TheVariants as by
use Rattle.h2_conn.specs.Hears.{IsOpen}
use Rattle.h2_conn.specs.State.{state_of, refusal_by}
use Rattle.h2_conn.proofs.Listening.{gives, goes_on, waits, ends, calms, none_left, lives, lives_so, more}
use Rattle.h2_conn.proofs.Reading.{passed, stays, unrefused}
use Rattle.h2_conn.proofs.conn.H2Conn.listen.Goals as goal

pub frames-init : goal.frames-init
frames-init c = record { held = omega arith; goes = λ d h. (d, h, stays d (unrefused (state_of c.args.self.now) d h (ap refusal_by c.requires.alive) c.requires.none), c.requires.none) }

pub frames-preserved : goal.frames-preserved
frames-preserved c =
    let i = c.frames.invariant in
    record {
      held = omega (arith, i.held, c.in-Quiet.ensures.shorter);
      goes = λ d h.
          let m = i.goes d h in
          let opened : IsOpen c.frames.self m.0 = record { alive = lives_so c.frames.self.refusal (lives (state_of c.frames.self) d m.0 m.1 m.2); none = m.3; unpassed = sym c.is_passed.ensures ∙ c.if-is_passed.false } in
          more (state_of c.hear.new.self) d m.0 (λ es e k. goes_on (state_of c.frames.self) d m.0 m.1 m.3 (sym c.is_passed.ensures ∙ c.if-is_passed.false) m.2 e es k) (c.in-Quiet.ensures.heard m.0 m.1 opened);
    }

pub returns-then-is_passed-clause-answers : goal.returns-then-is_passed-clause-answers
returns-then-is_passed-clause-answers c = λ d h.
    let i = c.frames.invariant in
    let m = i.goes d h in
    let p = passed (state_of c.frames.self) m.0 m.1 (lives (state_of c.frames.self) d m.0 m.1 m.2) m.3 (sym c.is_passed.ensures ∙ c.if-is_passed.true) in
    calms (state_of c.frames.self) (state_of c.stop.new.self) d m.0 (by.Calm Resets) _ _ c.stop.result c.last_begun-last.ensures m.2 p c.stop.ensures.stops

pub returns-in-NeedMore-clause-answers : goal.returns-in-NeedMore-clause-answers
returns-in-NeedMore-clause-answers c = λ d h.
    let i = c.frames.invariant in
    let m = i.goes d h in
    waits (state_of c.frames.self) d m.0 m.1 m.3 (sym c.is_passed.ensures ∙ c.if-is_passed.false) m.2 (state_of c.hear.new.self) (c.in-NeedMore.ensures.heard m.0 m.1 (record { alive = lives_so c.frames.self.refusal (lives (state_of c.frames.self) d m.0 m.1 m.2); none = m.3; unpassed = sym c.is_passed.ensures ∙ c.if-is_passed.false }))

pub returns-in-Piece-clause-answers : goal.returns-in-Piece-clause-answers
returns-in-Piece-clause-answers c = λ d h.
    let i = c.frames.invariant in
    let m = i.goes d h in
    gives (state_of c.frames.self) d m.0 m.1 m.3 (sym c.is_passed.ensures ∙ c.if-is_passed.false) m.2 (state_of c.hear.new.self) (event.Data c.in-Piece.stream c.in-Piece.bytes ∷ []) (c.in-Piece.ensures.heard m.0 m.1 (record { alive = lives_so c.frames.self.refusal (lives (state_of c.frames.self) d m.0 m.1 m.2); none = m.3; unpassed = sym c.is_passed.ensures ∙ c.if-is_passed.false }))

pub returns-in-Head-clause-answers : goal.returns-in-Head-clause-answers
returns-in-Head-clause-answers c = λ d h.
    let i = c.frames.invariant in
    let m = i.goes d h in
    gives (state_of c.frames.self) d m.0 m.1 m.3 (sym c.is_passed.ensures ∙ c.if-is_passed.false) m.2 (state_of c.hear.new.self) (event.Head c.in-Head.stream c.in-Head.fields c.in-Head.last ∷ []) (c.in-Head.ensures.heard m.0 m.1 (record { alive = lives_so c.frames.self.refusal (lives (state_of c.frames.self) d m.0 m.1 m.2); none = m.3; unpassed = sym c.is_passed.ensures ∙ c.if-is_passed.false }))

pub returns-in-Ended-clause-answers : goal.returns-in-Ended-clause-answers
returns-in-Ended-clause-answers c = λ d h.
    let i = c.frames.invariant in
    let m = i.goes d h in
    gives (state_of c.frames.self) d m.0 m.1 m.3 (sym c.is_passed.ensures ∙ c.if-is_passed.false) m.2 (state_of c.hear.new.self) (event.Ended c.in-Ended.stream ∷ []) (c.in-Ended.ensures.heard m.0 m.1 (record { alive = lives_so c.frames.self.refusal (lives (state_of c.frames.self) d m.0 m.1 m.2); none = m.3; unpassed = sym c.is_passed.ensures ∙ c.if-is_passed.false }))

pub returns-in-Reset-clause-answers : goal.returns-in-Reset-clause-answers
returns-in-Reset-clause-answers c = λ d h.
    let i = c.frames.invariant in
    let m = i.goes d h in
    gives (state_of c.frames.self) d m.0 m.1 m.3 (sym c.is_passed.ensures ∙ c.if-is_passed.false) m.2 (state_of c.hear.new.self) (event.Reset c.in-Reset.stream c.in-Reset.code ∷ []) (c.in-Reset.ensures.heard m.0 m.1 (record { alive = lives_so c.frames.self.refusal (lives (state_of c.frames.self) d m.0 m.1 m.2); none = m.3; unpassed = sym c.is_passed.ensures ∙ c.if-is_passed.false }))

pub returns-in-GoneAway-clause-answers : goal.returns-in-GoneAway-clause-answers
returns-in-GoneAway-clause-answers c = λ d h.
    let i = c.frames.invariant in
    let m = i.goes d h in
    gives (state_of c.frames.self) d m.0 m.1 m.3 (sym c.is_passed.ensures ∙ c.if-is_passed.false) m.2 (state_of c.hear.new.self) (event.GoneAway c.in-GoneAway.stream c.in-GoneAway.code ∷ []) (c.in-GoneAway.ensures.heard m.0 m.1 (record { alive = lives_so c.frames.self.refusal (lives (state_of c.frames.self) d m.0 m.1 m.2); none = m.3; unpassed = sym c.is_passed.ensures ∙ c.if-is_passed.false }))

pub returns-in-Stopped-clause-answers : goal.returns-in-Stopped-clause-answers
returns-in-Stopped-clause-answers c = λ d h.
    let i = c.frames.invariant in
    let m = i.goes d h in
    ends (state_of c.frames.self) d m.0 m.1 m.3 (sym c.is_passed.ensures ∙ c.if-is_passed.false) m.2 (state_of c.hear.new.self) (state_of c.stop-in-Stopped.new.self) c.in-Stopped.end c.in-Stopped.last c.stop-in-Stopped.result (c.in-Stopped.ensures.heard m.0 m.1 (record { alive = lives_so c.frames.self.refusal (lives (state_of c.frames.self) d m.0 m.1 m.2); none = m.3; unpassed = sym c.is_passed.ensures ∙ c.if-is_passed.false })) c.stop-in-Stopped.ensures.stops

pub returns-in-NoMemory-clause-answers : goal.returns-in-NoMemory-clause-answers
returns-in-NoMemory-clause-answers c = λ d h.
    let i = c.frames.invariant in
    let m = i.goes d h in
    none_left (state_of c.hear.new.self) (state_of c.run_out.new.self) d m.0 c.run_out.result m.2 (c.in-NoMemory.ensures.heard m.0 m.1 (record { alive = lives_so c.frames.self.refusal (lives (state_of c.frames.self) d m.0 m.1 m.2); none = m.3; unpassed = sym c.is_passed.ensures ∙ c.if-is_passed.false })) c.run_out.ensures.answer c.run_out.ensures.state
