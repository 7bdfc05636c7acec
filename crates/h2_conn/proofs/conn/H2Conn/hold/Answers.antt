use Rattle.std.proofs.Common.{Bool, false, true, sym, subst, ◌∙◌}
use Rattle.h2_conn.specs.Crediting.{Holds}
use Rattle.h2_conn.specs.State.{state_of}
use Rattle.h2_conn.proofs.Asking.{goes_on, some_why}
use Rattle.h2_conn.proofs.Releasing.{holds_back, holds_dead, holds_kept, holds_over}
use Rattle.h2_conn.proofs.conn.H2Conn.hold.Goals as goal

pub returns-then-hold-clause-ok : goal.returns-then-hold-clause-ok
returns-then-hold-clause-ok c = λ d h.
    subst (λ (b : Bool). Holds b d (record (state_of c.args.self.now) { is_holding = true })) (sym c.if-hold.true) (holds_back (state_of c.args.self.now) d h)

pub returns-then-not-self-clause-ok : goal.returns-then-not-self-clause-ok
returns-then-not-self-clause-ok c = λ d h.
    subst (λ (b : Bool). Holds b d (state_of c.args.self.now)) (sym c.if-hold.false) (holds_kept (state_of c.args.self.now) d h c.if-not-self.true)

pub returns-then-has_refused-clause-ok : goal.returns-then-has_refused-clause-ok
returns-then-has_refused-clause-ok c = λ d h.
    subst (λ (b : Bool). Holds b d (record (state_of c.args.self.now) { is_holding = false })) (sym c.if-hold.false)
    (holds_dead (state_of c.args.self.now) d h (some_why c.args.self.now.refusal ∙ sym c.has_refused.ensures ∙ c.if-has_refused.true))

pub returns-clause-ok : goal.returns-clause-ok
returns-clause-ok c = λ d h.
    subst (λ (b : Bool). Holds b d (record (state_of c.release.new.self) { is_holding = false })) (sym c.if-hold.false)
    (holds_over (state_of c.args.self.now) (state_of c.release.new.self) d h
    (goes_on (state_of c.args.self.now).refusal (some_why c.args.self.now.refusal ∙ sym c.has_refused.ensures ∙ c.if-has_refused.false))
    c.if-not-self.false (c.in_ok-release.ensures.ok d h))
