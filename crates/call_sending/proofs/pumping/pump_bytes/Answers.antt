use Rattle.std.proofs.Common.{Bool, true, false, refl, sym, ap, subst, inl, inr, length}
use Rattle.kept_calls.specs.CallState.{state_of}
use Rattle.call_sending.specs.Pumping as pump
use Rattle.call_sending.specs.Pumping.{Lessens, Pieces}
use Rattle.call_sending.proofs.Turning.{less_memory, pieces_went, some_of, stays_less, zero_of}
use Rattle.call_sending.proofs.pumping.pump_bytes.Goals as goal

pub returns-then-goes_on-clause-turns : goal.returns-then-goes_on-clause-turns
returns-then-goes_on-clause-turns g c = λ k h.
    let r = c.in-Ok.ensures.turns k h in
    (r.0, r.1, pump.piece _ r.0 true (subst (λ (b : Bool). Pieces k (state_of c.args.call.now) b (state_of c.send_bytes.new.call) r.0) c.if-goes_on.true r.2) (inl refl))

pub returns-then-not-has_sent_all-clause-turns : goal.returns-then-not-has_sent_all-clause-turns
returns-then-not-has_sent_all-clause-turns g c = λ k h.
    let r = c.in-Ok.ensures.turns k h in
    (r.0, r.1, pump.piece _ r.0 false (subst (λ (b : Bool). Pieces k (state_of c.args.call.now) b (state_of c.send_bytes.new.call) r.0) c.if-goes_on.false r.2) (inr (some_of _ (sym c.if-not-has_sent_all.ensures))))

pub returns-in-Ok-send_end-clause-turns : goal.returns-in-Ok-send_end-clause-turns
returns-in-Ok-send_end-clause-turns g c = λ k h.
    let r = c.in-Ok.ensures.turns k h in
    let s = c.in-Ok-send_end.ensures.turns r.0 r.1 in
    (s.0, s.1, pump.whole (state_of c.send_bytes.new.call) _ r.0 s.0 (subst (λ (b : Bool). Pieces k (state_of c.args.call.now) b (state_of c.send_bytes.new.call) r.0) c.if-goes_on.false r.2) (zero_of _ (sym c.if-not-has_sent_all.ensures)) s.2)

pub returns-in-Err-send_end-clause-turns : goal.returns-in-Err-send_end-clause-turns
returns-in-Err-send_end-clause-turns g c = λ k h.
    let r = c.in-Ok.ensures.turns k h in
    less_memory g.C.HttpConnection.stands c.send_end.new.conn k r.0 (pieces_went k (state_of c.args.call.now) c.in-Ok.goes_on (state_of c.send_bytes.new.call) r.0 r.2) (c.in-Err-send_end.ensures.turns r.0 r.1)

pub returns-then-goes_on-clause-left : goal.returns-then-goes_on-clause-left
returns-then-goes_on-clause-left g c =
    subst (λ (b : Bool). Lessens b (length c.args.call.now.unsent.items) (length c.send_bytes.new.call.unsent.items)) c.if-goes_on.true c.in-Ok.ensures.left

pub returns-then-not-has_sent_all-clause-left : goal.returns-then-not-has_sent_all-clause-left
returns-then-not-has_sent_all-clause-left g c =
    subst (λ (b : Bool). Lessens b (length c.args.call.now.unsent.items) (length c.send_bytes.new.call.unsent.items)) c.if-goes_on.false c.in-Ok.ensures.left

pub returns-in-Ok-send_end-clause-left : goal.returns-in-Ok-send_end-clause-left
returns-in-Ok-send_end-clause-left g c =
    stays_less c.in-Ok.goes_on _ (length c.send_bytes.new.call.unsent.items) (length c.send_end.new.call.unsent.items) c.in-Ok.ensures.left (ap length c.send_end.ensures.left)
