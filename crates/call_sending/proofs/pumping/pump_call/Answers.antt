use Rattle.std.proofs.Common.{List, ℕ, refl, sym, ap, subst, length}
use Rattle.std.specs.Prelude.{IfOk}
use Rattle.kept_calls.specs.CallState.{state_of}
use Rattle.call_sending.specs.Pumping as pump
use Rattle.call_sending.specs.Pumping.{Lessens}
use Rattle.call_sending.proofs.Turning.{behind_head, none_less, some_of, stays_less, zero_of}
use Rattle.call_sending.proofs.pumping.pump_call.Goals as goal

pub returns-then-not-may_send-clause-turns : goal.returns-then-not-may_send-clause-turns
returns-then-not-may_send-clause-turns g c = λ k h a. (k, h, c.if-not-may_send.ensures.idle refl k h a)

pub returns-in-Ok-clause-turns : goal.returns-in-Ok-clause-turns
returns-in-Ok-clause-turns g c = λ k h a.
    let r = c.in-Ok.ensures.turns k h in
    (r.0, r.1, pump.close _ r.0 (c.if-not-may_send.ensures.open refl k h a) (zero_of _ (sym c.if-has_sent_all.ensures)) r.2)

pub returns-in-Ok-send_head-clause-turns : goal.returns-in-Ok-send_head-clause-turns
returns-in-Ok-send_head-clause-turns g c = λ k h a.
    let r = c.in-Ok-send_head.ensures.turns k h in
    behind_head g.C.HttpConnection.stands c.pump_bytes.new.conn c.pump_bytes.result k r.0 (state_of c.args.call.now) (state_of c.send_head.new.call) (state_of c.pump_bytes.new.call)
    (c.if-not-may_send.ensures.open refl k h a) (some_of _ (sym c.if-has_sent_all.ensures)) r.2 (c.pump_bytes.ensures.turns r.0 r.1)

pub returns-in-Err-clause-turns : goal.returns-in-Err-clause-turns
returns-in-Err-clause-turns g c = λ k h a. c.in-Err.ensures.turns k h

pub returns-in-Err-send_head-clause-turns : goal.returns-in-Err-send_head-clause-turns
returns-in-Err-send_head-clause-turns g c = λ k h a. c.in-Err-send_head.ensures.turns k h

pub returns-then-not-may_send-clause-left : goal.returns-then-not-may_send-clause-left
returns-then-not-may_send-clause-left g c = none_less (length c.args.call.now.unsent.items)

pub returns-in-Ok-clause-left : goal.returns-in-Ok-clause-left
returns-in-Ok-clause-left g c =
    let n = length c.args.call.now.unsent.items in
    stays_less _ n n (length c.send_end.new.call.unsent.items) (none_less n) (ap length c.send_end.ensures.left)

pub returns-in-Ok-send_head-clause-left : goal.returns-in-Ok-send_head-clause-left
returns-in-Ok-send_head-clause-left g c =
    subst (λ (u : List ℕ). IfOk c.pump_bytes.result (λ goes_on. Lessens goes_on (length u) (length c.pump_bytes.new.call.unsent.items))) c.send_head.ensures.left c.pump_bytes.ensures.left
