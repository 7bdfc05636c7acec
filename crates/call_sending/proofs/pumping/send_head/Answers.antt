use Rattle.std.proofs.Common.{Bool, true, false, refl, sym, subst}
use Rattle.grpc_heads.specs.Written.{response_fields}
use Rattle.kept_calls.specs.CallState.{state_of}
use Rattle.call_sending.specs.Pumping.{Heads}
use Rattle.call_sending.proofs.Turning.{block_sent, without_memory}
use Rattle.call_sending.proofs.pumping.send_head.Goals as goal

pub returns-then-call-clause-turns : goal.returns-then-call-clause-turns
returns-then-call-clause-turns g c = λ k h. (k, h, subst (λ (b : Bool). Heads b k (state_of c.args.call.now) (state_of c.args.call.now) k) (sym c.if-call.true) (refl, refl))

pub returns-in-Err-clause-turns : goal.returns-in-Err-clause-turns
returns-in-Err-clause-turns g c = λ k h. without_memory g.C.HttpConnection.stands c.args.conn.now k h

pub returns-in-Ok-send_head-clause-turns : goal.returns-in-Ok-send_head-clause-turns
returns-in-Ok-send_head-clause-turns g c = λ k h.
    let got = block_sent g.C.HttpConnection.stands c.send_head.new.self k c.args.call.now.stream false c.in-Ok.fields response_fields c.in-Ok.ensures (c.in-Ok-send_head.ensures.sends k h) (c.in-Ok-send_head.ensures.ok k h) in
    (got.0, got.1, subst (λ (b : Bool). Heads b k (state_of c.args.call.now) (record (state_of c.args.call.now) { has_head = true }) got.0) (sym c.if-call.false) (refl, got.2))

pub returns-clause-turns : goal.returns-clause-turns
returns-clause-turns g c = λ k h. without_memory g.C.HttpConnection.stands c.send_head.new.self k (c.in-Err-send_head.ensures.err k h)
