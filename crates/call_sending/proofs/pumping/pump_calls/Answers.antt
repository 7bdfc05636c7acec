use Rattle.std.proofs.Common.{Bool, subst, refl, ◌∙◌}
use Rattle.kept_calls.specs.CallState.{states}
use Rattle.call_sending.specs.Pumping as pump
use Rattle.call_sending.specs.Pumping.{PumpsRound}
use Rattle.call_sending.proofs.Rounds.{leads_none, leads_on}
use Rattle.call_sending.proofs.Turning.{less_memory, round_went, still_alive}
use Rattle.call_sending.proofs.pumping.pump_calls.Goals as goal

pub rounds-init : goal.rounds-init
rounds-init g c = ((λ k h a. (k, h, a, leads_none k (states c.args.calls.now.items))), refl, refl)

pub rounds-smaller : goal.rounds-smaller
rounds-smaller g c = c.in-Ok-true.ensures.left.less c.in-Ok-true.field-0-test

pub rounds-preserved : goal.rounds-preserved
rounds-preserved g c = (
  (λ k h a.
      let m = c.rounds.invariant.0 k h a in
      let r = c.in-Ok-true.ensures.turns m.0 m.1 m.2 in (
        r.0,
        r.1,
        still_alive m.0 r.0 (round_went m.0 (states c.rounds.calls.items) c.in-Ok-true.field-0 (states c.pump_round.new.calls.items) r.0 r.2) m.2,
        leads_on k (states c.args.calls.now.items) m.0 (states c.rounds.calls.items) (states c.pump_round.new.calls.items) r.0 m.3
            (subst (λ (b : Bool). PumpsRound m.0 (states c.rounds.calls.items) b (states c.pump_round.new.calls.items) r.0) c.in-Ok-true.field-0-test r.2),
      )),
  c.pump_round.ensures.ahead ∙ c.rounds.invariant.1,
  c.pump_round.ensures.cutters ∙ c.rounds.invariant.2,
)

pub returns-in-Ok-false-clause-turns : goal.returns-in-Ok-false-clause-turns
returns-in-Ok-false-clause-turns g c = λ k h a.
    let m = c.rounds.invariant.0 k h a in
    let r = c.in-Ok-false.ensures.turns m.0 m.1 m.2 in (
      r.0,
      r.1,
      m.3.leads (states c.pump_round.new.calls.items) r.0 (pump.last m.0 r.0 (states c.rounds.calls.items) (states c.pump_round.new.calls.items)
          (subst (λ (b : Bool). PumpsRound m.0 (states c.rounds.calls.items) b (states c.pump_round.new.calls.items) r.0) c.in-Ok-false.field-0-test r.2)),
    )

pub returns-in-Err-clause-turns : goal.returns-in-Err-clause-turns
returns-in-Err-clause-turns g c = λ k h a.
    let m = c.rounds.invariant.0 k h a in
    less_memory g.C.HttpConnection.stands c.pump_round.new.conn k m.0 m.3.went (c.in-Err.ensures.turns m.0 m.1 m.2)
