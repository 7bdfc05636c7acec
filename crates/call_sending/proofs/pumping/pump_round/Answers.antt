use Rattle.std.proofs.Common.{◌≡◌, ℕ, ◌+◌, ◌<◌, ◌||◌, set, Bool, length, refl, sym, ap, subst, ◌∙◌, arith}
use Rattle.std.proofs.lemmas.List.{length-set}
use Rattle.kept_calls.specs.CallState.{state_of, states}
use Rattle.call_sending.specs.Pumping.{Lessens, left_in}
use Rattle.call_sending.proofs.Rounds.{HaveTurned, all_turned, as_many, cutters_kept, none_turned, one_more, seen, turn_lessens, turned_in, went_so_far}
use Rattle.call_sending.proofs.Turning.{call_went, less_memory, none_less, still_alive}
use Rattle.call_sending.proofs.pumping.pump_round.Goals as goal
use Rattle.call_sending.proofs.pumping.pump_round.Goals.{then-goes_on, else-goes_on}

pub calls-init : goal.calls-init
calls-init g c = (refl, (λ k h a. (k, h, a, none_turned k (states c.args.calls.now.items))), refl, refl, none_less (left_in (states c.args.calls.now.items)))

pub returns-in-Err-clause-turns : goal.returns-in-Err-clause-turns
returns-in-Err-clause-turns g c = λ k h a.
    let m = c.calls.invariant.1 k h a in
    less_memory g.C.HttpConnection.stands c.pump_call.new.conn k m.0 (went_so_far c.calls.at k (states c.args.calls.now.items) c.calls.goes_on (states c.calls.calls.items) m.0 m.3) (c.in-Err.ensures.turns m.0 m.1 m.2)

pub calls-preserved : goal.calls-preserved
calls-preserved g c =
    let i : ℕ = c.calls.at in
    let items = c.calls.calls.items in
    let within : i < length c.args.calls.now.items = omega (arith, c.calls-test.true, c.len-at-end.ensures) in
    let joined : (c.calls.goes_on || c.in-Ok.more) ≡ c.if-goes_on.goes_on =
    elim c.if-goes_on.branch [ then-goes_on w ↦ ap (λ (b : Bool). b || c.in-Ok.more) w.if-goes_on.true ∙ sym w.if-goes_on.true ∙ sym w.goes_on-is | else-goes_on w ↦ ap (λ (b : Bool). b || c.in-Ok.more) w.if-goes_on.false ∙ sym w.goes_on-is ] in (
      length-set items i c.pump_call.new.call ∙ c.calls.invariant.0,
      (λ k h a.
          let m = c.calls.invariant.1 k h a in
          let r = c.in-Ok.ensures.turns m.0 m.1 m.2 in
          let olds = states c.args.calls.now.items in
          let one = one_more i k olds c.calls.goes_on (states items) m.0 m.3 (state_of c.index_mut.result.now) (state_of c.pump_call.new.call) c.in-Ok.more r.0
          (omega (arith, within, as_many c.args.calls.now.items)) (seen items i c.index_mut.result.now (omega (arith, within, c.calls.invariant.0)) c.index_mut.ensures.value) r.2 in (
            r.0,
            r.1,
            still_alive m.0 r.0 (call_went m.0 (state_of c.index_mut.result.now) c.in-Ok.more (state_of c.pump_call.new.call) r.0 r.2) m.2,
            turned_in items i c.pump_call.new.call (i + 1) k olds c.if-goes_on.goes_on r.0
                (subst (λ (b : Bool). HaveTurned (i + 1) k olds b (set (states items) i (state_of c.pump_call.new.call)) r.0) joined one),
          )),
      c.pump_call.ensures.ahead ∙ c.calls.invariant.2,
      cutters_kept items i c.index_mut.result.now c.pump_call.new.call (omega (arith, within, c.calls.invariant.0)) c.index_mut.ensures.value c.pump_call.ensures.cutter ∙ c.calls.invariant.3,
      subst (λ (b : Bool). Lessens b (left_in (states c.args.calls.now.items)) (left_in (states (set items i c.pump_call.new.call)))) joined
          (turn_lessens items i c.index_mut.result.now c.pump_call.new.call c.calls.goes_on c.in-Ok.more (left_in (states c.args.calls.now.items)) (omega (arith, within, c.calls.invariant.0))
          c.index_mut.ensures.value c.calls.invariant.4 c.in-Ok.ensures.left),
    )

pub returns-clause-turns : goal.returns-clause-turns
returns-clause-turns g c = λ k h a.
    let m = c.calls.invariant.1 k h a in
    let olds = states c.args.calls.now.items in
    (m.0, m.1, all_turned c.calls.at k olds c.calls.goes_on (states c.calls.calls.items) m.0 m.3 (omega (arith, c.calls-test.false, c.len-at-end.ensures, as_many c.args.calls.now.items)))

pub returns-in-Err-clause-cutters : goal.returns-in-Err-clause-cutters
returns-in-Err-clause-cutters g c =
    let items = c.calls.calls.items in
    let within : c.calls.at < length items = omega (arith, c.calls-test.true, c.len-at-end.ensures, c.calls.invariant.0) in
    cutters_kept items c.calls.at c.index_mut.result.now c.pump_call.new.call within c.index_mut.ensures.value c.pump_call.ensures.cutter ∙ c.calls.invariant.3
