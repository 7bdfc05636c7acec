use Rattle.std.proofs.Common.{◌≡◌, ℕ, false, None, Some, refl, ◌∙◌, subst}
use Rattle.rig_io.specs.Fault.{HasCause, StaysUnless}
use Rattle.server_turns.specs.declared.outcome.TurnEnd.TheVariants.{Over}
use Rattle.server_turns.specs.Turning.{IsFault, MayFail, is_spent}
use Rattle.server_turns.proofs.Runs.{ran_more, ran_none, unfaulted}
use Rattle.server_turns.proofs.turns.serve_turns.Goals as goal

pub turns-init : goal.turns-init
turns-init g c = (
  tt,
  tt,
  c.requires.pass,
  refl,
  ran_none c.args.lock.now.setup (g.L.Link.pieces c.args.link.now) c.args.pass.now
      (λ past a. g.T.ServedByTurns.stands c.args.conn c.args.setting.now past a None) c.requires.sound c.requires.new,
)

pub turns-preserved-in-Progress : goal.turns-preserved-in-Progress
turns-preserved-in-Progress g c =
    (let was = c.turns.invariant.4 in (
      tt,
      tt,
      c.in-Progress.ensures.pass,
      unfaulted _ _ _ (λ failed. failed) (c.in-Progress.ensures.fault was.0 was.1 was.4).1 ∙ c.turns.invariant.3,
      ran_more c.args.lock.now.setup (g.L.Link.pieces c.args.link.now) (g.L.Link.pieces c.turns.link) (g.L.Link.pieces c.turn.new.link) false
          c.args.pass.now c.turns.pass c.turn.new.pass (λ past a. g.T.ServedByTurns.stands c.turns.conn c.args.setting.now past a None)
          (λ past a. g.T.ServedByTurns.stands c.turn.new.self c.args.setting.now past a None)
          (λ past before h last. (let k = c.in-Progress.ensures.serves past before h last in (k.0, k.1, k.2, k.3, k.4))) was,
    ))

pub turns-preserved : goal.turns-preserved
turns-preserved g c =
    (let was = c.turns.invariant.4 in (
      tt,
      tt,
      c.in-Idle.ensures.pass,
      unfaulted _ _ _ (λ failed. failed) (c.in-Idle.ensures.fault was.0 was.1 was.4).1 ∙ c.turns.invariant.3,
      ran_more c.args.lock.now.setup (g.L.Link.pieces c.args.link.now) (g.L.Link.pieces c.turns.link) (g.L.Link.pieces c.turn.new.link) false
          c.args.pass.now c.turns.pass c.turn.new.pass (λ past a. g.T.ServedByTurns.stands c.turns.conn c.args.setting.now past a None)
          (λ past a. g.T.ServedByTurns.stands c.turn.new.self c.args.setting.now past a None)
          (λ past before h last. (let k = c.in-Idle.ensures.serves past before h last in (k.0, k.1, k.2, k.3, k.4))) was,
    ))

pub returns-in-Over-clause-serves : goal.returns-in-Over-clause-serves
returns-in-Over-clause-serves g c =
    (let was = c.turns.invariant.4 in
    let k = ran_more c.args.lock.now.setup (g.L.Link.pieces c.args.link.now) (g.L.Link.pieces c.turns.link) (g.L.Link.pieces c.turn.new.link)
    (is_spent (Some c.in-Over.outcome)) c.args.pass.now c.turns.pass c.turn.new.pass (λ past a. g.T.ServedByTurns.stands c.turns.conn c.args.setting.now past a None)
    (λ past a. g.T.ServedByTurns.stands c.turn.new.self c.args.setting.now past a (Some c.in-Over.outcome))
    (λ past before h last. (let k = c.in-Over.ensures.serves past before h last in (k.0, k.1, k.2, k.3, k.4))) was in
    (k.0, k.1, k.2, k.3, g.met.T.ServedByTurns.serves c.turn.new.self c.args.setting.now k.0 k.1 (Some c.in-Over.outcome) k.4))

pub returns-in-Over-clause-fault : goal.returns-in-Over-clause-fault
returns-in-Over-clause-fault g c =
    (let was = c.turns.invariant.4 in
    subst (λ (n : ℕ). HasCause n (g.L.Link.faults c.turn.new.link) (IsFault (Over c.in-Over.outcome)) × StaysUnless n (g.L.Link.faults c.turn.new.link) (MayFail (Over c.in-Over.outcome)))
    c.turns.invariant.3 (c.in-Over.ensures.fault was.0 was.1 was.4))
