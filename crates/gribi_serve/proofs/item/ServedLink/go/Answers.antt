use Rattle.std.proofs.Common.{None, Some, refl}
use Rattle.server_turns.specs.declared.outcome.TurnEnd.TheVariants.{Progress, Idle, Over}
use Rattle.gribi_serve.proofs.Goes.{faults_of, first_of, keeps_by, serves_by}
use Rattle.gribi_serve.proofs.item.ServedLink.go.Goals as goal

pub returns-in-Progress-clause-keeps : goal.returns-in-Progress-clause-keeps
returns-in-Progress-clause-keeps g c =
    let x = c.args.self.now in
    keeps_by g.N.Naming.lock x.room.lock.now g.N.Naming.setting x.room.setting.now (g.K.ServedByTurns.stands x.conn) (g.K.ServedByTurns.stands c.turn.new.self) x.outcome x.outcome None
    (g.L.Link.pieces x.link) (g.L.Link.pieces c.turn.new.link) x.pass c.turn.new.pass x.room.lock_is x.room.setting_is c.requires.live c.requires.live
    (λ past a h last. (let k = c.in-Progress.ensures.serves past a h last in (k.0, k.1, k.2, k.3, k.4))) c.in-Progress.ensures.pass c.requires.keeps

pub returns-in-Progress-clause-goes : goal.returns-in-Progress-clause-goes
returns-in-Progress-clause-goes g c first h =
    let x = c.args.self.now in
    serves_by g.L.Link.pieces g.L.Link.faults g.N.Naming.lock x.room.lock.now g.N.Naming.setting x.room.setting.now (g.K.ServedByTurns.stands x.conn) (g.K.ServedByTurns.stands c.turn.new.self) x.outcome x.outcome None
    first x.link c.turn.new.link x.pass c.turn.new.pass x.room.lock_is x.room.setting_is c.requires.live c.requires.live
    (λ past a h last. (let k = c.in-Progress.ensures.serves past a h last in (k.0, k.1, k.2, k.3, k.4)))
    (faults_of Progress _ _ (first_of g.N.Naming.lock x.room.lock.now g.N.Naming.setting x.room.setting.now (g.K.ServedByTurns.stands x.conn) (g.K.ServedByTurns.stands c.turn.new.self) x.outcome x.outcome None
    (g.L.Link.pieces x.link) (g.L.Link.pieces c.turn.new.link) x.pass c.turn.new.pass x.room.setting_is c.requires.live c.requires.keeps c.in-Progress.ensures.fault)) h

pub returns-in-Idle-clause-keeps : goal.returns-in-Idle-clause-keeps
returns-in-Idle-clause-keeps g c =
    let x = c.args.self.now in
    keeps_by g.N.Naming.lock x.room.lock.now g.N.Naming.setting x.room.setting.now (g.K.ServedByTurns.stands x.conn) (g.K.ServedByTurns.stands c.turn.new.self) x.outcome x.outcome None
    (g.L.Link.pieces x.link) (g.L.Link.pieces c.turn.new.link) x.pass c.turn.new.pass x.room.lock_is x.room.setting_is c.requires.live c.requires.live
    (λ past a h last. (let k = c.in-Idle.ensures.serves past a h last in (k.0, k.1, k.2, k.3, k.4))) c.in-Idle.ensures.pass c.requires.keeps

pub returns-in-Idle-clause-goes : goal.returns-in-Idle-clause-goes
returns-in-Idle-clause-goes g c first h =
    let x = c.args.self.now in
    serves_by g.L.Link.pieces g.L.Link.faults g.N.Naming.lock x.room.lock.now g.N.Naming.setting x.room.setting.now (g.K.ServedByTurns.stands x.conn) (g.K.ServedByTurns.stands c.turn.new.self) x.outcome x.outcome None
    first x.link c.turn.new.link x.pass c.turn.new.pass x.room.lock_is x.room.setting_is c.requires.live c.requires.live
    (λ past a h last. (let k = c.in-Idle.ensures.serves past a h last in (k.0, k.1, k.2, k.3, k.4)))
    (faults_of Idle _ _ (first_of g.N.Naming.lock x.room.lock.now g.N.Naming.setting x.room.setting.now (g.K.ServedByTurns.stands x.conn) (g.K.ServedByTurns.stands c.turn.new.self) x.outcome x.outcome None
    (g.L.Link.pieces x.link) (g.L.Link.pieces c.turn.new.link) x.pass c.turn.new.pass x.room.setting_is c.requires.live c.requires.keeps c.in-Idle.ensures.fault)) h

pub returns-in-Over-clause-keeps : goal.returns-in-Over-clause-keeps
returns-in-Over-clause-keeps g c =
    let x = c.args.self.now in
    keeps_by g.N.Naming.lock x.room.lock.now g.N.Naming.setting x.room.setting.now (g.K.ServedByTurns.stands x.conn) (g.K.ServedByTurns.stands c.turn.new.self) x.outcome (Some c.in-Over.outcome) (Some c.in-Over.outcome)
    (g.L.Link.pieces x.link) (g.L.Link.pieces c.turn.new.link) x.pass c.turn.new.pass x.room.lock_is x.room.setting_is c.requires.live refl
    (λ past a h last. (let k = c.in-Over.ensures.serves past a h last in (k.0, k.1, k.2, k.3, k.4))) c.in-Over.ensures.pass c.requires.keeps

pub returns-in-Over-clause-goes : goal.returns-in-Over-clause-goes
returns-in-Over-clause-goes g c first h =
    let x = c.args.self.now in
    serves_by g.L.Link.pieces g.L.Link.faults g.N.Naming.lock x.room.lock.now g.N.Naming.setting x.room.setting.now (g.K.ServedByTurns.stands x.conn) (g.K.ServedByTurns.stands c.turn.new.self) x.outcome (Some c.in-Over.outcome) (Some c.in-Over.outcome)
    first x.link c.turn.new.link x.pass c.turn.new.pass x.room.lock_is x.room.setting_is c.requires.live refl
    (λ past a h last. (let k = c.in-Over.ensures.serves past a h last in (k.0, k.1, k.2, k.3, k.4)))
    (faults_of (Over c.in-Over.outcome) _ _ (first_of g.N.Naming.lock x.room.lock.now g.N.Naming.setting x.room.setting.now (g.K.ServedByTurns.stands x.conn) (g.K.ServedByTurns.stands c.turn.new.self) x.outcome (Some c.in-Over.outcome) (Some c.in-Over.outcome)
    (g.L.Link.pieces x.link) (g.L.Link.pieces c.turn.new.link) x.pass c.turn.new.pass x.room.setting_is c.requires.live c.requires.keeps c.in-Over.ensures.fault)) h
