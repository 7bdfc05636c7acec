use Rattle.std.proofs.Common.{◌++◌, ◌∙◌, Ok, ap, refl, subst}
use Rattle.server_conn.specs.Steps.{IsHeard}
use Rattle.server_conn.specs.declared.conn.ServerConn.{ServerConn}
use Rattle.server_conn.proofs.Grown.{made_more}
use Rattle.server_conn.proofs.Tellings.{goes_none, goes_then, heard_then, stops_then}
use Rattle.server_conn.proofs.conn.ServerConn.hear_all.Goals as goal

pub events-init : goal.events-init
events-init g c = (
  c.requires.pass,
  c.requires.sound,
  refl,
  λ t actions pieces own h last. goes_none g.K.CallConnection.stands g.K.CallConnection.output c.args.setting.now c.args.lock.now.setup c.args.pass.now
      c.args.self.now.calls c.args.self.now.engine c.args.self.now.refused t actions pieces own c.requires.sound h,
)

pub returns-in-Err-clause-goes : goal.returns-in-Err-clause-goes
returns-in-Err-clause-goes g c = λ t actions pieces own h last.
    (let m = c.events.invariant.3 t actions pieces own h last in
    let k = c.in-Err.ensures.goes m.trace m.actions pieces (own ++ m.did) m.works
    (made_more c.args.lock.now.setup c.args.pass.now c.events.pass own m.did last m.made) in (
      tt,
      stops_then g.K.CallConnection.stands g.K.CallConnection.output c.args.setting.now c.args.lock.now.setup c.args.pass.now c.events.pass
          c.hear.new.pass c.events.self.calls c.hear.new.self.calls c.events.self.engine c.hear.new.self.engine c.events.self.refused
          c.hear.new.self.refused t pieces own m c.hear.new.self.is_ended _ k.1,
    ))

pub returns-in-Ok-All-clause-goes : goal.returns-in-Ok-All-clause-goes
returns-in-Ok-All-clause-goes g c = λ t actions pieces own h last.
    (let m = c.events.invariant.3 t actions pieces own h last in
    let k = c.in-Ok-All.ensures.goes m.trace m.actions pieces (own ++ m.did) m.works
    (made_more c.args.lock.now.setup c.args.pass.now c.events.pass own m.did last m.made) in (
      heard_then g.K.CallConnection.stands g.K.CallConnection.output c.args.setting.now c.args.lock.now.setup c.args.pass.now c.events.pass
          c.hear.new.pass c.events.self.calls c.hear.new.self.calls c.events.self.engine c.hear.new.self.engine c.events.self.refused
          c.hear.new.self.refused t pieces own m
          (subst (IsHeard g.K.CallConnection.stands g.K.CallConnection.output c.args.setting.now c.args.lock.now.setup c.events.pass
          c.hear.new.pass c.hear.new.self.calls c.hear.new.self.engine c.hear.new.self.refused m.trace pieces (own ++ m.did)) c.in-Ok-All.field-0-is k.0),
      tt,
    ))

pub events-preserved : goal.events-preserved
events-preserved g c = (
  c.hear.ensures.pass,
  c.hear.ensures.sound,
  c.hear.ensures.same ∙ ap (λ (x : ServerConn g.row.K.Denot).
      record x { calls = c.hear.new.self.calls; engine = c.hear.new.self.engine; refused = c.hear.new.self.refused })
      c.events.invariant.2,
  λ t actions pieces own h last.
      let m = c.events.invariant.3 t actions pieces own h last in
      let k = c.in-Ok-Event.ensures.goes m.trace m.actions pieces (own ++ m.did) m.works
      (made_more c.args.lock.now.setup c.args.pass.now c.events.pass own m.did last m.made) in
      goes_then g.K.CallConnection.stands g.K.CallConnection.output c.args.setting.now c.args.lock.now.setup c.args.pass.now c.events.pass
      c.hear.new.pass c.events.self.calls c.hear.new.self.calls c.events.self.engine c.hear.new.self.engine c.events.self.refused
      c.hear.new.self.refused t pieces own m
      (subst (IsHeard g.K.CallConnection.stands g.K.CallConnection.output c.args.setting.now c.args.lock.now.setup c.events.pass
      c.hear.new.pass c.hear.new.self.calls c.hear.new.self.engine c.hear.new.self.refused m.trace pieces (own ++ m.did)) c.in-Ok-Event.field-0-is k.0),
)

pub events-smaller : goal.events-smaller
events-smaller g c = c.in-Ok-Event.ensures.ahead (ap Ok c.in-Ok-Event.field-0-is)
