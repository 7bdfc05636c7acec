use Rattle.server_conn.proofs.CollectSteps.{due_when, none_due}
use Rattle.server_conn.proofs.conn.ServerConn.collect_all.Goals as goal

pub returns-then-not-self-clause-goes : goal.returns-then-not-self-clause-goes
returns-then-not-self-clause-goes g c = λ t actions pieces own rest works settled last. (
  none_due g.K.CallConnection.stands g.K.CallConnection.output c.args.setting.now c.args.lock.now.setup c.args.pass.now c.args.self.now.calls
      c.args.self.now.engine c.args.self.now.refused t actions pieces own c.args.self.now.may_wait c.args.self.now.may_wait c.if-not-self.true
      c.requires.sound works,
  tt,
)

pub returns-clause-goes : goal.returns-clause-goes
returns-clause-goes g c = λ t actions pieces own rest works settled last.
    due_when g.K.CallConnection.stands g.K.CallConnection.output c.args.setting.now c.args.lock.now.setup c.args.pass.now c.collect_each.new.pass
    c.collect_each.new.self.calls c.args.self.now.engine c.collect_each.new.self.engine c.collect_each.new.self.refused t pieces own
    c.args.self.now.may_wait c.collect_each.new.self.may_wait c.collect_each.result c.if-not-self.false
    (c.collect_each.ensures.goes t actions pieces own rest works settled last)
