use Rattle.h2_exchange.proofs.Places.{clash}
use Rattle.server_conn.proofs.Checked.{cut_frame, open_call}
use Rattle.server_conn.proofs.conn.ServerConn.check_end.Goals as goal

pub returns-then-not-is_between-clause-goes : goal.returns-then-not-is_between-clause-goes
returns-then-not-is_between-clause-goes g c = λ s t actions pieces own rest works settled. (
  tt,
  cut_frame g.K.CallConnection.stands g.K.CallConnection.output s c.args.self.now.calls c.args.self.now.engine c.args.self.now.refused t actions pieces own
      rest c.args.self.now.is_ended works settled c.if-not-self.false
      (λ between. clash c.is_between.result ((c.is_between.ensures.between t works.used works.alive).1 between) c.if-not-is_between.true),
)

pub returns-then-is_some_asking-clause-goes : goal.returns-then-is_some_asking-clause-goes
returns-then-is_some_asking-clause-goes g c = λ s t actions pieces own rest works settled. (
  tt,
  open_call g.K.CallConnection.stands g.K.CallConnection.output s c.args.self.now.calls c.args.self.now.engine c.args.self.now.refused t actions pieces own
      rest c.args.self.now.is_ended works settled c.if-not-self.false
      ((c.is_between.ensures.between t works.used works.alive).0 c.if-not-is_between.false)
      (c.is_some_asking.ensures.asking c.if-is_some_asking.true),
)
