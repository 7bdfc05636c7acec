use Rattle.server_conn.proofs.Served.{empty_is, served_by}
use Rattle.server_conn.proofs.conn.ServerConn.check_served.Goals as goal

pub returns-clause-goes : goal.returns-clause-goes
returns-clause-goes g c s t actions pieces own rest works settled whole answered =
    served_by g.K.CallConnection.stands g.K.CallConnection.output s c.args.self.now.calls c.args.self.now.engine c.args.self.now.refused t actions pieces own
    rest c.args.self.now.is_ended c.if-not-self.false
    (c.is_idle.ensures.0 c.if-not-is_idle.false)
    (empty_is c.out.result.now (g.K.CallConnection.output c.args.self.now.calls) c.is_empty.result c.if-not-is_empty.false c.is_empty.ensures c.out.ensures)
    works settled whole answered
