use Rattle.std.proofs.Common.{arith}
use Rattle.server_conn.proofs.Checked.{no_window}
use Rattle.server_conn.proofs.conn.ServerConn.check_windows.Goals as goal

pub returns-then-self-gt0-clause-goes : goal.returns-then-self-gt0-clause-goes
returns-then-self-gt0-clause-goes g c = λ s t actions pieces own rest works settled pumped whole. (
  tt,
  no_window g.K.CallConnection.stands g.K.CallConnection.output s c.args.self.now.calls c.args.self.now.engine c.args.self.now.refused t actions pieces own
      rest c.args.self.now.is_ended works settled c.args.self.now.waiting c.if-self.true pumped (omega (arith, c.if-self-gt0.true)) whole,
)
