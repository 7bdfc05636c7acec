use Rattle.server_conn.proofs.Started.{new_stands}
use Rattle.server_conn.proofs.conn.ServerConn.new.Goals as goal

pub returns : goal.returns
returns g c = record {
  starts = λ s limits fit h. new_stands g.K.CallConnection.stands g.K.CallConnection.output s c.args.calls c.new.result limits g.met.K.CallConnection.sound
      c.new.ensures fit h;
}
