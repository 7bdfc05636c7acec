use Rattle.compliance_client.proofs.Moving.{stands_client}
use Rattle.compliance_client.proofs.conn.ClientConn.send.Goals as goal

pub carry_out-requires : goal.carry_out-requires
carry_out-requires g c = record {
  client = stands_client g.K.CallConnection.stands c.args.n.now c.args.self.now.over c.args.self.now.calls c.args.self.now.kept.items c.args.self.now.tally
      c.requires.stands.0 c.requires.stands.1;
}
