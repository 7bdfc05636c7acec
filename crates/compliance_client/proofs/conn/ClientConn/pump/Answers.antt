use Rattle.std.proofs.Common.{[], None, Some, refl}
use Rattle.compliance_client.specs.declared.over.ClientOver.TheVariants as over
use Rattle.compliance_client.proofs.Moving.{starved_got, turned_of, works_pumped}
use Rattle.compliance_client.proofs.conn.ClientConn.pump.Goals as goal

pub returns-in-Ok-clause-goes : goal.returns-in-Ok-clause-goes
returns-in-Ok-clause-goes g c = λ n past h.
    let k = c.in-Ok.ensures.ok past.trace h.used in
    turned_of g.K.CallConnection.stands n None c.pump.new.self c.args.self.now.kept.items c.args.self.now.tally past k.0 []
    (works_pumped g.K.CallConnection.stands n c.args.self.now.calls c.pump.new.self c.args.self.now.kept.items c.args.self.now.tally past k.0 h k.1 k.2) tt

pub returns-in-Err-clause-goes : goal.returns-in-Err-clause-goes
returns-in-Err-clause-goes g c = λ n past h.
    turned_of g.K.CallConnection.stands n (Some over.NoMemory) c.pump.new.self c.args.self.now.kept.items c.args.self.now.tally past past.trace []
    (starved_got g.K.CallConnection.stands n c.args.self.now.calls c.pump.new.self c.args.self.now.kept.items c.args.self.now.tally past [] h
    (c.in-Err.ensures.err past.trace h.used) refl) tt
