use Rattle.gribi_serve.proofs.Goes.{served_all}
use Rattle.gribi_serve.proofs.service.TableServiceServicePassRibCoreCommandServedLink.close.Goals as goal

pub returns-clause-served : goal.returns-clause-served
returns-clause-served g c first h =
    served_all g.L.Link.pieces g.L.Link.faults g.N.Naming.lock.setup first g.N.Naming.setting (g.K.ServedByTurns.stands c.args.made.conn g.N.Naming.setting)
    c.args.made.outcome c.requires.ends.0 c.args.made.link c.args.made.pass c.ended_by-end.result (g.met.K.ServedByTurns.serves c.args.made.conn g.N.Naming.setting)
    c.requires.ends.1 c.ended_by-end.ensures h
