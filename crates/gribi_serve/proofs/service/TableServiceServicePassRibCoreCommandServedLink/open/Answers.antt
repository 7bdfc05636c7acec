use Rattle.std.proofs.Common.{None, refl}
use Rattle.gribi_serve.proofs.Goes.{may_begin, served_none}
use Rattle.gribi_serve.proofs.service.TableServiceServicePassRibCoreCommandServedLink.open.Goals as goal

pub returns-in-Ok-clause-keeps : goal.returns-in-Ok-clause-keeps
returns-in-Ok-clause-keeps g c =
    may_begin g.N.Naming.lock (λ past a. g.K.ServedByTurns.stands c.in-Ok.conn g.N.Naming.setting past a None) c.args.pass c.requires.0 c.requires.1 c.requires.2
    (c.in-Ok.ensures g.N.Naming.setting)

pub returns-in-Ok-clause-opened : goal.returns-in-Ok-clause-opened
returns-in-Ok-clause-opened g c = (
  (refl, refl),
  served_none g.L.Link.pieces g.L.Link.faults g.N.Naming.lock.setup c.args.link (λ past a. g.K.ServedByTurns.stands c.in-Ok.conn g.N.Naming.setting past a None) c.args.pass
      c.requires.1 c.requires.2 (c.in-Ok.ensures g.N.Naming.setting),
)
