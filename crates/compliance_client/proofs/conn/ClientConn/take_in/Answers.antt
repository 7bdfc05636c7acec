use Rattle.std.proofs.Common.{◌≡◌, ◌↔◌, ◌<◌, [], None, Some, append-nil, length, refl, subst, true}
use Rattle.compliance_client.specs.Turns.{Turned, got}
use Rattle.compliance_client.proofs.Working.{past_in, turned_then}
use Rattle.compliance_client.proofs.conn.ClientConn.take_in.Goals as goal

pub returns-in-Err-hear_all-clause-goes : goal.returns-in-Err-hear_all-clause-goes
returns-in-Err-hear_all-clause-goes g c = λ past h.
    let k = c.in-Ok-true.ensures.goes c.args.n.now past h in
    let mid = past_in g.K.CallConnection.stands c.args.n.now None c.read.new.self.calls c.read.new.self.kept.items c.read.new.self.tally past (got k.0) k.3 in (
      k.0,
      k.1,
      k.2,
      subst (Turned g.K.CallConnection.stands c.args.n.now (Some c.in-Err-hear_all.over) c.hear_all.new.self.calls c.hear_all.new.self.kept.items
          c.hear_all.new.self.tally past) (append-nil (got k.0))
          (turned_then g.K.CallConnection.stands c.args.n.now (Some c.in-Err-hear_all.over) c.read.new.self.calls c.hear_all.new.self.calls
          c.read.new.self.kept.items c.hear_all.new.self.kept.items c.read.new.self.tally c.hear_all.new.self.tally past (got k.0) [] k.3
          (c.in-Err-hear_all.ensures.goes mid k.3.stands).1),
      tt,
    )

pub returns-in-Ok-clause-goes : goal.returns-in-Ok-clause-goes
returns-in-Ok-clause-goes g c = λ past h.
    let k = c.in-Ok-true.ensures.goes c.args.n.now past h in
    let mid = past_in g.K.CallConnection.stands c.args.n.now None c.read.new.self.calls c.read.new.self.kept.items c.read.new.self.tally past (got k.0) k.3 in
    let moves : c.in-Ok-true.field-0 ≡ true ↔ 0 < length k.0 = k.4 in (
      k.0,
      k.1,
      k.2,
      subst (Turned g.K.CallConnection.stands c.args.n.now None c.hear_all.new.self.calls c.hear_all.new.self.kept.items
          c.hear_all.new.self.tally past) (append-nil (got k.0))
          (turned_then g.K.CallConnection.stands c.args.n.now None c.read.new.self.calls c.hear_all.new.self.calls
          c.read.new.self.kept.items c.hear_all.new.self.kept.items c.read.new.self.tally c.hear_all.new.self.tally past (got k.0) [] k.3
          (c.in-Ok.ensures.goes mid k.3.stands).0.turned),
      (λ e. moves.0 c.in-Ok-true.field-0-test, λ some. refl),
    )
