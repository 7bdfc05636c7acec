use Rattle.std.proofs.Common.{◌≡◌, Bool, true, false, refl, sym, subst}
use Rattle.compliance_client.specs.declared.conn.ClientConn.{ClientConn}
use Rattle.compliance_client.specs.Standing.{Past, StandsAs}
use Rattle.compliance_client.specs.Turns.{is_starved}
use Rattle.client_tests.proofs.SentStands.{sent_stands, works_of}
use Rattle.client_tests.proofs.judged.send_one.Goals as goal

pub returns : goal.returns
returns g c = by (is_starved c.args.client.now.over) refl
  where
    by : (b : Bool) → is_starved c.args.client.now.over ≡ b →
        (past : Past) × StandsAs g.K.CallConnection.stands c.args.n.now c.send.new.self.over c.send.new.self.calls c.send.new.self.kept.items c.send.new.self.tally past
    by true e = (
      c.requires.0,
      subst (λ (x : ClientConn g.row.K.Denot). StandsAs g.K.CallConnection.stands c.args.n.now x.over x.calls x.kept.items x.tally c.requires.0)
          (sym (c.send.ensures.starved e).1) c.requires.1,
    )
    by false e =
        let w = works_of g.K.CallConnection.stands c.args.n.now c.args.client.now.over c.args.client.now.calls c.args.client.now.kept.items
        c.args.client.now.tally c.requires.0 e c.requires.1 in
        sent_stands g.K.CallConnection.stands c.args.n.now c.args.line.now c.send.new.self.calls c.send.new.self.kept.items c.send.new.self.tally
        c.send.new.self.over c.requires.0 c.send.result (c.send.ensures.goes e c.requires.0 w).0
