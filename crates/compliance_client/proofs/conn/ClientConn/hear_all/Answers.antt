use Rattle.std.proofs.Common.{[], None, Some, Ok, ◌∙◌, ap, refl, subst}
use Rattle.compliance_client.specs.declared.conn.ClientConn.{ClientConn}
use Rattle.compliance_client.specs.Turns.{IsHeardAs}
use Rattle.compliance_client.proofs.Working.{past_in, turned_none, turned_then}
use Rattle.compliance_client.proofs.conn.ClientConn.hear_all.Goals as goal

pub events-init : goal.events-init
events-init g c = (
  refl,
  λ past h. turned_none g.K.CallConnection.stands c.args.n.now None c.args.self.now.calls c.args.self.now.kept.items c.args.self.now.tally past
      past.trace [] tt h tt,
)

pub returns-in-Err-clause-goes : goal.returns-in-Err-clause-goes
returns-in-Err-clause-goes g c = λ past h.
    let k = c.events.invariant.1 past h in
    let mid = past_in g.K.CallConnection.stands c.args.n.now None c.events.self.calls c.events.self.kept.items c.events.self.tally past [] k in (
      tt,
      turned_then g.K.CallConnection.stands c.args.n.now (Some c.in-Err.over) c.events.self.calls c.hear.new.self.calls c.events.self.kept.items
          c.hear.new.self.kept.items c.events.self.tally c.hear.new.self.tally past [] [] k (c.in-Err.ensures.goes mid k.stands).1,
    )

pub returns-in-Ok-All-clause-goes : goal.returns-in-Ok-All-clause-goes
returns-in-Ok-All-clause-goes g c = λ past h.
    let k = c.events.invariant.1 past h in
    let mid = past_in g.K.CallConnection.stands c.args.n.now None c.events.self.calls c.events.self.kept.items c.events.self.tally past [] k in
    let m = subst (IsHeardAs g.K.CallConnection.stands c.args.n.now c.hear.new.self.calls c.hear.new.self.kept.items c.hear.new.self.tally mid)
    c.in-Ok-All.field-0-is (c.in-Ok-All.ensures.goes mid k.stands).0 in (
      record {
        turned = turned_then g.K.CallConnection.stands c.args.n.now None c.events.self.calls c.hear.new.self.calls c.events.self.kept.items
            c.hear.new.self.kept.items c.events.self.tally c.hear.new.self.tally past [] [] k m.turned;
        settled = m.settled;
      },
      tt,
    )

pub events-preserved : goal.events-preserved
events-preserved g c = (
  c.hear.ensures.same ∙ ap (λ (x : ClientConn g.row.K.Denot).
      record x { calls = c.hear.new.self.calls; kept = c.hear.new.self.kept; tally = c.hear.new.self.tally }) c.events.invariant.0,
  λ past h.
      let k = c.events.invariant.1 past h in
      let mid = past_in g.K.CallConnection.stands c.args.n.now None c.events.self.calls c.events.self.kept.items c.events.self.tally past [] k in
      turned_then g.K.CallConnection.stands c.args.n.now None c.events.self.calls c.hear.new.self.calls c.events.self.kept.items
      c.hear.new.self.kept.items c.events.self.tally c.hear.new.self.tally past [] [] k
      (subst (IsHeardAs g.K.CallConnection.stands c.args.n.now c.hear.new.self.calls c.hear.new.self.kept.items c.hear.new.self.tally mid)
      c.in-Ok-Event.field-0-is (c.in-Ok-Event.ensures.goes mid k.stands).0),
)

pub events-smaller : goal.events-smaller
events-smaller g c = c.in-Ok-Event.ensures.ahead (ap Ok c.in-Ok-Event.field-0-is)
