use Rattle.std.proofs.Common.{[], Some, refl, sym, ap, subst, ◌∙◌, false}
use Rattle.h2_exchange.specs.Calls as call
use Rattle.h2_exchange.specs.Stops.{Error, Calm}
use Rattle.grpc_stream.specs.declared.event.CallEvent.TheVariants as says
use Rattle.compliance_client.specs.declared.over.ClientOver.TheVariants as over
use Rattle.compliance_client.specs.declared.conn.ClientConn.{ClientConn}
use Rattle.compliance_client.specs.Deeds.{change_first, ends, is_on}
use Rattle.compliance_client.specs.Turns.{Turned}
use Rattle.compliance_client.proofs.Working.{answered_is, begun_never, broken_is, closed_is, finished_never, request_never, hears_all, hears_event, hears_no_other, hears_none, hears_starved, hears_stop, turned_none}
use Rattle.compliance_client.proofs.conn.ClientConn.hear.Goals as goal

pub returns-in-NeedMore-clause-goes : goal.returns-in-NeedMore-clause-goes
returns-in-NeedMore-clause-goes g c = λ past h. (
  hears_all g.K.CallConnection.stands g.K.CallConnection.output g.met.K.CallConnection.sound c.args.n.now c.args.self.now.calls c.next.new.self
      c.args.self.now.kept.items c.args.self.now.tally past h c.in-NeedMore.ensures.says,
  tt,
)

pub returns-in-Refused-clause-goes : goal.returns-in-Refused-clause-goes
returns-in-Refused-clause-goes g c = λ past h.
    let k = hears_stop g.K.CallConnection.stands g.K.CallConnection.output g.met.K.CallConnection.sound c.args.n.now c.args.self.now.calls c.next.new.self
    c.args.self.now.kept.items c.args.self.now.tally past h (Error c.in-Refused.why c.in-Refused.place) c.in-Refused.ensures.says in (
      tt,
      turned_none g.K.CallConnection.stands c.args.n.now (Some (over.Protocol c.in-Refused.why c.in-Refused.place)) c.next.new.self
          c.args.self.now.kept.items c.args.self.now.tally past k.0 [] tt k.1 k.2,
    )

pub returns-in-Calm-clause-goes : goal.returns-in-Calm-clause-goes
returns-in-Calm-clause-goes g c = λ past h.
    let k = hears_stop g.K.CallConnection.stands g.K.CallConnection.output g.met.K.CallConnection.sound c.args.n.now c.args.self.now.calls c.next.new.self
    c.args.self.now.kept.items c.args.self.now.tally past h (Calm c.in-Calm.cause) c.in-Calm.ensures.says in (
      tt,
      turned_none g.K.CallConnection.stands c.args.n.now (Some (over.Calm c.in-Calm.cause)) c.next.new.self
          c.args.self.now.kept.items c.args.self.now.tally past k.0 [] tt k.1 k.2,
    )

pub returns-in-NoMemory-clause-goes : goal.returns-in-NoMemory-clause-goes
returns-in-NoMemory-clause-goes g c = λ past h. (
  tt,
  hears_none g.K.CallConnection.stands g.K.CallConnection.output g.met.K.CallConnection.sound c.args.n.now c.args.self.now.calls c.next.new.self
      c.args.self.now.kept.items c.args.self.now.tally past h c.in-NoMemory.ensures.says,
)

pub returns-in-Answered-clause-goes : goal.returns-in-Answered-clause-goes
returns-in-Answered-clause-goes g c = λ past h. (
  hears_event g.K.CallConnection.stands g.K.CallConnection.output g.met.K.CallConnection.sound c.args.n.now c.args.self.now.calls c.next.new.self
      c.args.self.now.kept.items c.args.self.now.tally past h (says.Answered c.in-Answered.stream c.in-Answered.message) c.in-Answered.ensures.says
      c.hear_message.new.self.calls c.hear_message.new.self.kept.items c.hear_message.new.self.tally (call.Answered c.in-Answered.stream c.in-Answered.message)
      c.in-Ok.field-0 (answered_is c.in-Answered.stream c.in-Answered.message) c.in-Ok.ensures.ok c.in-Ok.ensures.heard c.in-Ok.ensures.counted
      c.in-Ok.ensures.refused,
  tt,
)

pub returns-in-Err-clause-goes : goal.returns-in-Err-clause-goes
returns-in-Err-clause-goes g c = λ past h. (
  tt,
  subst (λ o. Turned g.K.CallConnection.stands c.args.n.now (Some o) c.hear_message.new.self.calls c.hear_message.new.self.kept.items
      c.hear_message.new.self.tally past []) (sym c.in-Err.ensures.memory)
      (hears_starved g.K.CallConnection.stands g.K.CallConnection.output g.met.K.CallConnection.sound c.args.n.now c.args.self.now.calls c.next.new.self
      c.args.self.now.kept.items c.args.self.now.tally past h (says.Answered c.in-Answered.stream c.in-Answered.message) c.in-Answered.ensures.says
      c.hear_message.new.self.calls c.hear_message.new.self.kept.items c.hear_message.new.self.tally c.in-Err.ensures.err),
)

pub returns-in-Closed-clause-goes : goal.returns-in-Closed-clause-goes
returns-in-Closed-clause-goes g c = λ past h. (
  hears_event g.K.CallConnection.stands g.K.CallConnection.output g.met.K.CallConnection.sound c.args.n.now c.args.self.now.calls c.next.new.self
      c.args.self.now.kept.items c.args.self.now.tally past h (says.Closed c.in-Closed.stream c.in-Closed.status) c.in-Closed.ensures.says
      c.hear_end.new.self.calls c.hear_end.new.self.kept.items c.hear_end.new.self.tally (call.Closed c.in-Closed.stream c.in-Closed.status)
      false (closed_is c.in-Closed.stream c.in-Closed.status)
      (λ t used. (t, subst (λ k. g.K.CallConnection.stands k t) (sym (ap (λ (x : ClientConn g.row.K.Denot). x.calls) c.hear_end.ensures.same)) used, refl))
      (c.hear_end.ensures.heard ∙ ap (λ ending. change_first (is_on c.in-Closed.stream) (ends ending) c.args.self.now.kept.items) c.end_of.ensures)
      (ap (λ (x : ClientConn g.row.K.Denot). x.tally) c.hear_end.ensures.same) (λ e. absurd cc),
  tt,
)

pub returns-in-Dropped-clause-goes : goal.returns-in-Dropped-clause-goes
returns-in-Dropped-clause-goes g c = λ past h. (
  hears_event g.K.CallConnection.stands g.K.CallConnection.output g.met.K.CallConnection.sound c.args.n.now c.args.self.now.calls c.next.new.self
      c.args.self.now.kept.items c.args.self.now.tally past h (says.Dropped c.in-Dropped.stream) c.in-Dropped.ensures.says
      c.hear_refusal.new.self.calls c.hear_refusal.new.self.kept.items c.hear_refusal.new.self.tally (call.Broken c.in-Dropped.stream)
      c.in-Ok-hear_refusal.field-0 (broken_is c.in-Dropped.stream) c.in-Ok-hear_refusal.ensures.ok c.in-Ok-hear_refusal.ensures.heard
      (ap (λ (x : ClientConn g.row.K.Denot). x.tally) c.hear_refusal.ensures.same) (λ e. refl),
  tt,
)

pub returns-in-Err-hear_refusal-clause-goes : goal.returns-in-Err-hear_refusal-clause-goes
returns-in-Err-hear_refusal-clause-goes g c = λ past h. (
  tt,
  subst (λ o. Turned g.K.CallConnection.stands c.args.n.now (Some o) c.hear_refusal.new.self.calls c.hear_refusal.new.self.kept.items
      c.hear_refusal.new.self.tally past []) (sym c.in-Err-hear_refusal.ensures.memory)
      (hears_starved g.K.CallConnection.stands g.K.CallConnection.output g.met.K.CallConnection.sound c.args.n.now c.args.self.now.calls c.next.new.self
      c.args.self.now.kept.items c.args.self.now.tally past h (says.Dropped c.in-Dropped.stream) c.in-Dropped.ensures.says
      c.hear_refusal.new.self.calls c.hear_refusal.new.self.kept.items c.hear_refusal.new.self.tally c.in-Err-hear_refusal.ensures.err),
)

pub returns-in-Begun-clause-goes : goal.returns-in-Begun-clause-goes
returns-in-Begun-clause-goes g c = λ past h.
    hears_no_other g.K.CallConnection.stands g.K.CallConnection.output g.met.K.CallConnection.sound c.args.n.now c.args.self.now.calls c.next.new.self
    c.args.self.now.kept.items c.args.self.now.tally past h (says.Begun c.in-Begun.field-0 c.in-Begun.field-1) c.in-Begun.ensures.says
    (begun_never c.in-Begun.field-0 c.in-Begun.field-1)

pub returns-in-Request-clause-goes : goal.returns-in-Request-clause-goes
returns-in-Request-clause-goes g c = λ past h.
    hears_no_other g.K.CallConnection.stands g.K.CallConnection.output g.met.K.CallConnection.sound c.args.n.now c.args.self.now.calls c.next.new.self
    c.args.self.now.kept.items c.args.self.now.tally past h (says.Request c.in-Request.field-0 c.in-Request.field-1) c.in-Request.ensures.says
    (request_never c.in-Request.field-0 c.in-Request.field-1)

pub returns-clause-goes : goal.returns-clause-goes
returns-clause-goes g c = λ past h.
    hears_no_other g.K.CallConnection.stands g.K.CallConnection.output g.met.K.CallConnection.sound c.args.n.now c.args.self.now.calls c.next.new.self
    c.args.self.now.kept.items c.args.self.now.tally past h (says.Finished c.in-Finished.field-0) c.in-Finished.ensures.says
    (finished_never c.in-Finished.field-0)
