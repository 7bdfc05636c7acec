use Rattle.std.proofs.Common.{◌≡◌, ◌∷◌, [], Ok, Err, refl, sym, ap, subst, ◌∙◌}
use Rattle.grpc_heads.specs.declared.head.Method.TheVariants as method
use Rattle.grpc_heads.specs.CallEnd.{HalfClose}
use Rattle.h2_exchange.specs.StreamParts.{Message, Finish}
use Rattle.h2_exchange.specs.declared.fault.SendFault.TheVariants as fault
use Rattle.http_connection.specs.Sends.{SendsWhere}
use Rattle.grpc_stream.specs.CallTrace.{Keeps}
use Rattle.line_requests.specs.declared.ask.LineAsk.TheVariants as asks
use Rattle.compliance_client.specs.declared.conn.ClientConn.{ClientConn}
use Rattle.compliance_client.specs.Deeds.{call_name, call_of, is_named}
use Rattle.compliance_client.specs.Sends.{AnswersLine, SendsLine, is_dropping, is_sending, with_line}
use Rattle.compliance_client.specs.Standing.{Works}
use Rattle.compliance_client.specs.Turns.{is_starved}
use Rattle.compliance_client.proofs.Places.{found_none}
use Rattle.compliance_client.proofs.Results.{err_pair}
use Rattle.compliance_client.proofs.SentLines.{line_goes, sends_finish, sends_message, sends_modify, sends_nothing, sends_reset, whole_goes}
use Rattle.compliance_client.proofs.conn.ClientConn.carry_out.Goals as goal

pub returns-in-Nothing-clause-goes : goal.returns-in-Nothing-clause-goes
returns-in-Nothing-clause-goes g c = λ past h is. (
  sends_nothing g.K.CallConnection.stands c.args.n.now c.args.self.now.calls c.args.self.now.kept.items c.args.self.now.tally past c.args.line.now h (sym c.in-Nothing.is ∙ is),
  subst (λ a. AnswersLine a (call_of c.args.line.now c.args.self.now.kept.items) past.trace (Ok tt)) (sym c.in-Nothing.is) refl,
)

pub returns-in-Ok-clause-goes : goal.returns-in-Ok-clause-goes
returns-in-Ok-clause-goes g c = λ past h is.
    let k = sends_modify g.K.CallConnection.stands c.args.n.now c.args.self.now.calls c.begin.new.self.calls c.args.self.now.kept.items c.begin.new.self.kept.items c.args.self.now.tally past h c.args.line.now
    c.in-Ok.field-0 (sym c.in-Modify.is ∙ is) c.in-Ok.ensures.ok.0 c.in-Ok.ensures.ok.1 in
    let b = c.in-Ok.ensures.begins past.trace h.used in (
      (
        c.in-Ok.field-0,
        k.0,
        subst (λ l. Works g.K.CallConnection.stands c.args.n.now c.begin.new.self.calls c.begin.new.self.kept.items l
            (with_line g.K.CallConnection.stands c.args.n.now past c.args.line.now c.in-Ok.field-0 k.0))
            (sym (ap (λ (x : ClientConn g.row.K.Denot). x.tally) c.in-Ok.ensures.same)) k.1,
      ),
      subst (λ a. AnswersLine a (call_of c.args.line.now c.args.self.now.kept.items) past.trace (Ok tt)) (sym c.in-Modify.is) (b.0, b.1),
    )

pub returns-in-Ok-encode_get_request-clause-goes : goal.returns-in-Ok-encode_get_request-clause-goes
returns-in-Ok-encode_get_request-clause-goes g c = λ past h is. (
  subst (λ l. SendsLine g.K.CallConnection.stands c.args.n.now c.args.line.now c.call_whole.new.self.calls c.call_whole.new.self.kept.items l (is_starved c.call_whole.new.self.over) past
      c.call_whole.result) (sym (ap (λ (x : ClientConn g.row.K.Denot). x.tally) c.call_whole.ensures.same))
      (whole_goes g.K.CallConnection.stands c.args.n.now c.args.self.now.calls c.call_whole.new.self.calls c.args.self.now.kept.items c.call_whole.new.self.kept.items c.args.self.now.tally past h c.args.line.now
      (asks.Get c.in-Get.request) method.Get c.in-Ok-encode_get_request.message.items (sym c.in-Get.is ∙ is)
      (ap (λ b. Message b ∷ Finish HalfClose ∷ []) (sym c.in-Ok-encode_get_request.ensures)) refl (λ id. refl) (λ id. refl) (λ id. tt)
      c.args.self.now.over c.call_whole.new.self.over c.call_whole.result c.call_whole.ensures.ok c.call_whole.ensures.err),
  subst (λ a. AnswersLine a (call_of c.args.line.now c.args.self.now.kept.items) past.trace c.call_whole.result) (sym c.in-Get.is)
      (c.call_whole.ensures.begins past.trace h.used),
)

pub returns-in-Ok-encode_flush_request-clause-goes : goal.returns-in-Ok-encode_flush_request-clause-goes
returns-in-Ok-encode_flush_request-clause-goes g c = λ past h is. (
  subst (λ l. SendsLine g.K.CallConnection.stands c.args.n.now c.args.line.now c.call_whole-in-Ok-encode_flush_request.new.self.calls c.call_whole-in-Ok-encode_flush_request.new.self.kept.items l (is_starved c.call_whole-in-Ok-encode_flush_request.new.self.over) past
      c.call_whole-in-Ok-encode_flush_request.result) (sym (ap (λ (x : ClientConn g.row.K.Denot). x.tally) c.call_whole-in-Ok-encode_flush_request.ensures.same))
      (whole_goes g.K.CallConnection.stands c.args.n.now c.args.self.now.calls c.call_whole-in-Ok-encode_flush_request.new.self.calls c.args.self.now.kept.items c.call_whole-in-Ok-encode_flush_request.new.self.kept.items c.args.self.now.tally past h c.args.line.now
      (asks.Flush c.in-Flush.request) method.Flush c.in-Ok-encode_flush_request.message.items (sym c.in-Flush.is ∙ is)
      (ap (λ b. Message b ∷ Finish HalfClose ∷ []) (sym c.in-Ok-encode_flush_request.ensures)) refl (λ id. refl) (λ id. refl) (λ id. tt)
      c.args.self.now.over c.call_whole-in-Ok-encode_flush_request.new.self.over c.call_whole-in-Ok-encode_flush_request.result c.call_whole-in-Ok-encode_flush_request.ensures.ok c.call_whole-in-Ok-encode_flush_request.ensures.err),
  subst (λ a. AnswersLine a (call_of c.args.line.now c.args.self.now.kept.items) past.trace c.call_whole-in-Ok-encode_flush_request.result) (sym c.in-Flush.is)
      (c.call_whole-in-Ok-encode_flush_request.ensures.begins past.trace h.used),
)

pub returns-in-None-clause-goes : goal.returns-in-None-clause-goes
returns-in-None-clause-goes g c = λ past h is. (
  h,
  subst (λ a. AnswersLine a (call_of c.args.line.now c.args.self.now.kept.items) past.trace (Err fault.NotOpen)) (sym c.in-Send.is)
      (ap (is_sending past.trace) (found_none (is_named (call_name c.args.line.now)) c.args.self.now.kept.items (sym c.place_of.ensures ∙ c.in-None.is))),
)

pub returns-in-Some-clause-goes : goal.returns-in-Some-clause-goes
returns-in-Some-clause-goes g c = λ past h is.
    let m = c.give.ensures.goes (is_named (call_name c.args.line.now)) (sym c.place_of.ensures ∙ c.in-Some.is) in (
      subst (λ l. SendsLine g.K.CallConnection.stands c.args.n.now c.args.line.now c.give.new.self.calls c.give.new.self.kept.items l (is_starved c.give.new.self.over) past
          c.give.result) (sym (ap (λ (x : ClientConn g.row.K.Denot). x.tally) c.give.ensures.same))
          (line_goes g.K.CallConnection.stands c.args.n.now c.args.self.now.calls c.give.new.self.calls c.args.self.now.kept.items c.give.new.self.kept.items c.args.self.now.tally past h c.args.line.now
          c.give.result (is_starved c.give.new.self.over)
          (λ a. sends_message g.K.CallConnection.stands c.args.n.now c.args.self.now.calls c.give.new.self.calls c.args.self.now.kept.items c.give.new.self.kept.items c.args.self.now.tally past h c.args.line.now m.0 m.1
          c.in-Send.request (sym c.in-Send.is ∙ is) a.0 a.1) m.2 m.3),
      subst (λ a. AnswersLine a (call_of c.args.line.now c.args.self.now.kept.items) past.trace c.give.result) (sym c.in-Send.is)
          (subst (λ o. SendsWhere {A = Unit {0}} (is_sending past.trace o) c.give.result) (sym m.1) (m.4 past.trace h.used)),
    )

pub returns-in-None-place_of-clause-goes : goal.returns-in-None-place_of-clause-goes
returns-in-None-place_of-clause-goes g c = λ past h is. (
  h,
  subst (λ a. AnswersLine a (call_of c.args.line.now c.args.self.now.kept.items) past.trace (Err fault.NotOpen)) (sym c.in-Finish.is)
      (ap (is_sending past.trace) (found_none (is_named (call_name c.args.line.now)) c.args.self.now.kept.items (sym c.place_of-in-Finish.ensures ∙ c.in-None-place_of.is))),
)

pub returns-in-Some-place_of-clause-goes : goal.returns-in-Some-place_of-clause-goes
returns-in-Some-place_of-clause-goes g c = λ past h is.
    let m = c.finish_at.ensures.goes (is_named (call_name c.args.line.now)) (sym c.place_of-in-Finish.ensures ∙ c.in-Some-place_of.is) in (
      subst (λ l. SendsLine g.K.CallConnection.stands c.args.n.now c.args.line.now c.finish_at.new.self.calls c.finish_at.new.self.kept.items l (is_starved c.finish_at.new.self.over) past
          c.finish_at.result) (sym (ap (λ (x : ClientConn g.row.K.Denot). x.tally) c.finish_at.ensures.same))
          (line_goes g.K.CallConnection.stands c.args.n.now c.args.self.now.calls c.finish_at.new.self.calls c.args.self.now.kept.items c.finish_at.new.self.kept.items c.args.self.now.tally past h c.args.line.now
          c.finish_at.result (is_starved c.finish_at.new.self.over)
          (λ a. sends_finish g.K.CallConnection.stands c.args.n.now c.args.self.now.calls c.finish_at.new.self.calls c.args.self.now.kept.items c.finish_at.new.self.kept.items c.args.self.now.tally past h c.args.line.now m.0 m.1
          (sym c.in-Finish.is ∙ is) (ap (λ (x : ClientConn g.row.K.Denot). x.kept.items) c.finish_at.ensures.same) a) m.2 (err_pair (c.finish_at.new.self.kept.items ≡ c.args.self.now.kept.items)
          (Keeps (g.K.CallConnection.stands c.args.self.now.calls) (g.K.CallConnection.stands c.finish_at.new.self.calls)) c.finish_at.result (ap (λ (x : ClientConn g.row.K.Denot). x.kept.items) c.finish_at.ensures.same) m.3)),
      subst (λ a. AnswersLine a (call_of c.args.line.now c.args.self.now.kept.items) past.trace c.finish_at.result) (sym c.in-Finish.is)
          (subst (λ o. SendsWhere {A = Unit {0}} (is_sending past.trace o) c.finish_at.result) (sym m.1) (m.4 past.trace h.used)),
    )

pub returns-in-None-place_of-2-clause-goes : goal.returns-in-None-place_of-2-clause-goes
returns-in-None-place_of-2-clause-goes g c = λ past h is. (
  h,
  subst (λ a. AnswersLine a (call_of c.args.line.now c.args.self.now.kept.items) past.trace (Err fault.NotOpen)) (sym c.in-Reset.is)
      (ap (is_dropping past.trace) (found_none (is_named (call_name c.args.line.now)) c.args.self.now.kept.items (sym c.place_of-in-Reset.ensures ∙ c.in-None-place_of-2.is))),
)

pub returns-in-Some-place_of-2-clause-goes : goal.returns-in-Some-place_of-2-clause-goes
returns-in-Some-place_of-2-clause-goes g c = λ past h is.
    let m = c.cancel.ensures.goes (is_named (call_name c.args.line.now)) (sym c.place_of-in-Reset.ensures ∙ c.in-Some-place_of-2.is) in (
      subst (λ l. SendsLine g.K.CallConnection.stands c.args.n.now c.args.line.now c.cancel.new.self.calls c.cancel.new.self.kept.items l (is_starved c.cancel.new.self.over) past
          c.cancel.result) (sym (ap (λ (x : ClientConn g.row.K.Denot). x.tally) c.cancel.ensures.same))
          (line_goes g.K.CallConnection.stands c.args.n.now c.args.self.now.calls c.cancel.new.self.calls c.args.self.now.kept.items c.cancel.new.self.kept.items c.args.self.now.tally past h c.args.line.now
          c.cancel.result (is_starved c.cancel.new.self.over)
          (λ a. sends_reset g.K.CallConnection.stands c.args.n.now c.args.self.now.calls c.cancel.new.self.calls c.args.self.now.kept.items c.cancel.new.self.kept.items c.args.self.now.tally past h c.args.line.now m.0 m.1
          (sym c.in-Reset.is ∙ is) a.0 a.1) m.2 m.3),
      subst (λ a. AnswersLine a (call_of c.args.line.now c.args.self.now.kept.items) past.trace c.cancel.result) (sym c.in-Reset.is)
          (subst (λ o. SendsWhere {A = Unit {0}} (is_dropping past.trace o) c.cancel.result) (sym m.1) (m.4 past.trace h.used)),
    )
