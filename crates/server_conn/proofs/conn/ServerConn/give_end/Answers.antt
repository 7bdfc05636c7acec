use Rattle.std.proofs.Common.{◌≤◌, ◌∙◌, length, sym, subst}
use Rattle.grpc_heads.proofs.Fitting.{short_trailers_fit}
use Rattle.grpc_heads.specs.GrpcStatus.{GrpcStatus}
use Rattle.call_orders.specs.Owed.{end_items}
use Rattle.server_conn.specs.Handing.{Hands}
use Rattle.server_conn.proofs.Handed.{hands_end, hands_no_memory, hands_refuse, not_taking}
use Rattle.server_conn.proofs.conn.ServerConn.give_end.Goals as goal

-- trailers of a short status fit a header block
pub end-requires : goal.end-requires
end-requires g c = short_trailers_fit c.args.n.now c.in-Some.status
    (subst (λ (status : GrpcStatus). length status.message ≤ 64) c.status.view_is
    (subst (λ text. length text ≤ 64) c.as_slice.ensures c.if-as_slice-gt-LONGEST_TEXT.false))

pub returns-then-as_slice-gt-LONGEST_TEXT-clause-goes : goal.returns-then-as_slice-gt-LONGEST_TEXT-clause-goes
returns-then-as_slice-gt-LONGEST_TEXT-clause-goes g c = λ s t actions pieces own numbers h. (
  tt,
  hands_no_memory g.K.CallConnection.stands g.K.CallConnection.output s c.args.self.now.calls c.args.self.now.calls c.args.self.now.engine
      c.args.self.now.refused c.args.stream t actions pieces own (end_items c.args.end) c.args.self.now.is_ended h h.used h.agrees.server.sound,
)

pub returns-in-Ok-clause-goes : goal.returns-in-Ok-clause-goes
returns-in-Ok-clause-goes g c = λ s t actions pieces own numbers h.
    let due = subst (λ end. Hands g.K.CallConnection.stands g.K.CallConnection.output s c.args.self.now.calls c.args.self.now.engine
    c.args.self.now.refused c.args.stream t actions pieces own (end_items end)) c.in-Some.is h in
    let used = c.in-Ok.ensures.ok due.trace due.used (due.agrees.server.numbers ∙ sym numbers) in (
      hands_end g.K.CallConnection.stands g.K.CallConnection.output s c.args.self.now.calls c.end.new.self c.args.self.now.engine
          c.args.self.now.refused c.args.stream t actions pieces own c.in-Some.status due used (g.met.K.CallConnection.sound c.end.new.self _ used)
          (c.in-Ok.ensures.sends due.trace due.used),
      tt,
    )

pub returns-in-Err-NoMemory-clause-goes : goal.returns-in-Err-NoMemory-clause-goes
returns-in-Err-NoMemory-clause-goes g c = λ s t actions pieces own numbers h.
    let used = c.in-Err-NoMemory.ensures.err h.trace h.used in (
      tt,
      hands_no_memory g.K.CallConnection.stands g.K.CallConnection.output s c.args.self.now.calls c.end.new.self c.args.self.now.engine
          c.args.self.now.refused c.args.stream t actions pieces own (end_items c.args.end) c.args.self.now.is_ended h used
          (g.met.K.CallConnection.sound c.end.new.self h.trace used),
    )

pub returns-in-Err-NotOpen-clause-goes : goal.returns-in-Err-NotOpen-clause-goes
returns-in-Err-NotOpen-clause-goes g c = λ s t actions pieces own numbers h.
    let used = c.in-Err-NotOpen.ensures.err h.trace h.used in (
      hands_refuse g.K.CallConnection.stands g.K.CallConnection.output s c.args.self.now.calls c.end.new.self c.args.self.now.engine
          c.args.self.now.refused c.args.stream t actions pieces own (end_items c.args.end) h used
          (g.met.K.CallConnection.sound c.end.new.self h.trace used)
          (not_taking Unit _ _ c.in-Err-NotOpen.field-0-is (c.in-Err-NotOpen.ensures.sends h.trace h.used)),
      tt,
    )
