use Rattle.server_conn.proofs.Owing.{gave, owes_given, owes_halts}
use Rattle.server_conn.proofs.conn.ServerConn.give.Goals as goal

pub returns-then-halted-clause-goes : goal.returns-then-halted-clause-goes
returns-then-halted-clause-goes g c = λ s t actions pieces own numbers h. (
  tt,
  owes_halts g.K.CallConnection.stands g.K.CallConnection.output s c.args.self.now.calls c.args.self.now.engine c.args.self.now.refused c.args.stream
      c.args.step t actions pieces own h c.counted-self.result c.counted-self.ensures c.args.self.now.is_ended c.if-halted.true,
)

pub returns-in-Ok-clause-goes : goal.returns-in-Ok-clause-goes
returns-in-Ok-clause-goes g c = λ s t actions pieces own numbers h.
    let owed = owes_given g.K.CallConnection.stands g.K.CallConnection.output s c.args.self.now.calls c.args.self.now.engine c.args.self.now.refused
    c.args.stream c.args.step t actions pieces own h c.counted-self.result c.counted-self.ensures _ c.into_vec-messages.ensures.items
    c.if-halted.false in (
      gave g.K.CallConnection.stands g.K.CallConnection.output s c.give_items.new.self.calls c.give_items.new.self.engine c.give_items.new.self.refused
          c.args.stream t actions pieces own (c.in-Ok.ensures.goes s t actions pieces own numbers owed).0 c.args.step _
          c.into_vec-messages.ensures.items c.has_items-has_any.result c.has_items-has_any.ensures c.if-halted.false,
      tt,
    )

pub returns-in-Err-clause-goes : goal.returns-in-Err-clause-goes
returns-in-Err-clause-goes g c = λ s t actions pieces own numbers h. (
  tt,
  (c.in-Err.ensures.goes s t actions pieces own numbers
      (owes_given g.K.CallConnection.stands g.K.CallConnection.output s c.args.self.now.calls c.args.self.now.engine c.args.self.now.refused
      c.args.stream c.args.step t actions pieces own h c.counted-self.result c.counted-self.ensures _ c.into_vec-messages.ensures.items
      c.if-halted.false)).1,
)
