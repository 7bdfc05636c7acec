use Rattle.server_conn.proofs.MayEnd.{no_memory_settled, still_works}
use Rattle.server_conn.proofs.Moved.{settled_pumped, works_pumped}
use Rattle.server_conn.proofs.conn.ServerConn.pump.Goals as goal

pub returns-in_default-clause-goes : goal.returns-in_default-clause-goes
returns-in_default-clause-goes g c = λ s t actions pieces own rest works settled.
    let used = c.in_default.ensures.err t works.used in (
      tt,
      no_memory_settled g.K.CallConnection.stands g.K.CallConnection.output s c.pump.new.self c.args.self.now.engine c.args.self.now.refused t actions
          pieces own
          (still_works g.K.CallConnection.stands g.K.CallConnection.output s c.args.self.now.calls c.args.self.now.engine c.args.self.now.refused t actions
          pieces own works c.pump.new.self used (g.met.K.CallConnection.sound c.pump.new.self t used))
          rest settled c.args.self.now.is_ended,
    )

pub returns-clause-goes : goal.returns-clause-goes
returns-clause-goes g c = λ s t actions pieces own rest works settled.
    let sent = c.in-Ok.ensures.ok t works.used in
    let sound = g.met.K.CallConnection.sound c.pump.new.self sent.0 sent.1 in
    let now = settled_pumped g.K.CallConnection.stands g.K.CallConnection.output s c.args.self.now.calls c.pump.new.self c.args.self.now.engine
    c.args.self.now.refused t actions pieces own rest works settled sent.0 sound sent.2 in (
      (
        sent.0,
        sent.2,
        works_pumped g.K.CallConnection.stands g.K.CallConnection.output s c.args.self.now.calls c.pump.new.self c.args.self.now.engine
            c.args.self.now.refused t actions pieces own rest works settled sent.0 sent.1 sound sent.2,
        now,
        c.waiting-self.ensures sent.0 sent.1 now.alive,
      ),
      tt,
    )
