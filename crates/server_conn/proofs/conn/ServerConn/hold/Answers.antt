use Rattle.std.proofs.Common.{ap, is_some, not}
use Rattle.server_account.specs.Agreeing.{none_left}
use Rattle.server_account.proofs.Credits.{handled_credits, server_credits, settled_credits, told_credits}
use Rattle.server_conn.proofs.MayEnd.{no_memory_settled, still_works}
use Rattle.server_conn.proofs.conn.ServerConn.hold.Goals as goal

pub returns-in-Err-clause-goes : goal.returns-in-Err-clause-goes
returns-in-Err-clause-goes g c = λ s t actions pieces own rest works settled.
    let used = c.in-Err.ensures.err t works.used in (
      tt,
      no_memory_settled g.K.CallConnection.stands g.K.CallConnection.output s c.hold_credit.new.self c.args.self.now.engine c.args.self.now.refused t actions
          pieces own
          (still_works g.K.CallConnection.stands g.K.CallConnection.output s c.args.self.now.calls c.args.self.now.engine c.args.self.now.refused t actions
          pieces own works c.hold_credit.new.self used (g.met.K.CallConnection.sound c.hold_credit.new.self t used))
          rest settled c.args.self.now.is_ended,
    )

pub returns-in-Ok-clause-goes : goal.returns-in-Ok-clause-goes
returns-in-Ok-clause-goes g c = λ s t actions pieces own rest works settled.
    let sent = c.in-Ok.ensures.ok t works.used in
    let later = g.K.CallConnection.output c.hold_credit.new.self in
    let output = g.K.CallConnection.output c.args.self.now.calls in
    let sound = g.met.K.CallConnection.sound c.hold_credit.new.self _ sent.2 in
    let alive = ap (λ o. not (is_some o)) settled.alive in
    let h = works.agrees in (
      record {
        credit = sent.0;
        carried = sent.1;
        works = record {
          used = sent.2;
          alive = works.alive;
          agrees = record {
            server = server_credits s t output later _ sent.0 h.server alive sent.1 sound;
            told = told_credits s t output later _ sent.0 h.server alive sent.1 pieces h.told;
            handled = handled_credits s t output later _ sent.0 h.server alive sent.1 c.args.self.now.engine actions own none_left h.handled;
          };
          count = works.count;
        };
        settled = settled_credits s t output later _ sent.0 h.server alive sent.1 rest settled;
      },
      tt,
    )
