use Rattle.std.proofs.Common.{◌∙◌, ap, refl}
use Rattle.server_turns.specs.declared.outcome.Outcome.TheVariants as over
use Rattle.server_conn.specs.declared.conn.ServerConn.{ServerConn}
use Rattle.server_conn.specs.Standing.{past_of}
use Rattle.server_conn.proofs.Grown.{ends_from, may_end_from}
use Rattle.server_conn.proofs.MayEnd.{no_memory_settled}
use Rattle.server_conn.proofs.NextResponse.{responds_all, responds_none, responds_then}
use Rattle.server_conn.proofs.conn.ServerConn.respond_more.Goals as goal

pub responses-init : goal.responses-init
responses-init g c = (
  λ t actions pieces own rest works settled pumped.
      responds_none g.K.CallConnection.stands g.K.CallConnection.output c.args.setting.now pieces own rest c.args.self.now.calls c.args.self.now.engine
      c.args.self.now.refused c.args.self.now.waiting t actions works settled pumped,
  refl,
)

pub responses-preserved : goal.responses-preserved
responses-preserved g c = (
  λ t actions pieces own rest works settled pumped.
      let m = c.responses.invariant.0 t actions pieces own rest works settled pumped in
      responds_then g.K.CallConnection.stands g.K.CallConnection.output c.args.setting.now pieces own rest c.responses.self.calls c.respond_next.new.self.calls
      c.args.self.now.engine c.responses.self.engine c.respond_next.new.self.engine c.responses.self.refused c.respond_next.new.self.refused
      c.responses.self.waiting c.respond_next.new.self.waiting t m
      (c.in-Ok-true.ensures.goes m.trace m.actions pieces own rest m.works m.settled m.pumped).0,
  c.respond_next.ensures.same ∙ ap (λ (x : ServerConn g.row.K.Denot). record x {
    calls = c.respond_next.new.self.calls;
    engine = c.respond_next.new.self.engine;
    refused = c.respond_next.new.self.refused;
    waiting = c.respond_next.new.self.waiting;
  }) c.responses.invariant.1,
)

pub returns-in-Err-clause-goes : goal.returns-in-Err-clause-goes
returns-in-Err-clause-goes g c = λ t actions pieces own rest works settled pumped.
    let m = c.responses.invariant.0 t actions pieces own rest works settled pumped in (
      tt,
      ends_from c.args.setting.now t m.trace m.grows _ _ _ _ _
          (c.in-Err.ensures.goes m.trace m.actions pieces own rest m.works m.settled m.pumped).1,
    )

pub returns-in-Ok-false-clause-goes : goal.returns-in-Ok-false-clause-goes
returns-in-Ok-false-clause-goes g c = λ t actions pieces own rest works settled pumped.
    let m = c.responses.invariant.0 t actions pieces own rest works settled pumped in (
      responds_all g.K.CallConnection.stands g.K.CallConnection.output c.args.setting.now pieces own rest c.respond_next.new.self.calls
          c.args.self.now.engine c.respond_next.new.self.engine c.respond_next.new.self.refused c.respond_next.new.self.waiting t
          (responds_then g.K.CallConnection.stands g.K.CallConnection.output c.args.setting.now pieces own rest c.responses.self.calls
          c.respond_next.new.self.calls c.args.self.now.engine c.responses.self.engine c.respond_next.new.self.engine c.responses.self.refused
          c.respond_next.new.self.refused c.responses.self.waiting c.respond_next.new.self.waiting t m
          (c.in-Ok-false.ensures.goes m.trace m.actions pieces own rest m.works m.settled m.pumped).0)
          (c.in-Ok-false.ensures.enough c.in-Ok-false.field-0-test),
      tt,
    )

pub returns-clause-goes : goal.returns-clause-goes
returns-clause-goes g c = λ t actions pieces own rest works settled pumped.
    let m = c.responses.invariant.0 t actions pieces own rest works settled pumped in (
      tt,
      may_end_from c.args.setting.now t m.trace m.grows (g.K.CallConnection.output c.responses.self.calls) c.responses.self.engine c.responses.self.refused
          (past_of pieces own c.responses.self.is_ended) over.NoMemory
          (no_memory_settled g.K.CallConnection.stands g.K.CallConnection.output c.args.setting.now c.responses.self.calls c.responses.self.engine
          c.responses.self.refused m.trace m.actions pieces own m.works rest m.settled c.responses.self.is_ended),
    )
