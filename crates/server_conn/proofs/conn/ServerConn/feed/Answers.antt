use Rattle.std.proofs.Common.{◌∷◌, [], refl, subst}
use Rattle.rig_io.specs.Link as link
use Rattle.http_connection.specs.ConnectionTrace.{fed_more}
use Rattle.grpc_stream.specs.CallTrace.{changed}
use Rattle.server_account.proofs.Rests.{alive_rest}
use Rattle.server_conn.proofs.MayEnd.{no_memory_late, still_works}
use Rattle.server_conn.proofs.Moved.{works_fed}
use Rattle.server_conn.proofs.conn.ServerConn.feed.Goals as goal

pub returns-in_default-clause-goes : goal.returns-in_default-clause-goes
returns-in_default-clause-goes g c = λ s t actions pieces own rest works settled. (
  tt,
  no_memory_late g.K.CallConnection.stands g.K.CallConnection.output s c.args.self.now.calls c.args.self.now.engine c.args.self.now.refused t actions
      pieces own works (link.received c.args.piece.now ∷ []) refl rest (alive_rest t.connection_trace rest works.alive) c.args.self.now.is_ended,
)

pub returns-in-Err-clause-goes : goal.returns-in-Err-clause-goes
returns-in-Err-clause-goes g c = λ s t actions pieces own rest works settled.
    let used = c.in-Err.ensures.err t works.used in (
      tt,
      no_memory_late g.K.CallConnection.stands g.K.CallConnection.output s c.feed.new.self c.args.self.now.engine c.args.self.now.refused t actions
          pieces own
          (still_works g.K.CallConnection.stands g.K.CallConnection.output s c.args.self.now.calls c.args.self.now.engine c.args.self.now.refused t actions
          pieces own works c.feed.new.self used (g.met.K.CallConnection.sound c.feed.new.self t used))
          (link.received c.args.piece.now ∷ []) refl rest (alive_rest t.connection_trace rest works.alive) c.args.self.now.is_ended,
    )

pub returns-in-Ok-feed-clause-goes : goal.returns-in-Ok-feed-clause-goes
returns-in-Ok-feed-clause-goes g c = λ s t actions pieces own rest works settled.
    let used = subst (λ b. g.K.CallConnection.stands c.feed.new.self (changed (fed_more b) t)) c.in-Ok.ensures (c.in-Ok-feed.ensures.ok t works.used) in (
      (
        refl,
        works_fed g.K.CallConnection.stands g.K.CallConnection.output s c.args.self.now.calls c.feed.new.self c.args.self.now.engine
            c.args.self.now.refused t actions pieces own rest works settled c.args.piece.now used (g.met.K.CallConnection.sound c.feed.new.self _ used),
      ),
      tt,
    )
