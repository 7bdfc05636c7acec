use Rattle.std.proofs.Common.{◌∷◌, [], ◌++◌, Err, refl, subst, ◌≡◌, true}
use Rattle.std.specs.Prelude.{◌&&◌}
use Rattle.h2_exchange.specs.Streams.{is_live}
use Rattle.http_connection.specs.ConnectionTrace.{is_alive, wrote}
use Rattle.http_connection.specs.Sends.{SendsWhere}
use Rattle.grpc_stream.specs.CallTrace.{changed}
use Rattle.compliance_client.specs.Deeds.{cancelled, ends}
use Rattle.compliance_client.specs.Turns.{MayReset}
use Rattle.compliance_client.proofs.Places.{changed_at, found_here}
use Rattle.compliance_client.proofs.conn.ClientConn.cancel.Goals as goal

pub returns-in-Err-clause-goes : goal.returns-in-Err-clause-goes
returns-in-Err-clause-goes g c = λ p found. (
  c.index.result.now,
  found_here p c.args.self.now.kept.items c.args.at c.index.result.now found c.index.ensures,
  tt,
  (refl, c.in-Err.ensures.err),
  λ t used. subst (λ s. SendsWhere {A = Unit {0}} (is_alive t.connection_trace && is_live t.connection_trace.role t.connection_trace.frames s) (Err c.in-Err.fault))
      c.stream-stream.ensures (c.in-Err.ensures.sends t used),
)

pub returns-in-Ok-clause-goes : goal.returns-in-Ok-clause-goes
returns-in-Ok-clause-goes g c = λ p found. (
  c.index.result.now,
  found_here p c.args.self.now.kept.items c.args.at c.index.result.now found c.index.ensures,
  (
    changed_at p (ends cancelled) c.args.self.now.kept.items c.args.at c.index_mut.result.now c.end.new.self found c.index_mut.ensures.value c.end.ensures,
    subst (λ s. MayReset g.K.CallConnection.stands true s c.args.self.now.calls c.reset.new.self) c.stream-stream.ensures
        (λ t used. let k = c.in-Ok.ensures.ok t used in
        (record (changed (wrote k.0 []) t) { resets = t.resets ++ c.stream-stream.result ∷ [] }, k.2, (k.0, k.1, refl))),
  ),
  tt,
  λ t used. subst (λ s. (is_alive t.connection_trace && is_live t.connection_trace.role t.connection_trace.frames s) ≡ true)
      c.stream-stream.ensures (c.in-Ok.ensures.sends t used),
)
