use Rattle.std.proofs.Common.{subst}
use Rattle.std.specs.Prelude.{OnOk}
use Rattle.grpc_heads.specs.CallEnd.{HalfClose}
use Rattle.h2_exchange.specs.StreamParts.{Finish}
use Rattle.http_connection.specs.Sends.{SendsWhere}
use Rattle.grpc_stream.specs.CallTrace.{Carries, is_taking, took}
use Rattle.compliance_client.proofs.Places.{found_here}
use Rattle.compliance_client.proofs.conn.ClientConn.finish_at.Goals as goal

pub returns-clause-goes : goal.returns-clause-goes
returns-clause-goes g c = λ p found. (
  c.index.result.now,
  found_here p c.args.self.now.kept.items c.args.at c.index.result.now found c.index.ensures,
  subst (λ s. OnOk c.finish.result (Carries (g.K.CallConnection.stands c.args.self.now.calls) (g.K.CallConnection.stands c.finish.new.self)
      (took s (Finish HalfClose)))) c.stream-stream.ensures c.finish.ensures.ok,
  c.finish.ensures.err,
  λ t used. subst (λ s. SendsWhere (is_taking t s) c.finish.result) c.stream-stream.ensures (c.finish.ensures.sends t used),
)
