use Rattle.std.proofs.Common.{Err, refl, subst, ◌≡◌, true}
use Rattle.h2_exchange.specs.StreamParts.{Message}
use Rattle.http_connection.specs.Sends.{SendsWhere}
use Rattle.grpc_stream.specs.CallTrace.{Carries, is_taking, took}
use Rattle.gribi_messages.specs.RequestEncoding.{request_bytes}
use Rattle.compliance_client.specs.Deeds.{elects}
use Rattle.compliance_client.proofs.Places.{changed_at, found_here}
use Rattle.compliance_client.proofs.conn.ClientConn.give.Goals as goal

pub returns-in_default-clause-goes : goal.returns-in_default-clause-goes
returns-in_default-clause-goes g c = λ p found. (
  c.index.result.now,
  found_here p c.args.self.now.kept.items c.args.at c.index.result.now found c.index.ensures,
  tt,
  (refl, λ t used. used),
  λ t used. tt,
)

pub returns-then-len-gt-LIMIT-clause-goes : goal.returns-then-len-gt-LIMIT-clause-goes
returns-then-len-gt-LIMIT-clause-goes g c = λ p found. (
  c.index.result.now,
  found_here p c.args.self.now.kept.items c.args.at c.index.result.now found c.index.ensures,
  tt,
  (refl, λ t used. used),
  λ t used. tt,
)

pub returns-in-Err-clause-goes : goal.returns-in-Err-clause-goes
returns-in-Err-clause-goes g c = λ p found. (
  c.index.result.now,
  found_here p c.args.self.now.kept.items c.args.at c.index.result.now found c.index.ensures,
  tt,
  (refl, c.in-Err.ensures.err),
  λ t used. subst (λ s. SendsWhere {A = Unit {0}} (is_taking t s) (Err c.in-Err.fault)) c.stream-stream.ensures (c.in-Err.ensures.sends t used),
)

pub returns-in-Ok-answer-clause-goes : goal.returns-in-Ok-answer-clause-goes
returns-in-Ok-answer-clause-goes g c = λ p found. (
  c.index.result.now,
  found_here p c.args.self.now.kept.items c.args.at c.index.result.now found c.index.ensures,
  (
    changed_at p (elects c.args.request.now.election) c.args.self.now.kept.items c.args.at c.index_mut.result.now c.elect.new.self found
        c.index_mut.ensures.value c.elect.ensures,
    subst (λ s. Carries (g.K.CallConnection.stands c.args.self.now.calls) (g.K.CallConnection.stands c.answer.new.self)
        (took s (Message (request_bytes c.args.n.now c.args.request.now)))) c.stream-stream.ensures
        (subst (λ b. Carries (g.K.CallConnection.stands c.args.self.now.calls) (g.K.CallConnection.stands c.answer.new.self)
        (took c.stream-stream.result (Message b))) c.in-Ok.ensures c.in-Ok-answer.ensures.ok),
  ),
  tt,
  λ t used. subst (λ s. is_taking t s ≡ true) c.stream-stream.ensures (c.in-Ok-answer.ensures.sends t used),
)
