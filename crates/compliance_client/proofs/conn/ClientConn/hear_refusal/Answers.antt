use Rattle.std.proofs.Common.{ap, subst}
use Rattle.std.specs.Prelude.{IfOk}
use Rattle.compliance_client.specs.Turns.{MayReset}
use Rattle.compliance_client.specs.declared.conn.ClientConn.{ClientConn}
use Rattle.compliance_client.proofs.conn.ClientConn.hear_refusal.Goals as goal

pub returns-clause-ok : goal.returns-clause-ok
returns-clause-ok g c =
    subst (λ k. IfOk c.reset.result (λ is_reset. MayReset g.K.CallConnection.stands is_reset c.args.stream k c.reset.new.self.calls))
    (ap (λ (x : ClientConn g.row.K.Denot). x.calls) c.hear_end.ensures.same) c.reset.ensures.ok
