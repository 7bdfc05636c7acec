use Rattle.std.proofs.Common.{inr, refl}
use Rattle.compliance_client.specs.Sends.{begun_with}
use Rattle.compliance_client.proofs.conn.ClientConn.call_whole.Goals as goal

pub returns-in-Err-ask_all-clause-err : goal.returns-in-Err-ask_all-clause-err
returns-in-Err-ask_all-clause-err g c = inr (
  refl,
  refl,
  c.in-Ok.stream,
  λ t used.
      let k = c.in-Ok.ensures.ok.1 t used in
      (k.0, k.1, c.in-Err-ask_all.ensures.err (begun_with k.0 c.in-Ok.stream c.args.method t) k.2),
)
