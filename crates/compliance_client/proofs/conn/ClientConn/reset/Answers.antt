use Rattle.std.proofs.Common.{◌∷◌, [], ◌++◌, refl}
use Rattle.http_connection.specs.ConnectionTrace.{wrote}
use Rattle.grpc_stream.specs.CallTrace.{changed}
use Rattle.compliance_client.proofs.conn.ClientConn.reset.Goals as goal

pub returns-in-Ok-clause-ok : goal.returns-in-Ok-clause-ok
returns-in-Ok-clause-ok g c = λ t used.
    let k = c.in-Ok.ensures.ok t used in (record (changed (wrote k.0 []) t) { resets = t.resets ++ c.args.stream ∷ [] }, k.2, (k.0, k.1, refl))

pub returns-in-Err : goal.returns-in-Err
returns-in-Err g c = record {
  ok = λ t used. (t, c.in-Err.ensures.err t used, refl);
  err = tt;
  memory = tt;
  same = refl;
  ahead = c.in-Err.ensures.ahead;
}
