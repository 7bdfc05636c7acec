use Rattle.std.proofs.Common.{inr, refl}
use Rattle.grpc_calls.proofs.calls.Calls.refuse.Goals as goal

pub returns-in-Ok-clause-turns : goal.returns-in-Ok-clause-turns
returns-in-Ok-clause-turns g c =
    inr (record {
      event_is = refl;
      conn_is = refl;
      fate_is = refl;
      role_is = refl;
      pending_is = refl;
      before = c.index_mut.result.now;
      after = c.refuse_as.new.call;
      stood = c.index_mut.ensures.value;
      stands = refl;
      left = c.in-Ok.ensures.ok;
    })
