use Rattle.std.proofs.Common.{List, refl, subst, sym}
use Rattle.http_connection.specs.ConnectionTrace.{begun}
use Rattle.grpc_stream.specs.CallTrace.{fresh}
use Rattle.kept_calls.specs.declared.call.Call.{Call}
use Rattle.kept_calls.specs.CallState.{states}
use Rattle.call_hearing.specs.declared.pending.Pending.TheVariants.{Nothing}
use Rattle.call_standing.specs.Standing.{Holds, bare}
use Rattle.call_standing.proofs.Fresh.{fresh_holds, fresh_rest}
use Rattle.grpc_calls.proofs.calls.Calls.new.Goals as goal

pub returns : goal.returns
returns g c = λ limits first n text stands. record {
  connected = stands;
  alive = refl;
  holds = subst (λ (cs : List Call). Holds (record { role = c.args.role; calls = states cs; pending = Nothing }) (bare (fresh (begun c.args.role limits first) n)))
      (sym c.new.ensures.items) (fresh_holds c.args.role limits first n text);
  rest = fresh_rest c.args.role limits first n text (g.met.C.HttpConnection.sound c.args.conn (begun c.args.role limits first) stands).given;
}
