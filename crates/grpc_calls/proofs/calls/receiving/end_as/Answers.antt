use Rattle.std.specs.Prelude.{not}
use Rattle.kept_calls.proofs.Short.{refusal_is_short}
use Rattle.grpc_calls.proofs.calls.receiving.end_as.Goals as goal

pub refuse-requires : goal.refuse-requires
refuse-requires c = refusal_is_short c.args.n.now c.args.status.now (not c.args.call.now.has_message) c.in-Ok.fields c.in-Ok.ensures c.requires
