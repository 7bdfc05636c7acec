use Rattle.grpc_stream.proofs.Kept.{sending_is_kept}
use Rattle.grpc_stream.proofs.laws.sending_is_kept.Goals as goal

pub returns : goal.returns
returns c = sending_is_kept
