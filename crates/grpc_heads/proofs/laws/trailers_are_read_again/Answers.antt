use Rattle.grpc_heads.proofs.Reasons.{trailers_again}
use Rattle.grpc_heads.proofs.laws.trailers_are_read_again.Goals as goal

pub returns : goal.returns
returns c n ending valid low small long = trailers_again n valid ending low small long
