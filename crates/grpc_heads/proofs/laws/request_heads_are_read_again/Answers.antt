use Rattle.grpc_heads.proofs.HeadsAgain.{head_again}
use Rattle.grpc_heads.proofs.laws.request_heads_are_read_again.Goals as goal

pub returns : goal.returns
returns c method = head_again method
