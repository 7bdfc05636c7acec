use Rattle.gribi_messages.proofs.RequestAgain.{modify_request_again}
use Rattle.gribi_messages.proofs.laws.modify_request_is_read_again.Goals as goal

pub returns : goal.returns
returns c = modify_request_again
