use Rattle.gribi_messages.proofs.Answered.{modify_response_again}
use Rattle.gribi_messages.proofs.laws.modify_response_is_read_again.Goals as goal

pub returns : goal.returns
returns c = modify_response_again
