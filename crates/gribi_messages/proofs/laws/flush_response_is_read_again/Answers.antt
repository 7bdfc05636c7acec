use Rattle.gribi_messages.proofs.Answered.{flush_response_again}
use Rattle.gribi_messages.proofs.laws.flush_response_is_read_again.Goals as goal

pub returns : goal.returns
returns c = flush_response_again
