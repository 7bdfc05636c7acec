use Rattle.gribi_messages.proofs.Asked.{get_again}
use Rattle.gribi_messages.proofs.laws.get_request_is_read_again.Goals as goal

pub returns : goal.returns
returns c = get_again
