use Rattle.gribi_messages.proofs.RowsAgain.{get_response_again}
use Rattle.gribi_messages.proofs.laws.get_response_is_read_again.Goals as goal

pub returns : goal.returns
returns c = get_response_again
