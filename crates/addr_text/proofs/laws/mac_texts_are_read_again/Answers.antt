use Rattle.addr_text.proofs.Again.{mac_again, below_from_all}
use Rattle.addr_text.proofs.laws.mac_texts_are_read_again.Goals as goal

pub returns : goal.returns
returns c octets six small = mac_again octets six (below_from_all 256 octets small)
