use Rattle.addr_text.proofs.Prefixes.{v4_prefix_again}
use Rattle.addr_text.proofs.laws.v4_prefixes_are_read_again.Goals as goal

pub returns : goal.returns
returns c = v4_prefix_again
