use Rattle.addr_text.proofs.Prefixes.{v6_prefix_again}
use Rattle.addr_text.proofs.laws.v6_prefixes_are_read_again.Goals as goal

pub returns : goal.returns
returns c = v6_prefix_again
