use Rattle.addr_text.proofs.Prefixes.{v4_address_again, v6_address_again}
use Rattle.addr_text.proofs.laws.addresses_are_read_again.Goals as goal

pub returns-clause-v4 : goal.returns-clause-v4
returns-clause-v4 c = v4_address_again

pub returns-clause-v6 : goal.returns-clause-v6
returns-clause-v6 c = v6_address_again
