use Rattle.addr_text.specs.Printed.{v4_text}
use Rattle.addr_text.proofs.Printing.{quads_written}
use Rattle.addr_text.proofs.print.put_v4.Goals as goal

pub returns-clause-bytes : goal.returns-clause-bytes
unfolding v4_text
returns-clause-bytes c = quads_written _ _ _ _ _ _ _ _ c.put_pair.ensures.bytes c.put.ensures.bytes c.put_pair-2.ensures.bytes
