use Rattle.h2_conn.proofs.conn.H2Conn.faulty.Goals as goal

pub returns-else-is_block_part-clause-took : goal.returns-else-is_block_part-clause-took
returns-else-is_block_part-clause-took c = λ d h. c.on_error.ensures.took d c.args.seen c.args.last h
