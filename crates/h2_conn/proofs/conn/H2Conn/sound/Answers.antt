use Rattle.h2_conn.proofs.conn.H2Conn.sound.Goals as goal

pub returns-then-is_data-clause-took : goal.returns-then-is_data-clause-took
returns-then-is_data-clause-took c = λ d h. c.on_data.ensures.took d c.args.last h

pub returns-else-is_rst_stream-clause-took : goal.returns-else-is_rst_stream-clause-took
returns-else-is_rst_stream-clause-took c = λ d h. c.control.ensures.took d c.args.seen c.args.last h
