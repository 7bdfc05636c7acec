use Rattle.h2_conn.specs.State.{state_of}
use Rattle.h2_conn.proofs.Ending.{after_ok}
use Rattle.h2_conn.proofs.conn.H2Conn.send_block.Goals as goal

pub returns-clause-ok : goal.returns-clause-ok
returns-clause-ok c = record {
  middle = state_of c.put_block.new.self;
  written = after_ok c.put_block.result c.is_err.result c.is_err.ensures.value c.if-is_err.false c.put_block.ensures.ok;
  state = c.end_sent.ensures.state;
}

pub returns-clause-bytes : goal.returns-clause-bytes
returns-clause-bytes c = after_ok c.put_block.result c.is_err.result c.is_err.ensures.value c.if-is_err.false c.put_block.ensures.bytes
