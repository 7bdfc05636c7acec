use Rattle.http_connection.proofs.Said.{fed_alive}
use Rattle.h2_conn.specs.State.{state_of}
use Rattle.h2_conn.proofs.Feeding.{feeds}
use Rattle.h2_conn.proofs.conn.connection_impl.H2ConnHttpConnection.feed.Goals as goal

pub returns-in-Ok-clause-ok : goal.returns-in-Ok-clause-ok
returns-in-Ok-clause-ok c = λ d h.
    let g = c.args.self.now in
    feeds (state_of g) d c.feed.new.self c.args.piece c.in-Ok.ensures.stands (fed_alive g.reader c.feed.new.self c.args.piece c.in-Ok.ensures.ok) h
