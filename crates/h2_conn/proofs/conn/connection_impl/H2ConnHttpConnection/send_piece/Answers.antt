use Rattle.std.proofs.Common.{sym, ◌∙◌}
use Rattle.h2_conn.specs.State.{state_of}
use Rattle.h2_conn.proofs.Asking.{place_where, some_why}
use Rattle.h2_conn.proofs.Pieces.{pieces}
use Rattle.h2_conn.proofs.conn.connection_impl.H2ConnHttpConnection.send_piece.Goals as goal

pub returns-clause-room : goal.returns-clause-room
returns-clause-room c = λ d h server room e. c.place.ensures.plain (sym h.role_is ∙ server) room e

pub returns-clause-ok : goal.returns-clause-ok
returns-clause-ok c = λ d h.
    pieces (state_of c.args.self.now) (state_of c.place.new.self) d c.args.stream c.args.piece.now c.args.last _ c.place.result (some_why c.args.self.now.refusal) c.place.ensures.ok c.place.ensures.sends h

pub returns-clause-sends : goal.returns-clause-sends
returns-clause-sends c = λ d h.
    place_where (state_of c.args.self.now) d c.args.stream _ c.place.result (some_why c.args.self.now.refusal) c.place.ensures.sends h
