use Rattle.std.proofs.Common.{sym, ◌∙◌}
use Rattle.h2_conn.specs.State.{state_of}
use Rattle.h2_conn.proofs.Asking.{some_why}
use Rattle.h2_conn.proofs.Opening.{blocks, block_where, plain_style}
use Rattle.h2_conn.proofs.conn.connection_impl.H2ConnHttpConnection.send_head.Goals as goal

pub returns-clause-room : goal.returns-clause-room
returns-clause-room c = λ d h server room e.
    c.send_block.ensures.plain (sym h.role_is ∙ server) (plain_style (state_of c.args.self.now) d _ (some_why c.args.self.now.refusal) h server) room e

pub returns-clause-ok : goal.returns-clause-ok
returns-clause-ok c = λ d h.
    blocks (state_of c.args.self.now) (state_of c.send_block.new.self) d c.args.stream c.args.last _ c.args.fields.now c.send_block.result (some_why c.args.self.now.refusal) c.send_block.ensures.ok c.send_block.ensures.bytes c.requires c.send_block.ensures.sends h

pub returns-clause-sends : goal.returns-clause-sends
returns-clause-sends c = λ d h.
    block_where (state_of c.args.self.now) d c.args.stream _ c.send_block.result (some_why c.args.self.now.refusal) c.send_block.ensures.sends h
