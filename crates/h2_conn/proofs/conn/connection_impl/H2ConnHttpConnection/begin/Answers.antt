use Rattle.std.proofs.Common.{sym, ◌∙◌}
use Rattle.h2_conn.specs.State.{state_of}
use Rattle.h2_conn.proofs.Asking.{goes_on, some_why}
use Rattle.h2_conn.proofs.Opening.{begun_with, begins_where}
use Rattle.h2_conn.proofs.conn.connection_impl.H2ConnHttpConnection.begin.Goals as goal

pub begin_stream-requires-clause-client : goal.begin_stream-requires-clause-client
begin_stream-requires-clause-client c = λ e.
    let k = c.requires.client in
    (k.1.goes (goes_on (state_of c.args.self.now).refusal (some_why c.args.self.now.refusal ∙ e))).set_role ∙ k.2

pub returns-clause-ok : goal.returns-clause-ok
returns-clause-ok c = λ d h.
    let k = c.requires.client in
    let b = c.begin_stream.ensures in
    begun_with (state_of c.args.self.now) (state_of c.begin_stream.new.self) d c.args.fields.now c.begin_stream.result b.ok b.fits b.bytes _ (some_why c.args.self.now.refusal) b.alive c.requires.size
    (h.role_is ∙ sym k.1.role_is ∙ k.2) h

pub returns-clause-begins : goal.returns-clause-begins
returns-clause-begins c = λ d h.
    let k = c.requires.client in
    let b = c.begin_stream.ensures in
    begins_where (state_of c.args.self.now) (state_of c.begin_stream.new.self) d c.args.fields.now _ c.begin_stream.result (some_why c.args.self.now.refusal) b.ok b.fits b.alive b.refused b.spent
    (h.role_is ∙ sym k.1.role_is ∙ k.2) h
