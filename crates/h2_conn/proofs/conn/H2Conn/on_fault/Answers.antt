use Rattle.std.proofs.Common.{subst}
use Rattle.h2_exchange.specs.declared.fault.StreamFault.{StreamFault}
use Rattle.h2_conn.specs.Hears.{FailsSo}
use Rattle.h2_conn.specs.State.{state_of}
use Rattle.h2_conn.proofs.conn.H2Conn.on_fault.Goals as goal

pub returns-in-Stream-clause-took : goal.returns-in-Stream-clause-took
returns-in-Stream-clause-took c = λ d h.
    c.faulty.ensures.took d (subst (λ (x : StreamFault). FailsSo (state_of c.args.self.now) d c.args.frame.now x c.args.seen c.args.last) c.in-Stream.is h)

pub returns-in-Connection-clause-took : goal.returns-in-Connection-clause-took
returns-in-Connection-clause-took c = λ d h.
    subst (λ (x : StreamFault). FailsSo (state_of c.args.self.now) d c.args.frame.now x c.args.seen c.args.last) c.in-Connection.is h
