use Rattle.std.proofs.Common.{ap, ◌∙◌, arith}
use Rattle.h2_conn.specs.Crediting.{ahead_in}
use Rattle.h2_conn.specs.State.{state_of}
use Rattle.h2_conn.proofs.Releasing.{ahead_at, next_credits}
use Rattle.h2_conn.proofs.conn.H2Conn.grant_each.Goals as goal

pub streams-preserved : goal.streams-preserved
streams-preserved c = record {
  room = omega (arith, c.streams.invariant.room, c.grant_at.ensures.len, c.grant_at.ensures.capacity, c.streams-test.true);
  goes = λ d first. next_credits (state_of c.streams.self) d c.streams.place (c.streams.invariant.goes d first) (state_of c.grant_at.new.self) c.grant_at.ensures.state;
  ahead = ap ahead_in c.grant_at.ensures.state ∙ ahead_at _ (state_of c.streams.self) ∙ c.streams.invariant.ahead;
}
