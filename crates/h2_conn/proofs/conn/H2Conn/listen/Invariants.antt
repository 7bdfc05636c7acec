use Rattle.std.proofs.Common.{◌≡◌, length, [], ◌≤◌}
use Rattle.http_connection.specs.Answers.{GivesEvents}
use Rattle.http_connection.specs.ConnectionTrace.{ConnectionTrace}
use Rattle.std.specs.Prelude.{None}
use Rattle.h2_conn.specs.Standing.{StandsFor}
use Rattle.h2_conn.proofs.conn.H2Conn.listen.Given as goal

-- it goes on from each course, and has given nothing
pub record Listens (l : goal.Live-frames) : Type 0 where
  pub held : length l.self.reader.held ≤ length l.fn.self.reader.held
  pub goes : (c : ConnectionTrace) → StandsFor l.fn.self c → (m : ConnectionTrace) × StandsFor l.self m × GivesEvents c [] m × (l.self.ended ≡ None)

abbrev pub invariant-frames : goal.invariant-frames
invariant-frames l = Listens l

abbrev pub decreases-frames : goal.decreases-frames
decreases-frames l = length l.self.reader.held
