use Rattle.std.proofs.Common.{◌≡◌, ◌+◌, ◌-◌, ◌*◌, ◌≤◌}
use Rattle.std.specs.Vec.{vec_capacity, vec_len}
use Rattle.http_connection.specs.ConnectionTrace.{ConnectionTrace}
use Rattle.h2_conn.specs.Crediting.{ahead_in, Credits}
use Rattle.h2_conn.specs.State.{state_of}
use Rattle.h2_conn.proofs.conn.H2Conn.grant_each.Given as goal

abbrev pub invariant-streams : goal.invariant-streams
invariant-streams l = record {
  room : vec_len l.self.out + 13 * (l.count - l.place) ≤ vec_capacity l.self.out;
  goes : (c : ConnectionTrace) → Credits (state_of l.fn.self) c 0 → Credits (state_of l.self) c l.place;
  ahead : ahead_in (state_of l.self) ≡ ahead_in (state_of l.fn.self);
}
