-- How many bytes can be sent without memory.
use Rattle.std.specs.Prelude.{ℕ, ◌-◌}
use Rattle.std.specs.Vec.{vec_capacity, vec_len}
use Rattle.h2_conn.specs.declared.conn.H2Conn.{H2Conn}

abbrev pub room_in : H2Conn → ℕ
room_in h = vec_capacity h.out - vec_len h.out
