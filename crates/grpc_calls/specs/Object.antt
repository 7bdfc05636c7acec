-- How an object of calls stands for what its calls were used for.
use Rattle.std.specs.Prelude.{ℕ, ◌+◌, ◌*◌, List}
use Rattle.http_connection.specs.ConnectionTrace.{ConnectionTrace}
use Rattle.grpc_stream.specs.CallTrace.{CallTrace}
use Rattle.kept_calls.specs.CallState.{states}
use Rattle.call_hearing.specs.Listening.{told_later}
use Rattle.call_standing.specs.Standing.{StandsFor, State, shown_by}
use Rattle.grpc_calls.specs.declared.calls.Calls.{Calls}

abbrev pub state_in : {C : Type 0} → Calls C → State
state_in c = record { role = c.role; calls = states c.calls.items; pending = c.pending }

-- so calls stand for what they were used for
abbrev pub StandAs : {C : Type 0} → (C → ConnectionTrace → Type 0) → (C → List ℕ) → Calls C → CallTrace → Type 0
StandAs stands output c t = StandsFor stands output c.fate c.conn (state_in c) t

abbrev pub output_in : {C : Type 0} → (C → List ℕ) → Calls C → List ℕ
output_in output c = shown_by c.fate (output c.conn)

-- how many steps it takes at most until all that was fed is told: an event brings at most 16,384 bytes and one step more
abbrev pub ahead_in : {C : Type 0} → (C → ℕ) → Calls C → ℕ
ahead_in ahead c = 16386 * ahead c.conn + told_later (states c.calls.items) c.pending
