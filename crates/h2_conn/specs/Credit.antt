-- Credit that is sent for what was received.
use Rattle.std.specs.Prelude.{ℕ, ◌-◌, ◌==◌, ◌++◌, if◌then◌else◌}
use Rattle.h2_exchange.specs.Sending.{update_text}
use Rattle.h2_streams.specs.Set.{Set, at, credited, credited_on, owed_in}
use Rattle.h2_conn.specs.State.{State}

-- how many bytes are to be granted so that the connection's window is whole again
abbrev pub owed_by : Set → ℕ
owed_by set = set.limits.window - set.receive

abbrev pub granted : ℕ → State → State
granted n s = if n == 0 then s else record s { output = s.output ++ update_text 0 n; set = credited n s.set }

abbrev pub granted_on : ℕ → ℕ → State → State
granted_on id n s = if n == 0 then s else record s { output = s.output ++ update_text id n; set = credited_on id n s.set }

-- the connection's window is made whole
abbrev pub all_granted : State → State
all_granted s = granted (owed_by s.set) s

-- and that of a stream
abbrev pub stream_granted : ℕ → State → State
stream_granted id s = granted_on id (owed_in s.set.limits (at id s.set)) s

abbrev pub with_credit : ℕ → State → State
with_credit id s = if s.is_holding then s else stream_granted id (all_granted s)
