-- The calls that aren't over, and what is asked of one.
use Rattle.std.specs.Prelude.{ℕ, suc, length, Bool, true, false, not, cond, nat_lt, List, [], ◌∷◌, Option, Some, None}
use Rattle.std.specs.BTreeMap.{is_at}
use Rattle.std.specs.Map.{lookup}
use Rattle.std.specs.Ordering.{nat_cmp}
use Rattle.grpc_heads.specs.declared.head.Method.{Method}
use Rattle.session_engine.specs.declared.open_calls.OpenCall.{OpenCall}
use Rattle.session_engine.specs.declared.open_calls.OpenCall.TheVariants as opened

-- the calls that aren't over, with their streams
abbrev pub OpenCallsView : Type 0
OpenCallsView = List (ℕ × OpenCall)

-- the call on a stream
abbrev pub call_on : OpenCallsView → ℕ → Option OpenCall
call_on calls stream = lookup (is_at (nat_cmp stream)) calls

-- the session of a Modify call, and whether its client has ended its side
abbrev pub session_in : Option OpenCall → Option (ℕ × Bool)
session_in (Some (opened.Modifies session is_finished)) = Some (session, is_finished)
session_in other = None

-- the session of a Modify call whose client has more to say
abbrev pub open_session : Option OpenCall → Option ℕ
open_session (Some (opened.Modifies session false)) = Some session
open_session other = None

-- a Modify call, which has a session
abbrev pub is_session : OpenCall → Bool
is_session (opened.Modifies session is_finished) = true
is_session other = false

-- a Get whose rows were selected
abbrev pub is_responding : Option OpenCall → Bool
is_responding (Some (opened.Responds rows)) = true
is_responding other = false

-- how much a Get is still to be given: its rows, and its end
abbrev pub remaining : Option OpenCall → ℕ
remaining (Some (opened.Responds rows)) = suc (length rows)
remaining other = 0

-- a further message of a Get or a Flush
abbrev pub receiving : List ℕ → OpenCall → OpenCall
receiving m (opened.Receives method None is_more) = opened.Receives method (Some m) false
receiving m (opened.Receives method (Some first) is_more) = opened.Receives method (Some first) true
receiving m other = other

-- a Get or a Flush whose client has more to say
abbrev pub received_by : Option OpenCall → Option (Method × Option (List ℕ) × Bool)
received_by (Some (opened.Receives method first is_more)) = Some (method, first, is_more)
received_by other = None

-- the client of a Modify call ended its side
abbrev pub finishing : OpenCall → OpenCall
finishing (opened.Modifies session is_finished) = opened.Modifies session true
finishing other = other

-- a call whose client may say more
abbrev pub is_asking : Option OpenCall → Bool
is_asking (Some (opened.Modifies session is_finished)) = not is_finished
is_asking (Some (opened.Receives method first is_more)) = true
is_asking other = false

-- the first stream whose call passes a test
abbrev pub first_where : (OpenCall → Bool) → OpenCallsView → Option ℕ
first_where test [] = None
first_where test (e ∷ es) = cond (test e.1) (Some e.0) (first_where test es)

-- of two streams with their sessions, the one whose session is less
abbrev pub lesser : Option (ℕ × ℕ) → ℕ × ℕ → Option (ℕ × ℕ)
lesser None other = Some other
lesser (Some best) other = Some (cond (nat_lt other.1 best.1) other best)

-- the stream with the least session so far, and behind one more call
abbrev pub oldest_behind : Option (ℕ × ℕ) → ℕ → OpenCall → Option (ℕ × ℕ)
oldest_behind best stream (opened.Modifies session is_finished) = lesser best (stream, session)
oldest_behind best stream other = best

-- the same behind all calls
abbrev pub oldest_of : Option (ℕ × ℕ) → OpenCallsView → Option (ℕ × ℕ)
oldest_of best [] = best
oldest_of best (e ∷ es) = oldest_of (oldest_behind best e.0 e.1) es
