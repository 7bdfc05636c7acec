-- What a connection becomes where credit that was held back is released.
use Rattle.std.specs.Prelude.{◌≡◌, ℕ, ◌+◌, ◌<◌, Bool, true, map, All, List, [], ◌++◌, length, Option, Some, None, slice_get}
use Rattle.h2_frames.specs.declared.frame.Frame.{Frame}
use Rattle.h2_exchange.specs.Exchange.{Step, Sent, received, sent}
use Rattle.h2_exchange.specs.Sending.{IsCredited}
use Rattle.h2_exchange.specs.Streams.{live}
use Rattle.h2_exchange.specs.Windows.{granted_on, spent_on, spent}
use Rattle.http_connection.specs.ConnectionTrace.{ConnectionTrace, wrote, held}
use Rattle.http_connection.specs.Sends.{IsCredit, CarryCredit}
use Rattle.h2_conn.specs.Credit.{stream_granted}
use Rattle.h2_conn.specs.State.{State}
use Rattle.h2_conn.specs.Standing.{Stands, told_later}

-- as `ahead_of`
abbrev pub ahead_in : State → ℕ
ahead_in s = length s.reader.held + told_later s.ended

abbrev pub granted_at : Option ℕ → State → State
granted_at None s = s
granted_at (Some id) s = stream_granted id s

-- These frames were sent, and the connection's window is whole, and so are those of the first so many live streams.
pub record Credits (s : State) (c : ConnectionTrace) (k : ℕ) : Type 0 where
  pub fs : List Frame
  pub x : List Step
  pub x_is : x ≡ c.frames ++ map Sent fs
  pub are : All (IsCredit c) fs
  pub stands : Stands s (record c { frames = x })
  pub alive : s.refusal ≡ None
  pub holds : s.is_holding ≡ true
  pub lives : live c.role x ≡ live c.role c.frames
  pub whole : 65535 + granted_on 0 (sent x) ≡ c.limits.window + spent (received x)
  pub done : (j id : ℕ) → j < k → slice_get (live c.role c.frames) j ≡ Some id → granted_on id (sent x) ≡ spent_on id (received x)

-- all that was owed was sent
pub record Releases (s : State) (c : ConnectionTrace) : Type 0 where
  pub fs : List Frame
  pub are : All (IsCredit c) fs
  pub stands : Stands s (wrote fs [] c)
  pub credited : IsCredited c.role c.limits (c.frames ++ map Sent fs)

-- a hold begins or ends
abbrev pub Holds : Bool → ConnectionTrace → State → Type 0
Holds hold c s = (fs : List Frame) × CarryCredit hold c fs × Stands s (held hold (wrote fs [] c))
