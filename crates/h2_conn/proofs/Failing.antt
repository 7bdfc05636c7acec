-- A frame that breaks a rule, of its stream or of the connection.
use Rattle.std.proofs.Common.{◌≡◌, ℕ, List, [], ◌∷◌, ◌++◌, Result, Err}
use Rattle.h2_frames.specs.declared.code.ErrorCode.{ErrorCode}
use Rattle.h2_frames.specs.declared.frame.Frame.{Frame}
use Rattle.h2_frames.specs.declared.frame.Frame.TheVariants.{RstStream}
use Rattle.h2_frames.specs.declared.frame.FrameBody.{FrameBody}
use Rattle.h2_exchange.specs.declared.fault.StreamFault.{StreamFault}
use Rattle.h2_exchange.specs.declared.fault.StreamFault.TheVariants.{Stream as OnStream, Connection}
use Rattle.h2_exchange.specs.Exchange.{Received, Sent}
use Rattle.h2_exchange.specs.Sending.{last_begun}
use Rattle.h2_streams.specs.declared.set.receive.SeenStream.{SeenStream}
use Rattle.h2_streams.specs.Receiving as hear
use Rattle.h2_streams.specs.Set.{Set}
use Rattle.h2_streams.specs.Stands as streams
use Rattle.http_connection.specs.ConnectionTrace.{ConnectionTrace}
use Rattle.h2_conn.specs.Hears.{FailsSo}
use Rattle.h2_conn.specs.State.{State}
use Rattle.h2_conn.specs.Steps.{Waiting}
use Rattle.h2_conn.proofs.Judged.{SaysAt, broken, faults}
use Rattle.h2_conn.proofs.Taking.{breaks}

pub fails : (s : State) (c : ConnectionTrace) (f : Frame) (w : Waiting s c f) (set : Set) (output : List ℕ) (r : Result (Unit {0}) StreamFault) (fault : StreamFault) (seen : SeenStream) (greatest : ℕ) → output ≡ s.output → SaysAt s.set c.frames f r → r ≡ Err fault →
    ((id : ℕ) (why : ErrorCode) → r ≡ Err (OnStream id why) → (b : FrameBody) → b.stream ≡ id → streams.StandsFor set (c.frames ++ Received f ∷ Sent (RstStream b) ∷ [])) → (set.role ≡ s.set.role) × (set.limits ≡ s.set.limits) →
    seen ≡ hear.stream_seen s.set f → last_begun c.role c.frames ≡ greatest → FailsSo (record s { set = set; output = output }) c f fault seen greatest
fails s c f w set output r (OnStream id why) seen greatest same e err stand kept saw begun =
    faults s c f w set output r id why seen greatest same e err (stand id why err) kept saw begun
fails s c f w set output r (Connection why) seen greatest same e err stand kept saw begun =
    breaks s (record s { set = set; output = output }) c f why greatest w w.stands.role_is w.stands.limits_are w.stands.holding_is same (broken s c f w r why e err) begun
