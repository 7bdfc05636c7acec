-- What a cutter gives of the bytes that it holds.
use Rattle.std.specs.Prelude.{◌≡◌, ◌⊎◌, ℕ, ◌+◌, List, ◌++◌, length, take, drop, Some, None, is_some, if◌then◌else◌}
use Rattle.grpc_framing.specs.declared.front.Front.TheVariants as front
use Rattle.grpc_framing.specs.declared.cutter.Cut.{Cut}
use Rattle.grpc_framing.specs.declared.cutter.Cut.TheVariants.{Message, NeedMore, Compressed, TooLong, NoMemory}
use Rattle.grpc_framing.specs.declared.cutter.Refusal.{Refusal}
use Rattle.grpc_framing.specs.declared.cutter.Refusal.TheVariants as was
use Rattle.grpc_framing.specs.Framing.{front_at, first_then, messages_of}
use Rattle.grpc_framing.specs.CutterState.{CutterState}

-- a piece stands behind what is held, unless the cutter has refused
abbrev pub fed : CutterState → List ℕ → CutterState
fed c piece = if is_some c.refusal then c else record { limit = c.limit; held = c.held ++ piece; refusal = c.refusal }

-- a cutter refuses, now for this cause or as it did before
pub record Refuses (why : Refusal) (cause : Type 0) (old new : CutterState) : Type 0 where
  pub dead : new ≡ record { limit = old.limit; held = old.held; refusal = Some why }
  pub cause_is : (old.refusal ≡ Some why) ⊎ ((old.refusal ≡ None) × cause)

-- Each answer comes exactly where this stands at the front. Only a message is taken, and memory can be wanting only for one.
abbrev pub NextMessage : CutterState → Cut → CutterState → Type 0
NextMessage old (Message message) new =
    (front_at old.limit old.held ≡ front.Message (length message))
    × (message ≡ take (length message) (drop 5 old.held))
    × (new ≡ record { limit = old.limit; held = drop (5 + length message) old.held; refusal = None })
    × (old.refusal ≡ None)
NextMessage old NeedMore new = (front_at old.limit old.held ≡ front.NeedMore) × (new ≡ old) × (old.refusal ≡ None)
NextMessage old Compressed new = Refuses was.Compressed (front_at old.limit old.held ≡ front.Compressed) old new
NextMessage old TooLong new = Refuses was.TooLong (front_at old.limit old.held ≡ front.TooLong) old new
NextMessage old NoMemory new = Refuses was.NoMemory ((n : ℕ) × (front_at old.limit old.held ≡ front.Message n)) old new

-- Whatever follows, the messages of the stream are the one that was given and those of what is held now.
abbrev pub LeavesRest : CutterState → Cut → CutterState → Type 0
LeavesRest old (Message message) new =
    (more : List ℕ) →
    messages_of old.limit (old.held ++ more) ≡ first_then message (messages_of new.limit (new.held ++ more))
LeavesRest old NeedMore new = new.held ≡ old.held
LeavesRest old Compressed new = new.held ≡ old.held
LeavesRest old TooLong new = new.held ≡ old.held
LeavesRest old NoMemory new = new.held ≡ old.held

abbrev pub told : Refusal → Cut
told was.Compressed = Compressed
told was.TooLong = TooLong
told was.NoMemory = NoMemory

-- a cutter that has refused says the same again and stays as it is
abbrev pub StaysRefused : CutterState → Cut → CutterState → Type 0
StaysRefused old cut new = (why : Refusal) → old.refusal ≡ Some why → (cut ≡ told why) × (new ≡ old)
