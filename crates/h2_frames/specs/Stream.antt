-- The frames of a list of bytes, and how a reader stands for it.
use Rattle.std.specs.Prelude.{◌≡◌, ℕ, ◌+◌, ◌-◌, ◌^◌, ◌≤◌, Bool, List, [], ◌∷◌, ◌++◌, length, take, drop, min, codes, sum_by, Some, None, MatchOption, is_some, if◌then◌else◌, ◌⊎◌, ◌↔◌, IsTrue}
use Rattle.h2_frames.specs.declared.code.ErrorCode.{ErrorCode}
use Rattle.h2_frames.specs.declared.code.TheConstants.ErrorCode as codes_of
use Rattle.h2_frames.specs.declared.frame.Frame.{Frame}
use Rattle.h2_frames.specs.declared.reader.FrameNext.{FrameNext}
use Rattle.h2_frames.specs.declared.reader.FrameNext.TheVariants as NextFrame
use Rattle.h2_frames.specs.declared.reader.Refusal.{Refusal}
use Rattle.h2_frames.specs.declared.reader.Refusal.TheVariants as Was
use Rattle.h2_frames.specs.Layout.{IsFrame, size_of, IsPartial, IsTooLong, BeginsWithFrame}
use Rattle.h2_frames.specs.Reader.{Reader}

-- what a client writes before its first frame
abbrev pub preface : List ℕ
preface = codes "PRI * HTTP/2.0" ++ 13 ∷ 10 ∷ 13 ∷ 10 ∷ codes "SM" ++ 13 ∷ 10 ∷ 13 ∷ 10 ∷ []

abbrev pub preface_if : Bool → List ℕ
preface_if due = if due then preface else []

-- the bytes begin with what is due, or are a first part of it
abbrev pub MatchesPreface : List ℕ → List ℕ → Type 0
MatchesPreface due bytes = take (length due) bytes ≡ take (length bytes) due

-- a place is at most 2^64 - 1
abbrev pub place_at : ℕ → ℕ
place_at n = min n (2 ^ 64 - 1)

abbrev pub fed : Reader → List ℕ → Reader
fed r piece = if is_some r.refusal then r else record { awaited = r.awaited; held = r.held ++ piece; place = r.place; refusal = r.refusal }

-- a frame stands in front, and these are the bytes after it
pub record TakesFrame (bytes : List ℕ) (f : Frame) (rest : List ℕ) : Type 0 where
  pub whole : size_of f ≤ length bytes
  pub frame : IsFrame (take (size_of f) bytes) f
  pub rest_is : rest ≡ drop (size_of f) bytes

-- a frame is given, from behind what is awaited
pub record GivesFrame (old : Reader) (f : Frame) (new : Reader) : Type 0 where
  pub alive : old.refusal ≡ None
  pub follows : MatchesPreface old.awaited old.held
  pub takes : TakesFrame (drop (length old.awaited) old.held) f new.held
  pub awaited : new.awaited ≡ []
  pub place : new.place ≡ place_at (old.place + (length old.awaited + size_of f))
  pub goes_on : new.refusal ≡ None

-- the bytes that are held can still become what is awaited and a frame
pub record NeedsMore (old new : Reader) : Type 0 where
  pub alive : old.refusal ≡ None
  pub follows : MatchesPreface old.awaited old.held
  pub partial : IsPartial (drop (length old.awaited) old.held)
  pub same : new ≡ old

-- they can't, and this is why
abbrev pub Breaks : Reader → ErrorCode → ℕ → Type 0
Breaks r code place =
    ((MatchesPreface r.awaited r.held → ⊥) × (code ≡ codes_of.PROTOCOL_ERROR) × (place ≡ 0))
    ⊎ (MatchesPreface r.awaited r.held × IsTooLong (drop (length r.awaited) r.held) × (code ≡ codes_of.FRAME_SIZE_ERROR)
    × (place ≡ place_at (r.place + length r.awaited)))

pub record Refuses (old : Reader) (code : ErrorCode) (place : ℕ) (new : Reader) : Type 0 where
  pub dead : new.refusal ≡ Some (Was.Broken code place)
  pub cause : (new ≡ old) ⊎ ((old.refusal ≡ None) × Breaks old code place)

-- the reader has no memory for the whole frame that it holds, or had none before
pub record RunsOutOfMemory (old new : Reader) : Type 0 where
  pub dead : new.refusal ≡ Some Was.NoMemory
  pub cause : (new ≡ old) ⊎ ((old.refusal ≡ None) × MatchesPreface old.awaited old.held × BeginsWithFrame (drop (length old.awaited) old.held))

-- what `next` answers, and what it leaves
abbrev pub Answers : Reader → FrameNext → Reader → Type 0
Answers old (NextFrame.Frame f) new = GivesFrame old f new
Answers old NextFrame.NeedMore new = NeedsMore old new
Answers old (NextFrame.Refused code place) new = Refuses old code place new
Answers old NextFrame.NoMemory new = RunsOutOfMemory old new

abbrev pub refusal_answer : Refusal → FrameNext
refusal_answer (Was.Broken code place) = NextFrame.Refused code place
refusal_answer Was.NoMemory = NextFrame.NoMemory

-- a reader that has refused says the same again and stays as it is
abbrev pub StaysRefused : Reader → FrameNext → Reader → Type 0
StaysRefused old next new = (why : Refusal) → old.refusal ≡ Some why → (next ≡ refusal_answer why) × (new ≡ old)

-- ---- whole lists of bytes

-- these frames stand one after another, and then the rest
abbrev pub Reads : List ℕ → List Frame → List ℕ → Type 0
Reads bytes [] rest = rest ≡ bytes
Reads bytes (f ∷ fs) rest = (size_of f ≤ length bytes) × IsFrame (take (size_of f) bytes) f × Reads (drop (size_of f) bytes) fs rest

-- The frames of these bytes: what is due first or a part of it, then frames, then less than a whole one.
pub record Frames (due bytes : List ℕ) (frames : List Frame) (rest : List ℕ) : Type 0 where
  pub follows : MatchesPreface due bytes
  pub reads : Reads (drop (length due) bytes) frames rest
  pub partial : IsPartial rest

-- the place behind these frames
abbrev pub place_after : List ℕ → List Frame → ℕ
place_after due frames = place_at (length due + sum_by size_of frames)

-- The bytes begin as no first part of what is due, or these frames stand first and then a length that is too long.
abbrev pub IsBroken : List ℕ → List ℕ → List Frame → ErrorCode → ℕ → Type 0
IsBroken due bytes frames code place =
    ((MatchesPreface due bytes → ⊥) × (frames ≡ []) × (code ≡ codes_of.PROTOCOL_ERROR) × (place ≡ 0))
    ⊎ ((rest : List ℕ) × MatchesPreface due bytes × Reads (drop (length due) bytes) frames rest × IsTooLong rest × (code ≡ codes_of.FRAME_SIZE_ERROR)
    × (place ≡ place_after due frames))

-- ---- a reader

-- a reader that has not refused, for what it was fed and the frames that it gave
abbrev pub StandsAlive : List ℕ → Reader → List ℕ → List Frame → Type 0
StandsAlive due r bytes [] = (r.awaited ≡ due) × (r.held ≡ bytes) × (r.place ≡ 0)
StandsAlive due r bytes (f ∷ fs) = (r.awaited ≡ []) × MatchesPreface due bytes × Reads (drop (length due) bytes) (f ∷ fs) r.held
    × (r.place ≡ place_after due (f ∷ fs))

-- these frames stand first behind what is due, and then another whole one
abbrev pub HasAnother : List ℕ → List ℕ → List Frame → Type 0
HasAnother due bytes given = (rest : List ℕ) × MatchesPreface due bytes × Reads (drop (length due) bytes) given rest × BeginsWithFrame rest

abbrev pub StandsDead : Refusal → List ℕ → List ℕ → List Frame → Type 0
StandsDead (Was.Broken code place) due bytes given = IsBroken due bytes given code place
StandsDead Was.NoMemory due bytes given = HasAnother due bytes given

-- The reader was made with this due, was fed these bytes and gave these frames.
abbrev pub Stands : List ℕ → Reader → List ℕ → List Frame → Type 0
Stands due r bytes given = MatchOption r.refusal (StandsAlive due r bytes given) (λ why. StandsDead why due bytes given)

abbrev pub StandsAfter : FrameNext → List ℕ → Reader → List ℕ → List Frame → Type 0
StandsAfter (NextFrame.Frame f) due new bytes given = Stands due new bytes (given ++ f ∷ [])
StandsAfter NextFrame.NeedMore due new bytes given = Stands due new bytes given × ((rest : List ℕ) × Frames due bytes given rest)
StandsAfter (NextFrame.Refused code place) due new bytes given = Stands due new bytes given × IsBroken due bytes given code place
StandsAfter NextFrame.NoMemory due new bytes given = Stands due new bytes given × HasAnother due bytes given

-- a piece makes the bytes so far the old ones followed by the piece
abbrev pub CarriesPiece : Reader → List ℕ → Reader → Type 0
CarriesPiece old piece new = (due bytes : List ℕ) (given : List Frame) → Stands due old bytes given → Stands due new (bytes ++ piece) given

abbrev pub CarriesNext : Reader → FrameNext → Reader → Type 0
CarriesNext old next new = (due bytes : List ℕ) (given : List Frame) → Stands due old bytes given → StandsAfter next due new bytes given

-- the bytes are what is due and these frames, and end there
pub record AreWhole (due bytes : List ℕ) (given : List Frame) : Type 0 where
  pub follows : MatchesPreface due bytes
  pub long : length due ≤ length bytes
  pub reads : Reads (drop (length due) bytes) given []

-- for a reader that has not refused the answer says whether the bytes are what was due and the frames that were given
abbrev pub EndsBetween : Reader → Bool → Type 0
EndsBetween r answer = (due bytes : List ℕ) (given : List Frame) → Stands due r bytes given → r.refusal ≡ None → IsTrue answer ↔ AreWhole due bytes given
