-- What a connection says next, and the frames that it receives and sends by it.
use Rattle.std.specs.Prelude.{◌≡◌, ℕ, ◌⊎◌, Bool, true, false, map, List, length, [], ◌∷◌, ◌++◌, Option, Some, None, if◌then◌else◌}
use Rattle.std.specs.List.{flat_map}
use Rattle.h2_frames.specs.declared.code.ErrorCode.{ErrorCode}
use Rattle.h2_frames.specs.declared.code.TheConstants.ErrorCode as code
use Rattle.h2_frames.specs.declared.frame.Frame.{Frame}
use Rattle.h2_frames.specs.Layout.{frame_text}
use Rattle.h2_frames.specs.Stream.{Frames, AreWhole, HasAnother}
use Rattle.h2_exchange.specs.declared.limits.H2Limits.{H2Limits}
use Rattle.h2_exchange.specs.declared.role.Role.{Role}
use Rattle.h2_exchange.specs.Blocks.{open_block}
use Rattle.h2_exchange.specs.Content.{Outcome, stream_error}
use Rattle.h2_exchange.specs.Events.{Event}
use Rattle.h2_exchange.specs.Events as event
use Rattle.h2_exchange.specs.Exchange.{Step, Received, Sent, received, sent}
use Rattle.h2_exchange.specs.Frames.{stream_of, counted}
use Rattle.h2_exchange.specs.Order.{AreFrames, peer_preface}
use Rattle.h2_exchange.specs.Sending.{ack_for, acks_for, acks_in, credit_text, reset_text, goaway_text, IsCredited}
use Rattle.h2_exchange.specs.Stops.{Stop, Error, Calm, before_stop, stop_of, IsBroken}
use Rattle.http_connection.specs.declared.event.H2Event.{H2Event}
use Rattle.http_connection.specs.declared.event.H2Event.TheVariants as says
use Rattle.http_connection.specs.ConnectionTrace.{ConnectionTrace, Refusal, Stopped, NoMemory, events_in, stop_in}

-- ---- frames that are received, and what answers them

abbrev pub text_or_none : Option (List ℕ) → List ℕ
text_or_none None = []
text_or_none (Some text) = text

-- the credit of a frame's data, unless credit is held
abbrev pub credit_for : Role → Bool → List Step → Frame → List ℕ
credit_for role is_holding now f = if is_holding then [] else credit_text role now (stream_of f) (counted f)

-- A stream error, which no SETTINGS or PING is, is answered by the reset of its stream and then by credit, of which that
-- stream gets none. Any other frame is answered by its acknowledgement and its credit.
abbrev pub AreReplyBy : Option ErrorCode → Role → Bool → List Step → Frame → List Frame → Type 0
AreReplyBy None role is_holding past f fs = flat_map frame_text fs ≡ text_or_none (ack_for f) ++ credit_for role is_holding (past ++ Received f ∷ []) f
AreReplyBy (Some why) role is_holding past f fs =
    (reset : Frame) × (more : List Frame) × (fs ≡ reset ∷ more) × (frame_text reset ≡ reset_text (stream_of f) why)
    × (flat_map frame_text more ≡ credit_for role is_holding (past ++ Received f ∷ Sent reset ∷ []) f)

-- These frames answer a frame that stops nothing.
abbrev pub AreReply : Role → H2Limits → Bool → List Outcome → List Step → Frame → List Frame → Type 0
AreReply role limits is_holding heads past f fs = AreReplyBy (stream_error role limits heads past f) role is_holding past f fs

-- Frames are received one after another, each answered before the next, up to one that stops the exchange.
pub data Receives (role : Role) (limits : H2Limits) (is_holding : Bool) (heads : List Outcome) : List Step → List Step → Type 0 where
  ends : (past : List Step) → Receives role limits is_holding heads past []
  goes : (past more : List Step) (f : Frame) (fs : List Frame) → stop_of role limits heads (past ++ Received f ∷ []) ≡ None →
      AreReply role limits is_holding heads past f fs → Receives role limits is_holding heads (past ++ (Received f ∷ map Sent fs)) more →
      Receives role limits is_holding heads past (Received f ∷ (map Sent fs ++ more))
  stops : (past : List Step) (f : Frame) (stop : Stop) → stop_of role limits heads past ≡ None →
      stop_of role limits heads (past ++ Received f ∷ []) ≡ Some stop →
      Receives role limits is_holding heads past (Received f ∷ [])

-- ---- answers

abbrev pub after : List Step → List Outcome → List Event → Option Refusal → ConnectionTrace → ConnectionTrace
after more outcomes es refusal c = record c { frames = c.frames ++ more; heads = c.heads ++ outcomes; given = c.given ++ es; refusal = refusal }

-- frames were received and answered, and these events given
pub record GivesEvents (c : ConnectionTrace) (es : List Event) (d : ConnectionTrace) : Type 0 where
  pub alive : c.refusal ≡ None
  pub more : List Step
  pub outcomes : List Outcome
  pub receives : Receives c.role c.limits c.is_holding (c.heads ++ outcomes) c.frames more
  pub goes_on : d ≡ after more outcomes es None c

-- Every whole frame was received, and every event given: no rule is broken, no acknowledgement is owed, and no credit
-- unless it is held.
pub record NeedsMore (c d : ConnectionTrace) : Type 0 where
  pub goes : GivesEvents c [] d
  pub given : d.given ≡ events_in d
  pub unstopped : stop_in d ≡ None
  pub rest : List ℕ
  pub whole : Frames (peer_preface d.role) d.fed (received d.frames) rest
  pub acknowledged : acks_in (sent d.frames) ≡ acks_for (received d.frames)
  pub credited : d.is_holding ≡ false → IsCredited d.role d.limits d.frames

-- a frame broke a rule, or the rest behind all frames does
abbrev pub Breaks : ConnectionTrace → ErrorCode → ℕ → Type 0
Breaks c why place =
    (rest : List ℕ) × IsBroken c.role c.limits c.heads c.fed c.frames rest why place
    × (stop_in c ≡ None → AreFrames (peer_preface c.role) c.fed (received c.frames) rest)

abbrev pub IsCause : ConnectionTrace → Stop → Type 0
IsCause c (Error why place) = Breaks c why place
IsCause c (Calm cause) = stop_in c ≡ Some (Calm cause)

-- the code of the GOAWAY that ends the connection
abbrev pub code_of : Stop → ErrorCode
code_of (Error why place) = why
code_of (Calm cause) = code.ENHANCE_YOUR_CALM

-- every event before the cause was given, and a GOAWAY is sent
pub record Stops (c : ConnectionTrace) (stop : Stop) (d : ConnectionTrace) : Type 0 where
  pub at : ConnectionTrace
  pub goes : GivesEvents c [] at
  pub given : at.given ≡ events_in at
  pub cause : IsCause at stop
  pub goaway : Frame
  pub text : frame_text goaway ≡ goaway_text at.role (before_stop at.role at.limits at.heads at.frames) (code_of stop)
  pub ends : d ≡ after (Sent goaway ∷ []) [] [] (Some (Stopped stop)) at

-- a whole frame waits to be taken, or GOAWAY is to be sent
abbrev pub HasWork : ConnectionTrace → Type 0
HasWork c = HasAnother (peer_preface c.role) c.fed (received c.frames) ⊎ ((stop : Stop) × IsCause c stop)

-- memory ran out before the next step
pub record RunsOutOfMemory (c d : ConnectionTrace) : Type 0 where
  pub alive : c.refusal ≡ None
  pub more : List Step
  pub outcomes : List Outcome
  pub receives : Receives c.role c.limits c.is_holding (c.heads ++ outcomes) c.frames more
  pub work : HasWork (after more outcomes [] None c)
  pub ends : d ≡ after more outcomes [] (Some NoMemory) c

-- the refusal that was given before
abbrev pub RepeatsRefusal : ConnectionTrace → Refusal → ConnectionTrace → Type 0
RepeatsRefusal c why d = (c.refusal ≡ Some why) × (d ≡ c)

-- What is said next leads from one course to the other. After a refusal it is the same one, and nothing changes.
abbrev pub Answers : ConnectionTrace → H2Event → ConnectionTrace → Type 0
Answers c (says.Head id fields last) d = GivesEvents c (event.Head id fields last ∷ []) d
Answers c (says.Piece id bytes) d = GivesEvents c (event.Data id bytes ∷ []) d
Answers c (says.Ended id) d = GivesEvents c (event.Ended id ∷ []) d
Answers c (says.Reset id why) d = GivesEvents c (event.Reset id why ∷ []) d
Answers c (says.GoneAway id why) d = GivesEvents c (event.GoneAway id why ∷ []) d
Answers c says.NeedMore d = NeedsMore c d
Answers c (says.Refused why place) d = RepeatsRefusal c (Stopped (Error why place)) d ⊎ Stops c (Error why place) d
Answers c (says.Calm cause) d = RepeatsRefusal c (Stopped (Calm cause)) d ⊎ Stops c (Calm cause) d
Answers c says.NoMemory d = RepeatsRefusal c NoMemory d ⊎ RunsOutOfMemory c d

-- it is an event, and no refusal or want of bytes
abbrev pub is_event : H2Event → Bool
is_event (says.Head id fields last) = true
is_event (says.Piece id bytes) = true
is_event (says.Ended id) = true
is_event (says.Reset id why) = true
is_event (says.GoneAway id why) = true
is_event other = false

-- what was fed ends behind the preface or a frame that was received, and outside a header block
pub record IsBetween (c : ConnectionTrace) : Type 0 where
  pub whole : AreWhole (peer_preface c.role) c.fed (received c.frames)
  pub closed : open_block (received c.frames) ≡ None

-- how many bytes of data are given
abbrev pub size_in : H2Event → ℕ
size_in (says.Piece id bytes) = length bytes
size_in other = 0
