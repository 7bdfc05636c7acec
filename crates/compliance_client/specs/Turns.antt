-- What a part of a turn comes to, and why a turn is the last.
use Rattle.std.specs.Prelude.{◌≡◌, ◌⊎◌, ℕ, ◌<◌, ◌+◌, Bool, true, false, length, map, List, [], ◌∷◌, ◌++◌, Option, Some, None, Result, Ok, Err}
use Rattle.std.specs.List.{flat_map}
use Rattle.std.specs.Option.{option_map}
use Rattle.rig_io.specs.Link as link
use Rattle.rig_io.specs.Link.{Piece, received, sent}
use Rattle.schema_numbers.specs.Numbers.{Numbers}
use Rattle.h2_frames.specs.declared.code.TheConstants.ErrorCode as code
use Rattle.h2_frames.specs.declared.frame.Frame.{Frame}
use Rattle.h2_frames.specs.Stream.{Frames}
use Rattle.h2_exchange.specs.Exchange as exchange
use Rattle.h2_exchange.specs.Order.{peer_preface, received_bytes, sent_bytes}
use Rattle.h2_exchange.specs.Stops.{Stop, Error, Calm}
use Rattle.http_connection.specs.ConnectionTrace.{ConnectionTrace, Stopped, dropped_more, wrote}
use Rattle.http_connection.specs.Answers.{Stops}
use Rattle.http_connection.specs.Sends.{CarryReset}
use Rattle.grpc_stream.specs.CallTrace.{CallTrace, Carries, changed, reported_in}
use Rattle.line_verdicts.specs.declared.tally.Tally.{Tally}
use Rattle.compliance_client.specs.declared.over.ClientOver.{ClientOver}
use Rattle.compliance_client.specs.declared.over.ClientOver.TheVariants as over
use Rattle.compliance_client.specs.declared.over.ClientTurn.{ClientTurn}
use Rattle.compliance_client.specs.declared.over.ClientTurn.TheVariants as turn
use Rattle.compliance_client.specs.declared.hearing.NextHeard.{NextHeard}
use Rattle.compliance_client.specs.declared.hearing.NextHeard.TheVariants as next
use Rattle.compliance_client.specs.Deeds.{CallView, Deed, Hears}
use Rattle.compliance_client.specs.Standing.{Past, StandsAs}

-- a piece that was read, if any byte was
abbrev pub got : List ℕ → List Piece
got [] = []
got (b ∷ bytes) = received (b ∷ bytes) ∷ []

-- all of these are answers that were heard
abbrev pub AreHearings : List Deed → Type 0
AreHearings [] = Unit {0}
AreHearings (Hears answer is_reset ∷ deeds) = AreHearings deeds
AreHearings (other ∷ deeds) = ⊥

-- Every whole frame that was fed was received, and all that they tell was told.
pub record IsSettled (t : CallTrace) : Type 0 where
  pub reported : t.reported ≡ reported_in t
  pub rest : List ℕ
  pub whole : Frames (peer_preface t.connection_trace.role) t.connection_trace.fed (exchange.received t.connection_trace.frames) rest

-- ---- why a turn is the last

abbrev pub is_fault : ClientOver → Bool
is_fault over.ReadFault = true
is_fault over.WriteFault = true
is_fault other = false

-- the connection stopped so, with a cause in what was received; what was dropped of its output since then changes nothing
abbrev pub StopsAt : Stop → ConnectionTrace → Type 0
StopsAt stop e = (c d : ConnectionTrace) × Stops c stop d × (e ≡ record d { dropped = e.dropped })

abbrev pub IsCauseOf : Option ClientOver → CallTrace → Type 0
IsCauseOf (Some (over.Protocol why place)) t = StopsAt (Error why place) t.connection_trace ⊎ (t.connection_trace.refusal ≡ Some (Stopped (Error why place)))
IsCauseOf (Some (over.Calm cause)) t = StopsAt (Calm cause) t.connection_trace ⊎ (t.connection_trace.refusal ≡ Some (Stopped (Calm cause)))
IsCauseOf other t = Unit {0}

abbrev pub over_of : {A : Type 0} → Result A ClientOver → Option ClientOver
over_of (Ok x) = None
over_of (Err why) = Some why

abbrev pub over_at : ClientTurn → Option ClientOver
over_at turn.Progress = None
over_at turn.Idle = None
over_at (turn.Over why) = Some why

abbrev pub is_starved : Option ClientOver → Bool
is_starved (Some over.NoMemory) = true
is_starved other = false

-- the link failed
abbrev pub IsFault : Option ClientOver → Type 0
IsFault None = ⊥
IsFault (Some why) = is_fault why ≡ true

abbrev pub IsTurnFault : ClientTurn → Type 0
IsTurnFault result = IsFault (over_at result)

-- how many bytes these pieces have
abbrev pub moved_in : List Piece → ℕ
moved_in pieces = length (received_bytes pieces) + length (sent_bytes pieces)

-- a turn that isn't the last got on exactly where a byte was got or placed
abbrev pub Moves : ClientTurn → List Piece → Type 0
Moves turn.Progress more = 0 < moved_in more
Moves turn.Idle more = moved_in more ≡ 0
Moves (turn.Over why) more = Unit {0}

-- ---- what was done

-- the reset of a call, or nothing
abbrev pub Resets : Bool → ℕ → CallTrace → CallTrace → Type 0
Resets true stream t u = (fs : List Frame) × CarryReset stream code.CANCEL fs × (u ≡ record (changed (wrote fs []) t) { resets = t.resets ++ stream ∷ [] })
Resets false stream t u = u ≡ t

module _ {K : Type 0} (uses : K → CallTrace → Type 0) where
  abbrev pub MayReset : Bool → ℕ → K → K → Type 0
  MayReset is_reset stream before calls = (t : CallTrace) → uses before t → (u : CallTrace) × uses calls u × Resets is_reset stream t u

  -- These pieces of the output were written and dropped.
  pub record Puts (output : K → List ℕ) (before calls : K) (told now : Option (List Piece)) (texts : List (List ℕ)) : Type 0 where
    pub output_is : output before ≡ flat_map link.sent_bytes (map sent texts) ++ output calls
    pub carries : Carries (uses before) (uses calls) (changed (dropped_more (flat_map link.sent_bytes (map sent texts))))
    pub pieces : now ≡ option_map (λ pieces. pieces ++ map sent texts) told

  -- The client stands for its past behind some answers that it heard and some pieces of its link.
  pub record Turned (n : Numbers) (over : Option ClientOver) (calls : K) (kept : List CallView) (tally : Tally) (past : Past) (more : List Piece) : Type 0 where
    pub trace : CallTrace
    pub heard : List Deed
    pub only : AreHearings heard
    pub stands : StandsAs uses n over calls kept tally (record { trace = trace; deeds = heard ++ past.deeds; pieces = past.pieces ++ more })
    pub cause : IsCauseOf over trace

  -- and all that its link gave was heard
  pub record HearsAll (n : Numbers) (calls : K) (kept : List CallView) (tally : Tally) (past : Past) : Type 0 where
    pub turned : Turned n None calls kept tally past []
    pub settled : IsSettled turned.trace

  -- an answer was heard, or all that the link gave
  abbrev pub IsHeardAs : Numbers → K → List CallView → Tally → Past → NextHeard → Type 0
  IsHeardAs n calls kept tally past next.Event = Turned n None calls kept tally past []
  IsHeardAs n calls kept tally past next.All = HearsAll n calls kept tally past
