-- The exchange of what a link told: its frames, and the order of received and sent ones.
use Rattle.std.specs.Prelude.{◌≡◌, ℕ, ◌+◌, ◌<◌, ◌≤◌, List, [], ◌∷◌, ◌++◌, length, drop, sum_by, ◌⊎◌}
use Rattle.std.specs.List.{flat_map}
pub use Rattle.rig_io.specs.Link.{Piece}
use Rattle.rig_io.specs.Link as link
use Rattle.h2_frames.specs.declared.code.ErrorCode.{ErrorCode}
use Rattle.h2_frames.specs.declared.code.TheConstants.ErrorCode as code
use Rattle.h2_frames.specs.declared.frame.Frame.{Frame}
use Rattle.h2_frames.specs.Layout.{size_of, IsPartial, IsTooLong}
use Rattle.h2_frames.specs.Stream.{MatchesPreface, Reads, preface, place_after}
use Rattle.h2_exchange.specs.declared.role.Role.{Role}
use Rattle.h2_exchange.specs.declared.role.Role.TheVariants.{Client, Server}
use Rattle.h2_exchange.specs.Exchange.{Step, Received, received, sent_text}

-- ---- what a link tells, in the order of its calls

abbrev pub received_bytes : List Piece → List ℕ
received_bytes ps = flat_map link.received_bytes ps

abbrev pub sent_bytes : List Piece → List ℕ
sent_bytes ps = flat_map link.sent_bytes ps

-- ---- frames

-- what the peer writes before its first frame (RFC 9113, section 3.4)
abbrev pub peer_preface : Role → List ℕ
peer_preface Server = preface
peer_preface Client = []

-- what this side writes before its first frame
abbrev pub own_preface : Role → List ℕ
own_preface Server = []
own_preface Client = preface

-- the frames of any bytes, and the rest that is no whole frame; none where the preface is wrong
abbrev pub AreFrames : List ℕ → List ℕ → List Frame → List ℕ → Type 0
AreFrames due bytes frames rest =
    (MatchesPreface due bytes × Reads (drop (length due) bytes) frames rest × (IsPartial rest ⊎ IsTooLong rest))
    ⊎ ((MatchesPreface due bytes → ⊥) × (frames ≡ []) × (rest ≡ bytes))

-- What the rest breaks by itself, with its code and place: the preface, or the length of a frame (section 4.2).
abbrev pub RestBreaks : List ℕ → List ℕ → List Frame → List ℕ → ErrorCode → ℕ → Type 0
RestBreaks due bytes frames rest why place =
    ((MatchesPreface due bytes → ⊥) × (why ≡ code.PROTOCOL_ERROR) × (place ≡ 0))
    ⊎ (MatchesPreface due bytes × IsTooLong rest × (why ≡ code.FRAME_SIZE_ERROR) × (place ≡ place_after due frames))

-- ---- the order

-- where these frames end, behind what is due first
abbrev pub end_of : List ℕ → List Frame → ℕ
end_of due frames = length due + sum_by size_of frames

-- Before a received frame whose last byte came after some calls of the link stand all sent frames whose
-- first byte was placed by those calls.
abbrev pub InOrder : Role → List Piece → List Step → Type 0
InOrder role ps x =
    (early late : List Piece) (before behind : List Step) (f : Frame) → ps ≡ early ++ late → x ≡ before ++ Received f ∷ behind →
    length (received_bytes early) < end_of (peer_preface role) (received before ++ f ∷ []) →
    length (sent_bytes early) ≤ length (own_preface role ++ sent_text before)

-- The exchange of what a link told, with the bytes that wait to be sent and the received bytes that are no whole frame.
pub record IsExchange (role : Role) (ps : List Piece) (out : List ℕ) (x : List Step) (rest : List ℕ) : Type 0 where
  pub frames : AreFrames (peer_preface role) (received_bytes ps) (received x) rest
  pub text : own_preface role ++ sent_text x ≡ sent_bytes ps ++ out
  pub order : InOrder role ps x
