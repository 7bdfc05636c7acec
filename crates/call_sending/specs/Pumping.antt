-- What is sent of one call, and of all.
use Rattle.std.specs.Prelude.{◌≡◌, ◌⊎◌, ℕ, ◌≤◌, ◌<◌, ◌==◌, ◌&&◌, Bool, true, false, not, nat_lt, map, List, [], ◌∷◌, length, drop, sum_by, Result, Ok, Err, if◌then◌else◌}
use Rattle.grpc_heads.specs.Written.{response_fields}
use Rattle.hpack_tables.specs.declared.field.Field.{Field}
use Rattle.h2_frames.specs.declared.frame.Frame.{Frame}
use Rattle.h2_exchange.specs.Streams.{is_open}
use Rattle.h2_exchange.specs.Windows.{placed_of}
use Rattle.http_connection.specs.ConnectionTrace.{ConnectionTrace, wrote}
use Rattle.http_connection.specs.Sends.{CarryBlock, CarryPiece}
use Rattle.kept_calls.specs.declared.call.Ending.{Ending}
use Rattle.kept_calls.specs.declared.call.Ending.TheVariants as end
use Rattle.grpc_framing.specs.CutterState.{CutterState}
use Rattle.kept_calls.specs.declared.call.Call.{Call}
use Rattle.kept_calls.specs.CallState.{CallState, states}

-- nothing but frames was sent
pub record WentOn (c d : ConnectionTrace) : Type 0 where
  pub fs : List Frame
  pub lists : List (List Field)
  pub goes_on : d ≡ wrote fs lists c

-- It was done so; without memory a part of it was.
abbrev pub Turns :
    {C A E : Type 0} → (C → ConnectionTrace → Type 0) → C → Result A E → ConnectionTrace → (A → ConnectionTrace → Type 0) → Type 0
Turns stands conn (Ok x) c on = (d : ConnectionTrace) × stands conn d × on x d
Turns stands conn (Err e) c on = (d : ConnectionTrace) × stands conn d × WentOn c d

-- no end is left to be sent
abbrev pub has_no_end : Ending → Bool
has_no_end end.Open = true
has_no_end end.Sent = true
has_no_end other = false

abbrev pub is_half_close : Ending → Bool
is_half_close end.HalfClose = true
is_half_close other = false

abbrev pub is_open_in : ConnectionTrace → ℕ → Bool
is_open_in c id = is_open c.role c.frames id

-- One header block is sent on an open stream.
pub record SendsBlock (c : ConnectionTrace) (id : ℕ) (last : Bool) (fields : List Field) (d : ConnectionTrace) : Type 0 where
  pub fs : List Frame
  pub block : CarryBlock id last fs
  pub goes_on : d ≡ wrote fs (fields ∷ []) c
  pub opened : is_open_in c id ≡ true

-- So many bytes are sent on an open stream.
pub record SendsPiece (c : ConnectionTrace) (id : ℕ) (piece : List ℕ) (last : Bool) (n : ℕ) (d : ConnectionTrace) : Type 0 where
  pub fs : List Frame
  pub placed : n ≡ placed_of c.frames id piece
  pub carries : CarryPiece id piece last n fs
  pub goes_on : d ≡ wrote fs [] c
  pub opened : is_open_in c id ≡ true

-- the head of a response, where none was sent
abbrev pub Heads : Bool → ConnectionTrace → CallState → CallState → ConnectionTrace → Type 0
Heads true c old new d = (new ≡ old) × (d ≡ c)
Heads false c old new d = (new ≡ record old { has_head = true }) × SendsBlock c old.stream false response_fields d

abbrev pub closed_if : Bool → Ending → Ending
closed_if true ending = end.Sent
closed_if false ending = ending

-- behind so many placed bytes
abbrev pub placed_in : ℕ → CallState → CallState
placed_in n c = record c { unsent = drop n c.unsent; ending = closed_if (length (drop n c.unsent) == 0 && is_half_close c.ending) c.ending }

-- one DATA, and whether more may follow
pub record Pieces (c : ConnectionTrace) (old : CallState) (goes_on : Bool) (new : CallState) (d : ConnectionTrace) : Type 0 where
  pub n : ℕ
  pub sends : SendsPiece c old.stream old.unsent (is_half_close old.ending) n d
  pub new_is : new ≡ placed_in n old
  pub goes_on_is : goes_on ≡ (nat_lt 0 n && not (length (drop n old.unsent) == 0))

-- the end behind the last byte
abbrev pub Closes : Ending → ConnectionTrace → CallState → CallState → ConnectionTrace → Type 0
Closes end.Open c old new d = (new ≡ old) × (d ≡ c)
Closes end.Sent c old new d = (new ≡ old) × (d ≡ c)
Closes end.Block c old new d = (new ≡ record old { ending = end.Sent }) × SendsBlock c old.stream true old.fields d
Closes end.Trailers c old new d = (new ≡ record old { ending = end.Sent }) × SendsBlock c old.stream true old.fields d
Closes end.HalfClose c old new d = (new ≡ record old { ending = end.Sent }) × ((n : ℕ) × SendsPiece c old.stream [] true n d)

-- how many bytes no DATA holds
abbrev pub left_in : List CallState → ℕ
left_in cs = sum_by (λ (c : CallState). length c.unsent) cs

-- No more are left than before, and fewer where more may follow.
pub record Lessens (goes_on : Bool) (before after : ℕ) : Type 0 where
  pub least : after ≤ before
  pub less : goes_on ≡ true → after < before

-- what is kept of what the peers of these calls sent
abbrev pub cutters_of : List Call → List CutterState
cutters_of calls = map (λ (c : CallState). c.cutter) (states calls)

-- Behind the head: one DATA, and behind the last byte the end.
pub data PumpsBytes (c : ConnectionTrace) (old : CallState) : Bool → CallState → ConnectionTrace → Type 0 where
  piece : (new : CallState) (d : ConnectionTrace) (goes_on : Bool) → Pieces c old goes_on new d → (goes_on ≡ true) ⊎ (0 < length new.unsent) →
      PumpsBytes c old goes_on new d
  whole : (next new : CallState) (at d : ConnectionTrace) → Pieces c old false next at → length next.unsent ≡ 0 → Closes next.ending at next new d →
      PumpsBytes c old false new d

-- One turn of a call. Where nothing is left, or its stream isn't open, nothing is sent; else at most one DATA, with the head
-- of a response before it, and behind the last byte its end.
pub data PumpsCall (c : ConnectionTrace) (old : CallState) : Bool → CallState → ConnectionTrace → Type 0 where
  idle : length old.unsent ≡ 0 → has_no_end old.ending ≡ true → PumpsCall c old false old c
  shut : is_open_in c old.stream ≡ false → PumpsCall c old false old c
  bytes : (mid new : CallState) (at d : ConnectionTrace) (goes_on : Bool) → is_open_in c old.stream ≡ true → 0 < length old.unsent →
      Heads old.has_head c old mid at → PumpsBytes at mid goes_on new d → PumpsCall c old goes_on new d
  close : (new : CallState) (d : ConnectionTrace) → is_open_in c old.stream ≡ true → length old.unsent ≡ 0 → Closes old.ending c old new d →
      PumpsCall c old false new d

-- One turn of each call, one after another, and whether more may follow.
pub data PumpsRound : ConnectionTrace → List CallState → Bool → List CallState → ConnectionTrace → Type 0 where
  none : (c : ConnectionTrace) → PumpsRound c [] false [] c
  more : (c at d : ConnectionTrace) (old new : CallState) (olds news : List CallState) (first later : Bool) →
      PumpsCall c old first new at → PumpsRound at olds later news d →
      PumpsRound c (old ∷ olds) (if first then true else later) (new ∷ news) d

-- Rounds, until nothing more may follow.
pub data PumpsCalls : ConnectionTrace → List CallState → List CallState → ConnectionTrace → Type 0 where
  last : (c d : ConnectionTrace) (olds news : List CallState) → PumpsRound c olds false news d → PumpsCalls c olds news d
  round : (c at d : ConnectionTrace) (olds mids news : List CallState) → PumpsRound c olds true mids at → PumpsCalls at mids news d →
      PumpsCalls c olds news d
