-- What header blocks say, as far as an exchange is looked at: what stands behind a stop is never read.
use Rattle.std.specs.Prelude.{◌≡◌, ℕ, ◌<◌, ◌&&◌, Bool, true, not, is_some, List, [], ◌∷◌, ◌++◌, length, drop, Some, None, Ok, Err}
use Rattle.h2_frames.specs.declared.frame.Frame.{Frame}
use Rattle.h2_frames.specs.Stream.{MatchesPreface, Reads}
use Rattle.hpack_tables.specs.declared.field.Field.{Field}
use Rattle.hpack_tables.specs.Reading.{State, BlockAt}
use Rattle.h2_exchange.specs.declared.limits.H2Limits.{H2Limits}
use Rattle.h2_exchange.specs.declared.role.Role.{Role}
use Rattle.h2_exchange.specs.Blocks.{Block, block_with, open_block, blocks, completed}
use Rattle.h2_exchange.specs.Content.{Outcome}
use Rattle.h2_exchange.specs.Exchange.{Step, Received, received, sent_text}
use Rattle.h2_exchange.specs.Order.{Piece, received_bytes, sent_bytes, peer_preface, own_preface, AreFrames, InOrder}
use Rattle.h2_exchange.specs.Rules.{frame_error}
use Rattle.h2_exchange.specs.Stops.{block_stop, stop_of}

-- The first of these blocks have these outcomes, one after another over one table; behind a fault none is read.
abbrev pub ReadFirst : List Field → ℕ → List Block → List Outcome → Type 0
ReadFirst entries max bs [] = Unit {0}
ReadFirst entries max [] (outcome ∷ more) = ⊥
ReadFirst entries max (b ∷ bs) (Ok fields ∷ more) =
    (after : State) × BlockAt 4096 (record { entries = entries; max = max; fields = [] }) b.text (Ok after) × (after.fields ≡ fields)
    × ReadFirst after.entries after.max bs more
ReadFirst entries max (b ∷ bs) (Err fault ∷ more) = BlockAt 4096 (record { entries = entries; max = max; fields = [] }) b.text (Err fault) × (more ≡ [])

-- The content of the block that a received frame completes is looked at: nothing stopped the exchange before, the frame
-- breaks no rule by itself, and its block isn't too large.
abbrev pub is_looked_at : Role → H2Limits → List Outcome → List Step → Frame → Bool
is_looked_at role limits heads past f =
    not (is_some (stop_of role limits heads past)) && not (is_some (frame_error role past f))
    && not (is_some (block_stop (block_with (open_block (received past)) f)))

-- each block that is looked at has its outcome
abbrev pub AreEnough : Role → H2Limits → List Outcome → List Step → Type 0
AreEnough role limits heads x =
    (past behind : List Step) (f : Frame) (b : Block) → x ≡ past ++ Received f ∷ behind → is_looked_at role limits heads past f ≡ true →
    completed (received past) f ≡ Some b →
    length (blocks (received past)) < length heads

-- These are outcomes of the received blocks, and all that the exchange asks for.
pub record AreKnown (role : Role) (limits : H2Limits) (heads : List Outcome) (x : List Step) : Type 0 where
  pub read : ReadFirst [] 4096 (blocks (received x)) heads
  pub enough : AreEnough role limits heads x

-- these frames stand first in the bytes, behind what is due
abbrev pub BeginWithFrames : List ℕ → List ℕ → List Frame → Type 0
BeginWithFrames due bytes [] = Unit {0}
BeginWithFrames due bytes (f ∷ fs) = (rest : List ℕ) × MatchesPreface due bytes × Reads (drop (length due) bytes) (f ∷ fs) rest

-- The exchange of what a link told, as far as it is read: its frames stand first in what was received. Where all was read
-- they are all of them, unless one stops it; a side that halts, or has no memory, may leave whole frames unread.
pub record IsReadExchange (role : Role) (limits : H2Limits) (heads : List Outcome) (ps : List Piece) (out : List ℕ)
    (x : List Step) (is_all : Bool) (rest : List ℕ) : Type 0 where
  pub known : AreKnown role limits heads x
  pub front : BeginWithFrames (peer_preface role) (received_bytes ps) (received x)
  pub whole : is_all ≡ true → stop_of role limits heads x ≡ None → AreFrames (peer_preface role) (received_bytes ps) (received x) rest
  pub text : own_preface role ++ sent_text x ≡ sent_bytes ps ++ out
  pub order : InOrder role ps x
