-- What a link tells of its bytes, and what its calls do to that.
use Rattle.std.specs.Prelude.{◌≡◌, ℕ, ◌≤◌, Bool, true, List, [], ◌∷◌, ◌++◌, take, Option, IfSome}
use Rattle.std.specs.Option.{option_map}
use Rattle.rig_io.specs.declared.link.LinkRead.{LinkRead}
use Rattle.rig_io.specs.declared.link.LinkRead.TheVariants as read
use Rattle.rig_io.specs.declared.link.LinkWrite.{LinkWrite}
use Rattle.rig_io.specs.declared.link.LinkWrite.TheVariants as write

-- a piece of one call, received from the other side or sent to it
pub data Piece : Type 0 where
  received : List ℕ → Piece
  sent : List ℕ → Piece

-- its bytes, where it was received, and where it was sent
abbrev pub received_bytes : Piece → List ℕ
received_bytes (received bytes) = bytes
received_bytes (sent bytes) = []

abbrev pub sent_bytes : Piece → List ℕ
sent_bytes (received bytes) = []
sent_bytes (sent bytes) = bytes

-- the bytes that no poll has got, and whether no more will come
pub record InputLeft : Type 0 where
  pub bytes : List ℕ
  pub over : Bool

-- A count that is answered lies between 1 and the length of the buffer.
abbrev pub ReadInBounds : LinkRead → ℕ → Type 0
ReadInBounds (read.Got n) limit = (1 ≤ n) × (n ≤ limit)
ReadInBounds read.NotReady limit = Unit {0}
ReadInBounds read.End limit = Unit {0}
ReadInBounds read.Failed limit = Unit {0}

abbrev pub WriteInBounds : LinkWrite → ℕ → Type 0
WriteInBounds (write.Put n) limit = (1 ≤ n) × (n ≤ limit)
WriteInBounds write.NotReady limit = Unit {0}
WriteInBounds write.Failed limit = Unit {0}

-- The bytes that are left, where they are told: those that a poll got stood at their front, and the end comes where the input is
-- over and nothing of it is left.
abbrev pub PollReads : Option InputLeft → Option InputLeft → LinkRead → List ℕ → Type 0
PollReads before after (read.Got n) buffer = before ≡ option_map (λ l. record { bytes = take n buffer ++ l.bytes; over = l.over }) after
PollReads before after read.NotReady buffer = after ≡ before
PollReads before after read.End buffer = (after ≡ before) × IfSome before (λ l. (l.bytes ≡ []) × (l.over ≡ true))
PollReads before after read.Failed buffer = after ≡ before

-- The pieces, where they are told, grow by the one that a poll got.
abbrev pub Receives : Option (List Piece) → Option (List Piece) → LinkRead → List ℕ → Type 0
Receives before after (read.Got n) buffer = after ≡ option_map (λ pieces. pieces ++ received (take n buffer) ∷ []) before
Receives before after read.NotReady buffer = after ≡ before
Receives before after read.End buffer = after ≡ before
Receives before after read.Failed buffer = after ≡ before

-- The pieces, where they are told, grow by the one that a poll placed.
abbrev pub Sends : Option (List Piece) → Option (List Piece) → LinkWrite → List ℕ → Type 0
Sends before after (write.Put n) piece = after ≡ option_map (λ pieces. pieces ++ sent (take n piece) ∷ []) before
Sends before after write.NotReady piece = after ≡ before
Sends before after write.Failed piece = after ≡ before
