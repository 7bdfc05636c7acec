-- The list of live streams.
use Rattle.std.specs.Prelude.{◌≡◌, ℕ, ◌+◌, ◌<◌, ◌≤◌, ◌==◌, ◌&&◌, Bool, true, false, not, List, ◌++◌, length, filter, find, nat_lt, max, fold, [], ◌∷◌, Option, Some, None, if◌then◌else◌}
use Rattle.std.specs.List.{list_any, position_or_len}
use Rattle.h2_exchange.specs.declared.role.Role.{Role}
use Rattle.h2_exchange.specs.declared.role.Role.TheVariants.{Client, Server}
use Rattle.h2_streams.specs.declared.live.StreamOutcome.{StreamOutcome}
use Rattle.h2_streams.specs.declared.live.StreamOutcome.TheVariants.{NoStream, Over, Alive}
use Rattle.h2_streams.specs.declared.live.Stream.{Stream}

abbrev pub is_stream : ℕ → Stream → Bool
is_stream id s = s.id == id

-- how many streams stand before the one with this id, where it is live, and else how many are live
abbrev pub place_of : ℕ → List Stream → ℕ
place_of id live = position_or_len (is_stream id) live

abbrev pub replaced : ℕ → Stream → List Stream → List Stream
replaced id new [] = []
replaced id new (s ∷ live) = if is_stream id s then new ∷ live else s ∷ replaced id new live

abbrev pub without : ℕ → List Stream → List Stream
without id live = filter (λ s. not (is_stream id s)) live

-- an initial window of this size raises the stream's window above 2^31 - 1
abbrev pub is_raised : ℕ → Stream → Bool
is_raised size s = nat_lt 4294967295 (size + s.room)

-- a setting is an initial window that raises a live stream's window so
abbrev pub is_raising : List Stream → ℕ × ℕ → Bool
is_raising live s = s.0 == 4 && list_any (is_raised s.1) live

-- the greatest initial window of some settings, and the greatest room of some streams, from one that is known on
abbrev pub greatest_window : ℕ → List (ℕ × ℕ) → ℕ
greatest_window most settings = fold (λ most s. if s.0 == 4 then max most s.1 else most) most settings

abbrev pub greatest_room : ℕ → List Stream → ℕ
greatest_room most live = fold (λ most s. max most s.room) most live

-- the streams behind what becomes of one of them, or of a new one, which comes last
abbrev pub with_outcome : Bool → ℕ → StreamOutcome → List Stream → List Stream
with_outcome new id NoStream live = live
with_outcome true id Over live = live
with_outcome true id (Alive stream) live = live ++ stream ∷ []
with_outcome false id Over live = without id live
with_outcome false id (Alive stream) live = replaced id stream live

-- ---- the order of ids

-- numbers rise, from one that is the least, and end below another
abbrev pub Rises : {A : Type 0} → (A → ℕ) → ℕ → ℕ → List A → Type 0
Rises f low high [] = low ≤ high
Rises f low high (x ∷ xs) = (low ≤ f x) × Rises f (f x + 1) high xs

-- ids rise, and end below this number
abbrev pub IsRising : ℕ → List Stream → Type 0
IsRising high live = Rises (λ (s : Stream). s.id) 0 high live

-- ---- the place of a new stream

abbrev pub is_headless : Option Stream → Bool
is_headless None = false
is_headless (Some stream) = not stream.has_head

-- the stream of the open header block waits for its head
abbrev pub is_waiting : Option (ℕ × Bool) → List Stream → Bool
is_waiting None live = false
is_waiting (Some block) live = is_headless (find (is_stream block.0) live)

-- A server has a place for one more stream than it allows, whose head may still be refused.
abbrev pub HasPlace : Role → ℕ → ℕ → Option (ℕ × Bool) → List Stream → Type 0
HasPlace Client streams places block live = Unit {0}
HasPlace Server streams places block live = (streams < places) × (is_waiting block live ≡ false → length live < places)

-- what a set keeps: the place for a new stream, and the order of ids, of which none is above the greatest
abbrev pub IsKept : Role → ℕ → ℕ → Option (ℕ × Bool) → ℕ → List Stream → Type 0
IsKept role streams places block highest live = HasPlace role streams places block live × IsRising (highest + 1) live
