-- What the calls of a source and a sink do to the bytes that they tell.
use Rattle.std.specs.Prelude.{◌≡◌, ℕ, ◌≤◌, List, [], ◌++◌, take, Option, IfSome}
use Rattle.std.specs.Option.{option_map}
use Rattle.rig_io.specs.declared.source.Took.{Took}
use Rattle.rig_io.specs.declared.source.Took.TheVariants.{Got, End, Failed}
use Rattle.rig_io.specs.declared.sink.Placed.{Placed}
use Rattle.rig_io.specs.declared.sink.Placed.TheVariants as placed

-- A count that is answered lies between 1 and the length of the buffer.
abbrev pub TookInBounds : Took → ℕ → Type 0
TookInBounds (Got n) limit = (1 ≤ n) × (n ≤ limit)
TookInBounds End limit = Unit {0}
TookInBounds Failed limit = Unit {0}

-- The bytes that are left, where they are told: those that a call got stood at their front, and at the end none is left.
abbrev pub Takes : Option (List ℕ) → Option (List ℕ) → Took → List ℕ → Type 0
Takes before after (Got n) buffer = before ≡ option_map (λ rest. take n buffer ++ rest) after
Takes before after End buffer = (after ≡ before) × IfSome before (λ rest. rest ≡ [])
Takes before after Failed buffer = after ≡ before

-- The bytes that were taken, where they are told, grow by exactly those that a call got.
abbrev pub TakenGrows : Option (List ℕ) → Option (List ℕ) → Took → List ℕ → Type 0
TakenGrows before after (Got n) buffer = after ≡ option_map (λ taken. taken ++ take n buffer) before
TakenGrows before after End buffer = after ≡ before
TakenGrows before after Failed buffer = after ≡ before

-- A count that is answered lies between 1 and the length of the piece.
abbrev pub PlacedInBounds : Placed → ℕ → Type 0
PlacedInBounds (placed.Put n) limit = (1 ≤ n) × (n ≤ limit)
PlacedInBounds placed.Failed limit = Unit {0}

-- The bytes that were placed, where they are told, grow by exactly those of the piece that a call placed.
abbrev pub Places : Option (List ℕ) → Option (List ℕ) → Placed → List ℕ → Type 0
Places before after (placed.Put n) piece = after ≡ option_map (λ held. held ++ take n piece) before
Places before after placed.Failed piece = after ≡ before
