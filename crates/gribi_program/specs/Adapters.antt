-- What the adapters over std's readers and writers do to the bytes of these, where those are known.
use Rattle.std.specs.Prelude.{ℕ, List, take, Option, ⊤}
use Rattle.std.specs.Io.KnownBytes.{Keeps, Appends, Consumes, IsAtEnd}
use Rattle.rig_io.specs.declared.source.Took.{Took}
use Rattle.rig_io.specs.declared.source.Took.TheVariants.{Got, End, Failed}
use Rattle.rig_io.specs.declared.sink.Placed.{Placed}
use Rattle.rig_io.specs.declared.sink.Placed.TheVariants as placed

-- the reader loses the bytes that the buffer got, is at its end where the input is over, and loses none where reading failed
abbrev pub Reads : Option (List ℕ) → Option (List ℕ) → Took → List ℕ → Type 0
Reads before after (Got n) buffer = Consumes before after (take n buffer)
Reads before after End buffer = IsAtEnd after
Reads before after Failed buffer = Keeps before after

-- the writer holds the bytes that were placed behind those that it held
abbrev pub Writes : Option (List ℕ) → Option (List ℕ) → Placed → List ℕ → Type 0
Writes before after (placed.Put n) piece = Appends before after (take n piece)
Writes before after placed.Failed piece = ⊤
