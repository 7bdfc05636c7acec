-- Laws over the two definitions of header blocks, the one that reads and the one that writes.
use Rattle.std.specs.Prelude.{◌≡◌, ℕ, ◌≤◌, Bool, true, false, List, [], All, sum_by, Result, Ok}
use Rattle.hpack_huffman.specs.Faults.{IsText}
use Rattle.hpack_tables.specs.declared.field.Field.{Field}
use Rattle.hpack_tables.specs.declared.fault.HpackFault.{HpackFault}
use Rattle.hpack_tables.specs.EntrySizes.{size_of, fitting}
use Rattle.hpack_tables.specs.Reading.{State, BlockAt}
use Rattle.hpack_tables.specs.Writing.{Encoder, Writes, limited}

-- a block gives one thing
abbrev pub OneReading : Type 0
OneReading = (limit : ℕ) (s : State) (bytes : List ℕ) (x y : Result State HpackFault) → BlockAt limit s bytes x → BlockAt limit s bytes y → x ≡ y

-- names and values are bytes
abbrev pub AreBytes : List Field → Type 0
AreBytes fields = All (λ f. IsText f.name × IsText f.value) fields

-- the entries that a reader has: those of the encoder, or more where an update is due
abbrev pub HasEntries : Bool → Encoder → List Field → ℕ → Type 0
HasEntries true e entries max = e.entries ≡ fitting e.max entries
HasEntries false e entries max = (e.entries ≡ entries) × (e.max ≡ max)

-- An encoder, and the table of one who has read what it wrote.
pub record AreInStep (e : Encoder) (entries : List Field) (max : ℕ) : Type 0 where
  pub room : sum_by size_of e.entries ≤ e.max
  pub small : e.max ≤ 4096
  pub same : HasEntries e.is_lowered e entries max

-- what an encoder writes is read as its fields, and reader and encoder stay in step
abbrev pub WrittenIsRead : Type 0
WrittenIsRead =
    (limit : ℕ) (old new : Encoder) (fields : List Field) (text : List ℕ) (entries : List Field) (max : ℕ) →
    AreBytes fields → sum_by size_of fields ≤ 65536 → old.max ≤ limit → AreInStep old entries max → Writes old fields text new →
    BlockAt limit (record { entries = entries; max = max; fields = [] }) text (Ok (record { entries = new.entries; max = new.max; fields = fields }))
    × AreInStep new new.entries new.max

-- a new encoder is in step with an empty table, and stays so where a size is announced to it
abbrev pub StaysInStep : Type 0
StaysInStep =
    (e : Encoder) (entries : List Field) (max size : ℕ) → AreInStep e entries max → AreInStep (limited size e) entries max
