-- What calls of a device do to the contents that it tells, by look-up, so that any representation meets it.
use Rattle.std.specs.Prelude.{◌≡◌, ◌⊎◌, ℕ, ◌+◌, ◌-◌, ◌^◌, ◌≤◌, false, not, List, [], ◌∷◌, ◌++◌, Contains, filter, find, min, Option, Some, None, if◌then◌else◌}
use Rattle.aft_entries.specs.declared.entry.Entry.{Entry}
use Rattle.aft_entries.specs.declared.key.Key.{Key}
use Rattle.aft_entries.specs.declared.operation.Act.{Act}
use Rattle.aft_entries.specs.declared.operation.Act.TheVariants.{Done, Failed}
use Rattle.aft_entries.specs.Order.{key_eq}

-- the first entry under a key
unfoldable pub entry_at : Key → List Entry → Option Entry
entry_at key entries = find (λ e. key_eq key e.key) entries

-- no entry is under the key
abbrev pub IsAbsent : Key → List Entry → Type 0
IsAbsent key [] = Unit {0}
IsAbsent key (e ∷ es) = (key_eq key e.key ≡ false) × IsAbsent key es

-- the keys of the entries differ
abbrev pub KeysDiffer : List Entry → Type 0
KeysDiffer [] = Unit {0}
KeysDiffer (e ∷ es) = IsAbsent e.key es × KeysDiffer es

-- and those of contents that are told
abbrev pub HasKeysOnce : Option (List Entry) → Type 0
HasKeysOnce None = Unit {0}
HasKeysOnce (Some entries) = KeysDiffer entries

-- what stands under the key is this now, and what stands under each other is what it was
abbrev pub SetsTo : Key → Option Entry → Option (List Entry) → Option (List Entry) → Type 0
SetsTo key value None None = Unit {0}
SetsTo key value None (Some after) = ⊥
SetsTo key value (Some before) None = ⊥
SetsTo key value (Some before) (Some after) =
    (k : Key) → entry_at k after ≡ (if key_eq k key then value else entry_at k before)

-- a call that is Done set the key, and one that Failed left the contents
abbrev pub Acts : Act → Key → Option Entry → Option (List Entry) → Option (List Entry) → Type 0
Acts Done key value before after = SetsTo key value before after
Acts Failed key value before after = after ≡ before

-- The count never falls. It rises in a call with this answer, or stands at the last value of a counter; behind any other it is as it
-- was.
pub record CountsAnswer (before now : ℕ) (answered : Type 0) : Type 0 where
  pub later : before ≤ now
  pub rose : answered → min (before + 1) (2 ^ 64 - 1) ≤ now
  pub stays : answered ⊎ (now ≡ before)

-- ---- the device in memory

-- its contents, the numbers of the calls that are to fail, how many calls there were so far, and how many of them failed, were done
-- and were refused memory
pub record MemDeviceState : Type 0 where
  pub contents : List Entry
  pub failing : List ℕ
  pub calls : ℕ
  pub faults : ℕ
  pub dones : ℕ
  pub refused : ℕ

-- a count with one more; the last number stands for all past it
abbrev pub counted : ℕ → ℕ
counted n = min (n + 1) (2 ^ 64 - 1)

-- the entries under other keys
unfoldable pub without : Key → List Entry → List Entry
without key entries = filter (λ e. not (key_eq key e.key)) entries

-- the entry in place of those under its key
abbrev pub placed : Entry → List Entry → List Entry
placed entry entries = without entry.key entries ++ entry ∷ []

-- An installation fails at a listed call, and elsewhere exactly where memory was refused, which is counted.
abbrev pub InstallsBy : List ℕ → ℕ → Act → ℕ → ℕ → Type 0
InstallsBy failing call Done before now = (Contains failing call → ⊥) × (now ≡ before)
InstallsBy failing call Failed before now =
    (Contains failing call × (now ≡ before)) ⊎ ((Contains failing call → ⊥) × (now ≡ counted before))

-- A removal takes no memory, and fails at the listed calls alone.
abbrev pub RemovesBy : List ℕ → ℕ → Act → Type 0
RemovesBy failing call Done = Contains failing call → ⊥
RemovesBy failing call Failed = Contains failing call
