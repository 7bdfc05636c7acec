-- Entries that stand in boxes.
use Rattle.std.specs.Prelude.{◌≡◌, ℕ, ◌+◌, ◌≤◌, true, List, map, Box}
use Rattle.std.specs.Global.{Global}
use Rattle.aft_entries.specs.declared.entry.Entry.{Entry}
use Rattle.table_model.specs.Table.{in_order}

-- what is in the boxes
abbrev pub unboxed : List (Box Entry Global) → List Entry
unboxed boxes = map (λ b. b.value) boxes

-- the entries stand in key order, and the list has room for the spare boxes
pub record IsLaidOut (boxes : List (Box Entry Global)) (used spare room : ℕ) : Type 0 where
  pub sorted : in_order (unboxed boxes) ≡ true
  pub fits : used + spare ≤ room
