-- Which entries of a table a flush leaves, as one mark for each.
use Rattle.std.specs.Prelude.{ℕ, Bool, ◌||◌, ◌&&◌, List, map}
use Rattle.std.specs.List.{list_any}
use Rattle.aft_entries.specs.declared.entry.Entry.{Entry}
use Rattle.aft_entries.specs.declared.key.Key.{Key}
use Rattle.aft_entries.specs.References.{refers}
use Rattle.table_model.specs.declared.command.Which.{Which}
use Rattle.table_model.specs.Table.{stays}
-- the entries that have a mark
pub use Rattle.aft_store.specs.Marked.{chosen}

-- a mark where the entry stays by a chain of at most so many references
abbrev pub staying_marks : ℕ → List Entry → Which → List Bool
staying_marks n table which = map (λ e. stays n table which e.key) table

-- whether an entry of these refers to the key
abbrev pub is_referenced : (Entry → Bool) → List Entry → Key → Bool
is_referenced marked table key = list_any (λ e. marked e && refers e key) table

-- a mark where there was one, or where a marked entry refers to the key
abbrev pub marked_after_pass : (Entry → Bool) → List Entry → Entry → Bool
marked_after_pass marked table entry = marked entry || is_referenced marked table entry.key
