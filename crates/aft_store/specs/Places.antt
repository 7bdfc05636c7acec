-- Places of keys in a table in key order.
use Rattle.std.specs.Prelude.{◌≡◌, ℕ, ◌+◌, ◌<◌, ◌≤◌, true, List, length, take, drop, slice_index_or}
use Rattle.std.specs.List.{list_all}
use Rattle.std.specs.Ordering.{is_lt, is_gt}
use Rattle.aft_entries.specs.declared.entry.Entry.{Entry}
use Rattle.aft_entries.specs.declared.key.Key.{Key}
use Rattle.aft_entries.specs.Order.{key_cmp}

-- each key is before this one, and after it
abbrev pub AllBefore : Key → List Entry → Type 0
AllBefore key table = list_all (λ e. is_lt (key_cmp e.key key)) table ≡ true

abbrev pub AllAfter : Key → List Entry → Type 0
AllAfter key table = list_all (λ e. is_gt (key_cmp e.key key)) table ≡ true

-- the entry at this place has the key
pub record IsAt (table : List Entry) (key : Key) (at : ℕ) : Type 0 where
  pub in_range : at < length table
  pub has_key : (d : Entry) → (slice_index_or table at d).key ≡ key
  pub below : AllBefore key (take at table)
  pub above : AllAfter key (drop (at + 1) table)

-- no entry has the key, which would go here
pub record IsGap (table : List Entry) (key : Key) (at : ℕ) : Type 0 where
  pub in_range : at ≤ length table
  pub below : AllBefore key (take at table)
  pub above : AllAfter key (drop at table)
