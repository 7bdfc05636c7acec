-- What a store is to a contract: its entries in key order, and for how many more it has room.
use Rattle.std.specs.Prelude.{ℕ, List}
use Rattle.aft_entries.specs.declared.entry.Entry.{Entry}

pub record StoreState : Type 0 where
  pub entries : List Entry
  pub spare : ℕ
