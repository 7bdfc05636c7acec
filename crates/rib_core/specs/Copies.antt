-- What is made of an entry before it is put.
use Rattle.std.specs.Prelude.{◌≡◌, Bool, is_some}
use Rattle.aft_entries.specs.declared.entry.Entry.{Entry}
use Rattle.rib_core.specs.declared.copies.Copies.{Copies}

-- two copies, and a box where the entry displaces another
pub record IsCopies (entry : Entry) (displaces : Bool) (copies : Copies) : Type 0 where
  pub work : copies.work.value ≡ entry
  pub copy : copies.copy.value ≡ entry
  pub displaced : is_some copies.displaced ≡ displaces
