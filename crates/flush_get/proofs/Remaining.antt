-- A scan of the marks for an entry of a named instance.
use Rattle.std.proofs.Common.{◌≡◌, ℕ, ◌+◌, Bool, true, false, List, length, take, Some, refl, sym, ap, ◌∙◌, add-one}
use Rattle.std.specs.Prelude.{slice_get, ◌&&◌}
use Rattle.std.specs.List.{list_any}
use Rattle.std.proofs.Math.Seq.{take-length}
use Rattle.std.proofs.lemmas.Option.{get_or_from_slice_get}
use Rattle.aft_entries.specs.declared.entry.Entry.{Entry}
use Rattle.aft_store.proofs.Scans.{scan_found, scan_more}
use Rattle.table_model.specs.declared.command.Which.{Which}
use Rattle.table_model.specs.Table.{stays, names, remains}
use Rattle.flush_get.specs.Marking.{staying_marks}
use Rattle.flush_get.proofs.Passing.{mark_is, none_next, and_false}
use Rattle.flush_get.proofs.Settling.{remains_marked}

-- whether the entry stays though its instance is named
abbrev pub counts : List Entry → Which → Entry → Bool
counts table which e = stays (length table) table which e.key && names which e.key.instance

module _ (table : List Entry) (which : Which) (marks : List Bool) (same : marks ≡ staying_marks (length table) table which) (n : ℕ) (mark : Bool) (is : slice_get marks n ≡ Some mark) where
  stays_at : (e : Entry) → slice_get table n ≡ Some e → stays (length table) table which e.key ≡ mark
  stays_at e at = sym (mark_is (λ x. stays (length table) table which x.key) table marks same n e at) ∙ get_or_from_slice_get marks n mark false is

  pub one_remains : (e : Entry) → slice_get table n ≡ Some e → mark ≡ true → names which e.key.instance ≡ true → remains table which ≡ true
  one_remains e at marked named = remains_marked table which ∙ scan_found (counts table which) table n e at (rw (stays_at e at ∙ marked, named) refl)

  pub not_marked : mark ≡ false → list_any (counts table which) (take n table) ≡ false → list_any (counts table which) (take (n + 1) table) ≡ false
  not_marked free so_far = rw add-one (none_next (counts table which) table n so_far (λ e at. rw (stays_at e at ∙ free) refl))

pub not_named : (table : List Entry) (which : Which) (n : ℕ) (e : Entry) → slice_get table n ≡ Some e → names which e.key.instance ≡ false → list_any (counts table which) (take n table) ≡ false → list_any (counts table which) (take (n + 1) table) ≡ false
not_named table which n e at free so_far =
    scan_more (counts table which) table n e at so_far (and_false (stays (length table) table which e.key) (names which e.key.instance) free)

pub none_remains : (table : List Entry) (which : Which) (n : ℕ) → n ≡ length table → list_any (counts table which) (take n table) ≡ false → remains table which ≡ false
none_remains table which n end so_far = remains_marked table which ∙ ap (list_any (counts table which)) (sym (take-length table) ∙ ap (λ k. take k table) (sym end)) ∙ so_far
