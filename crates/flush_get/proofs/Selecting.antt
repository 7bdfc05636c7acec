-- One more entry of a selection.
use Rattle.std.proofs.Common.{◌≡◌, ℕ, ◌+◌, Bool, true, false, List, [], ◌∷◌, ◌++◌, map, take, Some, refl, sym, ap, ◌∙◌}
use Rattle.std.specs.Prelude.{slice_get, ◌&&◌, filter, cond}
use Rattle.std.proofs.lemmas.List.{take_more, map-append}
use Rattle.std.proofs.lemmas.List.Elements.{filter-append}
use Rattle.std.proofs.lemmas.Option.{slice_get_within, get_or_from_slice_get}
use Rattle.aft_entries.specs.declared.entry.Entry.{Entry}
use Rattle.aft_entries.specs.declared.operation.Row.{Row}
use Rattle.table_model.specs.declared.command.KindAsk.{KindAsk}
use Rattle.table_model.specs.declared.command.Which.{Which}
use Rattle.table_model.specs.Reply.{selected, asked_kind, is_installed}
use Rattle.table_model.specs.Table.{names}

abbrev pub row : List Entry → Entry → Row
row installed e = record { entry = e; installed = is_installed installed e }

nothing_more : {X : Type 0} (xs : List X) → xs ++ [] ≡ xs
nothing_more [] = refl
nothing_more (x ∷ xs) = ap (λ l. x ∷ l) (nothing_more xs)

module _ (p : Entry → Bool) (f : Entry → Row) (table : List Entry) (n : ℕ) (e : Entry) (is : slice_get table n ≡ Some e) where
  filter_more : filter p (take (n + 1) table) ≡ filter p (take n table) ++ cond (p e) (e ∷ []) []
  filter_more =
      ap (filter p) (take_more table n e (slice_get_within table n e is)) ∙ rw (get_or_from_slice_get table n e e is) (filter-append p (take n table) (e ∷ []))

  rows_more : map f (filter p (take (n + 1) table)) ≡ map f (filter p (take n table)) ++ map f (cond (p e) (e ∷ []) [])
  rows_more = ap (map f) filter_more ∙ map-append f (filter p (take n table)) (cond (p e) (e ∷ []) [])

  with_one : p e ≡ true → map f (filter p (take (n + 1) table)) ≡ map f (filter p (take n table)) ++ f e ∷ []
  with_one here = rows_more ∙ rw here refl

  as_before : p e ≡ false → map f (filter p (take (n + 1) table)) ≡ map f (filter p (take n table))
  as_before here = rows_more ∙ rw here (nothing_more (map f (filter p (take n table))))

module _ (table fib : List Entry) (which : Which) (kinds : KindAsk) (n : ℕ) (e : Entry) (is : slice_get table n ≡ Some e) where
  selected_one : (names which e.key.instance && asked_kind kinds e.key.name) ≡ true → selected (take (n + 1) table) fib which kinds ≡ selected (take n table) fib which kinds ++ row fib e ∷ []
  unfolding selected
  selected_one here = with_one (λ x. names which x.key.instance && asked_kind kinds x.key.name) (row fib) table n e is here

  pub row_added : (rows after : List Row) (r : Row) → (names which e.key.instance && asked_kind kinds e.key.name) ≡ true → rows ≡ selected (take n table) fib which kinds → after ≡ rows ++ r ∷ [] → r ≡ row fib e → after ≡ selected (take (n + 1) table) fib which kinds
  row_added rows after r here so_far more one = more ∙ ap (λ l. l ++ r ∷ []) so_far ∙ ap (λ x. selected (take n table) fib which kinds ++ x ∷ []) one ∙ sym (selected_one here)

  pub left_out : (names which e.key.instance && asked_kind kinds e.key.name) ≡ false → selected (take (n + 1) table) fib which kinds ≡ selected (take n table) fib which kinds
  unfolding selected
  left_out here = as_before (λ x. names which x.key.instance && asked_kind kinds x.key.name) (row fib) table n e is here
