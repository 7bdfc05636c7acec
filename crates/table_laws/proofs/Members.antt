-- Entries of a table in key order are found by their keys.
use Rattle.std.proofs.Common.{◌≡◌, Bool, true, false, List, [], ◌∷◌, Some, sym, ap, ◌∙◌, inl, inr, ◌⊎◌}
use Rattle.std.specs.Prelude.{cond, find}
use Rattle.std.specs.List.{list_all}
use Rattle.aft_entries.specs.declared.entry.Entry.{Entry}
use Rattle.aft_entries.specs.Order.{key_eq}
use Rattle.aft_entries.proofs.OrderLemmas.{key_eq_refl, key_eq_symm}
use Rattle.table_model.specs.Table.{lookup, in_order, is_above}
use Rattle.table_model.proofs.Closed.{not_true}
use Rattle.table_model.proofs.TableLemmas.{above_after, after_apart}
use Rattle.table_model.proofs.Tests.{and_left, and_right}

abbrev pub In : Entry → List Entry → Type 0
In y [] = ⊥
In y (x ∷ xs) = (x ≡ y) ⊎ In y xs

pub passes_in : (p : Entry → Bool) (y : Entry) (xs : List Entry) → list_all p xs ≡ true → In y xs → p y ≡ true
passes_in p y [] h there = absurd there
passes_in p y (x ∷ xs) h (inl one) = ap p (sym one) ∙ and_left (p x) (list_all p xs) h
passes_in p y (x ∷ xs) h (inr there) = passes_in p y xs (and_right (p x) (list_all p xs) h) there

pub apart_in : (x y : Entry) (xs : List Entry) → in_order (x ∷ xs) ≡ true → In y xs → key_eq y.key x.key ≡ false
unfolding in_order
apart_in x y xs sorted there =
    key_eq_symm y.key x.key ∙ not_true (key_eq x.key y.key) (after_apart x.key y (above_after x.key y (passes_in (is_above x.key) y xs (and_left (list_all (is_above x.key) xs) (in_order xs) sorted) there)))

pub tail_sorted : (x : Entry) (xs : List Entry) → in_order (x ∷ xs) ≡ true → in_order xs ≡ true
unfolding in_order
tail_sorted x xs sorted = and_right (list_all (is_above x.key) xs) (in_order xs) sorted

pub lookup_in : (y : Entry) (xs : List Entry) → in_order xs ≡ true → In y xs → lookup y.key xs ≡ Some y
unfolding lookup
lookup_in y [] sorted there = absurd there
lookup_in y (x ∷ xs) sorted (inl one) = ap (λ k. cond (key_eq k x.key) (Some x) (find (λ e. key_eq k e.key) xs)) (ap (λ (e : Entry). e.key) (sym one)) ∙ ap (λ b. cond b (Some x) (find (λ e. key_eq x.key e.key) xs)) (key_eq_refl x.key) ∙ ap (λ e. Some e) one
lookup_in y (x ∷ xs) sorted (inr there) =
    ap (λ b. cond b (Some x) (find (λ e. key_eq y.key e.key) xs)) (apart_in x y xs sorted there)
    ∙ lookup_in y xs (tail_sorted x xs sorted) there
