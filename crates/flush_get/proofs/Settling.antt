-- Passes that bring no mark are followed by none that do.
use Rattle.std.proofs.Common.{◌≡◌, ◌≤◌, ℕ, zero, suc, ◌+◌, ◌-◌, Bool, true, false, List, [], ◌∷◌, length, map, refl, sym, ap, ◌∙◌, arith}
use Rattle.std.specs.Prelude.{◌&&◌, ◌||◌, filter, cond}
use Rattle.std.specs.List.{list_any}
use Rattle.aft_entries.specs.declared.entry.Entry.{Entry}
use Rattle.aft_entries.specs.declared.key.Key.{Key}
use Rattle.table_model.specs.declared.command.Which.{Which}
use Rattle.table_model.specs.Table.{stays, kept, remains, names}
use Rattle.flush_get.specs.Marking.{staying_marks, chosen, is_referenced, marked_after_pass}

first_same : (a b : Bool) (xs ys : List Bool) → a ∷ xs ≡ b ∷ ys → a ≡ b
first_same a b xs ys e = cc

rest_same : (a b : Bool) (xs ys : List Bool) → a ∷ xs ≡ b ∷ ys → xs ≡ ys
rest_same a b xs ys e = cc

-- what follows of the marks alone, whatever test they are of
module _ (f g : Entry → Bool) where
  held_same : (key : Key) (xs : List Entry) → map f xs ≡ map g xs → is_referenced f xs key ≡ is_referenced g xs key
  held_same key [] e = refl
  held_same key (x ∷ xs) e =
      rw (first_same (f x) (g x) (map f xs) (map g xs) e, held_same key xs (rest_same (f x) (g x) (map f xs) (map g xs) e)) refl

  each_same : (table xs : List Entry) → map f table ≡ map g table → map f xs ≡ map g xs → map (marked_after_pass f table) xs ≡ map (marked_after_pass g table) xs
  each_same table [] all e = refl
  each_same table (x ∷ xs) all e =
      rw (first_same (f x) (g x) (map f xs) (map g xs) e, held_same x.key table all, each_same table xs all (rest_same (f x) (g x) (map f xs) (map g xs) e)) refl

module _ (table : List Entry) (which : Which) where
  test : ℕ → Entry → Bool
  test n e = stays n table which e.key

  pub one_more : (n : ℕ) → staying_marks (n + 1) table which ≡ map (marked_after_pass (λ e. stays n table which e.key) table) table
  one_more n = let more : n + 1 ≡ suc n = omega arith in rw more refl

  later : (k m n : ℕ) → k + n ≡ m → staying_marks (n + 1) table which ≡ staying_marks n table which → staying_marks m table which ≡ staying_marks n table which
  later zero m n e settled = let same : m ≡ n = omega arith in rw same refl
  later (suc k) zero n e settled = absurd (omega arith)
  later (suc k) (suc m) n e settled =
      each_same (λ x. stays m table which x.key) (λ x. stays n table which x.key) table table (later k m n (omega arith) settled) (later k m n (omega arith) settled)
      ∙ sym (one_more n) ∙ settled

  pub settled_on : (n m : ℕ) → n ≤ m → staying_marks (n + 1) table which ≡ staying_marks n table which → staying_marks m table which ≡ staying_marks n table which
  settled_on n m le settled = later (m - n) m n (omega arith) settled

filter_chosen : (p : Entry → Bool) (xs : List Entry) → filter p xs ≡ chosen (map p xs) xs
filter_chosen p [] = refl
filter_chosen p (x ∷ xs) = ap (λ l. cond (p x) (x ∷ l) l) (filter_chosen p xs)

-- what a flush leaves is what is marked
pub kept_marked : (table : List Entry) (which : Which) → kept table which ≡ chosen (staying_marks (length table) table which) table
unfolding kept
kept_marked table which = filter_chosen (λ e. stays (length table) table which e.key) table

any_step : (a : Bool) (q : Entry → Bool) (x : Entry) (xs : List Entry) → list_any q (cond a (x ∷ xs) xs) ≡ ((a && q x) || list_any q xs)
any_step true q x xs = refl
any_step false q x xs = refl

any_filter : (p q : Entry → Bool) (xs : List Entry) → list_any q (filter p xs) ≡ list_any (λ x. p x && q x) xs
any_filter p q [] = refl
any_filter p q (x ∷ xs) = any_step (p x) q x (filter p xs) ∙ ap (λ b. (p x && q x) || b) (any_filter p q xs)

pub remains_marked : (table : List Entry) (which : Which) → remains table which ≡ list_any (λ e. stays (length table) table which e.key && names which e.key.instance) table
unfolding remains kept
remains_marked table which = any_filter (λ e. stays (length table) table which e.key) (λ e. names which e.key.instance) table
