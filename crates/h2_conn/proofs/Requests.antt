-- Requests that are kept by rising ids: where one stands, what is found where one was put, and that the order stays.
use Rattle.std.proofs.Common.{◌≡◌, ℕ, ◌+◌, ◌<◌, ◌≤◌, suc, Bool, true, false, List, [], ◌∷◌, length, set, Option, Some, None, Result, Ok, Err, refl, sym, ap, subst, ◌∙◌, arith}
use Rattle.std.specs.Prelude.{slice_get, nat_lt, OnOk, OnErr, ◌==◌, if◌then◌else◌}
use Rattle.std.specs.List.{position, position_or_len, insert}
use Rattle.std.proofs.lemmas.Bool.Decides.{nat_tests}
use Rattle.std.proofs.lemmas.List.Folds.{find_at}
use Rattle.std.proofs.lemmas.List.Recursion.{is_position_or_len}
use Rattle.h2_streams.specs.Live.{Rises}
use Rattle.h2_streams.proofs.Lists.{self_eq, eqb_is, isnt}
use Rattle.h2_conn.specs.declared.asked.Asked.{Asked}
use Rattle.h2_conn.specs.Watching.{asked_behind, asked_with, found_in, placed, put_by, replaced}

-- ---- a place

abbrev until : (Asked → Bool) → List Asked → ℕ
until p [] = 0
until p (x ∷ xs) = if p x then 0 else suc (until p xs)

until_is : (p : Asked → Bool) (xs : List Asked) → until p xs ≡ position_or_len p xs
until_is p xs = is_position_or_len (until p) p refl (λ x ys. one_more (p x) (until p ys)) xs
  where
    one_more : (b : Bool) (n : ℕ) → (if b then 0 else suc n) ≡ (if b then 0 else 1 + n)
    one_more true n = refl
    one_more false n = omega arith

until_within : (p : Asked → Bool) (xs : List Asked) → until p xs ≤ length xs
until_within p [] = omega arith
until_within p (x ∷ xs) = by (p x) (until_within p xs)
  where
    by : (b : Bool) → until p xs ≤ length xs → (if b then 0 else suc (until p xs)) ≤ suc (length xs)
    by true l = omega arith
    by false l = omega (arith, l)

pub within : (p : Asked → Bool) (xs : List Asked) → position_or_len p xs ≤ length xs
within p xs = omega (arith, until_is p xs, until_within p xs)

pub found_place : (p : Asked → Bool) (place : ℕ) (xs : List Asked) → Some place ≡ position p xs → place ≡ position_or_len p xs
found_place p place xs e = by (nat_lt (position_or_len p xs) (length xs)) e
  where
    by : (b : Bool) → Some place ≡ (if b then Some (position_or_len p xs) else None) → place ≡ position_or_len p xs
    by true e = cc
    by false e = absurd cc

pub last_place : (p : Asked → Bool) (xs : List Asked) → None ≡ position p xs → length xs ≡ position_or_len p xs
last_place p xs e = by (nat_lt (position_or_len p xs) (length xs)) refl e
  where
    by : (b : Bool) → nat_lt (position_or_len p xs) (length xs) ≡ b → ◌≡◌ {A = Option ℕ} None (if b then Some (position_or_len p xs) else None) → length xs ≡ position_or_len p xs
    by true f e = absurd cc
    by false f e = last (position_or_len p xs) (length xs) f (within p xs)
      where
        last : (m n : ℕ) → nat_lt m n ≡ false → m ≤ n → n ≡ m
        last m n f g = grind (arith, nat_tests)

-- ---- what is put there

insert_until : (k : ℕ) (a : Asked) (xs : List Asked) → insert xs (until (λ x. nat_lt k x.id) xs) a ≡ placed k a xs
insert_until k a [] = refl
insert_until k a (x ∷ xs) = by (nat_lt k x.id) (insert_until k a xs)
  where
    by : (b : Bool) → insert xs (until (λ x. nat_lt k x.id) xs) a ≡ placed k a xs → insert (x ∷ xs) (if b then 0 else suc (until (λ x. nat_lt k x.id) xs)) a ≡ (if b then a ∷ x ∷ xs else x ∷ placed k a xs)
    by true r = refl
    by false r = ap (λ (l : List Asked). x ∷ l) r

pub inserted : (k place : ℕ) (a : Asked) (xs ys : List Asked) → ys ≡ xs → place ≡ position_or_len (λ (x : Asked). nat_lt k x.id) ys → insert xs place a ≡ placed k a xs
inserted k place a xs ys same e =
    ap (λ (n : ℕ). insert xs n a) (e ∙ ap (position_or_len (λ (x : Asked). nat_lt k x.id)) same ∙ sym (until_is (λ (x : Asked). nat_lt k x.id) xs)) ∙ insert_until k a xs

set_until : (k : ℕ) (a : Asked) (xs : List Asked) → until (λ x. x.id == k) xs < length xs → set xs (until (λ x. x.id == k) xs) a ≡ replaced k a xs
set_until k a [] lt = absurd (omega (arith, lt))
set_until k a (x ∷ xs) lt = by (x.id == k) lt (λ l. set_until k a xs l)
  where
    by : (b : Bool) → (if b then 0 else suc (until (λ x. x.id == k) xs)) < suc (length xs) → (until (λ x. x.id == k) xs < length xs → set xs (until (λ x. x.id == k) xs) a ≡ replaced k a xs) →
        set (x ∷ xs) (if b then 0 else suc (until (λ x. x.id == k) xs)) a ≡ (if b then a ∷ xs else x ∷ replaced k a xs)
    by true l r = refl
    by false l r = ap (λ (ys : List Asked). x ∷ ys) (r (omega (arith, l)))

none_until : (k : ℕ) (a : Asked) (xs : List Asked) → length xs ≡ until (λ x. x.id == k) xs → xs ≡ replaced k a xs
none_until k a [] e = refl
none_until k a (x ∷ xs) e = by (x.id == k) e (λ l. none_until k a xs l)
  where
    by : (b : Bool) → suc (length xs) ≡ (if b then 0 else suc (until (λ x. x.id == k) xs)) → (length xs ≡ until (λ x. x.id == k) xs → xs ≡ replaced k a xs) → x ∷ xs ≡ (if b then a ∷ xs else x ∷ replaced k a xs)
    by true l r = absurd (omega (arith, l))
    by false l r = ap (λ (ys : List Asked). x ∷ ys) (r (omega (arith, l)))

pub set_in_place : (k place : ℕ) (a : Asked) (xs : List Asked) → place ≡ position_or_len (λ (x : Asked). x.id == k) xs → place < length xs → set xs place a ≡ replaced k a xs
set_in_place k place a xs e lt =
    let is : place ≡ until (λ (x : Asked). x.id == k) xs = e ∙ sym (until_is (λ (x : Asked). x.id == k) xs) in
    ap (λ (n : ℕ). set xs n a) is ∙ set_until k a xs (omega (arith, is, lt))

pub nothing_to_set : (k place : ℕ) (a : Asked) (xs : List Asked) → place ≡ position_or_len (λ (x : Asked). x.id == k) xs → length xs ≤ place → xs ≡ replaced k a xs
nothing_to_set k place a xs e le = none_until k a xs (omega (arith, e, until_is (λ (x : Asked). x.id == k) xs, until_within (λ (x : Asked). x.id == k) xs, le))

pub found_at : (k place : ℕ) (xs ys : List Asked) (o : Option Asked) → o ≡ slice_get ys place → ys ≡ xs → place ≡ position_or_len (λ (x : Asked). x.id == k) xs → o ≡ found_in k xs
found_at k place xs ys o e same is = e ∙ ap (λ (l : List Asked). slice_get l place) same ∙ ap (slice_get xs) is ∙ sym (find_at (λ (x : Asked). x.id == k) xs)

-- ---- what is found

skipped : (p : Asked → Bool) (x a : Asked) (b : Bool) (rest part : Option Asked) → (if b then Some x else rest) ≡ None → (rest ≡ None → part ≡ Some a) → (if b then Some x else part) ≡ Some a
skipped p x a true rest part e r = absurd cc
skipped p x a false rest part e r = r e

pub placed_here : (k : ℕ) (a : Asked) (xs : List Asked) → a.id ≡ k → found_in k xs ≡ None → found_in k (placed k a xs) ≡ Some a
placed_here k a [] e f = ap (λ (t : Bool). if t then Some a else None) (ap (λ (n : ℕ). n == k) e ∙ self_eq k)
placed_here k a (x ∷ xs) e f = by (nat_lt k x.id) (skipped (λ y. y.id == k) x a (x.id == k) (found_in k xs) (found_in k (placed k a xs)) f (λ g. placed_here k a xs e g))
  where
    by : (b : Bool) → found_in k (x ∷ placed k a xs) ≡ Some a → found_in k (if b then a ∷ x ∷ xs else x ∷ placed k a xs) ≡ Some a
    by true r = ap (λ (t : Bool). if t then Some a else found_in k (x ∷ xs)) (ap (λ (n : ℕ). n == k) e ∙ self_eq k)
    by false r = r

pub replaced_here : (k : ℕ) (a old : Asked) (xs : List Asked) → a.id ≡ k → found_in k xs ≡ Some old → found_in k (replaced k a xs) ≡ Some a
replaced_here k a old [] e f = absurd cc
replaced_here k a old (x ∷ xs) e f = by (x.id == k) refl f (λ g. replaced_here k a old xs e g)
  where
    by : (b : Bool) → (x.id == k) ≡ b → (if b then Some x else found_in k xs) ≡ Some old → (found_in k xs ≡ Some old → found_in k (replaced k a xs) ≡ Some a) → found_in k (if b then a ∷ xs else x ∷ replaced k a xs) ≡ Some a
    by true g f r = ap (λ (t : Bool). if t then Some a else found_in k xs) (ap (λ (n : ℕ). n == k) e ∙ self_eq k)
    by false g f r = ap (λ (t : Bool). if t then Some x else found_in k (replaced k a xs)) g ∙ r f

other_id : (k id n : ℕ) → n ≡ k → (id ≡ k → ⊥) → (n == id) ≡ false
other_id k id n e other = ap (λ (m : ℕ). m == id) e ∙ isnt id k (λ f. other (sym f))

pub placed_there : (k id : ℕ) (a : Asked) (xs : List Asked) → a.id ≡ k → (id ≡ k → ⊥) → found_in id (placed k a xs) ≡ found_in id xs
placed_there k id a [] e other = ap (λ (t : Bool). if t then Some a else None) (other_id k id a.id e other)
placed_there k id a (x ∷ xs) e other = by (nat_lt k x.id) (placed_there k id a xs e other)
  where
    by : (b : Bool) → found_in id (placed k a xs) ≡ found_in id xs → found_in id (if b then a ∷ x ∷ xs else x ∷ placed k a xs) ≡ found_in id (x ∷ xs)
    by true r = ap (λ (t : Bool). if t then Some a else found_in id (x ∷ xs)) (other_id k id a.id e other)
    by false r = ap (λ (o : Option Asked). if x.id == id then Some x else o) r

pub replaced_there : (k id : ℕ) (a : Asked) (xs : List Asked) → a.id ≡ k → (id ≡ k → ⊥) → found_in id (replaced k a xs) ≡ found_in id xs
replaced_there k id a [] e other = refl
replaced_there k id a (x ∷ xs) e other = by (x.id == k) refl (replaced_there k id a xs e other)
  where
    by : (b : Bool) → (x.id == k) ≡ b → found_in id (replaced k a xs) ≡ found_in id xs → found_in id (if b then a ∷ xs else x ∷ replaced k a xs) ≡ found_in id (x ∷ xs)
    by true g r = ap (λ (t : Bool). if t then Some a else found_in id xs) (other_id k id a.id e other) ∙ sym (ap (λ (t : Bool). if t then Some x else found_in id xs) (other_id k id x.id (eqb_is x.id k g) other))
    by false g r = ap (λ (o : Option Asked). if x.id == id then Some x else o) r

-- ---- the order

pub rises_replaced : (low high k : ℕ) (a : Asked) (xs : List Asked) → a.id ≡ k → Rises (λ (x : Asked). x.id) low high xs → Rises (λ (x : Asked). x.id) low high (replaced k a xs)
rises_replaced low high k a [] e h = h
rises_replaced low high k a (x ∷ xs) e h = by (x.id == k) refl (rises_replaced (x.id + 1) high k a xs e h.1)
  where
    by : (b : Bool) → (x.id == k) ≡ b → Rises (λ (x : Asked). x.id) (x.id + 1) high (replaced k a xs) → Rises (λ (x : Asked). x.id) low high (if b then a ∷ xs else x ∷ replaced k a xs)
    by true g r = subst (λ (n : ℕ). (low ≤ n) × Rises (λ (x : Asked). x.id) (n + 1) high xs) (eqb_is x.id k g ∙ sym e) h
    by false g r = (h.0, r)

pub rises_placed : (low high k : ℕ) (a : Asked) (xs : List Asked) → a.id ≡ k → low ≤ k → k < high → found_in k xs ≡ None → Rises (λ (x : Asked). x.id) low high xs → Rises (λ (x : Asked). x.id) low high (placed k a xs)
rises_placed low high k a [] e le lt none h = (omega (arith, e, le), omega (arith, e, lt))
rises_placed low high k a (x ∷ xs) e le lt none h = by (nat_lt k x.id) refl (x.id == k) refl none (λ l g. rises_placed (x.id + 1) high k a xs e l lt g h.1)
  where
    by : (b : Bool) → nat_lt k x.id ≡ b → (c : Bool) → (x.id == k) ≡ c → (if c then Some x else found_in k xs) ≡ None → (x.id + 1 ≤ k → found_in k xs ≡ None → Rises (λ (x : Asked). x.id) (x.id + 1) high (placed k a xs)) →
        Rises (λ (x : Asked). x.id) low high (if b then a ∷ x ∷ xs else x ∷ placed k a xs)
    by b f true g n r = absurd cc
    by true f false g n r = (omega (arith, e, le), (less k x.id a.id f e, h.1))
      where
        less : (k n i : ℕ) → nat_lt k n ≡ true → i ≡ k → i + 1 ≤ n
        less k n i f e = grind (arith, nat_tests)
    by false f false g n r = (h.0, r (more k x.id f g) n)
      where
        more : (k n : ℕ) → nat_lt k n ≡ false → (n == k) ≡ false → n + 1 ≤ k
        more k n f g = grind (arith, nat_tests)

-- ---- of what a call computed

pub next_id : (k : ℕ) (m : List ℕ) (o : Option Asked) → (asked_with k m o).id ≡ k
next_id k m None = refl
next_id k m (Some a) = refl

pub put_found : (k : ℕ) (m : List ℕ) (o : Option Asked) (old a : Asked) (xs : List Asked) → o ≡ found_in k xs → o ≡ Some old → a ≡ asked_with k m o → replaced k a xs ≡ asked_behind k m xs
put_found k m o old a xs e f g = ap (λ (b : Asked). replaced k b xs) g ∙ by (found_in k xs) o (sym e) f
  where
    by : (p o : Option Asked) → p ≡ o → o ≡ Some old → replaced k (asked_with k m o) xs ≡ put_by p k (asked_with k m p) xs
    by p None same f = absurd cc
    by None (Some b) same f = absurd cc
    by (Some c) (Some b) same f = ap (λ (o : Option Asked). replaced k (asked_with k m o) xs) (sym same)

pub put_new : (k : ℕ) (m : List ℕ) (o : Option Asked) (a : Asked) (xs : List Asked) → o ≡ found_in k xs → o ≡ None → a ≡ asked_with k m o → placed k a xs ≡ asked_behind k m xs
put_new k m o a xs e f g = ap (λ (b : Asked). placed k b xs) (g ∙ ap (asked_with k m) f) ∙ ap (λ (p : Option Asked). put_by p k (asked_with k m p) xs) (sym f ∙ e)

pub ok_more : {A E P Q : Type 0} (r : Result A E) → (P → Q) → OnOk r P → OnOk r Q
ok_more (Ok done) f p = f p
ok_more (Err why) f p = tt

pub rises_by : {A E : Type 0} (r : Result A E) (new more old : List Asked) → OnOk r (new ≡ more) → OnErr r (new ≡ old) → Rises (λ (a : Asked). a.id) 0 4294967296 more → Rises (λ (a : Asked). a.id) 0 4294967296 old → Rises (λ (a : Asked). a.id) 0 4294967296 new
rises_by (Ok done) new more old e f p o = subst (λ (l : List Asked). Rises (λ (a : Asked). a.id) 0 4294967296 l) (sym e) p
rises_by (Err why) new more old e f p o = subst (λ (l : List Asked). Rises (λ (a : Asked). a.id) 0 4294967296 l) (sym f) o
