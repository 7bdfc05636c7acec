-- Ids that rise, where one of them stands, and what keeps their order.
use Rattle.std.proofs.Common.{◌≡◌, ℕ, ◌+◌, ◌<◌, ◌≤◌, zero, suc, Bool, true, false, not, List, [], ◌∷◌, ◌++◌, length, get_or, Some, refl, sym, ap, subst, ◌∙◌, arith}
use Rattle.std.specs.Prelude.{find, filter, if◌then◌else◌, ◌==◌}
use Rattle.std.specs.List.{position_or_len}
use Rattle.std.proofs.lemmas.List.Recursion.{is_position_or_len}
use Rattle.h2_streams.specs.declared.live.Stream.{Stream}
use Rattle.h2_streams.specs.Live.{is_stream, replaced, without, Rises, IsRising}
use Rattle.h2_streams.proofs.Lists.{eqb_is, eqb_isnt}
use Rattle.h2_streams.proofs.Places.{found_id}

abbrev steps : {A : Type 0} → (A → ℕ) → ℕ → List A → ℕ
steps f id [] = 0
steps f id (x ∷ xs) = if f x == id then 0 else suc (steps f id xs)

steps_are : {A : Type 0} (f : A → ℕ) (id : ℕ) (xs : List A) → steps f id xs ≡ position_or_len (λ x. f x == id) xs
steps_are f id xs = is_position_or_len (steps f id) (λ x. f x == id) refl (λ x ys. one_more (f x == id) (steps f id ys)) xs
  where
    one_more : (b : Bool) (n : ℕ) → (if b then 0 else suc n) ≡ (if b then 0 else 1 + n)
    one_more true n = refl
    one_more false n = omega arith

steps_within : {A : Type 0} (f : A → ℕ) (id : ℕ) (xs : List A) → steps f id xs ≤ length xs
steps_within f id [] = omega arith
steps_within f id (x ∷ xs) = by (f x == id) (steps_within f id xs)
  where
    by : (b : Bool) → steps f id xs ≤ length xs → (if b then 0 else suc (steps f id xs)) ≤ suc (length xs)
    by true l = omega arith
    by false l = omega (arith, l)

-- ---- where an id stands

least : {A : Type 0} (f : A → ℕ) (low high : ℕ) (xs : List A) (at : ℕ) (d : A) → Rises f low high xs → at < length xs → low ≤ f (get_or xs at d)
least f low high [] at d h lt = absurd (omega (arith, lt))
least f low high (x ∷ xs) zero d h lt = h.0
least f low high (x ∷ xs) (suc at) d h lt = omega (arith, least f (f x + 1) high xs at d h.1 (omega (arith, lt)), h.0)

steps_above : {A : Type 0} (f : A → ℕ) (low high : ℕ) (xs : List A) (id : ℕ) → Rises f low high xs → id < low → steps f id xs ≡ length xs
steps_above f low high [] id h lt = refl
steps_above f low high (x ∷ xs) id h lt = by (f x == id) refl (steps_above f (f x + 1) high xs id h.1 (omega (arith, h.0, lt)))
  where
    by : (b : Bool) → (f x == id) ≡ b → steps f id xs ≡ length xs → (if b then 0 else suc (steps f id xs)) ≡ suc (length xs)
    by true e r = absurd (omega (arith, eqb_is (f x) id e, h.0, lt))
    by false e r = ap suc r

steps_at : {A : Type 0} (f : A → ℕ) (low high : ℕ) (xs : List A) (id at : ℕ) (d : A) → Rises f low high xs → at < length xs → f (get_or xs at d) ≡ id → steps f id xs ≡ at
steps_at f low high [] id at d h lt e = absurd (omega (arith, lt))
steps_at f low high (x ∷ xs) id zero d h lt e = by (f x == id) refl
  where
    by : (b : Bool) → (f x == id) ≡ b → (if b then 0 else suc (steps f id xs)) ≡ 0
    by true g = refl
    by false g = absurd (eqb_isnt (f x) id g e)
steps_at f low high (x ∷ xs) id (suc at) d h lt e = by (f x == id) refl (steps_at f (f x + 1) high xs id at d h.1 (omega (arith, lt)) e)
  where
    by : (b : Bool) → (f x == id) ≡ b → steps f id xs ≡ at → (if b then 0 else suc (steps f id xs)) ≡ suc at
    by true g r = absurd (omega (arith, eqb_is (f x) id g, least f (f x + 1) high xs at d h.1 (omega (arith, lt)), e))
    by false g r = ap suc r

steps_up : {A : Type 0} (f : A → ℕ) (low high : ℕ) (xs : List A) (id at : ℕ) (d : A) → Rises f low high xs → at < length xs → f (get_or xs at d) < id → at < steps f id xs
steps_up f low high [] id at d h lt l = absurd (omega (arith, lt))
steps_up f low high (x ∷ xs) id zero d h lt l = by (f x == id) refl
  where
    by : (b : Bool) → (f x == id) ≡ b → 0 < (if b then 0 else suc (steps f id xs))
    by true g = absurd (omega (arith, eqb_is (f x) id g, l))
    by false g = omega arith
steps_up f low high (x ∷ xs) id (suc at) d h lt l = by (f x == id) refl (steps_up f (f x + 1) high xs id at d h.1 (omega (arith, lt)) l)
  where
    by : (b : Bool) → (f x == id) ≡ b → at < steps f id xs → suc at < (if b then 0 else suc (steps f id xs))
    by true g r = absurd (omega (arith, eqb_is (f x) id g, least f (f x + 1) high xs at d h.1 (omega (arith, lt)), l))
    by false g r = omega (arith, r)

steps_down : {A : Type 0} (f : A → ℕ) (low high : ℕ) (xs : List A) (id at : ℕ) (d : A) → Rises f low high xs → at < length xs → id < f (get_or xs at d) → steps f id xs < length xs → steps f id xs < at
steps_down f low high [] id at d h lt l q = absurd (omega (arith, lt))
steps_down f low high (x ∷ xs) id zero d h lt l q = absurd (omega (arith, steps_above f (f x) high (x ∷ xs) id (omega arith, h.1) l, q))
steps_down f low high (x ∷ xs) id (suc at) d h lt l q = by (f x == id) q (steps_down f (f x + 1) high xs id at d h.1 (omega (arith, lt)) l)
  where
    by : (b : Bool) → (if b then 0 else suc (steps f id xs)) < suc (length xs) → (steps f id xs < length xs → steps f id xs < at) → (if b then 0 else suc (steps f id xs)) < suc at
    by true q r = omega arith
    by false q r = omega (arith, r (omega (arith, q)))

-- the one at a place stands there alone
pub is_at : {A : Type 0} (f : A → ℕ) (low high : ℕ) (xs : List A) (id at : ℕ) (d : A) → Rises f low high xs → at < length xs → f (get_or xs at d) ≡ id → at ≡ position_or_len (λ x. f x == id) xs
is_at f low high xs id at d h lt e = sym (steps_at f low high xs id at d h lt e) ∙ steps_are f id xs

-- ---- what is left of a search by halves

-- an id that is anywhere stands between the two places
pub record IsWithin (place length low high : ℕ) : Type 0 where
  pub bound : high ≤ length
  pub from : low ≤ place
  pub to : place < length → place < high

pub all_within : {A : Type 0} (f : A → ℕ) (id : ℕ) (xs : List A) → IsWithin (position_or_len (λ x. f x == id) xs) (length xs) 0 (length xs)
all_within f id xs = record { bound = omega arith; from = omega arith; to = λ q. q }

pub goes_up : {A : Type 0} (f : A → ℕ) (least most : ℕ) (xs : List A) (id low at high : ℕ) (d : A) → Rises f least most xs → IsWithin (position_or_len (λ x. f x == id) xs) (length xs) low high → at < high → f (get_or xs at d) < id →
    IsWithin (position_or_len (λ x. f x == id) xs) (length xs) (at + 1) high
goes_up f least most xs id low at high d h w lt l = record {
  bound = w.bound;
  from = omega (arith, steps_are f id xs, steps_up f least most xs id at d h (omega (arith, lt, w.bound)) l);
  to = w.to;
}

pub goes_down : {A : Type 0} (f : A → ℕ) (least most : ℕ) (xs : List A) (id low at high : ℕ) (d : A) → Rises f least most xs → IsWithin (position_or_len (λ x. f x == id) xs) (length xs) low high → at < high → id < f (get_or xs at d) →
    IsWithin (position_or_len (λ x. f x == id) xs) (length xs) low at
goes_down f least most xs id low at high d h w lt l = record {
  bound = omega (arith, lt, w.bound);
  from = w.from;
  to = λ q. omega (arith, steps_are f id xs, steps_down f least most xs id at d h (omega (arith, lt, w.bound)) l (omega (arith, steps_are f id xs, q)));
}

pub strictly : (a b : ℕ) → (a ≡ b → ⊥) → b ≤ a → b < a
strictly a b other le = grind (arith, other, le)

-- nothing is left
pub is_nowhere : {A : Type 0} (f : A → ℕ) (id : ℕ) (xs : List A) (low high : ℕ) → IsWithin (position_or_len (λ x. f x == id) xs) (length xs) low high → (low < high → ⊥) → length xs ≡ position_or_len (λ x. f x == id) xs
is_nowhere f id xs low high w none = by (position_or_len (λ x. f x == id) xs) (omega (arith, steps_are f id xs, steps_within f id xs)) w
  where
    by : (place : ℕ) → place ≤ length xs → IsWithin place (length xs) low high → length xs ≡ place
    by place le w = ends place (length xs) low high le w.from w.to none
      where
        ends : (p n low high : ℕ) → p ≤ n → low ≤ p → (p < n → p < high) → (low < high → ⊥) → n ≡ p
        ends p n low high le from to none = grind (arith, le, from, to, none)

-- ---- what keeps the order

pub rises_lower : {A : Type 0} (f : A → ℕ) (low below high : ℕ) (xs : List A) → below ≤ low → Rises f low high xs → Rises f below high xs
rises_lower f low below high [] le h = omega (arith, le, h)
rises_lower f low below high (x ∷ xs) le h = (omega (arith, le, h.0), h.1)

pub rises_higher : {A : Type 0} (f : A → ℕ) (low high above : ℕ) (xs : List A) → high ≤ above → Rises f low high xs → Rises f low above xs
rises_higher f low high above [] le h = omega (arith, le, h)
rises_higher f low high above (x ∷ xs) le h = (h.0, rises_higher f (f x + 1) high above xs le h.1)

pub rises_added : {A : Type 0} (f : A → ℕ) (low high : ℕ) (xs : List A) (x : A) → high ≤ f x → Rises f low high xs → Rises f low (f x + 1) (xs ++ x ∷ [])
rises_added f low high [] x le h = (omega (arith, le, h), omega arith)
rises_added f low high (y ∷ xs) x le h = (h.0, rises_added f (f y + 1) high xs x le h.1)

pub rises_filtered : {A : Type 0} (f : A → ℕ) (p : A → Bool) (low high : ℕ) (xs : List A) → Rises f low high xs → Rises f low high (filter p xs)
rises_filtered f p low high [] h = h
rises_filtered f p low high (x ∷ xs) h = by (p x) (rises_filtered f p (f x + 1) high xs h.1)
  where
    by : (b : Bool) → Rises f (f x + 1) high (filter p xs) → Rises f low high (if b then x ∷ filter p xs else filter p xs)
    by true r = (h.0, r)
    by false r = rises_lower f (f x + 1) low high (filter p xs) (omega (arith, h.0)) r

pub rises_without : (low high k : ℕ) (xs : List Stream) → Rises (λ (s : Stream). s.id) low high xs → Rises (λ (s : Stream). s.id) low high (without k xs)
rises_without low high k xs h = rises_filtered (λ (s : Stream). s.id) (λ (s : Stream). not (is_stream k s)) low high xs h

pub rises_replaced : (low high k : ℕ) (new : Stream) (xs : List Stream) → new.id ≡ k → Rises (λ (s : Stream). s.id) low high xs → Rises (λ (s : Stream). s.id) low high (replaced k new xs)
rises_replaced low high k new [] e h = h
rises_replaced low high k new (s ∷ xs) e h = by (is_stream k s) refl (rises_replaced (s.id + 1) high k new xs e h.1)
  where
    by : (b : Bool) → is_stream k s ≡ b → Rises (λ (s : Stream). s.id) (s.id + 1) high (replaced k new xs) → Rises (λ (s : Stream). s.id) low high (if b then new ∷ xs else s ∷ replaced k new xs)
    by true g r = subst (λ (n : ℕ). (low ≤ n) × Rises (λ (s : Stream). s.id) (n + 1) high xs) (eqb_is s.id k g ∙ sym e) h
    by false g r = (h.0, r)

-- a stream that was found is put back
pub rises_put : (high k : ℕ) (old new : Stream) (xs : List Stream) → find (is_stream k) xs ≡ Some old → new.id ≡ old.id → IsRising high xs → IsRising high (replaced k new xs)
rises_put high k old new xs f e h = rises_replaced 0 high k new xs (e ∙ found_id k old xs f) h
