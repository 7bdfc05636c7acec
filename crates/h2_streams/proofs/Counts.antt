-- How many streams are live beside one.
use Rattle.std.proofs.Common.{◌≡◌, ℕ, suc, Bool, true, false, not, ◌||◌, List, [], ◌∷◌, length, refl, sym, ap, ◌∙◌}
use Rattle.std.specs.Prelude.{filter, ◌==◌, if◌then◌else◌}
use Rattle.std.specs.List.{list_any}
use Rattle.h2_exchange.proofs.Steps.{is_once}
use Rattle.h2_streams.proofs.Lists.{eqb_is}

clash : (t : Bool) → t ≡ true → t ≡ false → ⊥
clash t e f = cc

not_not : (t : Bool) → not (not t) ≡ t
not_not true = refl
not_not false = refl

module _ (p : ℕ → Bool) (k : ℕ) where
  abbrev other : ℕ → Bool
  other id = not (id == k)

  filter_if : (b : Bool) (id : ℕ) (ids : List ℕ) → filter other (if b then id ∷ ids else ids) ≡ (if b then (if not (id == k) then id ∷ filter other ids else filter other ids) else filter other ids)
  filter_if true id ids = refl
  filter_if false id ids = refl

  -- one that is not in the list
  pub none_out : (ids : List ℕ) → list_any (λ id. id == k) ids ≡ false → filter other (filter p ids) ≡ filter p ids
  none_out [] e = refl
  none_out (id ∷ ids) e = filter_if (p id) id (filter p ids) ∙ by (id == k) (list_any (λ i. i == k) ids) (p id) (λ f. none_out ids f) e
    where
      by : (t any b : Bool) → (any ≡ false → filter other (filter p ids) ≡ filter p ids) → (t || any) ≡ false →
          (if b then (if not t then id ∷ filter other (filter p ids) else filter other (filter p ids)) else filter other (filter p ids)) ≡ (if b then id ∷ filter p ids else filter p ids)
      by true any b r e = absurd cc
      by false any true r e = ap (λ (l : List ℕ). id ∷ l) (r e)
      by false any false r e = r e

  long_if : (b : Bool) (id : ℕ) (ids : List ℕ) → length (if b then id ∷ ids else ids) ≡ (if b then suc (length ids) else length ids)
  long_if true id ids = refl
  long_if false id ids = refl

  -- one that stands in it once
  pub one_out : (ids : List ℕ) → list_any (λ id. id == k) ids ≡ true → is_once k ids ≡ true → p k ≡ true → length (filter p ids) ≡ suc (length (filter other (filter p ids)))
  one_out [] e f g = absurd cc
  one_out (id ∷ ids) e f g = by (id == k) refl (p id) refl e f (one_out ids)
    where
      by : (t : Bool) → (id == k) ≡ t → (b : Bool) → p id ≡ b → (t || list_any (λ i. i == k) ids) ≡ true → (if t then not (list_any (λ i. i == k) ids) else is_once k ids) ≡ true →
          (list_any (λ i. i == k) ids ≡ true → is_once k ids ≡ true → p k ≡ true → length (filter p ids) ≡ suc (length (filter other (filter p ids)))) →
          length (if b then id ∷ filter p ids else filter p ids) ≡ suc (length (filter other (if b then id ∷ filter p ids else filter p ids)))
      by true q true c e f r =
          ap suc (sym (ap length (none_out ids (sym (not_not (list_any (λ i. i == k) ids)) ∙ ap not f))))
          ∙ ap (λ (t : Bool). suc (length (if not t then id ∷ filter other (filter p ids) else filter other (filter p ids)))) (sym q)
      by true q false c e f r = absurd (clash (p id) (ap p (eqb_is id k q) ∙ g) c)
      by false q true c e f r = ap suc (r e f g) ∙ ap (λ (t : Bool). suc (length (if not t then id ∷ filter other (filter p ids) else filter other (filter p ids)))) (sym q)
      by false q false c e f r = r e f g
