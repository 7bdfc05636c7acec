-- The room of entries, from the oldest on.
use Rattle.std.proofs.Common.{◌≡◌, ℕ, ◌+◌, ◌-◌, ◌*◌, length, ◌<◌, ◌≤◌, List, [], ◌∷◌, ◌++◌, sum_by, refl, sym, ap, ◌∙◌, arith, inl, inr}
use Rattle.std.proofs.lemmas.Bool.{cases_lt, le-leb, lt-leb}
use Rattle.std.proofs.lemmas.List.Sums.{sum_by-cons, sum_by_push}
use Rattle.hpack_tables.specs.declared.field.Field.{Field}
use Rattle.hpack_tables.specs.EntrySizes.{size_of, fitting}

-- the oldest entry has no room where all together have none
pub fitting_push : (room : ℕ) (xs : List Field) (y : Field) → room < sum_by size_of (xs ++ y ∷ []) → fitting room (xs ++ y ∷ []) ≡ fitting room xs
fitting_push room [] y lt = rw (lt-leb (size_of y) room (omega (arith, lt, sum_by_push size_of [] y))) refl
fitting_push room (x ∷ xs) y lt =
    elim (cases_lt room (size_of x)) [
      | inl small ↦ rw (lt-leb (size_of x) room small) refl
      | inr large ↦ rw (le-leb (size_of x) room large) (ap (λ (fs : List Field). x ∷ fs) (fitting_push (room - size_of x) xs y (omega (arith, lt, sum_by-cons size_of x (xs ++ y ∷ []), large))))
    ]

-- what has room together stays
pub fitting_all : (room : ℕ) (xs : List Field) → sum_by size_of xs ≤ room → fitting room xs ≡ xs
fitting_all room [] le = refl
fitting_all room (x ∷ xs) le =
    let parts = sum_by-cons size_of x xs in
    rw (le-leb (size_of x) room (omega (arith, le, parts))) (ap (λ (fs : List Field). x ∷ fs) (fitting_all (room - size_of x) xs (omega (arith, le, parts))))

-- one entry fewer, where all together have no room
pub one_out : (room size : ℕ) (xs ys : List Field) (y : Field) → xs ≡ ys ++ y ∷ [] → size ≡ sum_by size_of xs → room < size →
    (size_of y ≤ size) × (size - size_of y ≡ sum_by size_of ys) × (fitting room ys ≡ fitting room xs)
one_out room size xs ys y e sum lt =
    let parts : size ≡ sum_by size_of ys + size_of y = sum ∙ ap (sum_by size_of) e ∙ sum_by_push size_of ys y in
    (omega (arith, parts), omega (arith, parts), sym (ap (fitting room) e ∙ fitting_push room ys y (omega (arith, lt, parts, sum_by_push size_of ys y))))

-- nothing has room in none
pub fitting_none : (xs : List Field) → fitting 0 xs ≡ []
fitting_none [] = refl
fitting_none (x ∷ xs) = rw (lt-leb (size_of x) 0 (omega arith)) refl

-- what has room has it
pub fitting_room : (room : ℕ) (xs : List Field) → sum_by size_of (fitting room xs) ≤ room
fitting_room room [] = omega arith
fitting_room room (x ∷ xs) =
    elim (cases_lt room (size_of x)) [
      | inl small ↦ rw (lt-leb (size_of x) room small) (omega arith)
      | inr large ↦ rw (le-leb (size_of x) room large) (omega (arith, sum_by-cons size_of x (fitting (room - size_of x) xs), fitting_room (room - size_of x) xs, large))
    ]

-- less room after more
pub fitting_twice : (less room : ℕ) (xs : List Field) → less ≤ room → fitting less (fitting room xs) ≡ fitting less xs
fitting_twice less room [] le = refl
fitting_twice less room (x ∷ xs) le =
    elim (cases_lt less (size_of x)) [
      | inl small ↦
          elim (cases_lt room (size_of x)) [
            | inl none ↦ rw (lt-leb (size_of x) room none, lt-leb (size_of x) less small) refl
            | inr some ↦ rw (le-leb (size_of x) room some, lt-leb (size_of x) less small) refl
          ]
      | inr large ↦
          rw (le-leb (size_of x) room (omega (arith, large)), le-leb (size_of x) less large)
          (ap (λ (fs : List Field). x ∷ fs) (fitting_twice (less - size_of x) (room - size_of x) xs (omega (arith, le))))
    ]

-- each entry takes 32 bytes at least
pub count_room : (xs : List Field) → 32 * length xs ≤ sum_by size_of xs
count_room [] = omega arith
count_room (x ∷ xs) = omega (arith, sum_by-cons size_of x xs, count_room xs)
