-- Calls that are forgotten.
use Rattle.std.proofs.Common.{◌≡◌, ℕ, suc, ◌+◌, ◌<◌, ◌≤◌, Bool, true, false, cond, List, [], ◌∷◌, ◌++◌, length, take, drop, get_or, filter, refl, sym, ap, ◌∙◌, append_assoc, arith}
use Rattle.std.specs.Prelude.{sum_by}
use Rattle.std.specs.List.{remove}
use Rattle.std.proofs.lemmas.List.{append-nil, drop_all, drop_at, drop_more, length-take, take_all, take_at, take_more, take-append-drop}
use Rattle.std.proofs.lemmas.List.Sums.{sum_by-append}

module _ {A : Type 0} where
  length-front : (xs : List A) (i : ℕ) → i ≤ length xs → length (take i xs) ≡ i
  length-front xs i le = omega (arith, length-take i xs, le)

  after_it : (xs : List A) (i : ℕ) (x : A) → i < length xs → drop i xs ≡ get_or xs i x ∷ drop (i + 1) xs
  after_it xs i x lt = drop_more xs i x lt

  module _ (p : A → Bool) where
    passes : (y : A) (ys : List A) → p y ≡ true → filter p (y ∷ ys) ≡ y ∷ filter p ys
    passes y ys e = ap (λ (t : Bool). cond t (y ∷ filter p ys) (filter p ys)) e

    fails : (y : A) (ys : List A) → p y ≡ false → filter p (y ∷ ys) ≡ filter p ys
    fails y ys e = ap (λ (t : Bool). cond t (y ∷ filter p ys) (filter p ys)) e

    -- those before this one are kept, and those behind it are still to be looked at
    abbrev pub Sorted : List A → ℕ → List A → Type 0
    Sorted all i now = filter p all ≡ take i now ++ filter p (drop i now)

    pub sorted_first : (all : List A) → Sorted all 0 all
    sorted_first all = refl

    pub sorted_kept : (all now : List A) (i : ℕ) (x : A) → i < length now → x ≡ get_or now i x → p x ≡ true → Sorted all i now → Sorted all (i + 1) now
    sorted_kept all now i x lt is e h =
        h ∙ ap (λ (l : List A). take i now ++ filter p l) (after_it now i x lt)
        ∙ ap (λ (l : List A). take i now ++ l) (passes (get_or now i x) (drop (i + 1) now) (ap p (sym is) ∙ e))
        ∙ sym (append_assoc (take i now) (get_or now i x ∷ []) (filter p (drop (i + 1) now)))
        ∙ ap (λ (l : List A). l ++ filter p (drop (i + 1) now)) (sym (take_more now i x lt))

    pub sorted_gone : (all now : List A) (i : ℕ) (x : A) → i < length now → x ≡ get_or now i x → p x ≡ false → Sorted all i now → Sorted all i (remove now i)
    sorted_gone all now i x lt is e h =
        let next : i + 1 ≡ suc i = omega arith in
        let front : length (take i now) ≡ i = length-front now i (omega (arith, lt)) in
        h ∙ ap (λ (l : List A). take i now ++ filter p l) (after_it now i x lt)
        ∙ ap (λ (l : List A). take i now ++ l) (fails (get_or now i x) (drop (i + 1) now) (ap p (sym is) ∙ e))
        ∙ ap (λ (k : ℕ). take i now ++ filter p (drop k now)) next
        ∙ ap (λ (l : List A). l ++ filter p (drop (suc i) now)) (sym (take_at (take i now) (drop (suc i) now) i front))
        ∙ ap (λ (l : List A). take i (remove now i) ++ filter p l) (sym (drop_at (take i now) (drop (suc i) now) i front))

    pub sorted_all : (all now : List A) (i : ℕ) → length now ≤ i → Sorted all i now → now ≡ filter p all
    sorted_all all now i le h =
        sym (h ∙ ap (λ (l : List A). l ++ filter p (drop i now)) (take_all i now le) ∙ ap (λ (l : List A). now ++ filter p l) (drop_all i now le) ∙ append-nil now)

  pub fewer_left : (f : A → ℕ) (now : List A) (i : ℕ) (x : A) → i < length now → sum_by f (remove now i) ≤ sum_by f now
  fewer_left f now i x lt =
      let next : i + 1 ≡ suc i = omega arith in
      let whole : sum_by f (take i now ++ drop i now) ≡ sum_by f now = ap (sum_by f) (take-append-drop i now) in
      let left : sum_by f (take i now ++ drop i now) ≡ sum_by f (take i now) + sum_by f (drop i now) = sum_by-append f (take i now) (drop i now) in
      let split : sum_by f (drop i now) ≡ sum_by f (get_or now i x ∷ drop (suc i) now) = ap (sum_by f) (after_it now i x lt ∙ ap (λ (k : ℕ). get_or now i x ∷ drop k now) next) in
      let one : sum_by f (get_or now i x ∷ drop (suc i) now) ≡ sum_by f (get_or now i x ∷ []) + sum_by f (drop (suc i) now) = sum_by-append f (get_or now i x ∷ []) (drop (suc i) now) in
      let right : sum_by f (remove now i) ≡ sum_by f (take i now) + sum_by f (drop (suc i) now) = sum_by-append f (take i now) (drop (suc i) now) in
      omega (arith, whole, left, split, one, right)
