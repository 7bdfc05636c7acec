-- The first call that passes a test, by its place.
use Rattle.std.proofs.Common.{◌≡◌, ℕ, zero, suc, ◌<◌, ◌≤◌, Bool, true, false, List, [], ◌∷◌, Some, None, length, refl, sym, ap, ◌∙◌, arith}
use Rattle.std.specs.Prelude.{cond, find, slice_get, slice_set, get_or}
use Rattle.std.specs.List.{position, position_or_len}
use Rattle.std.proofs.lemmas.Grind.{common_steps}
use Rattle.std.proofs.lemmas.List.Folds.{find_at}
use Rattle.std.proofs.lemmas.List.Quantifiers.{position-Some}
use Rattle.std.proofs.lemmas.Option.{slice_get_past, slice_get-get_or}
use Rattle.compliance_client.specs.Deeds.{CallView, change_first}

module _ (p : CallView → Bool) where
  pub found_at : (xs : List CallView) (i : ℕ) → position p xs ≡ Some i → find p xs ≡ slice_get xs i
  found_at xs i found = find_at p xs ∙ ap (slice_get xs) (sym first_is)
    where
      first_is : i ≡ position_or_len p xs
      first_is = grind (arith, common_steps)

  pub found_none : (xs : List CallView) → position p xs ≡ None → find p xs ≡ None
  found_none xs missing =
      let past : length xs ≤ position_or_len p xs = grind (arith, common_steps) in
      find_at p xs ∙ slice_get_past xs (position_or_len p xs) past

  at_place : (xs : List CallView) (i : ℕ) (x : CallView) → position p xs ≡ Some i → x ≡ get_or xs i x → slice_get xs i ≡ Some x
  at_place xs i x found is = slice_get-get_or xs i x (position-Some p xs i x found).0 ∙ ap Some (sym is)

  pub found_here : (xs : List CallView) (i : ℕ) (x : CallView) → position p xs ≡ Some i → x ≡ get_or xs i x → find p xs ≡ Some x
  found_here xs i x found is = found_at xs i found ∙ at_place xs i x found is

  some_is : (x y : CallView) → Some x ≡ Some y → x ≡ y
  some_is x y e = cc

  keeps_head : (x : CallView) (b : Bool) (rest : List CallView) (f : CallView → CallView) → b ≡ false → x ∷ rest ≡ cond b (f x ∷ rest) (x ∷ rest)
  keeps_head x true rest f e = absurd cc
  keeps_head x false rest f e = refl

  module _ (f : CallView → CallView) where
    by_test : (x : CallView) (b : Bool) (hit miss : List CallView) → b ≡ true → hit ≡ cond b hit miss
    by_test x true hit miss e = refl
    by_test x false hit miss e = absurd cc

    by_miss : (b : Bool) (hit miss : List CallView) → b ≡ false → miss ≡ cond b hit miss
    by_miss true hit miss e = absurd cc
    by_miss false hit miss e = refl

    changed_from : (xs : List CallView) (i : ℕ) (x d : CallView) → slice_get xs i ≡ Some x → p x ≡ true →
        ((k : ℕ) → k < i → p (get_or xs k d) ≡ false) → slice_set xs i (f x) ≡ change_first p f xs
    changed_from [] i x d is passes before = absurd cc
    changed_from (z ∷ zs) zero x d is passes before =
        let e : z ≡ x = some_is z x is in
        ap (λ (y : CallView). f y ∷ zs) (sym e) ∙ by_test z (p z) (f z ∷ zs) (z ∷ change_first p f zs) (ap p e ∙ passes)
    changed_from (z ∷ zs) (suc i) x d is passes before =
        ap (λ (l : List CallView). z ∷ l) (changed_from zs i x d is passes (λ k less. before (suc k) (omega (arith, less))))
        ∙ by_miss (p z) (f z ∷ zs) (z ∷ change_first p f zs) (before zero (omega arith))

    pub changed_at : (xs : List CallView) (i : ℕ) (x y : CallView) → position p xs ≡ Some i → x ≡ get_or xs i x → y ≡ f x →
        slice_set xs i y ≡ change_first p f xs
    changed_at xs i x y found is new =
        let k = position-Some p xs i x found in
        ap (slice_set xs i) new ∙ changed_from xs i x x (at_place xs i x found is) (ap p is ∙ k.1) k.2

    pub unchanged : (xs : List CallView) → position p xs ≡ None → xs ≡ change_first p f xs
    unchanged xs missing = none_changed xs (found_none xs missing)
      where
        none_changed : (xs : List CallView) → find p xs ≡ None → xs ≡ change_first p f xs
        none_changed [] e = refl
        none_changed (x ∷ xs) e = by_head (p x) e (λ rest. none_changed xs rest)
          where
            by_head : (b : Bool) → cond b (Some x) (find p xs) ≡ None → (find p xs ≡ None → xs ≡ change_first p f xs) →
                x ∷ xs ≡ cond b (f x ∷ xs) (x ∷ change_first p f xs)
            by_head true e rest = absurd cc
            by_head false e rest = ap (λ (l : List CallView). x ∷ l) (rest e)
