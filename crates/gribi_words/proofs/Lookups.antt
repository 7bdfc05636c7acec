-- What is looked up among options, seen as their names and values.
use Rattle.std.proofs.Common.{◌≡◌, ℕ, ◌+◌, Bool, true, false, List, [], ◌∷◌, Option, Some, None, refl, sym, ap, ◌∙◌, cond, map, fold}
use Rattle.std.specs.Prelude.{option_map, ◌&&◌}
use Rattle.std.specs.List.{find, count_by, list_all}
use Rattle.std.specs.Str.{bytes_eq}
use Rattle.gribi_words.specs.declared.given.Given.{Given}
use Rattle.gribi_words.specs.Given.{said}
use Rattle.gribi_words.specs.Grammar.{value_of, has_name}

pub find_map : {X Y : Type 0} (test : Y → Bool) (f : X → Y) (xs : List X) → find test (map f xs) ≡ option_map f (find (λ x. test (f x)) xs)
find_map test f [] = refl
find_map test f (x ∷ xs) = by (test (f x)) (find_map test f xs)
  where
    by : (b : Bool) → find test (map f xs) ≡ option_map f (find (λ x. test (f x)) xs) → cond b (Some (f x)) (find test (map f xs)) ≡ option_map f (cond b (Some x) (find (λ x. test (f x)) xs))
    by true e = refl
    by false e = e

fold_map : {X Y A : Type 0} (g : A → Y → A) (f : X → Y) (a : A) (xs : List X) → fold g a (map f xs) ≡ fold (λ a x. g a (f x)) a xs
fold_map g f a [] = refl
fold_map g f a (x ∷ xs) = fold_map g f (g a (f x)) xs

pub count_map : {X Y : Type 0} (test : Y → Bool) (f : X → Y) (xs : List X) → count_by test (map f xs) ≡ count_by (λ x. test (f x)) xs
count_map test f xs = fold_map (λ n y. n + cond (test y) 1 0) f 0 xs

pub all_map : {X Y : Type 0} (test : Y → Bool) (f : X → Y) (xs : List X) → list_all test (map f xs) ≡ list_all (λ x. test (f x)) xs
all_map test f [] = refl
all_map test f (x ∷ xs) = ap (λ b. test (f x) && b) (all_map test f xs)

-- the value of an option that is found, or None where none is
pub value_is : (name : List ℕ) (given : List Given) (found : Option Given) → found ≡ find (λ option. bytes_eq option.name.now name) given → option_map (λ option. option.value.now) found ≡ value_of name (map said given)
value_is name given found e =
    ap (option_map (λ option. option.value.now)) e
    ∙ sym (twice (find (λ option. bytes_eq option.name.now name) given))
    ∙ sym (ap (option_map (λ option. option.1)) (find_map (has_name name) said given))
  where
    twice : (o : Option Given) → option_map (λ option. option.1) (option_map said o) ≡ option_map (λ option. option.value.now) o
    twice None = refl
    twice (Some g) = refl
