-- Lists of things with names, and of names.
use Rattle.std.proofs.Common.{◌≡◌, ℕ, suc, ◌+◌, ◌<◌, ◌≤◌, Bool, true, false, List, [], ◌∷◌, Option, Some, None, refl, ap, ◌∙◌, cond, map, length, drop, get_or, add-one, drop-cons, arith}
use Rattle.std.specs.Prelude.{◌||◌, ◌==◌, not, nat_lt, is_none}
use Rattle.std.specs.List.{list_any, position, position_or_len, prefix_len}
use Rattle.std.specs.Str.{bytes_eq}
use Rattle.std.proofs.lemmas.Bool.Decides.{nat_tests}
use Rattle.std.proofs.lemmas.List.{drop_all}
use Rattle.aft_entries.specs.declared.instances.InstancesFault.{InstancesFault}
use Rattle.aft_entries.specs.declared.instances.InstancesFault.TheVariants.{Empty, BadName, Twice, TooMany}
use Rattle.aft_entries.specs.InstanceNames.{first_that_holds, holds_twice, is_bad_name, fault_by, fault_of}

pub length_map : {X Y : Type 0} (f : X → Y) (xs : List X) → length (map f xs) ≡ length xs
length_map f [] = refl
length_map f (x ∷ xs) = ap (λ n. suc n) (length_map f xs)

any_map : {X Y : Type 0} (test : Y → Bool) (f : X → Y) (xs : List X) → list_any test (map f xs) ≡ list_any (λ x. test (f x)) xs
any_map test f [] = refl
any_map test f (x ∷ xs) = ap (λ b. test (f x) || b) (any_map test f xs)

twice_map : {X Y : Type 0} (same : Y → Y → Bool) (f : X → Y) (xs : List X) → holds_twice same (map f xs) ≡ holds_twice (λ x y. same (f x) (f y)) xs
twice_map same f [] = refl
twice_map same f (x ∷ xs) =
    ap (λ b. b || holds_twice same (map f xs)) (any_map (λ other. same other (f x)) f xs)
    ∙ ap (λ b. list_any (λ other. same (f other) (f x)) xs || b) (twice_map same f xs)

four : Bool → Bool → Bool → Bool → Option InstancesFault
four a b c d = first_that_holds ((a, Empty) ∷ (b, BadName) ∷ (c, Twice) ∷ (d, TooMany) ∷ [])

pub fault_map : {X : Type 0} (f : X → List ℕ) (xs : List X) → fault_of (map f xs) ≡ fault_by f xs
unfolding fault_of four
fault_map f xs =
    let n = length_map f xs in
    let b = any_map is_bad_name f xs in
    let t = twice_map bytes_eq f xs in
    ap (λ n. four (n == 0) (list_any is_bad_name (map f xs)) (holds_twice bytes_eq (map f xs)) (nat_lt 256 n)) n
    ∙ ap (λ b. four (length xs == 0) b (holds_twice bytes_eq (map f xs)) (nat_lt 256 (length xs))) b
    ∙ ap (λ t. four (length xs == 0) (list_any (λ x. is_bad_name (f x)) xs) t (nat_lt 256 (length xs))) t

few : (a b c d : Bool) → is_none (four a b c d) ≡ true → d ≡ false
unfolding four
few true b c d e = cc
few false true c d e = cc
few false false true d e = cc
few false false false true e = cc
few false false false false e = refl

some : (a b c d : Bool) → is_none (four a b c d) ≡ true → a ≡ false
unfolding four
some true b c d e = cc
some false b c d e = refl

-- there is a name
pub some_names : {X : Type 0} (f : X → List ℕ) (xs : List X) → is_none (fault_by f xs) ≡ true → 1 ≤ length xs
unfolding four
some_names f xs fine =
    let first = some (length xs == 0) (list_any (λ x. is_bad_name (f x)) xs) (holds_twice (λ x y. bytes_eq (f x) (f y)) xs) (nat_lt 256 (length xs)) fine in
    grind (arith, nat_tests)

-- there are at most 256 names
pub few_names : {X : Type 0} (f : X → List ℕ) (xs : List X) → is_none (fault_by f xs) ≡ true → length xs ≤ 256
unfolding four
few_names f xs fine =
    let last = few (length xs == 0) (list_any (λ x. is_bad_name (f x)) xs) (holds_twice (λ x y. bytes_eq (f x) (f y)) xs) (nat_lt 256 (length xs)) fine in
    grind (arith, nat_tests)

prefix_map : {X Y : Type 0} (test : Y → Bool) (f : X → Y) (xs : List X) → prefix_len test (map f xs) ≡ prefix_len (λ x. test (f x)) xs
prefix_map test f [] = refl
prefix_map test f (x ∷ xs) = ap (λ n. cond (test (f x)) (1 + n) 0) (prefix_map test f xs)

pub position_map : {X Y : Type 0} (test : Y → Bool) (f : X → Y) (xs : List X) → position test (map f xs) ≡ position (λ x. test (f x)) xs
position_map test f xs =
    ap (λ n. cond (nat_lt n (length (map f xs))) (Some n) None) (prefix_map (λ y. not (test y)) f xs)
    ∙ ap (λ n. cond (nat_lt (position_or_len (λ x. test (f x)) xs) n) (Some (position_or_len (λ x. test (f x)) xs)) None) (length_map f xs)

-- a place that is found is within the list
pub position_within : {X : Type 0} (test : X → Bool) (xs : List X) (place : ℕ) → Some place ≡ position test xs → place < length xs
position_within test xs place e = by (nat_lt (position_or_len test xs) (length xs)) refl e
  where
    by : (b : Bool) → nat_lt (position_or_len test xs) (length xs) ≡ b → Some place ≡ cond b (Some (position_or_len test xs)) None → place < length xs
    by true h e = let same : place ≡ position_or_len test xs = cc in grind (arith, nat_tests)
    by false h e = cc

-- A list that is gone through for what it holds twice

twice_at : {X : Type 0} (same : X → X → Bool) (xs : List X) (place : ℕ) (d : X) → place < length xs → holds_twice same (drop place xs) ≡ list_any (λ other. same other (get_or xs place d)) (drop (place + 1) xs) || holds_twice same (drop (place + 1) xs)
twice_at same xs place d h = rw add-one (ap (holds_twice same) (drop-cons xs place d h))

pub twice_more : {X : Type 0} (same : X → X → Bool) (xs : List X) (place : ℕ) (d : X) → place < length xs → list_any (λ other. same other (get_or xs place d)) (drop (place + 1) xs) ≡ false → holds_twice same (drop place xs) ≡ holds_twice same (drop (place + 1) xs)
twice_more same xs place d h e = twice_at same xs place d h ∙ ap (λ b. b || holds_twice same (drop (place + 1) xs)) e

pub twice_found : {X : Type 0} (same : X → X → Bool) (xs : List X) (place : ℕ) (d : X) → place < length xs → list_any (λ other. same other (get_or xs place d)) (drop (place + 1) xs) ≡ true → holds_twice same (drop place xs) ≡ true
twice_found same xs place d h e = twice_at same xs place d h ∙ ap (λ b. b || holds_twice same (drop (place + 1) xs)) e

pub twice_end : {X : Type 0} (same : X → X → Bool) (xs : List X) (place : ℕ) → length xs ≤ place → holds_twice same (drop place xs) ≡ false
twice_end same xs place h = ap (holds_twice same) (drop_all place xs h)
