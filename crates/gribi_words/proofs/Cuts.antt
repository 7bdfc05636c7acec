-- Words that are cut into options, one after another.
use Rattle.std.proofs.Common.{◌≡◌, ℕ, suc, ◌+◌, ◌≤◌, ◌<◌, Bool, true, false, List, [], ◌∷◌, ◌++◌, Option, Some, None, refl, sym, ap, ◌∙◌, append_assoc, cond, map, length, take, drop, get_or, ◌-◌, arith}
use Rattle.std.specs.Prelude.{option_map, option_and_then, ◌||◌, not, if◌then◌else◌}
use Rattle.std.specs.List.{list_any, position_or_len}
use Rattle.gribi_words.specs.Grammar.{options, ahead, joined_option, option_of, is_equals}
use Rattle.gribi_words.specs.Given.{first_option}

all_taken : {Y : Type 0} (ys : List Y) → take (length ys) ys ≡ ys
all_taken [] = refl
all_taken (y ∷ ys) = ap (λ xs. y ∷ xs) (all_taken ys)

none_there : 1 ≤ 0 → ⊥
none_there some = omega (arith, some)

some_there : (n : ℕ) → suc n < 1 → ⊥
some_there n few = omega (arith, few)

append-nil : {X : Type 0} (xs : List X) → xs ++ [] ≡ xs
append-nil [] = refl
append-nil (x ∷ xs) = ap (λ ys. x ∷ ys) (append-nil xs)

-- the options that begin with the first one
abbrev pub behind_first : Option ((List ℕ × List ℕ) × List (List ℕ)) → Option (List (List ℕ × List ℕ))
behind_first cut = option_and_then (λ c. option_map (λ others. c.0 ∷ others) (options c.1)) cut

alone : (b : Bool) (o : Option (List ℕ × List ℕ)) → (if b then ahead o (Some []) else None) ≡ behind_first (if b then option_map (λ option. (option, [])) o else None)
unfolding options
alone true None = refl
alone true (Some x) = refl
alone false o = refl

joined_or_parted : (b : Bool) (o p : Option (List ℕ × List ℕ)) (behind words : List (List ℕ)) → (if b then ahead o (options behind) else ahead p (options words)) ≡ behind_first (if b then option_map (λ option. (option, behind)) o else option_map (λ option. (option, words)) p)
joined_or_parted true None p behind words = refl
joined_or_parted true (Some x) p behind words = refl
joined_or_parted false o None behind words = refl
joined_or_parted false o (Some x) behind words = refl

pub options_first : (word : List ℕ) (behind : List (List ℕ)) → options (word ∷ behind) ≡ behind_first (first_option word behind)
unfolding options
options_first word [] = alone (list_any is_equals word) (joined_option word)
options_first word (next ∷ words) = joined_or_parted (list_any is_equals word) (joined_option word) (option_of word next) (next ∷ words) words

no_hit : (b any : Bool) (n m : ℕ) → (n ≡ m → any ≡ false) → cond (not b) (1 + n) 0 ≡ suc m → (b || any) ≡ false
no_hit true any n m others e = cc
no_hit false any n m others e = others (omega (arith, e))

pub none_found : (p : ℕ → Bool) (text : List ℕ) → position_or_len p text ≡ length text → list_any p text ≡ false
none_found p [] e = refl
none_found p (c ∷ text) e = no_hit (p c) (list_any p text) (position_or_len p text) (length text) (none_found p text) e

behind_head : {X : Type 0} (x : X) (xs : List X) → take (length (x ∷ xs) - 1) (drop 1 (x ∷ xs)) ≡ xs
behind_head x xs = let n : suc (length xs) - 1 ≡ length xs = omega arith in ap (λ n. take n xs) n ∙ all_taken xs

-- the first option, where its value is the next word
pub parted_first : {X : Type 0} (f : X → List ℕ) (word value : List ℕ) (behind : List X) (next d : X) (o : List ℕ × List ℕ) → position_or_len is_equals word ≡ length word → 1 ≤ length behind → value ≡ f next → next ≡ get_or behind 0 d → Some o ≡ option_of word value → Some (o, map f (take (length behind - 1) (drop 1 behind))) ≡ first_option word (map f behind)
parted_first f word value [] next d o lacks some v n e = absurd (none_there some)
parted_first f word value (next ∷ others) x d o lacks some v n e =
    ap (λ xs. Some (o, map f xs)) (behind_head next others)
    ∙ ap (option_map (λ option. (option, map f others))) (e ∙ ap (option_of word) (v ∙ ap f n))
    ∙ ap (λ b. if b then option_map (λ option. (option, map f (next ∷ others))) (joined_option word) else option_map (λ option. (option, map f others)) (option_of word (f next))) (sym (none_found is_equals word lacks))

-- Going through words

abbrev pub joins : List (List ℕ × List ℕ) → Option (List (List ℕ × List ℕ)) → Option (List (List ℕ × List ℕ))
joins done others = option_map (λ others. done ++ others) others

pub start : (o : Option (List (List ℕ × List ℕ))) → o ≡ joins [] o
start None = refl
start (Some xs) = refl

more_of : (done : List (List ℕ × List ℕ)) (o : List ℕ × List ℕ) (others : Option (List (List ℕ × List ℕ))) → joins done (option_map (λ xs. o ∷ xs) others) ≡ joins (done ++ o ∷ []) others
more_of done o None = refl
more_of done o (Some xs) = ap (λ ys. Some ys) (sym (append_assoc done (o ∷ []) xs))

cut_of : {X : Type 0} (f : X → List ℕ) (left : List X) (word : List ℕ) (x d : X) → 1 ≤ length left → word ≡ f x → x ≡ get_or left 0 d → map f left ≡ word ∷ map f (take (length left - 1) (drop 1 left))
cut_of f [] word y d some w is = absurd (none_there some)
cut_of f (x ∷ xs) word y d some w is = ap (λ ys. f x ∷ map f ys) (sym (behind_head x xs)) ∙ ap (λ first. first ∷ map f (take (length (x ∷ xs) - 1) (drop 1 (x ∷ xs)))) (sym (w ∙ ap f is))

-- one more option
pub more : {X : Type 0} (f : X → List ℕ) (left others : List X) (word : List ℕ) (x d : X) (all : Option (List (List ℕ × List ℕ))) (done : List (List ℕ × List ℕ)) (o : List ℕ × List ℕ) → 1 ≤ length left → word ≡ f x → x ≡ get_or left 0 d → Some (o, map f others) ≡ first_option word (map f (take (length left - 1) (drop 1 left))) → all ≡ joins done (options (map f left)) → all ≡ joins (done ++ o ∷ []) (options (map f others))
more f left others word x d all done o some w at e is =
    is
    ∙ ap (λ ws. joins done (options ws)) (cut_of f left word x d some w at)
    ∙ ap (joins done) (options_first word _)
    ∙ ap (λ cut. joins done (behind_first cut)) (sym e)
    ∙ more_of done o (options (map f others))

-- words that are no option
pub stops : {X : Type 0} (f : X → List ℕ) (left : List X) (word : List ℕ) (x d : X) (all : Option (List (List ℕ × List ℕ))) (done : List (List ℕ × List ℕ)) → 1 ≤ length left → word ≡ f x → x ≡ get_or left 0 d → None ≡ first_option word (map f (take (length left - 1) (drop 1 left))) → all ≡ joins done (options (map f left)) → None ≡ all
stops f left word x d all done some w at e is =
    sym (is
    ∙ ap (λ ws. joins done (options ws)) (cut_of f left word x d some w at)
    ∙ ap (joins done) (options_first word _)
    ∙ ap (λ cut. joins done (behind_first cut)) (sym e))

map_append : {X Y : Type 0} (f : X → Y) (xs : List X) (x : X) → map f (xs ++ x ∷ []) ≡ map f xs ++ f x ∷ []
map_append f [] x = refl
map_append f (y ∷ xs) x = ap (λ ys. f y ∷ ys) (map_append f xs x)

-- the options so far, one more included
pub with_one : {X : Type 0} (said : X → List ℕ × List ℕ) (all others : Option (List (List ℕ × List ℕ))) (given after : List X) (o : X) → after ≡ given ++ o ∷ [] → all ≡ joins (map said given ++ said o ∷ []) others → all ≡ joins (map said after) others
with_one said all others given after o new is = is ∙ ap (λ done. joins done others) (sym (ap (map said) new ∙ map_append said given o))

-- no word is left
pub ends : {X : Type 0} (f : X → List ℕ) (left : List X) (all : Option (List (List ℕ × List ℕ))) (done : List (List ℕ × List ℕ)) → length left < 1 → all ≡ joins done (options (map f left)) → Some done ≡ all
unfolding options
ends f [] all done few is = sym (is ∙ ap (λ ys. Some ys) (append-nil done))
ends f (x ∷ xs) all done few is = absurd (some_there (length xs) few)
