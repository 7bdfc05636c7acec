-- Options are read from words exactly where the words write them.
use Rattle.std.proofs.Common.{◌≡◌, ℕ, suc, ◌+◌, Bool, true, false, List, [], ◌∷◌, ◌++◌, Option, Some, None, refl, sym, ap, ◌∙◌, subst, cond, take, drop, codes, inl, inr, arith}
use Rattle.std.specs.Prelude.{option_map, ◌||◌, ◌&&◌, not, if◌then◌else◌}
use Rattle.std.specs.List.{list_any, position_or_len, before_first, after_first}
use Rattle.std.specs.Str.{bytes_eq}
use Rattle.std.proofs.lemmas.Bool.Decides.{nat_tests}
use Rattle.std.proofs.lemmas.List.{take-append-drop}
use Rattle.std.proofs.lemmas.Slice.Eq.{bytes_eq-Decides}
use Rattle.gribi_words.specs.Grammar.{options, ahead, joined_option, option_of, is_equals, is_value}
use Rattle.gribi_words.specs.Given.{first_option}
use Rattle.gribi_words.specs.Spelling.{IsOption, BeginWith, AreWritten}
use Rattle.gribi_words.proofs.Cuts.{behind_first, options_first}

-- The first equals sign

before_hit : (b : Bool) (n : ℕ) (c : ℕ) (text : List ℕ) → b ≡ true → take (cond (not b) (1 + n) 0) (c ∷ text) ≡ []
before_hit true n c text e = refl
before_hit false n c text e = cc

after_hit : (b : Bool) (n : ℕ) (c : ℕ) (text : List ℕ) → b ≡ true → drop (cond (not b) (1 + n) 0 + 1) (c ∷ text) ≡ text
after_hit true n c text e = refl
after_hit false n c text e = cc

before_miss : (b : Bool) (n : ℕ) (c : ℕ) (text : List ℕ) → b ≡ false → take (cond (not b) (1 + n) 0) (c ∷ text) ≡ c ∷ take n text
before_miss true n c text e = cc
before_miss false n c text e = let s : 1 + n ≡ suc n = omega arith in ap (λ n. take n (c ∷ text)) s

after_miss : (b : Bool) (n : ℕ) (c : ℕ) (text : List ℕ) → b ≡ false → drop (cond (not b) (1 + n) 0 + 1) (c ∷ text) ≡ drop (n + 1) text
after_miss true n c text e = cc
after_miss false n c text e = let s : 1 + n + 1 ≡ suc (n + 1) = omega arith in ap (λ n. drop n (c ∷ text)) s

place : List ℕ → ℕ
place text = position_or_len is_equals text

either : {P : Type 0} (b : Bool) → (b ≡ true → P) → (b ≡ false → P) → P
either true yes_case no_case = yes_case refl
either false yes_case no_case = no_case refl

-- a front without the sign stands before it
before_of : (front back : List ℕ) → list_any is_equals front ≡ false → before_first is_equals (front ++ 61 ∷ back) ≡ front
unfolding place
before_of [] back lacks = before_hit true (place back) 61 back refl
before_of (c ∷ front) back lacks =
    let parts = both_false (is_equals c) (list_any is_equals front) lacks in
    before_miss (is_equals c) (place (front ++ 61 ∷ back)) c (front ++ 61 ∷ back) parts.0 ∙ ap (λ xs. c ∷ xs) (before_of front back parts.1)
  where
    both_false : (a b : Bool) → (a || b) ≡ false → (a ≡ false) × (b ≡ false)
    both_false true b e = cc
    both_false false b e = (refl, e)

after_of : (front back : List ℕ) → list_any is_equals front ≡ false → after_first is_equals (front ++ 61 ∷ back) ≡ back
unfolding place
after_of [] back lacks = after_hit true (place back) 61 back refl
after_of (c ∷ front) back lacks =
    let parts = both_false (is_equals c) (list_any is_equals front) lacks in
    after_miss (is_equals c) (place (front ++ 61 ∷ back)) c (front ++ 61 ∷ back) parts.0 ∙ after_of front back parts.1
  where
    both_false : (a b : Bool) → (a || b) ≡ false → (a ≡ false) × (b ≡ false)
    both_false true b e = cc
    both_false false b e = (refl, e)

has_of : (front back : List ℕ) → list_any is_equals (front ++ 61 ∷ back) ≡ true
has_of [] back = refl
has_of (c ∷ front) back = or_true (is_equals c) (list_any is_equals (front ++ 61 ∷ back)) (has_of front back)
  where
    or_true : (a b : Bool) → b ≡ true → (a || b) ≡ true
    or_true true b e = refl
    or_true false b e = e

is_sign : (c : ℕ) → is_equals c ≡ true → c ≡ 61
is_sign c e = grind (arith, nat_tests)

-- a text with the sign is what stands before it, the sign, and what stands behind it
cut_is : (text : List ℕ) → list_any is_equals text ≡ true → text ≡ before_first is_equals text ++ 61 ∷ after_first is_equals text
unfolding place
cut_is [] has = cc
cut_is (c ∷ text) has = either (is_equals c)
    (λ hit. ap (λ c. c ∷ text) (is_sign c hit)
    ∙ ap (λ xs. 61 ∷ xs) (sym (after_hit (is_equals c) (place text) c text hit))
    ∙ ap (λ front. front ++ 61 ∷ after_first is_equals (c ∷ text)) (sym (before_hit (is_equals c) (place text) c text hit)))
    (λ miss. ap (λ xs. c ∷ xs) (cut_is text (or_second (is_equals c) (list_any is_equals text) miss has))
    ∙ ap (λ back. (c ∷ before_first is_equals text) ++ 61 ∷ back) (sym (after_miss (is_equals c) (place text) c text miss))
    ∙ ap (λ front. front ++ 61 ∷ after_first is_equals (c ∷ text)) (sym (before_miss (is_equals c) (place text) c text miss)))
  where
    or_second : (a b : Bool) → a ≡ false → (a || b) ≡ true → b ≡ true
    or_second true b e f = cc
    or_second false b e f = f

front_lacks : (text : List ℕ) → list_any is_equals (before_first is_equals text) ≡ false
unfolding place
front_lacks [] = refl
front_lacks (c ∷ text) = either (is_equals c)
    (λ hit. ap (list_any is_equals) (before_hit (is_equals c) (place text) c text hit))
    (λ miss. ap (list_any is_equals) (before_miss (is_equals c) (place text) c text miss) ∙ ap (λ b. b || list_any is_equals (before_first is_equals text)) miss ∙ front_lacks text)

-- From what is written to what is read

option_is : (name value : List ℕ) → is_value value ≡ true → option_of (codes "--" ++ name) value ≡ Some (name, value)
option_is name value fine = ap (λ b. if b then Some (name, value) else None) fine

parted_is : (option : List ℕ × List ℕ) (behind : List (List ℕ)) → IsOption option → first_option (codes "--" ++ option.0) (option.1 ∷ behind) ≡ Some (option, behind)
parted_is option behind fine =
    ap (λ b. if b then option_map (λ o. (o, option.1 ∷ behind)) (joined_option (codes "--" ++ option.0)) else option_map (λ o. (o, behind)) (option_of (codes "--" ++ option.0) option.1)) fine.0
    ∙ ap (option_map (λ o. (o, behind))) (option_is option.0 option.1 fine.1)

joined_is : (option : List ℕ × List ℕ) → IsOption option → joined_option (codes "--" ++ (option.0 ++ 61 ∷ option.1)) ≡ Some option
joined_is option fine =
    ap (λ front. option_of front (after_first is_equals (codes "--" ++ (option.0 ++ 61 ∷ option.1)))) (before_of (codes "--" ++ option.0) option.1 fine.0)
    ∙ ap (option_of (codes "--" ++ option.0)) (after_of (codes "--" ++ option.0) option.1 fine.0)
    ∙ option_is option.0 option.1 fine.1

joined_first : (option : List ℕ × List ℕ) (behind : List (List ℕ)) → IsOption option → first_option (codes "--" ++ (option.0 ++ 61 ∷ option.1)) behind ≡ Some (option, behind)
joined_first option [] fine =
    ap (λ b. if b then option_map (λ o. (o, [])) (joined_option (codes "--" ++ (option.0 ++ 61 ∷ option.1))) else None) (has_of (codes "--" ++ option.0) option.1)
    ∙ ap (option_map (λ o. (o, []))) (joined_is option fine)
joined_first option (next ∷ behind) fine =
    ap (λ b. if b then option_map (λ o. (o, next ∷ behind)) (joined_option (codes "--" ++ (option.0 ++ 61 ∷ option.1))) else option_map (λ o. (o, behind)) (option_of (codes "--" ++ (option.0 ++ 61 ∷ option.1)) next)) (has_of (codes "--" ++ option.0) option.1)
    ∙ ap (option_map (λ o. (o, next ∷ behind))) (joined_is option fine)

begun : (option : List ℕ × List ℕ) (words behind : List (List ℕ)) → IsOption option → BeginWith option words behind → options words ≡ behind_first (Some (option, behind))
begun option words behind fine (inl e) = ap options e ∙ options_first _ _ ∙ ap behind_first (parted_is option behind fine)
begun option words behind fine (inr e) = ap options e ∙ options_first _ _ ∙ ap behind_first (joined_first option behind fine)

pub read : (given : List (List ℕ × List ℕ)) (words : List (List ℕ)) → AreWritten given words → options words ≡ Some given
unfolding options
read [] words e = ap options e
read (option ∷ others) words w = begun option words w.1 w.0 w.2 ∙ ap (option_map (λ xs. option ∷ xs)) (read others w.1 w.3)

-- From what is read to what is written

if_parts : {X P : Type 0} (b : Bool) (x y z : X) → (if b then x else y) ≡ z → (b ≡ true → x ≡ z → P) → (b ≡ false → y ≡ z → P) → P
if_parts true x y z e first second = first refl e
if_parts false x y z e first second = second refl e

ahead_parts : {X : Type 0} (first : Option X) (others : Option (List X)) (given : List X) → ahead first others ≡ Some given → (x : X) × (xs : List X) × (first ≡ Some x) × (others ≡ Some xs) × (given ≡ x ∷ xs)
ahead_parts None others given e = cc
ahead_parts (Some x) None given e = cc
ahead_parts (Some x) (Some xs) given e = (x, xs, refl, refl, cc)

both_parts : {X : Type 0} (a b : Bool) (x o : X) → (if a && b then Some x else None) ≡ Some o → (a ≡ true) × (b ≡ true) × (x ≡ o)
both_parts true true x o e = (refl, refl, cc)
both_parts true false x o e = cc
both_parts false b x o e = cc

option_parts : (word value : List ℕ) (o : List ℕ × List ℕ) → option_of word value ≡ Some o → (word ≡ codes "--" ++ o.0) × (value ≡ o.1) × (is_value o.1 ≡ true)
option_parts word value o e =
    let p = both_parts (bytes_eq (take 2 word) (codes "--")) (is_value value) (drop 2 word, value) o e in
    let same : take 2 word ≡ codes "--" = (bytes_eq-Decides (take 2 word) (codes "--")).0 p.0 in
    let second : value ≡ o.1 = ap (λ (o : List ℕ × List ℕ). o.1) p.2 in
    (sym (take-append-drop 2 word) ∙ ap (λ front. front ++ drop 2 word) same ∙ ap (λ (o : List ℕ × List ℕ). codes "--" ++ o.0) p.2, second, sym (ap is_value second) ∙ p.1)

joined_step : (word : List ℕ) (behind : List (List ℕ)) (given : List (List ℕ × List ℕ)) → ((others : List (List ℕ × List ℕ)) → options behind ≡ Some others → AreWritten others behind) → list_any is_equals word ≡ true → ahead (joined_option word) (options behind) ≡ Some given → AreWritten given (word ∷ behind)
joined_step word behind given others has e =
    let p = ahead_parts (joined_option word) (options behind) given e in
    let q = option_parts (before_first is_equals word) (after_first is_equals word) p.0 p.2 in
    let lacks : list_any is_equals p.0.0 ≡ false = sym (ap (list_any is_equals) q.0) ∙ front_lacks word in
    let is : word ≡ codes "--" ++ (p.0.0 ++ 61 ∷ p.0.1) = cut_is word has ∙ ap (λ back. before_first is_equals word ++ 61 ∷ back) q.1 ∙ ap (λ front. front ++ 61 ∷ p.0.1) q.0 in
    subst (λ g. AreWritten g (word ∷ behind)) (sym p.4) ((lacks, q.2), behind, inr (ap (λ w. w ∷ behind) is), others p.1 p.3)

parted_step : (word next : List ℕ) (behind : List (List ℕ)) (given : List (List ℕ × List ℕ)) → ((others : List (List ℕ × List ℕ)) → options behind ≡ Some others → AreWritten others behind) → list_any is_equals word ≡ false → ahead (option_of word next) (options behind) ≡ Some given → AreWritten given (word ∷ next ∷ behind)
parted_step word next behind given others lacks e =
    let p = ahead_parts (option_of word next) (options behind) given e in
    let q = option_parts word next p.0 p.2 in
    let name_lacks : list_any is_equals p.0.0 ≡ false = sym (ap (list_any is_equals) q.0) ∙ lacks in
    let is : word ∷ next ∷ behind ≡ (codes "--" ++ p.0.0) ∷ p.0.1 ∷ behind = ap (λ w. w ∷ next ∷ behind) q.0 ∙ ap (λ v. (codes "--" ++ p.0.0) ∷ v ∷ behind) q.1 in
    subst (λ g. AreWritten g (word ∷ next ∷ behind)) (sym p.4) ((name_lacks, q.2), behind, inl is, others p.1 p.3)

none_written : (given : List (List ℕ × List ℕ)) → Some [] ≡ Some given → AreWritten given []
none_written [] e = refl
none_written (o ∷ others) e = cc

pub written : (given : List (List ℕ × List ℕ)) (words : List (List ℕ)) → options words ≡ Some given → AreWritten given words
unfolding options
written given [] e = none_written given e
written given (word ∷ []) e =
    if_parts (list_any is_equals word) (ahead (joined_option word) (Some [])) None (Some given) e
    (λ has f. joined_step word [] given none_written has f)
    (λ lacks f. cc)
written given (word ∷ next ∷ words) e =
    if_parts (list_any is_equals word) (ahead (joined_option word) (options (next ∷ words))) (ahead (option_of word next) (options words)) (Some given) e
    (λ has f. joined_step word (next ∷ words) given (λ others g. written others (next ∷ words) g) has f)
    (λ lacks f. parted_step word next words given (λ others g. written others words g) lacks f)
