-- A text that is gone through from its front.
use Rattle.std.proofs.Common.{◌≡◌, ℕ, suc, zero, ◌+◌, ◌*◌, ◌^◌, ◌<◌, ◌≤◌, Bool, true, false, List, [], ◌∷◌, ◌++◌, Option, Some, None, refl, sym, ap, ◌∙◌, append_assoc, map, fold, length, take, drop, get_or, add-one, drop-cons, arith}
use Rattle.std.proofs.Math.Nat.{pow-le-pow_right}
use Rattle.std.proofs.lemmas.List.{take_more, drop_all}
use Rattle.std.specs.Prelude.{option_map, option_and_then, ◌==◌, ◌&&◌, if◌then◌else◌}
use Rattle.addr_text.specs.AddressGrammar.{in_base, all_of, parts, onto_first, at_double_colon, behind, quad, six, address_and_length, groups, and_groups, hextet}

pub append-nil : {X : Type 0} (xs : List X) → xs ++ [] ≡ xs
append-nil [] = refl
append-nil (x ∷ xs) = ap (λ ys. x ∷ ys) (append-nil xs)

-- Parts

abbrev pub ahead : List ℕ → List (List ℕ) → List (List ℕ)
ahead front [] = front ∷ []
ahead front (part ∷ others) = (front ++ part) ∷ others

ahead-onto : (front : List ℕ) (c : ℕ) (ps : List (List ℕ)) → ahead front (onto_first c ps) ≡ ahead (front ++ c ∷ []) ps
ahead-onto front c [] = refl
ahead-onto front c (part ∷ others) = ap (λ p. p ∷ others) (sym (append_assoc front (c ∷ []) part))

pub ahead-none : (ps : List (List ℕ)) (part : List ℕ) (others : List (List ℕ)) → ps ≡ part ∷ others → ps ≡ ahead [] ps
ahead-none [] part others e = cc
ahead-none (p ∷ ps) part others e = refl

parts_is : (separator : ℕ) (text : List ℕ) → (part : List ℕ) × (others : List (List ℕ)) × (parts separator text ≡ part ∷ others)
parts_is separator [] = ([], [], refl)
parts_is separator (c ∷ text) = by (c == separator) (parts separator text)
  where
    by : (b : Bool) (ps : List (List ℕ)) → (part : List ℕ) × (others : List (List ℕ)) × ((if b then [] ∷ ps else onto_first c ps) ≡ part ∷ others)
    by true ps = ([], ps, refl)
    by false [] = (c ∷ [], [], refl)
    by false (p ∷ ps) = (c ∷ p, ps, refl)

pub parts_start : (separator : ℕ) (text : List ℕ) → parts separator text ≡ ahead [] (parts separator text)
parts_start separator text = let p = parts_is separator text in ahead-none _ p.0 p.1 p.2

-- one more byte that isn't the separator
pub parts_more : (separator : ℕ) (front : List ℕ) (c : ℕ) (text : List ℕ) → (c == separator) ≡ false → ahead front (parts separator (c ∷ text)) ≡ ahead (front ++ c ∷ []) (parts separator text)
parts_more separator front c text other = ap (λ b. ahead front (if b then [] ∷ parts separator text else onto_first c (parts separator text))) other ∙ ahead-onto front c (parts separator text)

-- the separator
pub parts_found : (separator : ℕ) (front : List ℕ) (c : ℕ) (text : List ℕ) → (c == separator) ≡ true → ahead front (parts separator (c ∷ text)) ≡ front ∷ parts separator text
parts_found separator front c text same = ap (λ b. ahead front (if b then [] ∷ parts separator text else onto_first c (parts separator text))) same ∙ ap (λ f. f ∷ parts separator text) (append-nil front)

pub parts_end : (separator : ℕ) (front : List ℕ) → ahead front (parts separator []) ≡ front ∷ []
parts_end separator front = ap (λ f. f ∷ []) (append-nil front)

-- Gaps

abbrev pub behind_all : List ℕ → Option (List ℕ × List ℕ) → Option (List ℕ × List ℕ)
behind_all front None = None
behind_all front (Some halves) = Some (front ++ halves.0, halves.1)

behind-push : (front : List ℕ) (c : ℕ) (o : Option (List ℕ × List ℕ)) → behind_all front (behind c o) ≡ behind_all (front ++ c ∷ []) o
behind-push front c None = refl
behind-push front c (Some halves) = ap (λ f. Some (f, halves.1)) (sym (append_assoc front (c ∷ []) halves.0))

pub gap_start : (o : Option (List ℕ × List ℕ)) → o ≡ behind_all [] o
gap_start None = refl
gap_start (Some halves) = refl

pub gap_more : (front : List ℕ) (c d : ℕ) (text : List ℕ) → (c == 58 && d == 58) ≡ false → behind_all front (at_double_colon (c ∷ d ∷ text)) ≡ behind_all (front ++ c ∷ []) (at_double_colon (d ∷ text))
gap_more front c d text other = ap (λ b. behind_all front (if b then Some ([], text) else behind c (at_double_colon (d ∷ text)))) other ∙ behind-push front c (at_double_colon (d ∷ text))

pub gap_found : (front : List ℕ) (c d : ℕ) (text : List ℕ) → (c == 58 && d == 58) ≡ true → behind_all front (at_double_colon (c ∷ d ∷ text)) ≡ Some (front, text)
gap_found front c d text same = ap (λ b. behind_all front (if b then Some ([], text) else behind c (at_double_colon (d ∷ text)))) same ∙ ap (λ f. Some (f, text)) (append-nil front)

-- Numbers

-- the number that a list gives behind the number before it
abbrev pub run : {X : Type 0} → (X → Option ℕ) → ℕ → ℕ → List X → Option ℕ
run read base number [] = Some number
run read base number (x ∷ xs) = option_and_then (λ d. run read base (number * base + d) xs) (read x)

run-through : (f : ℕ → ℕ → ℕ) (number d : ℕ) (o : Option (List ℕ)) → option_map (fold f (f number d)) o ≡ option_map (fold f number) (option_map (λ ys. d ∷ ys) o)
run-through f number d None = refl
run-through f number d (Some ys) = refl

pub run_is : {X : Type 0} (read : X → Option ℕ) (base number : ℕ) (xs : List X) → run read base number xs ≡ option_map (fold (λ n d. n * base + d) number) (all_of (map read xs))
run_is read base number [] = refl
run_is read base number (x ∷ xs) =
    elim (read x) as (λ o. option_and_then (λ d. run read base (number * base + d) xs) o ≡ option_map (fold (λ n d. n * base + d) number) (all_of (o ∷ map read xs))) [
      | None ↦ refl
      | Some d ↦ run_is read base (number * base + d) xs ∙ run-through (λ n d. n * base + d) number d (all_of (map read xs))
    ]

pub run_more : {X : Type 0} (read : X → Option ℕ) (base number d : ℕ) (x : X) (xs : List X) → read x ≡ Some d → run read base number (x ∷ xs) ≡ run read base (number * base + d) xs
run_more read base number d x xs e = ap (option_and_then (λ d. run read base (number * base + d) xs)) e

pub run_stops : {X : Type 0} (read : X → Option ℕ) (base number : ℕ) (x : X) (xs : List X) → read x ≡ None → run read base number (x ∷ xs) ≡ None
run_stops read base number x xs e = ap (option_and_then (λ d. run read base (number * base + d) xs)) e

pub run_done : {X : Type 0} (read : X → Option ℕ) (base number place : ℕ) (text : List X) → length text ≤ place → run read base 0 text ≡ run read base number (drop place text) → Some number ≡ option_map (in_base base) (all_of (map read text))
run_done read base number place text past e = sym (sym (run_is read base 0 text) ∙ e ∙ ap (run read base number) (drop_all place text past))

pub run_fails : (read : ℕ → Option ℕ) (base number place : ℕ) (text : List ℕ) → place < length text → read (get_or text place 0) ≡ None → run read base 0 text ≡ run read base number (drop place text) → None ≡ option_map (in_base base) (all_of (map read text))
run_fails read base number place text within none e =
    sym (sym (run_is read base 0 text) ∙ e ∙ ap (run read base number) (drop-cons text place 0 within) ∙ run_stops read base number _ _ none)

pub below_4096 : (number place : ℕ) → number < 16 ^ place → place ≤ 3 → number < 4096
below_4096 number place h few = let p : 16 ^ place ≤ 16 ^ 3 = pow-le-pow_right {n = 16} (omega arith) few in omega (arith, p)

pub below_256 : (number place : ℕ) → number < 16 ^ place → place ≤ 2 → number < 256
below_256 number place h few = let p : 16 ^ place ≤ 16 ^ 2 = pow-le-pow_right {n = 16} (omega arith) few in omega (arith, p)

pub below_65536 : (number place : ℕ) → number < 16 ^ place → place ≤ 4 → number < 65536
below_65536 number place h few = let p : 16 ^ place ≤ 16 ^ 4 = pow-le-pow_right {n = 16} (omega arith) few in omega (arith, p)

pub gap_step : (text : List ℕ) (i : ℕ) → i + 1 < length text → (get_or text i 0 == 58 && get_or text (i + 1) 0 == 58) ≡ false → behind_all (take i text) (at_double_colon (drop i text)) ≡ behind_all (take (i + 1) text) (at_double_colon (drop (i + 1) text))
gap_step text i h other =
    let first : drop i text ≡ get_or text i 0 ∷ drop (i + 1) text = rw add-one (drop-cons text i 0 (omega arith)) in
    let second : drop (i + 1) text ≡ get_or text (i + 1) 0 ∷ drop (suc (i + 1)) text = drop-cons text (i + 1) 0 h in
    let front : take (i + 1) text ≡ take i text ++ get_or text i 0 ∷ [] = take_more text i 0 (omega arith) in
    ap (λ t. behind_all (take i text) (at_double_colon t)) (first ∙ ap (λ t. get_or text i 0 ∷ t) second)
    ∙ gap_more (take i text) (get_or text i 0) (get_or text (i + 1) 0) (drop (suc (i + 1)) text) other
    ∙ ap (λ f. behind_all f (at_double_colon (get_or text (i + 1) 0 ∷ drop (suc (i + 1)) text))) (sym front)
    ∙ ap (λ t. behind_all (take (i + 1) text) (at_double_colon t)) (sym second)

pub gap_end : (text : List ℕ) (i : ℕ) → length text ≤ i + 1 → at_double_colon (drop i text) ≡ None
gap_end [] zero h = refl
gap_end [] (suc i) h = refl
gap_end (c ∷ []) zero h = refl
gap_end (c ∷ d ∷ text) zero h = absurd (omega arith)
gap_end (c ∷ text) (suc i) h = gap_end text i (omega arith)

-- More parts than there may be

pub quad_more : (a b c d : List ℕ) (separator : ℕ) (text : List ℕ) → quad (a ∷ b ∷ c ∷ d ∷ parts separator text) ≡ None
quad_more a b c d separator text = let p = parts_is separator text in ap (λ others. quad (a ∷ b ∷ c ∷ d ∷ others)) p.2

pub slashed_more : (address : List ℕ → Option ℕ) (most : ℕ) (a b : List ℕ) (separator : ℕ) (text : List ℕ) → address_and_length address most (a ∷ b ∷ parts separator text) ≡ None
slashed_more address most a b separator text = let p = parts_is separator text in ap (λ others. address_and_length address most (a ∷ b ∷ others)) p.2

pub groups_cons : (tail : Bool) (part : List ℕ) (separator : ℕ) (text : List ℕ) → groups tail (part ∷ parts separator text) ≡ and_groups (hextet part) (groups tail (parts separator text))
groups_cons tail part separator text =
    let p = parts_is separator text in
    ap (λ others. groups tail (part ∷ others)) p.2 ∙ ap (λ others. and_groups (hextet part) (groups tail others)) (sym p.2)

pub six_more : (a b c d e f : List ℕ) (separator : ℕ) (text : List ℕ) → six (a ∷ b ∷ c ∷ d ∷ e ∷ f ∷ parts separator text) ≡ None
six_more a b c d e f separator text = let p = parts_is separator text in ap (λ others. six (a ∷ b ∷ c ∷ d ∷ e ∷ f ∷ others)) p.2
