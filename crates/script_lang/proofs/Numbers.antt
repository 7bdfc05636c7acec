-- The value of digits that are gone through from their front.
use Rattle.std.proofs.Common.{◌≡◌, ℕ, suc, ◌+◌, ◌-◌, ◌*◌, ◌^◌, ◌<◌, ◌≤◌, List, [], ◌∷◌, Some, None, sym, ap, ◌∙◌, fold, length, drop, get_or, drop-cons, arith}
use Rattle.std.proofs.lemmas.Bool.{lt-ltb, le-ltb}
use Rattle.std.proofs.lemmas.List.{drop_all}
use Rattle.std.specs.Prelude.{if◌then◌else◌}
use Rattle.script_lang.specs.Forms.{below, value}

abbrev pub digit_step : ℕ → ℕ → ℕ
digit_step number c = number * 10 + (c - 48)

pub grows : (number : ℕ) (digits : List ℕ) → number ≤ fold digit_step number digits
grows number [] = omega arith
grows number (c ∷ digits) = let h : number * 10 + (c - 48) ≤ fold digit_step (number * 10 + (c - 48)) digits = grows (number * 10 + (c - 48)) digits in omega (arith, h)

-- no more digits make the number smaller
pub past : (digits : List ℕ) (place number : ℕ) → place < length digits → fold digit_step 0 digits ≡ fold digit_step number (drop place digits) → 2 ^ 128 ≤ number * 10 + (get_or digits place 0 - 48) → None ≡ below (2 ^ 128) (value digits)
past digits place number within e big =
    let c : ℕ = get_or digits place 0 in
    let rest : fold digit_step number (drop place digits) ≡ fold digit_step (number * 10 + (c - 48)) (drop (suc place) digits) = ap (fold digit_step number) (drop-cons digits place 0 within) in
    let up : number * 10 + (c - 48) ≤ fold digit_step (number * 10 + (c - 48)) (drop (suc place) digits) = grows (number * 10 + (c - 48)) (drop (suc place) digits) in
    let all : 2 ^ 128 ≤ fold digit_step 0 digits = omega (arith, e, rest, up, big) in
    sym (ap (λ b. if b then Some (fold digit_step 0 digits) else None) (le-ltb (fold digit_step 0 digits) (2 ^ 128) all))

pub whole : (digits : List ℕ) (place number : ℕ) → length digits ≤ place → fold digit_step 0 digits ≡ fold digit_step number (drop place digits) → number < 2 ^ 128 → Some number ≡ below (2 ^ 128) (value digits)
whole digits place number past e fits =
    let same : fold digit_step 0 digits ≡ number = e ∙ ap (fold digit_step number) (drop_all place digits past) in
    sym (ap (below (2 ^ 128)) same ∙ ap (λ b. if b then Some number else None) (lt-ltb number (2 ^ 128) fits))
