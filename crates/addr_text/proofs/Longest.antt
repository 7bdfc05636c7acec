-- The longest run of zero groups.
use Rattle.std.proofs.Common.{◌≡◌, ℕ, suc, zero, ◌+◌, ◌-◌, ◌<◌, ◌≤◌, Bool, true, false, List, [], ◌∷◌, ◌++◌, refl, sym, ap, ◌∙◌, length, take, drop, get_or, drop-cons, arith}
use Rattle.std.specs.Prelude.{◌==◌, if◌then◌else◌, max, replicate}
use Rattle.std.proofs.lemmas.Bool.Decides.{nat_tests}
use Rattle.addr_text.specs.Printed.{zeros, longest, place_of}

drop_before : (gs : List ℕ) (l : ℕ) → 0 < l → l ≤ length gs → drop (l - 1) gs ≡ get_or gs (l - 1) 0 ∷ drop l gs
drop_before gs zero h k = absurd (omega arith)
drop_before gs (suc l) h k =
    let e : suc l - 1 ≡ l = omega arith in
    rw e (drop-cons gs l 0 k)

pub zeros_step : (gs : List ℕ) (l : ℕ) → 0 < l → l ≤ length gs → zeros (drop (l - 1) gs) ≡ (if get_or gs (l - 1) 0 == 0 then 1 + zeros (drop l gs) else 0)
zeros_step gs l h k = ap zeros (drop_before gs l h k)

pub longest_step : (gs : List ℕ) (l : ℕ) → 0 < l → l ≤ length gs → longest (drop (l - 1) gs) ≡ max (zeros (drop (l - 1) gs)) (longest (drop l gs))
longest_step gs l h k = ap longest (drop_before gs l h k) ∙ ap (λ n. max n (longest (drop l gs))) (sym (zeros_step gs l h k))

pub place_step : (run : ℕ) (gs : List ℕ) (l : ℕ) → 0 < l → l ≤ length gs → place_of run (drop (l - 1) gs) ≡ (if zeros (drop (l - 1) gs) == run then 0 else 1 + place_of run (drop l gs))
place_step run gs l h k = ap (place_of run) (drop_before gs l h k) ∙ ap (λ n. if n == run then 0 else 1 + place_of run (drop l gs)) (sym (zeros_step gs l h k))

-- A list and its longest run

zero_from : (g : ℕ) → (g == 0) ≡ true → g ≡ 0
zero_from g e = grind (arith, nat_tests)

same_from : (a b : ℕ) → (a == b) ≡ true → a ≡ b
same_from a b e = grind (arith, nat_tests)

other_from : (a b run : ℕ) → (a == run) ≡ false → max a b ≡ run → b ≡ run
other_from a b run e h = grind (arith, nat_tests)

zeros_in_front : (gs : List ℕ) → gs ≡ replicate (zeros gs) 0 ++ drop (zeros gs) gs
zeros_in_front [] = refl
zeros_in_front (g ∷ gs) = by (g == 0) refl (zeros_in_front gs)
  where
    by : (b : Bool) → (g == 0) ≡ b → gs ≡ replicate (zeros gs) 0 ++ drop (zeros gs) gs → g ∷ gs ≡ replicate (if b then 1 + zeros gs else 0) 0 ++ drop (if b then 1 + zeros gs else 0) (g ∷ gs)
    by true e others =
        let one : 1 + zeros gs ≡ suc (zeros gs) = omega arith in
        rw one (ap (λ n. n ∷ gs) (zero_from g e) ∙ ap (λ xs. 0 ∷ xs) others)
    by false e others = refl

-- what stands before the run, the run, and what stands behind it
pub split_run : (run : ℕ) (gs : List ℕ) → 0 < run → longest gs ≡ run → gs ≡ take (place_of run gs) gs ++ replicate run 0 ++ drop (place_of run gs + run) gs
split_run run [] some e = absurd (omega arith)
split_run run (g ∷ gs) some e = by (zeros (g ∷ gs) == run) refl (split_run run gs some)
  where
    by : (b : Bool) → (zeros (g ∷ gs) == run) ≡ b → (longest gs ≡ run → gs ≡ take (place_of run gs) gs ++ replicate run 0 ++ drop (place_of run gs + run) gs) → g ∷ gs ≡ take (if b then 0 else 1 + place_of run gs) (g ∷ gs) ++ replicate run 0 ++ drop ((if b then 0 else 1 + place_of run gs) + run) (g ∷ gs)
    by true h others =
        let none : 0 + run ≡ run = omega arith in
        let same : zeros (g ∷ gs) ≡ run = same_from (zeros (g ∷ gs)) run h in
        rw none (zeros_in_front (g ∷ gs) ∙ ap (λ n. replicate n 0 ++ drop n (g ∷ gs)) same)
    by false h others =
        let first : 1 + place_of run gs ≡ suc (place_of run gs) = omega arith in
        let both : suc (place_of run gs) + run ≡ suc (place_of run gs + run) = omega arith in
        rw (first, both) (ap (λ xs. g ∷ xs) (others (other_from (zeros (g ∷ gs)) (longest gs) run h e)))
