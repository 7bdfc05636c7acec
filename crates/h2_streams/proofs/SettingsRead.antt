-- The settings of a payload, read six bytes after another.
use Rattle.std.proofs.Common.{◌≡◌, ℕ, suc, ◌*◌, ◌+◌, ◌<◌, ◌≤◌, List, [], ◌∷◌, length, drop, get_or, refl, ap, ◌∙◌, arith}
use Rattle.std.specs.Int.{w16, w32, from_be_bytes}
use Rattle.std.proofs.lemmas.List.{length-drop}
use Rattle.std.proofs.Math.Seq.{drop-cons}
use Rattle.std.specs.Prelude.{◌==◌, if◌then◌else◌}
use Rattle.h2_exchange.specs.Windows.{setting, settings_of}

cell : (xs : List ℕ) (i j : ℕ) → i < length xs → suc i ≡ j → drop i xs ≡ get_or xs i 0 ∷ drop j xs
cell xs i j lt e = drop-cons xs i 0 lt ∙ ap (λ (k : ℕ). get_or xs i 0 ∷ drop k xs) e

six : (xs : List ℕ) (at : ℕ) → at + 6 ≤ length xs → drop at xs ≡ get_or xs at 0 ∷ get_or xs (at + 1) 0 ∷ get_or xs (at + 2) 0 ∷ get_or xs (at + 3) 0 ∷ get_or xs (at + 4) 0 ∷ get_or xs (at + 5) 0 ∷ drop (at + 6) xs
six xs at fits =
    let a : drop at xs ≡ get_or xs at 0 ∷ drop (at + 1) xs = cell xs at (at + 1) (omega arith) (omega arith) in
    let b : drop (at + 1) xs ≡ get_or xs (at + 1) 0 ∷ drop (at + 2) xs = cell xs (at + 1) (at + 2) (omega arith) (omega arith) in
    let d : drop (at + 2) xs ≡ get_or xs (at + 2) 0 ∷ drop (at + 3) xs = cell xs (at + 2) (at + 3) (omega arith) (omega arith) in
    let e : drop (at + 3) xs ≡ get_or xs (at + 3) 0 ∷ drop (at + 4) xs = cell xs (at + 3) (at + 4) (omega arith) (omega arith) in
    let f : drop (at + 4) xs ≡ get_or xs (at + 4) 0 ∷ drop (at + 5) xs = cell xs (at + 4) (at + 5) (omega arith) (omega arith) in
    let g : drop (at + 5) xs ≡ get_or xs (at + 5) 0 ∷ drop (at + 6) xs = cell xs (at + 5) (at + 6) (omega arith) (omega arith) in
    cc

pub setting_here : (xs : List ℕ) (at : ℕ) → at + 6 ≤ length xs →
    settings_of (drop at xs) ≡ (from_be_bytes w16 (get_or xs at 0 ∷ get_or xs (at + 1) 0 ∷ []), from_be_bytes w32 (get_or xs (at + 2) 0 ∷ get_or xs (at + 3) 0 ∷ get_or xs (at + 4) 0 ∷ get_or xs (at + 5) 0 ∷ [])) ∷ settings_of (drop (at + 6) xs)
setting_here xs at fits = ap settings_of (six xs at fits)

-- less than a setting is none
no_setting : (xs : List ℕ) → length xs < 6 → settings_of xs ≡ []
no_setting [] lt = refl
no_setting (a ∷ []) lt = refl
no_setting (a ∷ b ∷ []) lt = refl
no_setting (a ∷ b ∷ c ∷ []) lt = refl
no_setting (a ∷ b ∷ c ∷ d ∷ []) lt = refl
no_setting (a ∷ b ∷ c ∷ d ∷ e ∷ []) lt = refl
no_setting (a ∷ b ∷ c ∷ d ∷ e ∷ f ∷ more) lt = absurd (omega arith)

pub last_setting : (xs : List ℕ) (n : ℕ) → length xs < n + 6 → settings_of (drop n xs) ≡ []
last_setting xs n lt = no_setting (drop n xs) (omega (arith, length-drop n xs))

-- a setting may be the one that is sought, and is behind it
pub passes_setting : (number : ℕ) (xs : List ℕ) (i first value : ℕ) (s : ℕ × ℕ) → first ≡ setting number value (settings_of (drop (6 * i) xs)) → settings_of (drop (6 * i) xs) ≡ s ∷ settings_of (drop (6 * i + 6) xs) →
    first ≡ setting number (if s.0 == number then s.1 else value) (settings_of (drop (6 * (i + 1)) xs))
passes_setting number xs i first value s h e =
    let next : 6 * i + 6 ≡ 6 * (i + 1) = omega arith in
    h ∙ ap (setting number value) e ∙ ap (λ (k : ℕ). setting number (if s.0 == number then s.1 else value) (settings_of (drop k xs))) next
