-- The value of digits, and its limits.
use Rattle.std.proofs.Common.{◌≡◌, ℕ, ◌+◌, ◌-◌, ◌*◌, ◌^◌, ◌<◌, ◌≤◌, List, Some, None, fold, length, drop, get_or}
use Rattle.script_lang.specs.Forms.{below, value}
use Rattle.script_lang.proofs.Numbers as digits
use Rattle.script_lang.proofs.Numbers.{digit_step}

pub past : (digits : List ℕ) (place number : ℕ) → place < length digits → fold digit_step 0 digits ≡ fold digit_step number (drop place digits) → 2 ^ 128 ≤ number * 10 + (get_or digits place 0 - 48) → None ≡ below (2 ^ 128) (value digits)
past = digits.past

pub whole : (digits : List ℕ) (place number : ℕ) → length digits ≤ place → fold digit_step 0 digits ≡ fold digit_step number (drop place digits) → number < 2 ^ 128 → Some number ≡ below (2 ^ 128) (value digits)
whole = digits.whole
