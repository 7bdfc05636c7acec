-- When a failure may be told.
use Rattle.std.specs.Prelude.{◌≡◌, ℕ, ◌⊎◌, ◌+◌, ◌-◌, ◌^◌, ◌≤◌, min}

-- The count has risen, or it stands at the last value of a counter.
abbrev pub HasRisen : ℕ → ℕ → Type 0
HasRisen before now = min (before + 1) (2 ^ 64 - 1) ≤ now

-- The count never falls, and the failure is told only where it rose in this call.
pub record HasCause (before now : ℕ) (failed : Type 0) : Type 0 where
  pub later : before ≤ now
  pub rose : failed → HasRisen before now

-- The failure is told, or the count is as it was: no failure is hidden.
abbrev pub StaysUnless : ℕ → ℕ → Type 0 → Type 0
StaysUnless before now failed = failed ⊎ (now ≡ before)
