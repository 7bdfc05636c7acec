-- How many jobs have an outcome, where an event is about one of them.
use Rattle.std.proofs.Common.{◌≡◌, ℕ, suc, ◌+◌, Bool, true, false, List, [], ◌∷◌, Some, None, map, refl, sym, ap, ◌∙◌, arith}
use Rattle.std.specs.Prelude.{cond, ◌||◌}
use Rattle.std.specs.List.{list_any}
use Rattle.table_model.specs.Event.{Event}
use Rattle.table_model.specs.Jobs.{Task, JobUpdate, TrackedTask, Outcome, task_at, update_of, turned, outcome_of, number_eq}
use Rattle.table_laws.proofs.Ascending.{number}
use Rattle.table_laws.proofs.InTurn.{outcome_next}
use Rattle.table_laws.proofs.Updates.{Each, Pairs, each_weaken, Before, number_same, apart, tracked_at}
use Rattle.inline_worker.specs.Turns.{count_outcomes}

abbrev pub one : Bool → ℕ
one b = cond b 1 0

module _ (p : Outcome → Bool) where
  abbrev pub count : List Event → List Task → ℕ
  count past ts = count_outcomes p (map (tracked_at past) ts)

  count_same : (past other : List Event) (ts : List Task) → Each (λ t. outcome_of past (number t) ≡ outcome_of other (number t)) ts → count past ts ≡ count other ts
  count_same past other [] same = refl
  count_same past other (t ∷ ts) same = rw (same.0, count_same past other ts same.1) refl

  first_changes : (b c : Bool) (n m : ℕ) → n ≡ m → cond b (suc n) n + one c ≡ cond c (suc m) m + one b
  first_changes true true n m is = omega arith
  first_changes true false n m is = omega arith
  first_changes false true n m is = omega arith
  first_changes false false n m is = omega arith

  later_changes : (b : Bool) (n m x y : ℕ) → n + x ≡ m + y → cond b (suc n) n + x ≡ cond b (suc m) m + y
  later_changes true n m x y is = omega arith
  later_changes false n m x y is = omega arith

  module _ (e : Event) (past : List Event) (turn : JobUpdate) (is : update_of e ≡ Some turn) where
    next_is : (t : Task) → outcome_of (e ∷ past) (number t) ≡ cond (number_eq turn.number (number t)) turn.outcome (outcome_of past (number t))
    next_is t = outcome_next e past (number t) ∙ ap (λ o. turned o (number t) (outcome_of past (number t))) is

    beside : (t : Task) → number_eq turn.number (number t) ≡ false → outcome_of (e ∷ past) (number t) ≡ outcome_of past (number t)
    beside t far = next_is t ∙ ap (λ b. cond b turn.outcome (outcome_of past (number t))) far

    far_from : (x t : Task) → number_eq turn.number (number x) ≡ true → Before x t → (b : Bool) → number_eq turn.number (number t) ≡ b → b ≡ false
    far_from x t at lt false here = refl
    far_from x t at lt true here = absurd (apart x t turn.number lt at here)

    step : (x : Task) (ts : List Task) → Each (Before x) ts → ((t : Task) → task_at turn.number ts ≡ Some t → count (e ∷ past) ts + one (p (outcome_of past turn.number)) ≡ count past ts + one (p turn.outcome))
        → (b : Bool) → number_eq turn.number (number x) ≡ b → (t : Task) → cond b (Some x) (task_at turn.number ts) ≡ Some t
        → count (e ∷ past) (x ∷ ts) + one (p (outcome_of past turn.number)) ≡ count past (x ∷ ts) + one (p turn.outcome)
    step x ts lt rest true at t here =
        let behind : count (e ∷ past) ts ≡ count past ts =
        count_same (e ∷ past) past ts (each_weaken (Before x) (λ t. outcome_of (e ∷ past) (number t) ≡ outcome_of past (number t)) ts (λ y below. beside y (far_from x y at below (number_eq turn.number (number y)) refl)) lt) in
        let now : outcome_of (e ∷ past) (number x) ≡ turn.outcome = next_is x ∙ ap (λ b. cond b turn.outcome (outcome_of past (number x))) at in
        let before : outcome_of past (number x) ≡ outcome_of past turn.number = ap (outcome_of past) (sym (number_same turn.number (number x) at)) in
        rw (now, before) (first_changes (p turn.outcome) (p (outcome_of past turn.number)) (count (e ∷ past) ts) (count past ts) behind)
    step x ts lt rest false far t here = rw (beside x far) (later_changes (p (outcome_of past (number x))) (count (e ∷ past) ts) (count past ts) _ _ (rest t here))

    -- the count with the event, and the job's outcome before, is the count before it, and the job's outcome then
    pub moves : (ts : List Task) → Pairs Before ts → (t : Task) → task_at turn.number ts ≡ Some t → count (e ∷ past) ts + one (p (outcome_of past turn.number)) ≡ count past ts + one (p turn.outcome)
    moves [] lt t here = cc
    moves (x ∷ ts) lt t here = step x ts lt.0 (moves ts lt.1) (number_eq turn.number (number x)) refl t here

  -- no event about a job leaves the count
  pub stays : (e : Event) (past : List Event) (ts : List Task) → update_of e ≡ None → count (e ∷ past) ts ≡ count past ts
  stays e past [] is = refl
  stays e past (t ∷ ts) is =
      let same : outcome_of (e ∷ past) (number t) ≡ outcome_of past (number t) = outcome_next e past (number t) ∙ ap (λ o. turned o (number t) (outcome_of past (number t))) is in
      rw (same, stays e past ts is) refl

  pub any_none : (xs : List TrackedTask) → list_any (λ tracked. p tracked.outcome) xs ≡ false → count_outcomes p xs ≡ 0
  any_none [] h = refl
  any_none (x ∷ xs) h = by_test (p x.outcome) refl (any_none xs)
    where
      by_test : (b : Bool) → p x.outcome ≡ b → (list_any (λ tracked. p tracked.outcome) xs ≡ false → count_outcomes p xs ≡ 0) → count_outcomes p (x ∷ xs) ≡ 0
      by_test true is rest = let no_way : true ≡ false = sym (rw is refl) ∙ h in cc
      by_test false is rest = rw is (rest (rw is at h))

  pub none_any : (xs : List TrackedTask) → count_outcomes p xs ≡ 0 → list_any (λ tracked. p tracked.outcome) xs ≡ false
  none_any [] h = refl
  none_any (x ∷ xs) h = by_test (p x.outcome) h (none_any xs)
    where
      by_test : (b : Bool) → cond b (suc (count_outcomes p xs)) (count_outcomes p xs) ≡ 0 → (count_outcomes p xs ≡ 0 → list_any (λ tracked. p tracked.outcome) xs ≡ false) → (b || list_any (λ tracked. p tracked.outcome) xs) ≡ false
      by_test true k rest = absurd (omega (arith, k))
      by_test false k rest = rest k
