-- Jobs in the order of their numbers: the number of one names no other.
use Rattle.std.proofs.Common.{◌≡◌, ℕ, zero, suc, Bool, true, false, List, [], ◌∷◌, ◌++◌, Some, map, set, subst, refl, sym, ap, ◌∙◌, arith}
use Rattle.std.specs.Prelude.{filter, not, cond, slice_get, ◌&&◌}
use Rattle.std.specs.List.{list_all, remove}
use Rattle.std.proofs.lemmas.Bool.Decides.{nat_tests}
use Rattle.std.proofs.lemmas.List.Folds.{list_all-append}
use Rattle.table_model.specs.declared.job.JobNumber.{JobNumber}
use Rattle.table_model.specs.Jobs.{TrackedTask, Out, number_eq, number_lt}
use Rattle.table_model.proofs.Tests.{and_left, and_right, and_both, all_weaken, all_filter, filter_all}
use Rattle.table_laws.proofs.Updates.{number_refl}
use Rattle.fib_board.specs.BoardInvariant.{ascends}
use Rattle.fib_board.specs.Steps.{is_before, has_number, without, sent}

abbrev is_past : JobNumber → TrackedTask → Bool
is_past number tracked = number_lt number tracked.task.job.number

module _ (f : TrackedTask → TrackedTask) (same : (tracked : TrackedTask) → (f tracked).task.job.number ≡ tracked.task.job.number) where
  all_past : (number : JobNumber) (xs : List TrackedTask) → list_all (is_past number) (map f xs) ≡ list_all (is_past number) xs
  all_past number [] = refl
  all_past number (x ∷ xs) = rw (same x) (ap (λ b. is_past number x && b) (all_past number xs))

  pub ascends_map : (xs : List TrackedTask) → ascends (map f xs) ≡ ascends xs
  ascends_map [] = refl
  ascends_map (x ∷ xs) = rw (same x, all_past x.task.job.number xs) (ap (λ b. list_all (is_past x.task.job.number) xs && b) (ascends_map xs))

pub ascends_more : (xs : List TrackedTask) (last : TrackedTask) → ascends xs ≡ true → list_all (is_before last.task.job.number) xs ≡ true → ascends (xs ++ last ∷ []) ≡ true
ascends_more [] last up before = refl
ascends_more (x ∷ xs) last up before =
    let here : is_before last.task.job.number x ≡ true = and_left _ (list_all (is_before last.task.job.number) xs) before in
    let first : list_all (is_past x.task.job.number) (xs ++ last ∷ []) ≡ true =
    list_all-append (is_past x.task.job.number) xs (last ∷ [])
    ∙ and_both (list_all (is_past x.task.job.number) xs) (is_past x.task.job.number last && true) (and_left _ (ascends xs) up) (and_both (is_past x.task.job.number last) true here refl) in
    and_both (list_all (is_past x.task.job.number) (xs ++ last ∷ [])) (ascends (xs ++ last ∷ [])) first
    (ascends_more xs last (and_right (list_all (is_past x.task.job.number) xs) (ascends xs) up) (and_right (is_before last.task.job.number x) _ before))

pub ascends_filter : (p : TrackedTask → Bool) (xs : List TrackedTask) → ascends xs ≡ true → ascends (filter p xs) ≡ true
ascends_filter p [] up = refl
ascends_filter p (x ∷ xs) up = by_test (p x) (ascends_filter p xs (and_right (list_all (is_past x.task.job.number) xs) (ascends xs) up))
  where
    by_test : (b : Bool) → ascends (filter p xs) ≡ true → ascends (cond b (x ∷ filter p xs) (filter p xs)) ≡ true
    by_test true rest = and_both (list_all (is_past x.task.job.number) (filter p xs)) (ascends (filter p xs)) (all_filter (is_past x.task.job.number) p xs (and_left _ (ascends xs) up)) rest
    by_test false rest = rest

pub unwrap_some : {X : Type 0} (x y : X) → Some x ≡ Some y → x ≡ y
unwrap_some x y e = cc

earlier_apart : (a b : JobNumber) → number_lt a b ≡ true → number_eq a b ≡ false
earlier_apart a b h = grind (arith, nat_tests)

later_apart : (a b : JobNumber) → number_lt a b ≡ true → not (number_eq b a) ≡ true
later_apart a b h = grind (arith, nat_tests)

passes_at : (p : TrackedTask → Bool) (xs : List TrackedTask) (i : ℕ) (tracked : TrackedTask) → list_all p xs ≡ true → slice_get xs i ≡ Some tracked → p tracked ≡ true
passes_at p [] i tracked all is = cc
passes_at p (x ∷ xs) zero tracked all is = rw (← unwrap_some x tracked is) (and_left (p x) (list_all p xs) all)
passes_at p (x ∷ xs) (suc i) tracked all is = passes_at p xs i tracked (and_right (p x) (list_all p xs) all) is

abbrev is_other : JobNumber → TrackedTask → Bool
is_other number tracked = not (has_number number tracked)

-- all that come after one have other numbers
rest_apart : (x : TrackedTask) (xs : List TrackedTask) → list_all (is_past x.task.job.number) xs ≡ true → list_all (is_other x.task.job.number) xs ≡ true
rest_apart x xs after = all_weaken (is_past x.task.job.number) (is_other x.task.job.number) xs (λ tracked h. later_apart x.task.job.number tracked.task.job.number h) after

first_apart : (x : TrackedTask) (xs : List TrackedTask) (i : ℕ) (tracked : TrackedTask) → ascends (x ∷ xs) ≡ true → slice_get xs i ≡ Some tracked → has_number tracked.task.job.number x ≡ false
first_apart x xs i tracked up is =
    earlier_apart x.task.job.number tracked.task.job.number
    (passes_at (is_past x.task.job.number) xs i tracked (and_left (list_all (is_past x.task.job.number) xs) (ascends xs) up) is)

-- the removed one is the only one with its number
pub removed_is : (xs : List TrackedTask) (i : ℕ) (tracked : TrackedTask) → ascends xs ≡ true → slice_get xs i ≡ Some tracked → remove xs i ≡ without tracked.task.job.number xs
removed_is [] i tracked up is = cc
removed_is (x ∷ xs) zero tracked up is =
    subst (λ (s : TrackedTask). xs ≡ without s.task.job.number (x ∷ xs)) (unwrap_some x tracked is)
    (rw (number_refl x.task.job.number) (sym (filter_all (is_other x.task.job.number) xs (rest_apart x xs (and_left (list_all (is_past x.task.job.number) xs) (ascends xs) up)))))
removed_is (x ∷ xs) (suc i) tracked up is =
    rw (first_apart x xs i tracked up is)
    (ap (λ ys. x ∷ ys) (removed_is xs i tracked (and_right (list_all (is_past x.task.job.number) xs) (ascends xs) up) is))

abbrev pub gone_out : TrackedTask → TrackedTask
gone_out tracked = record { task = tracked.task; outcome = Out }

sent_none : (number : JobNumber) (xs : List TrackedTask) → list_all (is_other number) xs ≡ true → map (sent number) xs ≡ xs
sent_none number [] h = refl
sent_none number (x ∷ xs) h = rw (sent_other number x (and_left (is_other number x) (list_all (is_other number) xs) h)) (ap (λ ys. x ∷ ys) (sent_none number xs (and_right (is_other number x) (list_all (is_other number) xs) h)))
  where
    by_test : (x : TrackedTask) (b : Bool) → not b ≡ true → cond b (gone_out x) x ≡ x
    by_test x true h = cc
    by_test x false h = refl

    sent_other : (number : JobNumber) (x : TrackedTask) → is_other number x ≡ true → sent number x ≡ x
    sent_other number x h = by_test x (has_number number x) h

-- the one that is written over is the only one with its number
pub sent_is : (xs : List TrackedTask) (i : ℕ) (tracked : TrackedTask) → ascends xs ≡ true → slice_get xs i ≡ Some tracked → set xs i (gone_out tracked) ≡ map (sent tracked.task.job.number) xs
sent_is [] i tracked up is = refl
sent_is (x ∷ xs) zero tracked up is =
    subst (λ (s : TrackedTask). gone_out s ∷ xs ≡ map (sent s.task.job.number) (x ∷ xs)) (unwrap_some x tracked is)
    (rw (number_refl x.task.job.number) (ap (λ ys. gone_out x ∷ ys) (sym (sent_none x.task.job.number xs (rest_apart x xs (and_left (list_all (is_past x.task.job.number) xs) (ascends xs) up))))))
sent_is (x ∷ xs) (suc i) tracked up is =
    rw (first_apart x xs i tracked up is)
    (ap (λ ys. x ∷ ys) (sent_is xs i tracked (and_right (list_all (is_past x.task.job.number) xs) (ascends xs) up) is))
