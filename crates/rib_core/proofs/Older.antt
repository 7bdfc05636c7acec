-- The jobs of a board are of the events before.
use Rattle.std.proofs.Common.{◌≡◌, ℕ, zero, suc, ◌+◌, Bool, true, false, List, [], ◌∷◌, ◌++◌, Option, Some, None, map, refl, sym, ap, ◌∙◌, arith}
use Rattle.std.specs.Prelude.{◌&&◌, ◌||◌, not, cond, filter, nat_lt, nat_eq}
use Rattle.std.specs.List.{list_all}
use Rattle.std.proofs.lemmas.Bool.Decides.{nat_tests}
use Rattle.std.proofs.lemmas.List.Folds.{list_all-append}
use Rattle.aft_entries.specs.declared.entry.Entry.{Entry}
use Rattle.table_model.specs.declared.job.JobNumber.{JobNumber}
use Rattle.table_model.specs.declared.job.NewJob.{NewJob}
use Rattle.table_model.specs.Jobs.{TrackedTask, Waiting, Out, is_skipped, purge_tasks, purge_task, purge_order, number_lt}
use Rattle.table_model.proofs.Tests.{and_both, all_weaken, all_filter, and_left, and_right}
use Rattle.fib_board.specs.Removals.{removal_tasks}
use Rattle.fib_board.specs.Steps.{is_before, waiting, without, sent, has_number, undone_after_take, undone_after_report, unwanted}

-- jobs of the events before this position
abbrev pub is_older : ℕ → TrackedTask → Bool
is_older position = is_before (record { position = position; index = 0 })

later : (position : ℕ) (tracked : TrackedTask) → is_older position tracked ≡ true → is_older (position + 1) tracked ≡ true
later position tracked h = grind (arith, nat_tests)

pub older_next : (position : ℕ) (xs : List TrackedTask) → list_all (is_older position) xs ≡ true → list_all (is_older (position + 1)) xs ≡ true
older_next position xs h = all_weaken (is_older position) (is_older (position + 1)) xs (later position) h

-- a map that leaves the numbers
older_map : (position : ℕ) (f : TrackedTask → TrackedTask) → ((tracked : TrackedTask) → (f tracked).task.job.number ≡ tracked.task.job.number)
    → (xs : List TrackedTask) → list_all (is_older position) xs ≡ true → list_all (is_older position) (map f xs) ≡ true
older_map position f same [] h = refl
older_map position f same (x ∷ xs) h =
    and_both (is_older position (f x)) (list_all (is_older position) (map f xs))
    (rw (same x) (and_left (is_older position x) (list_all (is_older position) xs) h))
    (older_map position f same xs (and_right (is_older position x) (list_all (is_older position) xs) h))

sent_number : (number : JobNumber) (tracked : TrackedTask) → (sent number tracked).task.job.number ≡ tracked.task.job.number
sent_number number tracked = by_number (has_number number tracked)
  where
    by_number : (b : Bool) → (cond b (record { task = tracked.task; outcome = Out }) tracked).task.job.number ≡ tracked.task.job.number
    by_number true = refl
    by_number false = refl

pub older_unwanted : (position session : ℕ) (xs : List TrackedTask) → list_all (is_older position) xs ≡ true → list_all (is_older position) (map (unwanted session) xs) ≡ true
older_unwanted position session xs h = older_map position (unwanted session) (λ tracked. refl) xs h

pub older_after_take : (position : ℕ) (table : List Entry) (xs : List TrackedTask) (o : Option TrackedTask) → list_all (is_older position) xs ≡ true → list_all (is_older position) (undone_after_take table xs o) ≡ true
older_after_take position table xs None h = h
older_after_take position table xs (Some tracked) h = by_skip (is_skipped table tracked.task.job.work)
  where
    by_skip : (b : Bool) → list_all (is_older position) (cond b (without tracked.task.job.number xs) (map (sent tracked.task.job.number) xs)) ≡ true
    by_skip true = all_filter (is_older position) (λ other. not (has_number tracked.task.job.number other)) xs h
    by_skip false = older_map position (sent tracked.task.job.number) (sent_number tracked.task.job.number) xs h

pub older_after_report : (position : ℕ) (xs : List TrackedTask) (o : Option TrackedTask) → list_all (is_older position) xs ≡ true → list_all (is_older position) (undone_after_report xs o) ≡ true
older_after_report position xs None h = h
older_after_report position xs (Some tracked) h = all_filter (is_older position) (λ other. not (has_number tracked.task.job.number other)) xs h

-- the jobs of this event are of those before the next
joined : (position : ℕ) (xs more : List TrackedTask) → list_all (is_older position) xs ≡ true → list_all (is_older (position + 1)) more ≡ true → list_all (is_older (position + 1)) (xs ++ more) ≡ true
joined position xs more h k =
    list_all-append (is_older (position + 1)) xs more ∙ and_both (list_all (is_older (position + 1)) xs) (list_all (is_older (position + 1)) more) (older_next position xs h) k

number_older : (position index : ℕ) → number_lt (record { position = position; index = index }) (record { position = position + 1; index = 0 }) ≡ true
number_older position index = grind (arith, nat_tests)

pub older_added : (position : ℕ) (made : NewJob) (xs : List TrackedTask) → made.job.number ≡ record { position = position; index = 0 }
    → list_all (is_older position) xs ≡ true → list_all (is_older (position + 1)) (xs ++ waiting made ∷ []) ≡ true
older_added position made xs named h = joined position xs (waiting made ∷ []) h (and_both (is_older (position + 1) (waiting made)) true (rw named (number_older position 0)) refl)

removals_older : (position index : ℕ) (gone : List Entry) → list_all (is_older (position + 1)) (map (λ task. record { task = task; outcome = Waiting }) (purge_tasks position index gone)) ≡ true
removals_older position index [] = refl
removals_older position index (entry ∷ gone) = and_both _ _ (number_older position index) (removals_older position (suc index) gone)

pub older_purged : (position : ℕ) (table gone : List Entry) (xs : List TrackedTask) → list_all (is_older position) xs ≡ true → list_all (is_older (position + 1)) (xs ++ removal_tasks position table gone) ≡ true
older_purged position table gone xs h = joined position xs (removal_tasks position table gone) h (removals_older position 0 (purge_order table gone))
