-- What a board keeps is enough for what it tells: jobs that are done, and wishes of sessions that left, count for nothing.
use Rattle.std.proofs.Common.{◌≡◌, ℕ, ◌+◌, ◌-◌, Bool, true, false, List, [], ◌∷◌, length, map, take, drop, Some, None, Option, refl, sym, ap, ◌∙◌, arith, inl, inr, ◌⊎◌}
use Rattle.std.specs.Prelude.{not, ◌&&◌, ◌||◌, ◌==◌, cond, filter, find, count_by, option_map}
use Rattle.std.specs.List.{list_any}
use Rattle.std.proofs.lemmas.Bool.Decides.{nat_tests}
use Rattle.std.proofs.lemmas.List.{length-take, length-drop}
use Rattle.std.proofs.lemmas.List.Folds.{list_any-append}
use Rattle.std.proofs.lemmas.List.Recursion.{is_count_by}
use Rattle.table_model.specs.declared.command.Config.{Config}
use Rattle.table_model.specs.declared.results.FibResult.{FibResult}
use Rattle.table_model.specs.declared.job.JobNumber.{JobNumber}
use Rattle.table_model.specs.Event.{Event}
use Rattle.table_model.specs.Jobs.{Task, JobUpdate, TrackedTask, tasks, tasks_by, tracked_tasks, update_of, turned, outcome_of, number_eq, is_undone, is_out, is_waiting, is_blocked, on_shard, next_task, is_clear, number_lt, conflict}
use Rattle.table_model.specs.Legal.{IsLawful}
use Rattle.table_model.specs.BoardState.{is_undone_task, undone_tasks, is_owner_live, as_wanted, due_for, due_of}
use Rattle.table_model.specs.Results.{results, taken, batch, outstanding, is_awaited}
use Rattle.table_model.specs.Sessions.{is_live}
use Rattle.table_model.proofs.Tests.{and_right}
use Rattle.table_model.proofs.Undone.{next_undone, clear_undone, any_filter_in}
use Rattle.table_laws.specs.Boards.{BoardAnswersAsHistory}
use Rattle.table_laws.proofs.Answered.{tally}
use Rattle.table_laws.proofs.Ascending.{number}
use Rattle.table_laws.proofs.InTurn.{says}
use Rattle.table_laws.proofs.Reports.{out_undone}
use Rattle.table_laws.proofs.Updates.{number_same, tracked_at, Taken, Said}
use Rattle.table_laws.proofs.Whole.{or_true, or_right_true, any_const}

module _ (f : TrackedTask → TrackedTask) (p q : TrackedTask → Bool) (same : (x : TrackedTask) → p (f x) ≡ q x) where
  find_map : (xs : List TrackedTask) → find p (map f xs) ≡ option_map f (find q xs)
  find_map [] = refl
  find_map (x ∷ xs) = ap (λ b. cond b (Some (f x)) (find p (map f xs))) (same x) ∙ by_test (q x) (find_map xs)
    where
      by_test : (b : Bool) → find p (map f xs) ≡ option_map f (find q xs) → cond b (Some (f x)) (find p (map f xs)) ≡ option_map f (cond b (Some x) (find q xs))
      by_test true rest = refl
      by_test false rest = rest

  any_map : (xs : List TrackedTask) → list_any p (map f xs) ≡ list_any q xs
  any_map [] = refl
  any_map (x ∷ xs) = ap (λ b. b || list_any p (map f xs)) (same x) ∙ ap (λ r. q x || r) (any_map xs)

  tally_map : (xs : List TrackedTask) → tally p (map f xs) ≡ tally q xs
  tally_map [] = refl
  tally_map (x ∷ xs) = ap (λ b. cond b (1 + tally p (map f xs)) (tally p (map f xs))) (same x) ∙ ap (λ m. cond (q x) (1 + m) m) (tally_map xs)

-- what passes isn't filtered out
tally_filter : (p q : TrackedTask → Bool) → ((x : TrackedTask) → p x ≡ true → q x ≡ true) → (xs : List TrackedTask) → tally p (filter q xs) ≡ tally p xs
tally_filter p q kept [] = refl
tally_filter p q kept (x ∷ xs) = by_tests (p x) (q x) (kept x) refl (tally_filter p q kept xs)
  where
    by_tests : (a b : Bool) → (a ≡ true → b ≡ true) → p x ≡ a → tally p (filter q xs) ≡ tally p xs → tally p (cond b (x ∷ filter q xs) (filter q xs)) ≡ cond a (1 + tally p xs) (tally p xs)
    by_tests true true h is rest = ap (λ c. cond c (1 + tally p (filter q xs)) (tally p (filter q xs))) is ∙ ap (λ m. 1 + m) rest
    by_tests true false h is rest = let no_way : false ≡ true = h refl in cc
    by_tests false true h is rest = ap (λ c. cond c (1 + tally p (filter q xs)) (tally p (filter q xs))) is ∙ rest
    by_tests false false h is rest = rest

counts : (p : TrackedTask → Bool) (xs : List TrackedTask) → tally p xs ≡ count_by p xs
counts p xs = is_count_by (tally p) p refl (λ _ _. refl) xs

-- The jobs.

module _ (past : List Event) where
  same_conflict : (a b : TrackedTask) → conflict (as_wanted past a).task (as_wanted past b).task ≡ conflict a.task b.task
  unfolding as_wanted conflict
  same_conflict a b = refl

  same_blocks : (tracked other : TrackedTask) → is_undone (as_wanted past other).outcome && number_lt (as_wanted past other).task.job.number (as_wanted past tracked).task.job.number && conflict (as_wanted past other).task (as_wanted past tracked).task
      ≡ is_undone other.outcome && number_lt other.task.job.number tracked.task.job.number && conflict other.task tracked.task
  unfolding as_wanted
  same_blocks tracked other = ap (λ c. is_undone other.outcome && number_lt other.task.job.number tracked.task.job.number && c) (same_conflict other tracked)

  same_blocked : (board : List TrackedTask) (tracked : TrackedTask) → is_blocked (map (as_wanted past) board) (as_wanted past tracked).task ≡ is_blocked board tracked.task
  same_blocked board tracked =
      any_map (as_wanted past) (λ s. is_undone s.outcome && number_lt s.task.job.number (as_wanted past tracked).task.job.number && conflict s.task (as_wanted past tracked).task)
      (λ s. is_undone s.outcome && number_lt s.task.job.number tracked.task.job.number && conflict s.task tracked.task) (same_blocks tracked) board

  same_waits : (workers worker : ℕ) (tracked : TrackedTask) → on_shard workers worker (as_wanted past tracked).task && is_waiting (as_wanted past tracked).outcome ≡ on_shard workers worker tracked.task && is_waiting tracked.outcome
  unfolding as_wanted
  same_waits workers worker tracked = refl

  same_next : (workers worker : ℕ) (board : List TrackedTask) (tracked : TrackedTask)
      → on_shard workers worker (as_wanted past tracked).task && is_waiting (as_wanted past tracked).outcome && not (is_blocked (map (as_wanted past) board) (as_wanted past tracked).task)
      ≡ on_shard workers worker tracked.task && is_waiting tracked.outcome && not (is_blocked board tracked.task)
  same_next workers worker board tracked =
      ap (λ b. on_shard workers worker (as_wanted past tracked).task && is_waiting (as_wanted past tracked).outcome && not b) (same_blocked board tracked)
      ∙ ap (λ b. b && not (is_blocked board tracked.task)) (same_waits workers worker tracked)

  next_wanted : (workers worker : ℕ) (board : List TrackedTask) → next_task workers (map (as_wanted past) board) worker ≡ option_map (as_wanted past) (next_task workers board worker)
  unfolding next_task
  next_wanted workers worker board =
      find_map (as_wanted past) (λ s. on_shard workers worker s.task && is_waiting s.outcome && not (is_blocked (map (as_wanted past) board) s.task))
      (λ s. on_shard workers worker s.task && is_waiting s.outcome && not (is_blocked board s.task)) (same_next workers worker board) board

  same_clear : (workers worker : ℕ) (tracked : TrackedTask) → on_shard workers worker (as_wanted past tracked).task && is_undone (as_wanted past tracked).outcome ≡ on_shard workers worker tracked.task && is_undone tracked.outcome
  unfolding as_wanted
  same_clear workers worker tracked = refl

  clear_wanted : (workers worker : ℕ) (board : List TrackedTask) → is_clear workers (map (as_wanted past) board) worker ≡ is_clear workers board worker
  unfolding is_clear
  clear_wanted workers worker board =
      ap not (any_map (as_wanted past) (λ s. on_shard workers worker s.task && is_undone s.outcome) (λ s. on_shard workers worker s.task && is_undone s.outcome) (same_clear workers worker) board)

  -- The results.

  module _ (session : ℕ) (alive : is_live past session ≡ true) where
    same_wish : (owner : Option ℕ) (wants undone : Bool) → wants && is_owner_live past owner && elim owner [ None ↦ false | Some other ↦ other == session ] && undone ≡ wants && elim owner [ None ↦ false | Some other ↦ other == session ] && undone
    same_wish None true undone = refl
    same_wish None false undone = refl
    same_wish (Some other) false undone = refl
    same_wish (Some other) true undone = by_owner (other == session) refl
      where
        by_owner : (b : Bool) → (other == session) ≡ b → is_live past other && b && undone ≡ b && undone
        by_owner true is = let one : other ≡ session = grind (arith, nat_tests) in ap (λ a. a && true && undone) (ap (is_live past) one ∙ alive)
        by_owner false is = elim (is_live past other) as (λ a. a && false && undone ≡ false) [ true ↦ refl | false ↦ refl ]

    same_awaited : (tracked : TrackedTask) → is_awaited session (as_wanted past tracked) ≡ is_awaited session tracked
    unfolding as_wanted
    same_awaited tracked = same_wish tracked.task.owner tracked.task.wants (is_undone tracked.outcome)

    awaited_kept : (tracked : TrackedTask) → is_awaited session tracked ≡ true → is_undone_task tracked ≡ true
    awaited_kept tracked h = and_right _ _ h

    still_awaited : count_by (is_awaited session) (map (as_wanted past) (undone_tasks past)) ≡ count_by (is_awaited session) (tracked_tasks past)
    unfolding undone_tasks
    still_awaited =
        sym (counts (is_awaited session) (map (as_wanted past) (filter is_undone_task (tracked_tasks past))))
        ∙ tally_map (as_wanted past) (is_awaited session) (is_awaited session) same_awaited (filter is_undone_task (tracked_tasks past))
        ∙ tally_filter (is_awaited session) is_undone_task awaited_kept (tracked_tasks past)
        ∙ counts (is_awaited session) (tracked_tasks past)

    due_here : due_of past session ≡ drop (taken past session) (results past session)
    unfolding due_of
    due_here = ap (λ b. cond b (drop (taken past session) (results past session)) []) alive

    left_over : (xs : List FibResult) (n : ℕ) → length (drop 256 (drop n xs)) ≡ length xs - (n + length (take 256 (drop n xs)))
    left_over xs n = let a = length-drop 256 (drop n xs) in let b = length-drop n xs in let c = length-take 256 (drop n xs) in omega arith

    still_outstanding : count_by (is_awaited session) (map (as_wanted past) (undone_tasks past)) + length (drop 256 (due_of past session)) ≡ outstanding past session
    unfolding outstanding batch
    still_outstanding =
        ap (λ n. n + length (drop 256 (due_of past session))) still_awaited
        ∙ ap (λ xs. count_by (is_awaited session) (tracked_tasks past) + length (drop 256 xs)) due_here
        ∙ ap (λ n. count_by (is_awaited session) (tracked_tasks past) + n) (left_over (results past session) (taken past session))

    still_given : take 256 (due_of past session) ≡ batch past session
    unfolding batch
    still_given = ap (take 256) due_here

  kept_tasks : undone_tasks past ≡ filter is_undone_task (tracked_tasks past)
  unfolding undone_tasks
  kept_tasks = refl

-- Jobs that are out were made.

out_made : (config : Config) (past : List Event) → IsLawful config past → (n : JobNumber) → is_out (outcome_of past n) ≡ true → list_any (λ t. number_eq (number t) n) (tasks past) ≡ true
unfolding outcome_of tasks
out_made config [] lawful n out = cc
out_made config (e ∷ past) lawful n out =
    list_any-append (λ t. number_eq (number t) n) (tasks past) (tasks_by e past)
    ∙ or_true (list_any (λ t. number_eq (number t) n) (tasks past)) (list_any (λ t. number_eq (number t) n) (tasks_by e past))
    (by_update (update_of e) (says config e past lawful) (out_made config past lawful.1 n) out)
  where
    was_taken : (turn : JobUpdate) → number_eq turn.number n ≡ true → Taken past turn → list_any (λ t. number_eq (number t) n) (tasks past) ≡ true
    was_taken turn same taken =
        ap (list_any (λ t. number_eq (number t) n)) taken.parts
        ∙ list_any-append (λ t. number_eq (number t) n) taken.front (taken.task ∷ taken.back)
        ∙ or_right_true (list_any (λ t. number_eq (number t) n) taken.front) (list_any (λ t. number_eq (number t) n) (taken.task ∷ taken.back))
        (or_true (number_eq (number taken.task) n) (list_any (λ t. number_eq (number t) n) taken.back) (ap (λ m. number_eq m n) (sym taken.of_it) ∙ same))

    by_said : (turn : JobUpdate) → number_eq turn.number n ≡ true → is_out turn.outcome ≡ true → Taken past turn ⊎ Said past turn → list_any (λ t. number_eq (number t) n) (tasks past) ≡ true
    by_said turn same here (inl taken) = was_taken turn same taken
    by_said turn same here (inr said) = let no_way : false ≡ true = sym said.completes ∙ out_undone turn.outcome here in cc

    by_number : (turn : JobUpdate) → Taken past turn ⊎ Said past turn → (is_out (outcome_of past n) ≡ true → list_any (λ t. number_eq (number t) n) (tasks past) ≡ true)
        → (b : Bool) → number_eq turn.number n ≡ b → is_out (cond b turn.outcome (outcome_of past n)) ≡ true → list_any (λ t. number_eq (number t) n) (tasks past) ≡ true
    by_number turn said before true same here = by_said turn same here said
    by_number turn said before false far here = before here

    by_update : (o : Option JobUpdate) → ((turn : JobUpdate) → o ≡ Some turn → Taken past turn ⊎ Said past turn) → (is_out (outcome_of past n) ≡ true → list_any (λ t. number_eq (number t) n) (tasks past) ≡ true)
        → is_out (turned o n (outcome_of past n)) ≡ true → list_any (λ t. number_eq (number t) n) (tasks past) ≡ true
    by_update None told before here = before here
    by_update (Some turn) told before here = by_number turn (told turn refl) before (number_eq turn.number n) refl here

module _ (past : List Event) (n : JobNumber) where
  abbrev names_out : TrackedTask → Bool
  names_out tracked = number_eq tracked.task.job.number n && is_out tracked.outcome

  same_out : (tracked : TrackedTask) → names_out (as_wanted past tracked) ≡ names_out tracked
  unfolding as_wanted
  same_out tracked = refl

  at_tracked : (ts : List Task) → list_any names_out (map (tracked_at past) ts) ≡ list_any (λ t. is_out (outcome_of past n) && number_eq (number t) n) ts
  at_tracked [] = refl
  at_tracked (t ∷ ts) = ap (λ b. b || list_any names_out (map (tracked_at past) ts)) (by_number (number_eq (number t) n) refl) ∙ ap (λ b. is_out (outcome_of past n) && number_eq (number t) n || b) (at_tracked ts)
    where
      both_false : (b : Bool) → b && false ≡ false
      both_false true = refl
      both_false false = refl

      both_true : (b : Bool) → b && true ≡ b
      both_true true = refl
      both_true false = refl

      by_number : (b : Bool) → number_eq (number t) n ≡ b → b && is_out (outcome_of past (number t)) ≡ is_out (outcome_of past n) && b
      by_number true same = ap (λ m. is_out (outcome_of past m)) (number_same (number t) n same) ∙ sym (both_true (is_out (outcome_of past n)))
      by_number false far = sym (both_false (is_out (outcome_of past n)))

  if_made : (b c : Bool) → (b ≡ true → c ≡ true) → b && c ≡ b
  if_made true c h = h refl
  if_made false c h = refl

  still_out : (config : Config) → IsLawful config past → list_any names_out (map (as_wanted past) (undone_tasks past)) ≡ is_out (outcome_of past n)
  unfolding undone_tasks tracked_tasks
  still_out config lawful =
      any_map (as_wanted past) names_out names_out same_out (filter is_undone_task (tracked_tasks past))
      ∙ any_filter_in names_out is_undone_task (tracked_tasks past) (λ tracked h. out_undone tracked.outcome (and_right (number_eq tracked.task.job.number n) (is_out tracked.outcome) h))
      ∙ at_tracked (tasks past)
      ∙ any_const (is_out (outcome_of past n)) (λ t. number_eq (number t) n) (tasks past)
      ∙ if_made (is_out (outcome_of past n)) (list_any (λ t. number_eq (number t) n) (tasks past)) (out_made config past lawful n)

pub board_answers_as_history : (config : Config) → BoardAnswersAsHistory config
board_answers_as_history config past ledger workers stands = record {
  next = λ worker.
      ap (λ n. next_task n ledger.undone worker) workers
      ∙ ap (λ board. next_task config.workers board worker) (stands.undone ∙ ap (map (as_wanted past)) (kept_tasks past))
      ∙ next_wanted past config.workers worker (filter is_undone_task (tracked_tasks past))
      ∙ ap (option_map (as_wanted past)) (next_undone config.workers (tracked_tasks past) worker);
  clear = λ worker.
      ap (λ n. is_clear n ledger.undone worker) workers
      ∙ ap (λ board. is_clear config.workers board worker) (stands.undone ∙ ap (map (as_wanted past)) (kept_tasks past))
      ∙ clear_wanted past config.workers worker (filter is_undone_task (tracked_tasks past))
      ∙ clear_undone config.workers (tracked_tasks past) worker;
  given = λ session alive. ap (take 256) (stands.due session) ∙ still_given past session alive;
  left = λ session alive.
      ap (λ board. count_by (is_awaited session) board + length (drop 256 (due_for ledger.due session))) stands.undone
      ∙ ap (λ due. count_by (is_awaited session) (map (as_wanted past) (undone_tasks past)) + length (drop 256 due)) (stands.due session)
      ∙ still_outstanding past session alive;
  out = λ number lawful. ap (list_any (names_out past number)) stands.undone ∙ still_out past number config lawful;
}
