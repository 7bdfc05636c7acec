-- A worker that serves all keys, and has no next job while none is out, has nothing left to do.
use Rattle.std.proofs.Common.{◌≡◌, Bool, true, false, List, [], ◌∷◌, Some, None, Option, refl, sym, subst, ◌∙◌, arith}
use Rattle.std.specs.Prelude.{not, ◌&&◌, ◌||◌, ◌==◌, cond, filter, find, map}
use Rattle.std.specs.List.{list_all, list_any}
use Rattle.std.proofs.lemmas.Bool.Decides.{nat_tests}
use Rattle.aft_entries.specs.declared.key.Key.{Key}
use Rattle.aft_entries.specs.Order.{shard_of}
use Rattle.table_model.specs.declared.command.Config.{Config}
use Rattle.table_model.specs.declared.job.JobNumber.{JobNumber}
use Rattle.table_model.specs.Event.{Event}
use Rattle.table_model.specs.Jobs.{Task, TrackedTask, Outcome, Waiting, Out, Programmed, Faulted, PassedOver, tasks, tracked_tasks, next_task, number_lt, is_undone, is_out, is_waiting, is_blocked, on_shard, conflict, work_key}
use Rattle.table_model.specs.Laws.{is_ascending}
use Rattle.table_model.specs.BoardState.{is_undone_task}
use Rattle.table_model.proofs.Tests.{and_left, and_right, and_both, all_filter}
use Rattle.table_model.proofs.Closed.{or_left, or_right}
use Rattle.table_model.proofs.Undone.{next_undone}
use Rattle.table_laws.specs.Succeeds.{IdleIsDone}
use Rattle.table_laws.proofs.Ascending.{number, ascend}
use Rattle.table_laws.proofs.Updates.{tracked_at}

abbrev comes_after : JobNumber → TrackedTask → Bool
comes_after n tracked = number_lt n tracked.task.job.number

later_not_before : (a b : JobNumber) → number_lt a b ≡ true → number_lt b a ≡ false
later_not_before a b h = grind (arith, nat_tests)

not_before_itself : (a : JobNumber) → number_lt a a ≡ false
not_before_itself a = grind (arith, nat_tests)

no_block : (a b c d : Bool) → b ≡ false → d ≡ false → ((a && b) && c) || d ≡ false
no_block true b c d h k = rw (h, k) refl
no_block false b c d h k = k

rest_free : (s : TrackedTask) (xs : List TrackedTask) → list_all (comes_after s.task.job.number) xs ≡ true → is_blocked xs s.task ≡ false
rest_free s [] h = refl
rest_free s (x ∷ xs) h =
    no_block (is_undone x.outcome) (number_lt x.task.job.number s.task.job.number) (conflict x.task s.task) (is_blocked xs s.task)
    (later_not_before s.task.job.number x.task.job.number (and_left (comes_after s.task.job.number x) (list_all (comes_after s.task.job.number) xs) h))
    (rest_free s xs (and_right (comes_after s.task.job.number x) (list_all (comes_after s.task.job.number) xs) h))

head_free : (s : TrackedTask) (xs : List TrackedTask) → list_all (comes_after s.task.job.number) xs ≡ true → is_blocked (s ∷ xs) s.task ≡ false
head_free s xs h = no_block (is_undone s.outcome) (number_lt s.task.job.number s.task.job.number) (conflict s.task s.task) (is_blocked xs s.task) (not_before_itself s.task.job.number) (rest_free s xs h)

on_one : (key : Key) → (shard_of key 1 == 0) ≡ true
unfolding shard_of
on_one key = grind (arith, nat_tests)

waits : (o : Outcome) → is_undone o ≡ true → is_out o ≡ false → is_waiting o ≡ true
waits Waiting h k = refl
waits Out h k = cc
waits Programmed h k = cc
waits Faulted h k = cc
waits PassedOver h k = cc

pick : (s : TrackedTask) (rest : Option TrackedTask) (a b c : Bool) → a ≡ true → b ≡ true → c ≡ false → cond ((a && b) && not c) (Some s) rest ≡ Some s
pick s rest a b c h k l = rw (h, k, l) refl

head_next : (s : TrackedTask) (xs : List TrackedTask) → is_undone s.outcome ≡ true → is_out s.outcome ≡ false → list_all (comes_after s.task.job.number) xs ≡ true → next_task 1 (s ∷ xs) 0 ≡ Some s
unfolding next_task
head_next s xs undone in_house after =
    pick s (find (λ tracked. on_shard 1 0 tracked.task && is_waiting tracked.outcome && not (is_blocked (s ∷ xs) tracked.task)) xs) (on_shard 1 0 s.task) (is_waiting s.outcome) (is_blocked (s ∷ xs) s.task)
    (on_one (work_key s.task.job.work)) (waits s.outcome undone in_house) (head_free s xs after)

module _ (past : List Event) where
  all_mapped : (n : JobNumber) (ts : List Task) → list_all (λ later. number_lt n (number later)) ts ≡ true → list_all (comes_after n) (map (tracked_at past) ts) ≡ true
  all_mapped n [] h = refl
  all_mapped n (t ∷ ts) h =
      and_both (number_lt n (number t)) (list_all (comes_after n) (map (tracked_at past) ts))
      (and_left (number_lt n (number t)) (list_all (λ later. number_lt n (number later)) ts) h)
      (all_mapped n ts (and_right (number_lt n (number t)) (list_all (λ later. number_lt n (number later)) ts) h))

  all_done : (ts : List Task) → is_ascending ts ≡ true → list_any (λ tracked. is_out tracked.outcome) (map (tracked_at past) ts) ≡ false
      → next_task 1 (filter is_undone_task (map (tracked_at past) ts)) 0 ≡ None → list_any (λ tracked. is_undone tracked.outcome) (map (tracked_at past) ts) ≡ false
  all_done [] up free none = refl
  all_done (t ∷ ts) up free none =
      by_undone (all_done ts (and_right (list_all (λ later. number_lt (number t) (number later)) ts) (is_ascending ts) up) (or_right (is_out (tracked_at past t).outcome) (list_any (λ tracked. is_out tracked.outcome) (map (tracked_at past) ts)) free))
      (is_undone (tracked_at past t).outcome) refl none
    where
      after : list_all (comes_after (number t)) (filter is_undone_task (map (tracked_at past) ts)) ≡ true
      after = all_filter (comes_after (number t)) is_undone_task (map (tracked_at past) ts) (all_mapped (number t) ts (and_left (list_all (λ later. number_lt (number t) (number later)) ts) (is_ascending ts) up))

      by_undone : (next_task 1 (filter is_undone_task (map (tracked_at past) ts)) 0 ≡ None → list_any (λ tracked. is_undone tracked.outcome) (map (tracked_at past) ts) ≡ false) → (b : Bool) → is_undone (tracked_at past t).outcome ≡ b
          → next_task 1 (cond b (tracked_at past t ∷ filter is_undone_task (map (tracked_at past) ts)) (filter is_undone_task (map (tracked_at past) ts))) 0 ≡ None
          → b || list_any (λ tracked. is_undone tracked.outcome) (map (tracked_at past) ts) ≡ false
      by_undone rest true is idle =
          let found = head_next (tracked_at past t) (filter is_undone_task (map (tracked_at past) ts)) is (or_left (is_out (tracked_at past t).outcome) (list_any (λ tracked. is_out tracked.outcome) (map (tracked_at past) ts)) free) after in
          let no_way : Some (tracked_at past t) ≡ None = sym found ∙ idle in
          cc
      by_undone rest false is idle = rest idle

pub idle_is_done : (config : Config) → IdleIsDone config
unfolding tracked_tasks
idle_is_done config past one free none =
    all_done past (tasks past) (ascend past) free
    (subst (λ w. next_task w (filter is_undone_task (map (tracked_at past) (tasks past))) 0 ≡ None) one (next_undone config.workers (map (tracked_at past) (tasks past)) 0 ∙ none))
