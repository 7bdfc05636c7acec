-- Jobs stand in the order of their numbers.
use Rattle.std.proofs.Common.{◌≡◌, ℕ, suc, Bool, true, false, List, [], ◌∷◌, ◌++◌, length, Some, None, Option, refl, ◌∙◌, arith}
use Rattle.std.specs.Prelude.{◌&&◌, ◌||◌, nat_eq, nat_lt, nat_le, cond}
use Rattle.std.specs.List.{list_all}
use Rattle.std.proofs.lemmas.Bool.Decides.{nat_tests}
use Rattle.std.proofs.lemmas.List.Folds.{list_all-append}
use Rattle.aft_entries.specs.declared.entry.Entry.{Entry}
use Rattle.table_model.specs.declared.command.Command.{Command}
use Rattle.table_model.specs.declared.command.Command.TheVariants.{Operate}
use Rattle.table_model.specs.declared.command.Operation.{Operation}
use Rattle.table_model.specs.declared.job.JobNumber.{JobNumber}
use Rattle.table_model.specs.declared.job.Work.{Work}
use Rattle.table_model.specs.Event.{Event, is_done, is_flushed, is_left}
use Rattle.table_model.specs.Jobs.{Task, tasks, tasks_by, operate_tasks, work_of, work_key, refs_before, purge_task, purge_tasks, purge_order, removed, number_lt}
use Rattle.table_model.specs.Laws.{is_ascending, JobsAscend}
use Rattle.table_model.specs.Rib.{rib}
use Rattle.table_model.specs.Sessions.{params_of, wants_results}
use Rattle.table_model.specs.Table.{lookup}
use Rattle.table_model.proofs.Tests.{and_left, and_right, and_both, all_weaken}

abbrev pub number : Task → JobNumber
number task = task.job.number

-- made before the event at this position
abbrev pub is_older : ℕ → Task → Bool
is_older position task = nat_lt (number task).position position

-- made at it, from this place on
abbrev pub is_from : ℕ → ℕ → Task → Bool
is_from position index task = nat_eq (number task).position position && nat_le index (number task).index

older_lt : (position : ℕ) (a b : Task) → is_older position a ≡ true → is_from position 0 b ≡ true → number_lt (number a) (number b) ≡ true
older_lt position a b h k = let at : nat_eq (number b).position position ≡ true = and_left (nat_eq (number b).position position) (nat_le 0 (number b).index) k in grind (arith, nat_tests)

from_older : (position index : ℕ) (task : Task) → is_from position index task ≡ true → is_older (suc position) task ≡ true
from_older position index task h = let at : nat_eq (number task).position position ≡ true = and_left (nat_eq (number task).position position) (nat_le index (number task).index) h in grind (arith, nat_tests)

from_down : (position index : ℕ) (task : Task) → is_from position (suc index) task ≡ true → is_from position index task ≡ true
from_down position index task h = let at : nat_le (suc index) (number task).index ≡ true = and_right (nat_eq (number task).position position) (nat_le (suc index) (number task).index) h in
    and_both (nat_eq (number task).position position) (nat_le index (number task).index) (and_left (nat_eq (number task).position position) (nat_le (suc index) (number task).index) h) (grind (arith, nat_tests))

first_lt : (position index : ℕ) (entry : Entry) (task : Task) → is_from position (suc index) task ≡ true → number_lt (number (purge_task position index entry)) (number task) ≡ true
first_lt position index entry task h =
    let at : nat_eq (number task).position position ≡ true = and_left (nat_eq (number task).position position) (nat_le (suc index) (number task).index) h in
    let more : nat_le (suc index) (number task).index ≡ true = and_right (nat_eq (number task).position position) (nat_le (suc index) (number task).index) h in
    grind (arith, nat_tests)

same_from : (position index : ℕ) → nat_eq position position && nat_le index index ≡ true
same_from position index = grind (arith, nat_tests)

purge_from : (position index : ℕ) (gone : List Entry) → list_all (is_from position index) (purge_tasks position index gone) ≡ true
purge_from position index [] = refl
purge_from position index (entry ∷ gone) =
    and_both (is_from position index (purge_task position index entry)) (list_all (is_from position index) (purge_tasks position (suc index) gone)) (same_from position index)
    (all_weaken (is_from position (suc index)) (is_from position index) (purge_tasks position (suc index) gone) (from_down position index) (purge_from position (suc index) gone))

purge_ascends : (position index : ℕ) (gone : List Entry) → is_ascending (purge_tasks position index gone) ≡ true
purge_ascends position index [] = refl
purge_ascends position index (entry ∷ gone) =
    and_both (list_all (λ later. number_lt (number (purge_task position index entry)) (number later)) (purge_tasks position (suc index) gone)) (is_ascending (purge_tasks position (suc index) gone))
    (all_weaken (is_from position (suc index)) (λ later. number_lt (number (purge_task position index entry)) (number later)) (purge_tasks position (suc index) gone) (first_lt position index entry) (purge_from position (suc index) gone))
    (purge_ascends position (suc index) gone)

-- the jobs of one event
pub record AreOf (position : ℕ) (made : List Task) : Type 0 where
  pub here : list_all (is_from position 0) made ≡ true
  pub ascend : is_ascending made ≡ true

none_of : (position : ℕ) → AreOf position []
none_of position = record { here = refl; ascend = refl }

module _ (past : List Event) (session : ℕ) (operation : Operation) where
  abbrev task_of : Work → Task
  task_of work = record {
    job = record { number = record { position = length past; index = 0 }; work = work };
    id = operation.id;
    owner = Some session;
    wants = wants_results (params_of past session);
    before = refs_before (lookup (work_key work) (rib past));
  }

  by_work : (o : Option Work) → AreOf (length past) (elim o [ None ↦ [] | Some work ↦ task_of work ∷ [] ])
  by_work None = none_of (length past)
  by_work (Some work) = record { here = and_both (nat_eq (length past) (length past) && nat_le 0 0) true (same_from (length past) 0) refl; ascend = refl }

operate_of : (past : List Event) (command : Command) → AreOf (length past) (operate_tasks past command)
operate_of past (Operate session operation now) = by_work past session operation (work_of operation.ask)
operate_of past _ = none_of (length past)

purge_of : (position : ℕ) (gone : List Entry) → AreOf position (purge_tasks position 0 gone)
purge_of position gone = record { here = purge_from position 0 gone; ascend = purge_ascends position 0 gone }

by_reply : (position : ℕ) (a b : Bool) (xs ys : List Task) → AreOf position xs → AreOf position ys → AreOf position (cond a xs (cond b ys []))
by_reply position true b xs ys x y = x
by_reply position false true xs ys x y = y
by_reply position false false xs ys x y = none_of position

pub made_of : (e : Event) (past : List Event) → AreOf (length past) (tasks_by e past)
made_of e past = by_reply (length past) (is_done e.reply) (is_flushed e.reply || is_left e.reply) (operate_tasks past e.command) (purge_tasks (length past) 0 (purge_order (rib past) (removed (rib past) (rib (e ∷ past))))) (operate_of past e.command) (purge_of (length past) (purge_order (rib past) (removed (rib past) (rib (e ∷ past)))))

-- each job is older than the events to come
pub tasks_older : (past : List Event) → list_all (is_older (length past)) (tasks past) ≡ true
unfolding tasks
tasks_older [] = refl
tasks_older (e ∷ past) =
    list_all-append (is_older (suc (length past))) (tasks past) (tasks_by e past)
    ∙ and_both (list_all (is_older (suc (length past))) (tasks past)) (list_all (is_older (suc (length past))) (tasks_by e past))
    (all_weaken (is_older (length past)) (is_older (suc (length past))) (tasks past) (λ task h. grind (arith, nat_tests)) (tasks_older past))
    (all_weaken (is_from (length past) 0) (is_older (suc (length past))) (tasks_by e past) (from_older (length past) 0) (made_of e past).here)

ascend_append : (position : ℕ) (older made : List Task) → list_all (is_older position) older ≡ true → list_all (is_from position 0) made ≡ true → is_ascending older ≡ true → is_ascending made ≡ true → is_ascending (older ++ made) ≡ true
ascend_append position [] made old here a b = b
ascend_append position (task ∷ older) made old here a b =
    and_both (list_all (λ later. number_lt (number task) (number later)) (older ++ made)) (is_ascending (older ++ made))
    (list_all-append (λ later. number_lt (number task) (number later)) older made
    ∙ and_both (list_all (λ later. number_lt (number task) (number later)) older) (list_all (λ later. number_lt (number task) (number later)) made)
    (and_left (list_all (λ later. number_lt (number task) (number later)) older) (is_ascending older) a)
    (all_weaken (is_from position 0) (λ later. number_lt (number task) (number later)) made (λ later k. older_lt position task later (and_left (is_older position task) (list_all (is_older position) older) old) k) here))
    (ascend_append position older made (and_right (is_older position task) (list_all (is_older position) older) old) here (and_right (list_all (λ later. number_lt (number task) (number later)) older) (is_ascending older) a) b)

pub ascend : JobsAscend
unfolding tasks
ascend [] = refl
ascend (e ∷ past) = ascend_append (length past) (tasks past) (tasks_by e past) (tasks_older past) (made_of e past).here (ascend past) (made_of e past).ascend
