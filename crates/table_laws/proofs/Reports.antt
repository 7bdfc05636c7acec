-- The forwarding table as reports change it is the one that the jobs leave in the order of their numbers.
use Rattle.std.proofs.Common.{◌≡◌, Bool, true, false, List, [], ◌∷◌, ◌++◌, length, Some, None, Option, refl, sym, ap, ◌∙◌, inl, inr, ◌⊎◌}
use Rattle.std.specs.Prelude.{◌||◌, cond, map, filter, fold, option_and_then}
use Rattle.aft_entries.specs.declared.entry.Entry.{Entry}
use Rattle.aft_entries.specs.Order.{key_eq}
use Rattle.table_model.specs.declared.command.Command.TheVariants.{Report}
use Rattle.table_model.specs.declared.command.Config.{Config}
use Rattle.table_model.specs.declared.job.JobNumber.{JobNumber}
use Rattle.table_model.specs.declared.job.Verdict.TheVariants as verdict
use Rattle.table_model.specs.declared.job.Work.{Work}
use Rattle.table_model.specs.declared.job.Work.TheVariants.{Install, Remove}
use Rattle.table_model.specs.declared.reply.Reply.TheVariants as reply
use Rattle.table_model.specs.Event.{Event}
use Rattle.table_model.specs.Jobs.{task_at, Task, JobUpdate, TrackedTask, Outcome, Waiting, Out, Programmed, Faulted, PassedOver, tasks, tasks_by, tracked_tasks, update_of, turned, outcome_of, number_eq, is_undone, is_out, is_waiting, is_programmed, conflict, effect, work_key, touches, fib, table_of}
use Rattle.table_model.specs.Laws.{event, left_by, effect_of, programmed_by, fib_by_reports, ReportsGiveFib, ProgrammedIsThere, ConflictsInOrder, OutAreApart}
use Rattle.table_model.specs.Legal.{IsLawful}
use Rattle.table_model.specs.Table.{in_order, lookup}
use Rattle.table_model.proofs.Effects.{effects_commute, in_order_effect, effect_here}
use Rattle.table_model.proofs.Effects as effects
use Rattle.table_model.proofs.TableLemmas.{in_order_empty}
use Rattle.aft_entries.specs.References.{is_among}
use Rattle.table_laws.proofs.Ascending.{number, is_from, made_of, ascend}
use Rattle.table_laws.proofs.Updates.{Each, Pairs, each_of, each_weaken, each_all, Before, ascending_pairs, number_same, apart, Taken, Said, tracked_at}
use Rattle.table_laws.proofs.InTurn.{Waits, WaitAhead, outcome_next, undone_update, says, in_turn, next_ahead, wait_ahead, from_le, out_not_waits}

-- Programmed jobs, one after the other.

abbrev pub programs : (JobNumber → Outcome) → List Entry → Task → List Entry
programs f table t = cond (is_programmed (f (number t))) (effect table t.job.work) table

abbrev pub done_fold : (JobNumber → Outcome) → List Entry → List Task → List Entry
done_fold f table [] = table
done_fold f table (t ∷ ts) = done_fold f (programs f table t) ts

abbrev step : List Entry → TrackedTask → List Entry
step table tracked = effect table tracked.task.job.work

fold_is : (past : List Event) (table : List Entry) (ts : List Task) → fold step table (filter (λ tracked. is_programmed tracked.outcome) (map (tracked_at past) ts)) ≡ done_fold (outcome_of past) table ts
fold_is past table [] = refl
fold_is past table (t ∷ ts) = by_done (is_programmed (outcome_of past (number t))) (fold_is past (effect table t.job.work) ts) (fold_is past table ts)
  where
    by_done : (b : Bool) → fold step (effect table t.job.work) (filter (λ tracked. is_programmed tracked.outcome) (map (tracked_at past) ts)) ≡ done_fold (outcome_of past) (effect table t.job.work) ts
        → fold step table (filter (λ tracked. is_programmed tracked.outcome) (map (tracked_at past) ts)) ≡ done_fold (outcome_of past) table ts
        → fold step table (cond b (tracked_at past t ∷ filter (λ tracked. is_programmed tracked.outcome) (map (tracked_at past) ts)) (filter (λ tracked. is_programmed tracked.outcome) (map (tracked_at past) ts))) ≡ done_fold (outcome_of past) (cond b (effect table t.job.work) table) ts
    by_done true h k = h
    by_done false h k = k

pub fib_is : (past : List Event) → fib past ≡ done_fold (outcome_of past) [] (tasks past)
unfolding fib table_of tracked_tasks
fib_is past = fold_is past [] (tasks past)

pub done_append : (f : JobNumber → Outcome) (table : List Entry) (xs ys : List Task) → done_fold f table (xs ++ ys) ≡ done_fold f (done_fold f table xs) ys
done_append f table [] ys = refl
done_append f table (x ∷ xs) ys = done_append f (programs f table x) xs ys

abbrev Alike : (JobNumber → Outcome) → (JobNumber → Outcome) → Task → Type 0
Alike f g t = is_programmed (f (number t)) ≡ is_programmed (g (number t))

done_same : (f g : JobNumber → Outcome) (table : List Entry) (ts : List Task) → Each (Alike f g) ts → done_fold f table ts ≡ done_fold g table ts
done_same f g table [] h = refl
done_same f g table (t ∷ ts) h = ap (λ b. done_fold f (cond b (effect table t.job.work) table) ts) h.0 ∙ done_same f g (programs g table t) ts h.1

done_none : (f : JobNumber → Outcome) (table : List Entry) (ts : List Task) → Each (λ t. is_programmed (f (number t)) ≡ false) ts → done_fold f table ts ≡ table
done_none f table [] h = refl
done_none f table (t ∷ ts) h = ap (λ b. done_fold f (cond b (effect table t.job.work) table) ts) h.0 ∙ done_none f table ts h.1

-- Work that comes late, where each later job that is programmed has another key.

abbrev Clear : (JobNumber → Outcome) → Work → Task → Type 0
Clear f work t = is_programmed (f (number t)) ≡ true → key_eq (work_key work) (work_key t.job.work) ≡ false

pub in_order_programs : (f : JobNumber → Outcome) (table : List Entry) (t : Task) → in_order table ≡ true → in_order (programs f table t) ≡ true
in_order_programs f table t sorted = by_done (is_programmed (f (number t)))
  where
    by_done : (b : Bool) → in_order (cond b (effect table t.job.work) table) ≡ true
    by_done true = in_order_effect table t.job.work sorted
    by_done false = sorted

programs_late : (f : JobNumber → Outcome) (table : List Entry) → in_order table ≡ true → (work : Work) (t : Task) → Clear f work t → programs f (effect table work) t ≡ effect (programs f table t) work
programs_late f table sorted work t clear = by_done (is_programmed (f (number t))) clear
  where
    by_done : (b : Bool) → (b ≡ true → key_eq (work_key work) (work_key t.job.work) ≡ false) → cond b (effect (effect table work) t.job.work) (effect table work) ≡ effect (cond b (effect table t.job.work) table) work
    by_done true far = effects_commute table sorted work t.job.work (far refl)
    by_done false far = refl

done_late : (f : JobNumber → Outcome) (table : List Entry) → in_order table ≡ true → (work : Work) (ts : List Task) → Each (Clear f work) ts → done_fold f (effect table work) ts ≡ effect (done_fold f table ts) work
done_late f table sorted work [] h = refl
done_late f table sorted work (t ∷ ts) h =
    ap (λ x. done_fold f x ts) (programs_late f table sorted work t h.0)
    ∙ done_late f (programs f table t) (in_order_programs f table t sorted) work ts h.1

or_false : (a b c : Bool) → a || b || c ≡ false → a ≡ false
or_false true b c h = cc
or_false false b c h = refl

same_key_conflict : (a b : Task) → conflict a b ≡ false → key_eq (work_key a.job.work) (work_key b.job.work) ≡ false
unfolding conflict
same_key_conflict a b h = or_false (key_eq (work_key a.job.work) (work_key b.job.work)) (is_among (work_key a.job.work) (touches b)) (is_among (work_key b.job.work) (touches a)) h

programmed_not_waiting : (o : Outcome) → is_programmed o ≡ true → is_waiting o ≡ false
programmed_not_waiting Waiting h = cc
programmed_not_waiting Out h = refl
programmed_not_waiting Programmed h = refl
programmed_not_waiting Faulted h = refl
programmed_not_waiting PassedOver h = refl

pub out_undone : (o : Outcome) → is_out o ≡ true → is_undone o ≡ true
out_undone Waiting h = cc
out_undone Out h = refl
out_undone Programmed h = cc
out_undone Faulted h = cc
out_undone PassedOver h = cc

pub undone_not_programmed : (o : Outcome) → is_undone o ≡ true → is_programmed o ≡ false
undone_not_programmed Waiting h = refl
undone_not_programmed Out h = refl
undone_not_programmed Programmed h = cc
undone_not_programmed Faulted h = cc
undone_not_programmed PassedOver h = cc

-- One event.

module _ (e : Event) (past : List Event) where
  same_outcomes : update_of e ≡ None → (t : Task) → Alike (outcome_of (e ∷ past)) (outcome_of past) t
  same_outcomes is t = ap is_programmed (outcome_next e past (number t) ∙ ap (λ o. turned o (number t) (outcome_of past (number t))) is)

  next_is : (turn : JobUpdate) → update_of e ≡ Some turn → (t : Task) → outcome_of (e ∷ past) (number t) ≡ cond (number_eq turn.number (number t)) turn.outcome (outcome_of past (number t))
  next_is turn is t = outcome_next e past (number t) ∙ ap (λ o. turned o (number t) (outcome_of past (number t))) is

  -- a turn that programs nothing
  idle_update : (turn : JobUpdate) → update_of e ≡ Some turn → is_undone (outcome_of past turn.number) ≡ true → is_programmed turn.outcome ≡ false → (t : Task) → Alike (outcome_of (e ∷ past)) (outcome_of past) t
  idle_update turn is undone left t = ap is_programmed (next_is turn is t) ∙ by_same (number_eq turn.number (number t)) refl
    where
      by_same : (b : Bool) → number_eq turn.number (number t) ≡ b → is_programmed (cond b turn.outcome (outcome_of past (number t))) ≡ is_programmed (outcome_of past (number t))
      by_same false here = refl
      by_same true here = left ∙ sym (ap (λ n. is_programmed (outcome_of past n)) (sym (number_same turn.number (number t) here)) ∙ undone_not_programmed (outcome_of past turn.number) undone)

  module _ (turn : JobUpdate) (is : update_of e ≡ Some turn) (was_out : is_out (outcome_of past turn.number) ≡ true) (now_done : is_programmed turn.outcome ≡ true) where
    beside : (t : Task) → number_eq turn.number (number t) ≡ false → Alike (outcome_of (e ∷ past)) (outcome_of past) t
    beside t far = ap is_programmed (next_is turn is t ∙ ap (λ b. cond b turn.outcome (outcome_of past (number t))) far)

    all_beside : (x : Task) (ts : List Task) → number_eq turn.number (number x) ≡ true → Each (Before x) ts → Each (Alike (outcome_of (e ∷ past)) (outcome_of past)) ts
    all_beside x ts at = each_weaken (Before x) (Alike (outcome_of (e ∷ past)) (outcome_of past)) ts (λ t lt. beside t (far t lt (number_eq turn.number (number t)) refl))
      where
        far : (t : Task) → Before x t → (b : Bool) → number_eq turn.number (number t) ≡ b → b ≡ false
        far t lt false here = refl
        far t lt true here = absurd (apart x t turn.number lt at here)

    clear : (x t : Task) → number_eq turn.number (number x) ≡ true → Waits past x t → Clear (outcome_of past) x.job.work t
    clear x t at waits done = same_key_conflict x t (by_conflict (conflict x t) refl)
      where
        undone : is_undone (outcome_of past (number x)) ≡ true
        undone = ap (λ n. is_undone (outcome_of past n)) (sym (number_same turn.number (number x) at)) ∙ out_undone (outcome_of past turn.number) was_out

        by_conflict : (b : Bool) → conflict x t ≡ b → b ≡ false
        by_conflict false meets = refl
        by_conflict true meets = absurd (let over = waits meets (programmed_not_waiting (outcome_of past (number t)) done) in let no_way : true ≡ false = sym undone ∙ over in cc)

    late_step : (x : Task) (ts : List Task) (table : List Entry) → in_order table ≡ true → Each (Before x) ts → Each (Waits past x) ts
        → (done_fold (outcome_of (e ∷ past)) (programs (outcome_of past) table x) ts ≡ effect_of (task_at turn.number ts) (done_fold (outcome_of past) (programs (outcome_of past) table x) ts))
        → (b : Bool) → number_eq turn.number (number x) ≡ b
        → done_fold (outcome_of (e ∷ past)) (programs (outcome_of (e ∷ past)) table x) ts ≡ effect_of (cond b (Some x) (task_at turn.number ts)) (done_fold (outcome_of past) (programs (outcome_of past) table x) ts)
    late_step x ts table sorted lt waits rest false far =
        ap (λ b. done_fold (outcome_of (e ∷ past)) (cond b (effect table x.job.work) table) ts) (beside x far) ∙ rest
    late_step x ts table sorted lt waits rest true at =
        let here : is_programmed (outcome_of (e ∷ past) (number x)) ≡ true = ap is_programmed (next_is turn is x ∙ ap (λ b. cond b turn.outcome (outcome_of past (number x))) at) ∙ now_done in
        let before : is_programmed (outcome_of past (number x)) ≡ false = undone_not_programmed (outcome_of past (number x)) (ap (λ n. is_undone (outcome_of past n)) (sym (number_same turn.number (number x) at)) ∙ out_undone (outcome_of past turn.number) was_out) in
        ap (λ b. done_fold (outcome_of (e ∷ past)) (cond b (effect table x.job.work) table) ts) here
        ∙ done_same (outcome_of (e ∷ past)) (outcome_of past) (effect table x.job.work) ts (all_beside x ts at lt)
        ∙ done_late (outcome_of past) table sorted x.job.work ts (each_weaken (Waits past x) (Clear (outcome_of past) x.job.work) ts (λ t w. clear x t at w) waits)
        ∙ ap (λ b. effect (done_fold (outcome_of past) (cond b (effect table x.job.work) table) ts) x.job.work) (sym before)

    late : (ts : List Task) → Pairs Before ts → Pairs (Waits past) ts → (table : List Entry) → in_order table ≡ true
        → done_fold (outcome_of (e ∷ past)) table ts ≡ effect_of (task_at turn.number ts) (done_fold (outcome_of past) table ts)
    late [] lt waits table sorted = refl
    late (x ∷ ts) lt waits table sorted =
        late_step x ts table sorted lt.0 waits.0 (late ts lt.1 waits.1 (programs (outcome_of past) table x) (in_order_programs (outcome_of past) table x sorted)) (number_eq turn.number (number x)) refl

  taken_idle : (turn : JobUpdate) → update_of e ≡ Some turn → Taken past turn ⊎ Said past turn → is_programmed turn.outcome ≡ true → is_out (outcome_of past turn.number) ≡ true
  taken_idle turn is (inl taken) done = let no_way : false ≡ true = sym taken.not_done ∙ done in cc
  taken_idle turn is (inr said) done = said.was_out

  -- what the event does to the table of the jobs so far
  one_more : (o : Option JobUpdate) → update_of e ≡ o → ((turn : JobUpdate) → update_of e ≡ Some turn → Taken past turn ⊎ Said past turn) → Pairs (Waits past) (tasks past)
      → done_fold (outcome_of (e ∷ past)) [] (tasks past) ≡ effect_of (option_and_then (λ turn. cond (is_programmed turn.outcome) (task_at turn.number (tasks past)) None) o) (done_fold (outcome_of past) [] (tasks past))
  one_more None is told waits = done_same (outcome_of (e ∷ past)) (outcome_of past) [] (tasks past) (each_of (Alike (outcome_of (e ∷ past)) (outcome_of past)) (same_outcomes is) (tasks past))
  one_more (Some turn) is told waits = by_done (is_programmed turn.outcome) refl
    where
      by_done : (b : Bool) → is_programmed turn.outcome ≡ b → done_fold (outcome_of (e ∷ past)) [] (tasks past) ≡ effect_of (cond b (task_at turn.number (tasks past)) None) (done_fold (outcome_of past) [] (tasks past))
      by_done false left = done_same (outcome_of (e ∷ past)) (outcome_of past) [] (tasks past) (each_of (Alike (outcome_of (e ∷ past)) (outcome_of past)) (idle_update turn is (undone_update past turn (told turn is)) left) (tasks past))
      by_done true done = late turn is (taken_idle turn is (told turn is) done) done (tasks past) (ascending_pairs (tasks past) (ascend past)) waits [] in_order_empty

-- the jobs that the event makes are not programmed
new_waiting : (e : Event) (past : List Event) → WaitAhead (e ∷ past) (length past) → Each (λ t. is_programmed (outcome_of (e ∷ past) (number t)) ≡ false) (tasks_by e past)
new_waiting e past ahead =
    each_weaken (λ b. is_from (length past) 0 b ≡ true) (λ t. is_programmed (outcome_of (e ∷ past) (number t)) ≡ false) (tasks_by e past)
    (λ b here. ap is_programmed (ahead (number b) (from_le (length past) b here)))
    (each_all (is_from (length past) 0) (tasks_by e past) (made_of e past).here)

pub fib_next : (config : Config) (e : Event) (past : List Event) → IsLawful config (e ∷ past) → fib (e ∷ past) ≡ effect_of (programmed_by past e) (fib past)
unfolding tasks
fib_next config e past lawful =
    fib_is (e ∷ past)
    ∙ done_append (outcome_of (e ∷ past)) [] (tasks past) (tasks_by e past)
    ∙ done_none (outcome_of (e ∷ past)) (done_fold (outcome_of (e ∷ past)) [] (tasks past)) (tasks_by e past) (new_waiting e past (next_ahead config e past lawful (wait_ahead config past lawful.1)))
    ∙ one_more e past (update_of e) refl (says config e past lawful) (in_turn config past lawful.1)
    ∙ ap (effect_of (programmed_by past e)) (sym (fib_is past))

pub reports : (config : Config) → ReportsGiveFib config
unfolding fib_by_reports tasks
reports config [] lawful = sym (fib_is [])
reports config (e ∷ past) lawful = ap (effect_of (programmed_by past e)) (reports config past lawful.1) ∙ sym (fib_next config e past lawful)

left_same : (work : Work) → effects.left_by work ≡ left_by work
left_same (Install entry) = refl
left_same (Remove key) = refl

pub programmed_there : (config : Config) → ProgrammedIsThere config
programmed_there config past job now task lawful is =
    ap (lookup (work_key task.job.work)) (fib_next config (event (Report job verdict.Programmed now) reply.Reported) past lawful ∙ ap (λ o. effect_of o (fib past)) is)
    ∙ effect_here (fib past) task.job.work ∙ left_same task.job.work

-- Two jobs of a board.

abbrev AtTask : List Event → TrackedTask → Type 0
AtTask past tracked = tracked.outcome ≡ outcome_of past (number tracked.task)

split_each : (past : List Event) (P : Task → Type 0) (middle after : List TrackedTask) (b : TrackedTask) (ts : List Task) → map (tracked_at past) ts ≡ middle ++ b ∷ after → Each P ts → P b.task × AtTask past b
split_each past P [] after b [] is h = cc
split_each past P (m ∷ middle) after b [] is h = cc
split_each past P [] after b (t ∷ ts) is h = let one : tracked_at past t ≡ b = cc in rw (← one) (h.0, refl)
split_each past P (m ∷ middle) after b (t ∷ ts) is h = let rest : map (tracked_at past) ts ≡ middle ++ b ∷ after = cc in split_each past P middle after b ts rest h.1

split_pairs : (past : List Event) (R : Task → Task → Type 0) (before middle after : List TrackedTask) (a b : TrackedTask) (ts : List Task) → map (tracked_at past) ts ≡ before ++ a ∷ middle ++ b ∷ after → Pairs R ts → R a.task b.task × AtTask past a × AtTask past b
split_pairs past R [] middle after a b [] is h = cc
split_pairs past R (c ∷ before) middle after a b [] is h = cc
split_pairs past R [] middle after a b (t ∷ ts) is h =
    let one : tracked_at past t ≡ a = cc in
    let rest : map (tracked_at past) ts ≡ middle ++ b ∷ after = cc in
    let two = split_each past (R t) middle after b ts rest h.0 in
    rw (← one) (two.0, refl, two.1)
split_pairs past R (c ∷ before) middle after a b (t ∷ ts) is h = let rest : map (tracked_at past) ts ≡ before ++ a ∷ middle ++ b ∷ after = cc in split_pairs past R before middle after a b ts rest h.1

pub conflicts_in_order : (config : Config) → ConflictsInOrder config
unfolding tracked_tasks
conflicts_in_order config past lawful before middle after a b is meets moved =
    let two = split_pairs past (Waits past) before middle after a b (tasks past) is (in_turn config past lawful) in
    ap is_undone two.1 ∙ two.0 meets (sym (ap is_waiting two.2) ∙ moved)

pub out_apart : (config : Config) → OutAreApart config
out_apart config past lawful before middle after a b is one two = by_conflict (conflict a.task b.task) refl
  where
    by_conflict : (c : Bool) → conflict a.task b.task ≡ c → c ≡ false
    by_conflict false meets = refl
    by_conflict true meets = absurd (let over = conflicts_in_order config past lawful before middle after a b is meets (out_not_waits b.outcome two) in let no_way : true ≡ false = sym (out_undone a.outcome one) ∙ over in cc)
