-- The slots, the wishes and the results of a history with one more event.
use Rattle.std.proofs.Common.{◌≡◌, ℕ, zero, suc, ◌≤◌, ◌+◌, Bool, true, false, List, [], ◌∷◌, ◌++◌, Option, Some, None, length, map, drop, refl, sym, ap, ◌∙◌, arith}
use Rattle.std.specs.Prelude.{◌&&◌, ◌==◌, cond, filter, find, not, option_to_list, if◌then◌else◌, option_and_then}
use Rattle.std.specs.List.{list_any}
use Rattle.std.proofs.lemmas.Bool.{eqb-true}
use Rattle.std.proofs.lemmas.List.{append-nil}
use Rattle.table_model.specs.declared.command.Config.{Config}
use Rattle.table_model.specs.declared.job.JobNumber.{JobNumber}
use Rattle.table_model.specs.declared.results.FibResult.{FibResult}
use Rattle.table_model.specs.Event.{Event}
use Rattle.table_model.specs.Jobs.{Task, JobUpdate, TrackedTask, Outcome, Out, is_programmed, fib, tasks, tasks_by, task_at, tracked_tasks, update_of, turned, outcome_of, number_eq, is_undone}
use Rattle.table_model.specs.Laws.{effect_of}
use Rattle.table_model.specs.BoardState.{as_wanted, is_owner_live, is_undone_task, undone_tasks, due_of}
use Rattle.table_model.specs.Legal.{IsLawful}
use Rattle.table_model.specs.Results.{results, result_by, taken, collected_by, wanted_by, failure}
use Rattle.table_model.specs.Sessions.{live, is_live}
use Rattle.table_laws.proofs.Ascending.{number}
use Rattle.table_laws.proofs.Collected.{counted}
use Rattle.table_laws.proofs.InTurn.{outcome_next}
use Rattle.table_laws.proofs.Reports.{fib_next}
use Rattle.table_laws.proofs.Updates.{tracked_at, number_same, number_symm}
use Rattle.fib_board.specs.Steps.{has_number, without, sent, results_of}
use Rattle.fib_board.proofs.Ascending.{gone_out}

-- The wishes.

pub and_false : (b : Bool) → b && false ≡ false
and_false true = refl
and_false false = refl

abbrev live_owner : List ℕ → Option ℕ → Bool
live_owner sessions None = false
live_owner sessions (Some owner) = list_any (λ other. other == owner) sessions

abbrev wanted_in : List ℕ → TrackedTask → TrackedTask
wanted_in sessions tracked = record {
  task = record {
    job = tracked.task.job;
    id = tracked.task.id;
    owner = tracked.task.owner;
    wants = tracked.task.wants && live_owner sessions tracked.task.owner;
    before = tracked.task.before;
  };
  outcome = tracked.outcome;
}

abbrev pub with_wants : TrackedTask → Bool → TrackedTask
with_wants tracked wants = record {
  task = record { job = tracked.task.job; id = tracked.task.id; owner = tracked.task.owner; wants = wants; before = tracked.task.before };
  outcome = tracked.outcome;
}

owner_is : (past : List Event) (owner : Option ℕ) → is_owner_live past owner ≡ live_owner (live past) owner
owner_is past None = refl
owner_is past (Some owner) = refl

wanted_is : (past : List Event) (tracked : TrackedTask) → as_wanted past tracked ≡ wanted_in (live past) tracked
unfolding as_wanted
wanted_is past tracked = ap (λ b. with_wants tracked (tracked.task.wants && b)) (owner_is past tracked.task.owner)

module _ (new past : List Event) (same : live new ≡ live past) where
  pub same_wanted : (xs : List TrackedTask) → map (as_wanted new) xs ≡ map (as_wanted past) xs
  same_wanted [] = refl
  same_wanted (x ∷ xs) = rw (same_wanted xs, wanted_is new x, wanted_is past x, same) refl

  pub same_alive : (session : ℕ) → is_live new session ≡ is_live past session
  same_alive session = ap (list_any (λ other. other == session)) same

module _ (past : List Event) where
  number_wanted : (number : JobNumber) (tracked : TrackedTask) → has_number number (as_wanted past tracked) ≡ has_number number tracked
  unfolding as_wanted
  number_wanted number tracked = refl

  pub without_wanted : (number : JobNumber) (xs : List TrackedTask) → without number (map (as_wanted past) xs) ≡ map (as_wanted past) (without number xs)
  without_wanted number [] = refl
  without_wanted number (x ∷ xs) = rw (number_wanted number x) (by_test (has_number number x) (without_wanted number xs))
    where
      by_test : (b : Bool) → without number (map (as_wanted past) xs) ≡ map (as_wanted past) (without number xs)
          → cond (not b) (as_wanted past x ∷ without number (map (as_wanted past) xs)) (without number (map (as_wanted past) xs)) ≡ map (as_wanted past) (cond (not b) (x ∷ without number xs) (without number xs))
      by_test true rest = rest
      by_test false rest = ap (λ ys. as_wanted past x ∷ ys) rest

  out_wanted : (tracked : TrackedTask) (b : Bool) → cond b (gone_out (as_wanted past tracked)) (as_wanted past tracked) ≡ as_wanted past (cond b (gone_out tracked) tracked)
  unfolding as_wanted
  out_wanted tracked true = refl
  out_wanted tracked false = refl

  pub sent_wanted : (number : JobNumber) (xs : List TrackedTask) → map (sent number) (map (as_wanted past) xs) ≡ map (as_wanted past) (map (sent number) xs)
  sent_wanted number [] = refl
  sent_wanted number (x ∷ xs) = rw (sent_wanted number xs, number_wanted number x, out_wanted x (has_number number x)) refl

  -- a wish of a session is one of a live session
  pub wish_is : (session : ℕ) (tracked : TrackedTask) → wanted_by session (as_wanted past tracked).task ≡ is_live past session && wanted_by session tracked.task
  unfolding as_wanted
  wish_is session tracked = by_owner tracked.task.wants tracked.task.owner
    where
      by_test : (b : Bool) (wants : Bool) (other : ℕ) → (other == session) ≡ b → wants && is_live past other && b ≡ is_live past session && (wants && b)
      by_test true wants other same = rw (eqb-true other session same) (swapped wants (is_live past session))
        where
          swapped : (a b : Bool) → a && b && true ≡ b && (a && true)
          swapped true true = refl
          swapped true false = refl
          swapped false true = refl
          swapped false false = refl
      by_test false wants other far = rw (and_false wants, and_false (wants && is_live past other), and_false (is_live past session)) refl

      by_owner : (wants : Bool) (owner : Option ℕ) → wants && is_owner_live past owner && elim owner [ None ↦ false | Some other ↦ other == session ] ≡ is_live past session && (wants && elim owner [ None ↦ false | Some other ↦ other == session ])
      by_owner wants None = rw (and_false wants, and_false (is_live past session)) refl
      by_owner wants (Some other) = by_test (other == session) wants other refl

-- The slots.

abbrev pub with_outcome : Task → Outcome → TrackedTask
with_outcome task outcome = record { task = task; outcome = outcome }

module _ (e : Event) (past : List Event) where
  pub tracked_stay : update_of e ≡ None → (ts : List Task) → map (tracked_at (e ∷ past)) ts ≡ map (tracked_at past) ts
  tracked_stay none [] = refl
  tracked_stay none (t ∷ ts) =
      let here : tracked_at (e ∷ past) t ≡ tracked_at past t = ap (with_outcome t) (outcome_next e past (number t) ∙ ap (λ o. turned o (number t) (outcome_of past (number t))) none) in
      rw (here, tracked_stay none ts) refl

module _ (e : Event) (past : List Event) (none_made : tasks_by e past ≡ []) where
  next_tracked : tracked_tasks (e ∷ past) ≡ map (tracked_at (e ∷ past)) (tasks past)
  unfolding tracked_tasks tasks
  next_tracked = ap (map (tracked_at (e ∷ past))) (ap (λ made. tasks past ++ made) none_made ∙ append-nil (tasks past))

  kept_next : undone_tasks (e ∷ past) ≡ filter is_undone_task (map (tracked_at (e ∷ past)) (tasks past))
  unfolding undone_tasks
  kept_next = ap (filter is_undone_task) next_tracked

  kept_now : undone_tasks past ≡ filter is_undone_task (map (tracked_at past) (tasks past))
  unfolding undone_tasks tracked_tasks
  kept_now = refl

  pub undone_stay : update_of e ≡ None → undone_tasks (e ∷ past) ≡ undone_tasks past
  undone_stay none = kept_next ∙ ap (filter is_undone_task) (tracked_stay e past none (tasks past)) ∙ sym kept_now

  module _ (turn : JobUpdate) (is : update_of e ≡ Some turn) where
    next_is : (t : Task) → tracked_at (e ∷ past) t ≡ with_outcome t (cond (number_eq turn.number (number t)) turn.outcome (outcome_of past (number t)))
    next_is t = ap (with_outcome t) (outcome_next e past (number t) ∙ ap (λ o. turned o (number t) (outcome_of past (number t))) is)

    done_step : (t : Task) (o : Outcome) (new old : List TrackedTask) → is_undone turn.outcome ≡ false → new ≡ without turn.number old
        → (a b : Bool) → number_eq turn.number (number t) ≡ a → is_undone o ≡ b
        → cond (is_undone (cond a turn.outcome o)) (with_outcome t (cond a turn.outcome o) ∷ new) new ≡ without turn.number (cond b (with_outcome t o ∷ old) old)
    done_step t o new old done rest true true here kept = rw (done, sym (number_symm turn.number (number t)) ∙ here) rest
    done_step t o new old done rest true false here left = rw done rest
    done_step t o new old done rest false true far kept = rw (kept, sym (number_symm turn.number (number t)) ∙ far) (ap (λ ys. with_outcome t o ∷ ys) rest)
    done_step t o new old done rest false false far left = rw left rest

    done_tasks : is_undone turn.outcome ≡ false → (ts : List Task) → filter is_undone_task (map (tracked_at (e ∷ past)) ts) ≡ without turn.number (filter is_undone_task (map (tracked_at past) ts))
    done_tasks done [] = refl
    done_tasks done (t ∷ ts) =
        ap (λ s. cond (is_undone_task s) (s ∷ filter is_undone_task (map (tracked_at (e ∷ past)) ts)) (filter is_undone_task (map (tracked_at (e ∷ past)) ts))) (next_is t)
        ∙ (done_step t (outcome_of past (number t)) _ (filter is_undone_task (map (tracked_at past) ts)) done (done_tasks done ts) (number_eq turn.number (number t)) (is_undone (outcome_of past (number t))) refl refl)

    pub undone_without : is_undone turn.outcome ≡ false → undone_tasks (e ∷ past) ≡ without turn.number (undone_tasks past)
    undone_without done = kept_next ∙ done_tasks done (tasks past) ∙ ap (without turn.number) (sym kept_now)

    module _ (goes : turn.outcome ≡ Out) (undone : is_undone (outcome_of past turn.number) ≡ true) where
      out_step : (t : Task) (new old : List TrackedTask) → new ≡ map (sent turn.number) old
          → (a b : Bool) → number_eq turn.number (number t) ≡ a → is_undone (outcome_of past (number t)) ≡ b
          → cond (is_undone (cond a Out (outcome_of past (number t)))) (with_outcome t (cond a Out (outcome_of past (number t))) ∷ new) new ≡ map (sent turn.number) (cond b (with_outcome t (outcome_of past (number t)) ∷ old) old)
      out_step t new old rest true true here kept = rw (sym (number_symm turn.number (number t)) ∙ here) (ap (λ ys. with_outcome t Out ∷ ys) rest)
      out_step t new old rest true false here left = let no_way : false ≡ true = sym left ∙ ap (λ n. is_undone (outcome_of past n)) (sym (number_same turn.number (number t) here)) ∙ undone in cc
      out_step t new old rest false true far kept = rw (kept, sym (number_symm turn.number (number t)) ∙ far) (ap (λ ys. with_outcome t (outcome_of past (number t)) ∷ ys) rest)
      out_step t new old rest false false far left = rw left rest

      out_tasks : (ts : List Task) → filter is_undone_task (map (tracked_at (e ∷ past)) ts) ≡ map (sent turn.number) (filter is_undone_task (map (tracked_at past) ts))
      out_tasks [] = refl
      out_tasks (t ∷ ts) =
          ap (λ s. cond (is_undone_task s) (s ∷ filter is_undone_task (map (tracked_at (e ∷ past)) ts)) (filter is_undone_task (map (tracked_at (e ∷ past)) ts))) (next_is t ∙ ap (λ o. with_outcome t (cond (number_eq turn.number (number t)) o (outcome_of past (number t)))) goes)
          ∙ (out_step t _ (filter is_undone_task (map (tracked_at past) ts)) (out_tasks ts) (number_eq turn.number (number t)) (is_undone (outcome_of past (number t))) refl refl)

      pub undone_sent : undone_tasks (e ∷ past) ≡ map (sent turn.number) (undone_tasks past)
      undone_sent = kept_next ∙ out_tasks (tasks past) ∙ ap (map (sent turn.number)) (sym kept_now)

-- The results.

pub drop_more : {X : Type 0} (n : ℕ) (xs ys : List X) → n ≤ length xs → drop n (xs ++ ys) ≡ drop n xs ++ ys
drop_more zero xs ys within = refl
drop_more (suc n) [] ys within = absurd (omega arith)
drop_more (suc n) (x ∷ xs) ys within = drop_more n xs ys (omega arith)

module _ (config : Config) (e : Event) (past : List Event) (lawful : IsLawful config past) (session : ℕ) (same : is_live (e ∷ past) session ≡ is_live past session) (none_taken : collected_by session e ≡ 0) where
  pub due_next : due_of (e ∷ past) session ≡ due_of past session ++ (if is_live past session then option_to_list (result_by session (tasks past) (update_of e)) else [])
  unfolding due_of taken results
  due_next = let whole : taken past session + 0 ≡ taken past session = omega arith in rw (same, none_taken, whole) (by_live (is_live past session))
    where
      by_live : (b : Bool) → cond b (drop (taken past session) (results past session ++ option_to_list (result_by session (tasks past) (update_of e)))) []
          ≡ cond b (drop (taken past session) (results past session)) [] ++ cond b (option_to_list (result_by session (tasks past) (update_of e))) []
      by_live true = drop_more (taken past session) (results past session) _ (counted config past session lawful).1
      by_live false = refl

  pub due_stays : result_by session (tasks past) (update_of e) ≡ None → due_of (e ∷ past) session ≡ due_of past session
  due_stays none = due_next ∙ rw none (by_live (is_live past session))
    where
      by_live : (b : Bool) → due_of past session ++ cond b [] [] ≡ due_of past session
      by_live true = append-nil (due_of past session)
      by_live false = append-nil (due_of past session)

  pub due_done : (turn : JobUpdate) (tracked : TrackedTask) → update_of e ≡ Some turn → is_undone turn.outcome ≡ false → find (λ task. number_eq turn.number task.job.number) (tasks past) ≡ Some tracked.task
      → due_of (e ∷ past) session ≡ due_of past session ++ results_of session (as_wanted past tracked).task turn.outcome turn.now
  unfolding as_wanted
  due_done turn tracked is done found = due_next ∙ ap (λ l. due_of past session ++ l) (rw (is, done, found, wish_is past session tracked) (by_wish (is_live past session) (wanted_by session tracked.task)))
    where
      told : FibResult
      told = record { id = tracked.task.id; failed = failure tracked.task turn.outcome; now = turn.now }

      by_wish : (a b : Bool) → cond a (option_to_list (cond b (Some told) None)) [] ≡ cond (a && b) (told ∷ []) []
      by_wish true true = refl
      by_wish true false = refl
      by_wish false b = refl

-- The forwarding table.

-- the job that a turn programs
abbrev pub programmed_of : List Event → Option JobUpdate → Option Task
programmed_of past turn = option_and_then (λ t. if is_programmed t.outcome then task_at t.number (tasks past) else None) turn

pub fib_by_update : (config : Config) (e : Event) (past : List Event) → IsLawful config (e ∷ past) → (turn : Option JobUpdate) → update_of e ≡ turn → fib (e ∷ past) ≡ effect_of (programmed_of past turn) (fib past)
fib_by_update config e past lawful turn is = fib_next config e past lawful ∙ ap (λ t. effect_of (programmed_of past t) (fib past)) is
