-- A session's results are those of its jobs that are done, each once.
use Rattle.std.proofs.Common.{◌≡◌, ℕ, Bool, true, false, List, [], ◌∷◌, ◌++◌, length, Some, None, Option, refl, sym, ap, subst, ◌∙◌, ◌⊎◌}
use Rattle.std.specs.Prelude.{not, ◌&&◌, cond, map, filter, option_and_then, option_to_list, IsPermutation}
use Rattle.std.proofs.lemmas.List.{map-append, append-nil}
use Rattle.std.proofs.lemmas.List.Sorted.{IsPermutation-refl, IsPermutation-sym, IsPermutation-trans, IsPermutation-cons, IsPermutation-to_front, IsPermutation-append_left}
use Rattle.table_model.specs.declared.command.Config.{Config}
use Rattle.table_model.specs.declared.results.FibResult.{FibResult}
use Rattle.table_model.specs.Event.{Event}
use Rattle.table_model.specs.Jobs.{Task, TrackedTask, JobUpdate, Outcome, Waiting, tasks, tasks_by, tracked_tasks, task_at, update_of, turned, outcome_of, number_eq, is_undone}
use Rattle.table_model.specs.Legal.{IsLawful}
use Rattle.table_model.specs.Results.{results, result_by, wanted_by, failure}
use Rattle.table_laws.specs.DoneAnswers.{answer_to, answer_in, ResultsAreOfDoneJobs}
use Rattle.table_laws.proofs.Ascending.{number, is_from, made_of, ascend}
use Rattle.table_laws.proofs.InTurn.{WaitAhead, outcome_next, undone_update, says, next_ahead, wait_ahead, from_le}
use Rattle.table_laws.proofs.Updates.{Each, Pairs, each_of, each_weaken, each_all, Before, ascending_pairs, number_same, apart, Taken, Said, tracked_at}

abbrev Answers : Type 0
Answers = List (ℕ × Option ℕ)

abbrev answer_of : Task → Outcome → ℕ × Option ℕ
answer_of t o = (t.id, failure t o)

module _ (session : ℕ) where
  -- the answer of a job with that outcome, ahead of others
  abbrev with_answer : Task → Outcome → Answers → Answers
  with_answer t o rest = cond (wanted_by session t && not (is_undone o)) (answer_of t o ∷ rest) rest

  abbrev answers : List Event → List Task → Answers
  answers past [] = []
  answers past (t ∷ ts) = with_answer t (outcome_of past (number t)) (answers past ts)

  answers_append : (past : List Event) (ts us : List Task) → answers past (ts ++ us) ≡ answers past ts ++ answers past us
  answers_append past [] us = refl
  answers_append past (t ∷ ts) us = ap (with_answer t (outcome_of past (number t))) (answers_append past ts us) ∙ out_of (wanted_by session t && not (is_undone (outcome_of past (number t))))
    where
      out_of : (b : Bool) → cond b (answer_of t (outcome_of past (number t)) ∷ (answers past ts ++ answers past us)) (answers past ts ++ answers past us)
          ≡ cond b (answer_of t (outcome_of past (number t)) ∷ answers past ts) (answers past ts) ++ answers past us
      out_of true = refl
      out_of false = refl

  answers_same : (past other : List Event) (ts : List Task) → Each (λ t. outcome_of past (number t) ≡ outcome_of other (number t)) ts → answers past ts ≡ answers other ts
  answers_same past other [] same = refl
  answers_same past other (t ∷ ts) same =
      ap (λ o. with_answer t o (answers past ts)) same.0 ∙ ap (with_answer t (outcome_of other (number t))) (answers_same past other ts same.1)

  no_answer : (t : Task) (o : Outcome) (rest : Answers) → is_undone o ≡ true → with_answer t o rest ≡ rest
  no_answer t o rest undone = ap (λ b. cond (wanted_by session t && not b) (answer_of t o ∷ rest) rest) undone ∙ neither (wanted_by session t)
    where
      neither : (w : Bool) → cond (w && false) (answer_of t o ∷ rest) rest ≡ rest
      neither true = refl
      neither false = refl

  no_answers : (past : List Event) (ts : List Task) → Each (λ t. outcome_of past (number t) ≡ Waiting) ts → answers past ts ≡ []
  no_answers past [] h = refl
  no_answers past (t ∷ ts) h = no_answer t (outcome_of past (number t)) (answers past ts) (ap is_undone h.0) ∙ no_answers past ts h.1

  abbrev wanted_done : TrackedTask → Bool
  wanted_done tracked = wanted_by session tracked.task && not (is_undone tracked.outcome)

  answers_are : (past : List Event) (ts : List Task) → map answer_to (filter wanted_done (map (tracked_at past) ts)) ≡ answers past ts
  answers_are past [] = refl
  answers_are past (t ∷ ts) = by_test (wanted_by session t && not (is_undone (outcome_of past (number t)))) (answers_are past ts)
    where
      by_test : (b : Bool) → map answer_to (filter wanted_done (map (tracked_at past) ts)) ≡ answers past ts → map answer_to (cond b (tracked_at past t ∷ filter wanted_done (map (tracked_at past) ts)) (filter wanted_done (map (tracked_at past) ts))) ≡ cond b (answer_of t (outcome_of past (number t)) ∷ answers past ts) (answers past ts)
      by_test true same = ap (λ xs. answer_of t (outcome_of past (number t)) ∷ xs) same
      by_test false same = same

  module _ (e : Event) (past : List Event) where
    abbrev brought_by : Option FibResult → Answers
    brought_by o = map answer_in (option_to_list o)

    module _ (turn : JobUpdate) (is : update_of e ≡ Some turn) (undone : is_undone (outcome_of past turn.number) ≡ true) where
      next_is : (t : Task) → outcome_of (e ∷ past) (number t) ≡ cond (number_eq turn.number (number t)) turn.outcome (outcome_of past (number t))
      next_is t = outcome_next e past (number t) ∙ ap (λ o. turned o (number t) (outcome_of past (number t))) is

      beside : (t : Task) → number_eq turn.number (number t) ≡ false → outcome_of (e ∷ past) (number t) ≡ outcome_of past (number t)
      beside t far = next_is t ∙ ap (λ b. cond b turn.outcome (outcome_of past (number t))) far

      far_from : (x t : Task) → number_eq turn.number (number x) ≡ true → Before x t → (b : Bool) → number_eq turn.number (number t) ≡ b → b ≡ false
      far_from x t at lt false here = refl
      far_from x t at lt true here = absurd (apart x t turn.number lt at here)

      abbrev result : Task → Option FibResult
      result task = cond (wanted_by session task) (Some (record { id = task.id; failed = failure task turn.outcome; now = turn.now })) None

      abbrev brought : Option Task → Answers
      brought o = brought_by (cond (is_undone turn.outcome) None (option_and_then result o))

      here : (x : Task) (rest : Answers) (d w : Bool) → IsPermutation (cond (w && not d) (answer_of x turn.outcome ∷ rest) rest)
          (rest ++ brought_by (cond d None (cond w (Some (record { id = x.id; failed = failure x turn.outcome; now = turn.now })) None)))
      here x rest true true = subst (IsPermutation rest) (sym (append-nil rest)) (IsPermutation-refl rest)
      here x rest true false = subst (IsPermutation rest) (sym (append-nil rest)) (IsPermutation-refl rest)
      here x rest false true = IsPermutation-sym (rest ++ answer_of x turn.outcome ∷ []) (answer_of x turn.outcome ∷ rest) (IsPermutation-to_front rest (answer_of x turn.outcome))
      here x rest false false = subst (IsPermutation rest) (sym (append-nil rest)) (IsPermutation-refl rest)

      ahead_of : (a : ℕ × Option ℕ) (xs ys more : Answers) (b : Bool) → IsPermutation xs (ys ++ more) → IsPermutation (cond b (a ∷ xs) xs) (cond b (a ∷ ys) ys ++ more)
      ahead_of a xs ys more true h = IsPermutation-cons a xs (ys ++ more) h
      ahead_of a xs ys more false h = h

      step : (x : Task) (ts : List Task) → Each (Before x) ts → IsPermutation (answers (e ∷ past) ts) (answers past ts ++ brought (task_at turn.number ts))
          → (b : Bool) → number_eq turn.number (number x) ≡ b
          → IsPermutation (with_answer x (cond b turn.outcome (outcome_of past (number x))) (answers (e ∷ past) ts)) (with_answer x (outcome_of past (number x)) (answers past ts) ++ brought (cond b (Some x) (task_at turn.number ts)))
      step x ts lt rest false far =
          ahead_of (answer_of x (outcome_of past (number x))) (answers (e ∷ past) ts) (answers past ts) (brought (task_at turn.number ts)) (wanted_by session x && not (is_undone (outcome_of past (number x)))) rest
      step x ts lt rest true at =
          let behind : answers (e ∷ past) ts ≡ answers past ts =
          answers_same (e ∷ past) past ts (each_weaken (Before x) (λ t. outcome_of (e ∷ past) (number t) ≡ outcome_of past (number t)) ts (λ t below. beside t (far_from x t at below (number_eq turn.number (number t)) refl)) lt) in
          let open_here : is_undone (outcome_of past (number x)) ≡ true = ap (λ n. is_undone (outcome_of past n)) (sym (number_same turn.number (number x) at)) ∙ undone in
          subst (λ ys. IsPermutation (with_answer x turn.outcome (answers (e ∷ past) ts)) (ys ++ brought (Some x))) (sym (no_answer x (outcome_of past (number x)) (answers past ts) open_here))
          (subst (λ xs. IsPermutation (with_answer x turn.outcome xs) (answers past ts ++ brought (Some x))) (sym behind) (here x (answers past ts) (is_undone turn.outcome) (wanted_by session x)))

      nothing : (b : Bool) → IsPermutation [] ([] ++ brought_by (cond b None None))
      nothing true = IsPermutation-refl []
      nothing false = IsPermutation-refl []

      moves : (ts : List Task) → Pairs Before ts → IsPermutation (answers (e ∷ past) ts) (answers past ts ++ brought (task_at turn.number ts))
      moves [] lt = nothing (is_undone turn.outcome)
      moves (x ∷ ts) lt =
          subst (λ o. IsPermutation (with_answer x o (answers (e ∷ past) ts)) (with_answer x (outcome_of past (number x)) (answers past ts) ++ brought (cond (number_eq turn.number (number x)) (Some x) (task_at turn.number ts)))) (sym (next_is x))
          (step x ts lt.0 (moves ts lt.1) (number_eq turn.number (number x)) refl)

    old_jobs : (o : Option JobUpdate) → update_of e ≡ o → ((turn : JobUpdate) → update_of e ≡ Some turn → Taken past turn ⊎ Said past turn)
        → IsPermutation (answers (e ∷ past) (tasks past)) (answers past (tasks past) ++ brought_by (result_by session (tasks past) o))
    old_jobs None is told =
        let same : answers (e ∷ past) (tasks past) ≡ answers past (tasks past) =
        answers_same (e ∷ past) past (tasks past) (each_of (λ t. outcome_of (e ∷ past) (number t) ≡ outcome_of past (number t)) (λ t. outcome_next e past (number t) ∙ ap (λ o. turned o (number t) (outcome_of past (number t))) is) (tasks past)) in
        subst (IsPermutation (answers (e ∷ past) (tasks past))) (same ∙ sym (append-nil (answers past (tasks past)))) (IsPermutation-refl (answers (e ∷ past) (tasks past)))
    old_jobs (Some turn) is told = moves turn is (undone_update past turn (told turn is)) (tasks past) (ascending_pairs (tasks past) (ascend past))

    new_jobs : WaitAhead (e ∷ past) (length past) → answers (e ∷ past) (tasks_by e past) ≡ []
    new_jobs ahead =
        no_answers (e ∷ past) (tasks_by e past)
        (each_weaken (λ b. is_from (length past) 0 b ≡ true) (λ t. outcome_of (e ∷ past) (number t) ≡ Waiting) (tasks_by e past)
        (λ t made. ahead (number t) (from_le (length past) t made)) (each_all (is_from (length past) 0) (tasks_by e past) (made_of e past).here))

  each_once : (config : Config) (past : List Event) → IsLawful config past → IsPermutation (answers past (tasks past)) (map answer_in (results past session))
  unfolding results tasks
  each_once config [] lawful = IsPermutation-refl []
  each_once config (e ∷ past) lawful =
      let old = old_jobs e past (update_of e) refl (says config e past lawful) in
      let all : answers (e ∷ past) (tasks past ++ tasks_by e past) ≡ answers (e ∷ past) (tasks past) =
      answers_append (e ∷ past) (tasks past) (tasks_by e past) ∙ ap (λ xs. answers (e ∷ past) (tasks past) ++ xs) (new_jobs e past (next_ahead config e past lawful (wait_ahead config past lawful.1))) ∙ append-nil (answers (e ∷ past) (tasks past)) in
      let more = result_by session (tasks past) (update_of e) in
      subst (λ xs. IsPermutation xs (map answer_in (results past session ++ option_to_list more))) (sym all)
      (subst (IsPermutation (answers (e ∷ past) (tasks past))) (sym (map-append answer_in (results past session) (option_to_list more)))
      (IsPermutation-trans (answers (e ∷ past) (tasks past)) (answers past (tasks past) ++ map answer_in (option_to_list more)) (map answer_in (results past session) ++ map answer_in (option_to_list more)) old
      (IsPermutation-append_left (map answer_in (option_to_list more)) (answers past (tasks past)) (map answer_in (results past session)) (each_once config past lawful.1))))

pub of_done_jobs : (config : Config) → ResultsAreOfDoneJobs config
unfolding tracked_tasks
of_done_jobs config past session lawful =
    subst (λ xs. IsPermutation xs (map answer_in (results past session))) (sym (answers_are session past (tasks past))) (each_once session config past lawful)
