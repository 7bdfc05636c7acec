-- Where nothing is outstanding, each job whose result the session wants has one, and it was answered.
use Rattle.std.proofs.Common.{◌≡◌, ◌≤◌, ℕ, ◌+◌, ◌-◌, Bool, true, false, List, [], ◌∷◌, ◌++◌, length, map, take, drop, Some, None, Option, refl, sym, ap, ◌∙◌, arith, ◌⊎◌}
use Rattle.std.specs.Prelude.{◌&&◌, ◌||◌, cond, count_by, option_and_then, option_to_list}
use Rattle.std.specs.List.{list_any}
use Rattle.std.proofs.lemmas.List.{length-append, take_all}
use Rattle.std.proofs.lemmas.List.Recursion.{is_count_by}
use Rattle.std.proofs.Math.Seq.{take-add}
use Rattle.table_model.specs.declared.command.Command.TheVariants.{Collect}
use Rattle.table_model.specs.declared.command.Config.{Config}
use Rattle.table_model.specs.declared.reply.Reply.TheVariants as reply
use Rattle.table_model.specs.declared.results.FibResult.{FibResult}
use Rattle.table_model.specs.Event.{Event}
use Rattle.table_model.specs.Jobs.{task_at, Task, JobUpdate, tasks, tasks_by, tracked_tasks, update_of, turned, outcome_of, number_eq, is_undone}
use Rattle.table_model.specs.Laws.{collected_results, AllAnswered}
use Rattle.table_model.specs.Legal.{IsLawful}
use Rattle.table_model.specs.Reply.{reply_to, is_halted, is_gone}
use Rattle.table_model.specs.Results.{results, result_by, wanted_by, failure, taken, batch, outstanding, is_awaited}
use Rattle.table_laws.proofs.Ascending.{number, is_from, made_of, ascend}
use Rattle.table_laws.proofs.Updates.{Each, Pairs, each_of, each_weaken, each_all, Before, ascending_pairs, number_same, apart, Taken, Said, tracked_at}
use Rattle.table_laws.proofs.InTurn.{WaitAhead, outcome_next, undone_update, says, next_ahead, wait_ahead, from_le}
use Rattle.table_laws.proofs.Collected.{take_again, counted}

-- Counts.

abbrev pub tally : {X : Type 0} → (X → Bool) → List X → ℕ
tally p [] = 0
tally p (x ∷ xs) = cond (p x) (1 + tally p xs) (tally p xs)

split_count : (b : Bool) (m n : ℕ) → cond b (1 + (m + n)) (m + n) ≡ cond b (1 + m) m + n
split_count true m n = omega arith
split_count false m n = refl

tally_append : {X : Type 0} (p : X → Bool) (xs ys : List X) → tally p (xs ++ ys) ≡ tally p xs + tally p ys
tally_append p [] ys = omega arith
tally_append p (x ∷ xs) ys = ap (λ m. cond (p x) (1 + m) m) (tally_append p xs ys) ∙ split_count (p x) (tally p xs) (tally p ys)

tally_map : {X Y : Type 0} (p : Y → Bool) (h : X → Y) (xs : List X) → tally p (map h xs) ≡ tally (λ x. p (h x)) xs
tally_map p h [] = refl
tally_map p h (x ∷ xs) = ap (λ m. cond (p (h x)) (1 + m) m) (tally_map p h xs)

tally_same : (p q : Task → Bool) (ts : List Task) → Each (λ t. p t ≡ q t) ts → tally p ts ≡ tally q ts
tally_same p q [] same = refl
tally_same p q (t ∷ ts) same = ap (λ b. cond b (1 + tally p ts) (tally p ts)) same.0 ∙ ap (λ m. cond (q t) (1 + m) m) (tally_same p q ts same.1)

abbrev awaits : ℕ → List Event → Task → Bool
awaits session past t = wanted_by session t && is_undone (outcome_of past (number t))

-- What an event brings, and what the session still waits for after it.

beside_count : (c : Bool) (k m n : ℕ) → k + n ≡ m → k + cond c (1 + n) n ≡ cond c (1 + m) m
beside_count true k m n same = omega arith
beside_count false k m n same = same

here_count : (d w : Bool) (r : FibResult) (m : ℕ) → length (option_to_list (cond d None (cond w (Some r) None))) + cond (w && d) (1 + m) m ≡ cond (w && true) (1 + m) m
here_count true true r m = omega arith
here_count true false r m = omega arith
here_count false true r m = omega arith
here_count false false r m = omega arith

abbrev no_result : Option FibResult
no_result = None

nothing_brought : (b : Bool) → length (option_to_list (cond b no_result no_result)) + 0 ≡ 0
nothing_brought true = refl
nothing_brought false = refl

module _ (session : ℕ) (e : Event) (past : List Event) where
  no_update : update_of e ≡ None → (ts : List Task) → tally (awaits session (e ∷ past)) ts ≡ tally (awaits session past) ts
  no_update is ts =
      tally_same (awaits session (e ∷ past)) (awaits session past) ts
      (each_of (λ t. awaits session (e ∷ past) t ≡ awaits session past t) (λ t. ap (λ o. wanted_by session t && is_undone o) (outcome_next e past (number t) ∙ ap (λ o. turned o (number t) (outcome_of past (number t))) is)) ts)

  module _ (turn : JobUpdate) (is : update_of e ≡ Some turn) (undone : is_undone (outcome_of past turn.number) ≡ true) where
    next_is : (t : Task) → outcome_of (e ∷ past) (number t) ≡ cond (number_eq turn.number (number t)) turn.outcome (outcome_of past (number t))
    next_is t = outcome_next e past (number t) ∙ ap (λ o. turned o (number t) (outcome_of past (number t))) is

    beside : (t : Task) → number_eq turn.number (number t) ≡ false → awaits session (e ∷ past) t ≡ awaits session past t
    beside t far = ap (λ o. wanted_by session t && is_undone o) (next_is t ∙ ap (λ b. cond b turn.outcome (outcome_of past (number t))) far)

    far_from : (x t : Task) → number_eq turn.number (number x) ≡ true → Before x t → (b : Bool) → number_eq turn.number (number t) ≡ b → b ≡ false
    far_from x t at lt false here = refl
    far_from x t at lt true here = absurd (apart x t turn.number lt at here)

    abbrev result : Task → Option FibResult
    result task = cond (wanted_by session task) (Some (record { id = task.id; failed = failure task turn.outcome; now = turn.now })) None

    abbrev brought : Option Task → ℕ
    brought o = length (option_to_list (cond (is_undone turn.outcome) None (option_and_then result o)))

    step : (x : Task) (ts : List Task) → Each (Before x) ts
        → brought (task_at turn.number ts) + tally (awaits session (e ∷ past)) ts ≡ tally (awaits session past) ts
        → (b : Bool) → number_eq turn.number (number x) ≡ b
        → brought (cond b (Some x) (task_at turn.number ts)) + cond (wanted_by session x && is_undone (cond b turn.outcome (outcome_of past (number x)))) (1 + tally (awaits session (e ∷ past)) ts) (tally (awaits session (e ∷ past)) ts)
        ≡ cond (wanted_by session x && is_undone (outcome_of past (number x))) (1 + tally (awaits session past) ts) (tally (awaits session past) ts)
    step x ts lt rest false far = beside_count (wanted_by session x && is_undone (outcome_of past (number x))) (brought (task_at turn.number ts)) (tally (awaits session past) ts) (tally (awaits session (e ∷ past)) ts) rest
    step x ts lt rest true at =
        let behind : tally (awaits session (e ∷ past)) ts ≡ tally (awaits session past) ts = tally_same (awaits session (e ∷ past)) (awaits session past) ts (each_weaken (Before x) (λ t. awaits session (e ∷ past) t ≡ awaits session past t) ts (λ t below. beside t (far_from x t at below (number_eq turn.number (number t)) refl)) lt) in
        let open_here : is_undone (outcome_of past (number x)) ≡ true = ap (λ n. is_undone (outcome_of past n)) (sym (number_same turn.number (number x) at)) ∙ undone in
        ap (λ m. brought (Some x) + cond (wanted_by session x && is_undone turn.outcome) (1 + m) m) behind
        ∙ here_count (is_undone turn.outcome) (wanted_by session x) (record { id = x.id; failed = failure x turn.outcome; now = turn.now }) (tally (awaits session past) ts)
        ∙ ap (λ b. cond (wanted_by session x && b) (1 + tally (awaits session past) ts) (tally (awaits session past) ts)) (sym open_here)

    moves : (ts : List Task) → Pairs Before ts → brought (task_at turn.number ts) + tally (awaits session (e ∷ past)) ts ≡ tally (awaits session past) ts
    moves [] lt = nothing_brought (is_undone turn.outcome)
    moves (x ∷ ts) lt =
        ap (λ o. brought (cond (number_eq turn.number (number x)) (Some x) (task_at turn.number ts)) + cond (wanted_by session x && is_undone o) (1 + tally (awaits session (e ∷ past)) ts) (tally (awaits session (e ∷ past)) ts)) (next_is x)
        ∙ step x ts lt.0 (moves ts lt.1) (number_eq turn.number (number x)) refl

  old_jobs : (o : Option JobUpdate) → update_of e ≡ o → ((turn : JobUpdate) → update_of e ≡ Some turn → Taken past turn ⊎ Said past turn)
      → length (option_to_list (result_by session (tasks past) o)) + tally (awaits session (e ∷ past)) (tasks past) ≡ tally (awaits session past) (tasks past)
  old_jobs None is told = let same = no_update is (tasks past) in omega arith
  old_jobs (Some turn) is told = moves turn is (undone_update past turn (told turn is)) (tasks past) (ascending_pairs (tasks past) (ascend past))

  new_jobs : WaitAhead (e ∷ past) (length past) → tally (awaits session (e ∷ past)) (tasks_by e past) ≡ tally (wanted_by session) (tasks_by e past)
  new_jobs ahead =
      tally_same (awaits session (e ∷ past)) (wanted_by session) (tasks_by e past)
      (each_weaken (λ b. is_from (length past) 0 b ≡ true) (λ t. awaits session (e ∷ past) t ≡ wanted_by session t) (tasks_by e past)
      (λ t here. ap (λ o. wanted_by session t && is_undone o) (ahead (number t) (from_le (length past) t here)) ∙ and_true (wanted_by session t))
      (each_all (is_from (length past) 0) (tasks_by e past) (made_of e past).here))
    where
      and_true : (b : Bool) → b && true ≡ b
      and_true true = refl
      and_true false = refl

-- each job that the session wants told has its result, or is awaited
balance : (config : Config) (past : List Event) (session : ℕ) → IsLawful config past → length (results past session) + tally (awaits session past) (tasks past) ≡ tally (wanted_by session) (tasks past)
unfolding results tasks
balance config [] session lawful = refl
balance config (e ∷ past) session lawful =
    let before = balance config past session lawful.1 in
    let old = old_jobs session e past (update_of e) refl (says config e past lawful) in
    let new = new_jobs session e past (next_ahead config e past lawful (wait_ahead config past lawful.1)) in
    let longer = length-append (results past session) (option_to_list (result_by session (tasks past) (update_of e))) in
    let waited = tally_append (awaits session (e ∷ past)) (tasks past) (tasks_by e past) in
    let wanted = tally_append (wanted_by session) (tasks past) (tasks_by e past) in
    omega arith

awaited_is : (past : List Event) (session : ℕ) → tally (awaits session past) (tasks past) ≡ count_by (is_awaited session) (tracked_tasks past)
unfolding tracked_tasks
awaited_is past session = sym (tally_map (is_awaited session) (tracked_at past) (tasks past)) ∙ is_count_by (tally (is_awaited session)) (is_awaited session) refl (λ _ _. refl) (map (tracked_at past) (tasks past))

-- what the reply says
pub told : (given next : List FibResult) (said left : ℕ) (halted gone : Bool) → reply.Collected given said ≡ cond halted reply.Stopped (cond gone reply.Gone (reply.Collected next left)) → (given ≡ next) × (said ≡ left)
told given next said left true gone is = cc
told given next said left false true is = cc
told given next said left false false is = (cc, cc)

none_step : (b any : Bool) (n : ℕ) → (n ≡ 0 → any ≡ false) → cond b (1 + n) n ≡ 0 → b || any ≡ false
none_step true any n rest some = absurd (omega arith)
none_step false any n rest none = rest none

none_tallied : {X : Type 0} (p : X → Bool) (xs : List X) → tally p xs ≡ 0 → list_any p xs ≡ false
none_tallied p [] h = refl
none_tallied p (x ∷ xs) h = none_step (p x) (list_any p xs) (tally p xs) (none_tallied p xs) h

all_collected : (before all next : List FibResult) (n : ℕ) → before ≡ take n all → next ≡ take 256 (drop n all) → length all ≤ n + length next → before ++ next ≡ all
all_collected before all next n so_far which enough =
    let again : next ≡ take (length next) (drop n all) = which ∙ sym (take_again 256 (drop n all)) ∙ ap (λ x. take (length x) (drop n all)) (sym which) in
    ap (λ x. x ++ next) so_far ∙ ap (λ x. take n all ++ x) again ∙ sym (take-add n (length next) all) ∙ take_all (n + length next) all enough

pub all_answered : (config : Config) → AllAnswered config
unfolding reply_to outstanding batch
all_answered config past session given lawful =
    let says = told given (batch past session) 0 (outstanding past session) (is_halted past) (is_gone past (Collect session)) lawful.0 in
    let none : count_by (is_awaited session) (tracked_tasks past) + (length (results past session) - (taken past session + length (batch past session))) ≡ 0 = sym says.1 in
    let left = balance config past session lawful.1 in
    let waits = awaited_is past session in
    let wants = is_count_by (tally (wanted_by session)) (wanted_by session) refl (λ _ _. refl) (tasks past) in
    let same = ap length says.0 in
    let counts = is_count_by (tally (is_awaited session)) (is_awaited session) refl (λ _ _. refl) (tracked_tasks past) in
    (none_tallied (is_awaited session) (tracked_tasks past) (omega arith), all_collected (collected_results past session) (results past session) given (taken past session) (counted config past session lawful.1).0 says.0 (omega arith), omega arith)
