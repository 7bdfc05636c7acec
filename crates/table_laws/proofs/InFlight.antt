-- Whichever of the jobs that are out are done, in whatever order, the forwarding table stays closed: neither of two touches the other's key.
use Rattle.std.proofs.Common.{◌≡◌, Bool, true, false, List, [], ◌∷◌, refl, ap}
use Rattle.std.specs.Prelude.{not, ◌&&◌, cond, map, filter, fold, IsPermutation}
use Rattle.std.specs.List.{AllByRecursion}
use Rattle.std.proofs.lemmas.List.Elements.{All-from_recursion, recursion_from_All}
use Rattle.std.proofs.lemmas.List.Sorted.{All-permutation}
use Rattle.aft_entries.specs.declared.entry.Entry.{Entry}
use Rattle.table_model.specs.declared.command.Config.{Config}
use Rattle.table_model.specs.declared.job.Work.{Work}
use Rattle.table_model.specs.declared.job.Work.TheVariants.{Install, Remove}
use Rattle.table_model.specs.Event.{Event}
use Rattle.table_model.specs.Jobs.{Task, TrackedTask, tasks, tracked_tasks, outcome_of, is_out, is_skipped, effect, fib}
use Rattle.table_model.specs.Laws.{is_closed}
use Rattle.table_model.specs.Table.{resolves}
use Rattle.table_model.proofs.Closed.{resolves_put}
use Rattle.table_model.proofs.Tests.{and_left}
use Rattle.table_laws.specs.InFlight.{InFlightIsClosed}
use Rattle.table_laws.proofs.Ascending.{number}
use Rattle.table_laws.proofs.FibClosed.{Ready, OutApart, waits_apart, closed_effect, still_fits, unused_taken, holds}
use Rattle.table_laws.proofs.InTurn.{Waits, in_turn}
use Rattle.table_laws.proofs.Refused.{not_not}
use Rattle.table_laws.proofs.Updates.{Each, Pairs, each_weaken, each_both, pairs_both, tracked_at}

-- what one job does leaves the other one possible
abbrev Leaves : Work → Work → Type 0
Leaves done other = (table : List Entry) → is_skipped table other ≡ false → is_skipped (effect table done) other ≡ false

leaves_itself : (work : Work) → Leaves work work
leaves_itself (Install e) table fits = ap not (resolves_put e e table (not_not (resolves table e) fits))
leaves_itself (Remove key) table fits = unused_taken key key table fits

abbrev Fits : List Entry → TrackedTask → Type 0
Fits table tracked = is_skipped table tracked.task.job.work ≡ false

abbrev Clear : TrackedTask → TrackedTask → Type 0
Clear a b = Leaves a.task.job.work b.task.job.work

weaken : (P Q : TrackedTask → Type 0) (xs : List TrackedTask) → ((x : TrackedTask) → P x → Q x) → AllByRecursion P xs → AllByRecursion Q xs
weaken P Q [] step h = tt
weaken P Q (x ∷ xs) step h = (step x h.0, weaken P Q xs step h.1)

both : (P Q R : TrackedTask → Type 0) (xs : List TrackedTask) → ((x : TrackedTask) → P x → Q x → R x) → AllByRecursion P xs → AllByRecursion Q xs → AllByRecursion R xs
both P Q R [] step h k = tt
both P Q R (x ∷ xs) step h k = (step x h.0 k.0, both P Q R xs step h.1 k.1)

permuted : (P : TrackedTask → Type 0) (xs ys : List TrackedTask) → IsPermutation xs ys → AllByRecursion P xs → AllByRecursion P ys
permuted P xs ys same h = recursion_from_All P ys (All-permutation P xs ys same (All-from_recursion P xs h))

-- in whatever order such jobs are done
closed_by : (table : List Entry) (xs : List TrackedTask) → is_closed table ≡ true → AllByRecursion (Fits table) xs → AllByRecursion (λ a. AllByRecursion (Clear a) xs) xs
    → is_closed (fold effect table (map (λ tracked. tracked.task.job.work) xs)) ≡ true
closed_by table [] closed fits clear = closed
closed_by table (x ∷ xs) closed fits clear =
    closed_by (effect table x.task.job.work) xs (closed_effect table x.task.job.work closed fits.0)
    (both (Clear x) (Fits table) (Fits (effect table x.task.job.work)) xs (λ y c f. c table f) clear.0.1 fits.1)
    (weaken (λ a. AllByRecursion (Clear a) (x ∷ xs)) (λ a. AllByRecursion (Clear a) xs) xs (λ a h. h.1) clear.1)

module _ (past : List Event) (done : Task → Bool) where
  abbrev is_chosen : TrackedTask → Bool
  is_chosen tracked = is_out tracked.outcome && done tracked.task

  each_chosen : (P : Task → Type 0) (Q : TrackedTask → Type 0) → ((t : Task) → P t → is_out (outcome_of past (number t)) ≡ true → Q (tracked_at past t)) → (ts : List Task) → Each P ts
      → AllByRecursion Q (filter is_chosen (map (tracked_at past) ts))
  each_chosen P Q step [] h = tt
  each_chosen P Q step (t ∷ ts) h = by_test (is_chosen (tracked_at past t)) refl (each_chosen P Q step ts h.1)
    where
      by_test : (b : Bool) → is_chosen (tracked_at past t) ≡ b → AllByRecursion Q (filter is_chosen (map (tracked_at past) ts))
          → AllByRecursion Q (cond b (tracked_at past t ∷ filter is_chosen (map (tracked_at past) ts)) (filter is_chosen (map (tracked_at past) ts)))
      by_test true is rest = (step t h.0 (and_left (is_out (outcome_of past (number t))) (done t) is), rest)
      by_test false is rest = rest

  abbrev OutClear : Task → Task → Type 0
  OutClear a b = is_out (outcome_of past (number a)) ≡ true → is_out (outcome_of past (number b)) ≡ true → Leaves a.job.work b.job.work

  clear_by : (a b : Task) → OutApart past a b → OutClear a b
  clear_by a b apart one two table fits = let far = apart one two in still_fits table a.job.work b.job.work far.one far.other fits

  clear_about : (a b : Task) → OutApart past a b → OutClear b a
  clear_about a b apart one two table fits = let far = apart two one in still_fits table b.job.work a.job.work far.other far.one fits

  -- of each two, in either order, and of each with itself
  all_clear : (ts : List Task) → Pairs (OutApart past) ts → Each (λ a. Each (OutClear a) ts) ts
  all_clear [] h = tt
  all_clear (x ∷ ts) h = (
    (λ one two. leaves_itself x.job.work, each_weaken (OutApart past x) (OutClear x) ts (clear_by x) h.0),
    each_both (OutApart past x) (λ a. Each (OutClear a) ts) (λ a. Each (OutClear a) (x ∷ ts)) ts (λ a far rest. (clear_about x a far, rest)) h.0 (all_clear ts h.1),
  )

  abbrev chosen : List TrackedTask
  chosen = filter is_chosen (map (tracked_at past) (tasks past))

  in_order_of : (order : List TrackedTask) → IsPermutation chosen order → is_closed (fib past) ≡ true → Each (λ t. Ready (fib past) (outcome_of past (number t)) t) (tasks past) → Pairs (OutApart past) (tasks past)
      → is_closed (fold effect (fib past) (map (λ tracked. tracked.task.job.work) order)) ≡ true
  in_order_of order same closed ready apart =
      let fits = each_chosen (λ t. Ready (fib past) (outcome_of past (number t)) t) (Fits (fib past)) (λ t h out. h out) (tasks past) ready in
      let clear = each_chosen (λ a. Each (OutClear a) (tasks past)) (λ a. AllByRecursion (Clear a) chosen) (λ a h out. each_chosen (OutClear a) (Clear (tracked_at past a)) (λ b k also. k out also) (tasks past) h) (tasks past) (all_clear (tasks past) apart) in
      closed_by (fib past) order closed
      (permuted (Fits (fib past)) chosen order same fits)
      (weaken (λ a. AllByRecursion (Clear a) chosen) (λ a. AllByRecursion (Clear a) order) order (λ a h. permuted (Clear a) chosen order same h) (permuted (λ a. AllByRecursion (Clear a) chosen) chosen order same clear))

pub in_flight_closed : (config : Config) → InFlightIsClosed config
unfolding tracked_tasks
in_flight_closed config past lawful done order same =
    let all = holds config past lawful in
    in_order_of past done order same all.closed all.ready
    (pairs_both (Waits past) (Waits past) (OutApart past) (tasks past) (λ a b w v. waits_apart past a b w) (in_turn config past lawful) (in_turn config past lawful))
