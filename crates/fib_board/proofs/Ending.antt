-- The undone jobs and the results that are due where a job goes out or ends.
use Rattle.std.proofs.Common.{◌≡◌, ℕ, ℤ, ◌<◌, Bool, true, false, List, [], ◌∷◌, Option, Some, None, length, get_or, map, set, refl, ap, ◌∙◌}
use Rattle.std.specs.Prelude.{◌&&◌, ◌==◌, cond, slice_get, if◌then◌else◌}
use Rattle.std.specs.List.{remove}
use Rattle.std.proofs.lemmas.Option.{slice_get_read, get_or_from_slice_get}
use Rattle.table_model.specs.declared.job.JobNumber.{JobNumber}
use Rattle.aft_entries.specs.declared.entry.Entry.{Entry}
use Rattle.table_model.specs.Jobs.{TrackedTask, is_skipped, skip_reason}
use Rattle.fib_board.specs.BoardInvariant.{ascends}
use Rattle.fib_board.specs.Steps.{has_number, sent, without, results_with, given_for, undone_after_take, skipped_results}
use Rattle.fib_board.specs.declared.board.Given.TheVariants as given
use Rattle.fib_board.proofs.Ascending.{gone_out, ascends_map, ascends_filter, removed_is, sent_is}

sent_number : (number : JobNumber) (tracked : TrackedTask) → (sent number tracked).task.job.number ≡ tracked.task.job.number
sent_number number tracked = by_test (has_number number tracked)
  where
    by_test : (b : Bool) → (cond b (gone_out tracked) tracked).task.job.number ≡ tracked.task.job.number
    by_test true = refl
    by_test false = refl

module _ (undone : List TrackedTask) (at : ℕ) (tracked : TrackedTask) (is : tracked ≡ get_or undone at tracked) (ascending : ascends undone ≡ true) where
  pub same_tracked : (other : TrackedTask) → slice_get undone at ≡ Some other → tracked ≡ other
  same_tracked other there = is ∙ get_or_from_slice_get undone at other tracked there

  pub sent_out : (other : TrackedTask) → slice_get undone at ≡ Some other → set undone at (gone_out tracked) ≡ map (sent other.task.job.number) undone
  sent_out other there = ap (λ (s : TrackedTask). set undone at (gone_out s)) (same_tracked other there) ∙ sent_is undone at other ascending there

  module _ (within : at < length undone) where
    here : slice_get undone at ≡ Some tracked
    here = slice_get_read undone (length undone) at tracked refl within is

    pub sent_ascends : ascends (set undone at (gone_out tracked)) ≡ true
    sent_ascends = ap ascends (sent_out tracked here) ∙ ascends_map (sent tracked.task.job.number) (sent_number tracked.task.job.number) undone ∙ ascending

    pub removed_ascends : ascends (remove undone at) ≡ true
    removed_ascends = ap ascends (removed_is undone at tracked ascending here) ∙ ascends_filter _ undone ascending

  pub brought : (session id : ℕ) (owner : Option ℕ) (wants : Bool) (failed : Option ℕ) (now : ℤ) → id ≡ tracked.task.id → owner ≡ tracked.task.owner → wants ≡ tracked.task.wants
      → (other : TrackedTask) → slice_get undone at ≡ Some other
      → (if wants && elim owner [ None ↦ false | Some of ↦ of == session ] then record { id = id; failed = failed; now = now } ∷ [] else []) ≡ results_with session other.task failed now
  brought session id owner wants failed now its_id its_owner it_wants other there =
      rw (its_id, its_owner, it_wants) (ap (λ (s : TrackedTask). results_with session s.task failed now) (same_tracked other there))

-- what is taken goes out, or is passed over
module _ (table : List Entry) (found : Option TrackedTask) (tracked : TrackedTask) (is : found ≡ Some tracked) where
  module _ (skipped : is_skipped table tracked.task.job.work ≡ true) where
    pub passed_given : given_for table found ≡ given.Skipped tracked.task.job.number
    passed_given = rw (is, skipped) refl

    pub passed_undone : (undone : List TrackedTask) → undone_after_take table undone found ≡ without tracked.task.job.number undone
    passed_undone undone = rw (is, skipped) refl

    pub passed_due : (session : ℕ) (now : ℤ) → skipped_results session table now found ≡ results_with session tracked.task (Some (skip_reason tracked.task.job.work)) now
    passed_due session now = rw (is, skipped) refl

  module _ (able : is_skipped table tracked.task.job.work ≡ false) where
    pub out_given : given_for table found ≡ given.Work tracked.task.job
    out_given = rw (is, able) refl

    pub out_undone : (undone : List TrackedTask) → undone_after_take table undone found ≡ map (sent tracked.task.job.number) undone
    out_undone undone = rw (is, able) refl

    pub out_due : (session : ℕ) (now : ℤ) → skipped_results session table now found ≡ []
    out_due session now = rw (is, able) refl

pub some_if : (b : Bool) (x y : ℕ) → Some x ≡ (if b then Some y else None) → (b ≡ true) × (x ≡ y)
some_if true x y e = (refl, cc)
some_if false x y e = cc

pub none_if : (b : Bool) (y : ℕ) → None ≡ (if b then Some y else None) → b ≡ false
none_if true y e = cc
none_if false y e = refl
