-- Steps along lists of jobs.
use Rattle.std.proofs.Common.{◌≡◌, ◌+◌, ℕ, List, ◌∷◌, Some, None, false, refl, add-one}
use Rattle.std.proofs.Math.Nat.{mod-zero}
use Rattle.aft_entries.specs.Order.{shard_of, name_number, name_length, kind_place}
use Rattle.aft_entries.specs.declared.key.Key.{Key}
use Rattle.aft_entries.specs.declared.entry.Entry.{Entry}
use Rattle.table_model.specs.Jobs.{Task, TrackedTask, JobUpdate, is_undone, number_eq, outcome_of, purge_tasks, purge_task}
use Rattle.table_model.specs.Event.{Event}
use Rattle.table_model.specs.Results.{result_by, wanted_by, failure}
use Rattle.std.specs.Prelude.{find, if◌then◌else◌}

pub next_purge : (position index : ℕ) (entry : Entry) (rest : List Entry) → purge_tasks position index (entry ∷ rest) ≡ purge_task position index entry ∷ purge_tasks position (index + 1) rest
next_purge position index entry rest = rw add-one refl

abbrev pub tracked_of : List Event → Task → TrackedTask
tracked_of past task = record { task = task; outcome = outcome_of past task.job.number }

-- a remainder by nothing is the number itself
pub without_workers : (key : Key) → shard_of key 0 ≡ name_number key.name + name_length key.name + key.instance + kind_place key.name
unfolding shard_of
without_workers key = rw (mod-zero, mod-zero) refl

-- the result of a job that is done
pub result_at : (session : ℕ) (made : List Task) (turn : JobUpdate) (task : Task) → is_undone turn.outcome ≡ false → find (λ other. number_eq turn.number other.job.number) made ≡ Some task
    → result_by session made (Some turn) ≡ (if wanted_by session task then Some (record { id = task.id; failed = failure task turn.outcome; now = turn.now }) else None)
result_at session made turn task undone found = rw (undone, found) refl
