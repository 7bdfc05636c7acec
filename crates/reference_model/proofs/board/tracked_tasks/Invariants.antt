use Rattle.std.proofs.Common.{◌≡◌, map}
use Rattle.table_model.specs.Jobs.{Task}
use Rattle.reference_model.proofs.Steps.{tracked_of}
use Rattle.reference_model.proofs.board.tracked_tasks.Given as goal

-- a slot for each job so far
abbrev pub invariant-loop-task : goal.invariant-loop-task
invariant-loop-task l = l.board.items ≡ map (λ (task : Task). tracked_of l.past task) l.yielded
