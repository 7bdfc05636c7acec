use Rattle.std.proofs.Common.{◌≡◌, map, take, drop, ◌++◌}
use Rattle.fib_board.specs.Steps.{unwanted}
use Rattle.fib_board.proofs.jobs.drop_owner_each.Given as goal

-- those so far are disowned
abbrev pub invariant-loop-pending_job : goal.invariant-loop-pending_job
invariant-loop-pending_job l = l.jobs ≡ map (unwanted l.session) (take l.pending_job-index l.initial.jobs) ++ drop l.pending_job-index l.initial.jobs
