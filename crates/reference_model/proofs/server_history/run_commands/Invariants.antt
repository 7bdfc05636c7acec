use Rattle.std.proofs.Common.{◌≡◌, []}
use Rattle.std.specs.List.{fold}
use Rattle.table_model.specs.ServerHistory.{answered}
use Rattle.reference_model.proofs.server_history.run_commands.Given as goal

-- the history of the commands so far
abbrev pub invariant-loop-command : goal.invariant-loop-command
invariant-loop-command l = l.events.items ≡ fold (answered l.config) [] l.yielded
