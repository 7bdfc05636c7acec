use Rattle.std.proofs.Common.{List, length}
use Rattle.table_model.specs.BoardState.{due_for}
use Rattle.table_model.specs.declared.command.Config.{Config}
use Rattle.table_model.specs.Event.{Event}
use Rattle.inline_worker.specs.CoreAt.{CoreAt}
use Rattle.apply_path.specs.SessionAt.{Collects}
use Rattle.apply_path.proofs.Collects.{CollectsSoFar}
use Rattle.apply_path.proofs.step.collect_all.Given as goal

abbrev pub invariant-loop-code : goal.invariant-loop-code
invariant-loop-code l =
    (config : Config) (past : List Event) → CoreAt config l.fn.core past → Collects config past → CollectsSoFar l.n config past l.core l.fn.writer.out.items l.writer.out.items

abbrev pub decreases-loop-code : goal.decreases-loop-code
decreases-loop-code l = length (due_for l.core.board.due 0)
