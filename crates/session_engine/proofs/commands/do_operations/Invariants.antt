use Rattle.std.proofs.Common.{map, length, pos}
use Rattle.call_answers.specs.Orders.{operation_at, orders_of}
use Rattle.table_model.specs.declared.command.Command.TheVariants.{Operate}
use Rattle.session_engine.proofs.CommandRuns.{SoFar}
use Rattle.session_engine.proofs.commands.do_operations.Given as goal

abbrev pub invariant-loop-piece : goal.invariant-loop-piece
invariant-loop-piece g l = SoFar g.M.Machine.lawful l.lock.setup l.setting l.fn.pass l.pass
    (map (λ operation. Operate l.fn.session operation (pos 0)) (orders_of l.setting l.request).operations)
    (map (λ operation. Operate l.fn.session operation (pos 0)) (map (operation_at l.setting) l.pieces))
    l.fn.out l.out

abbrev pub decreases-loop-piece : goal.decreases-loop-piece
decreases-loop-piece g l = length l.pieces
