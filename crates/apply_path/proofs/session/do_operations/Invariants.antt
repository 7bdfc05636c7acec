use Rattle.std.proofs.Common.{map, pos, length}
use Rattle.call_answers.specs.Orders.{operation_at, orders_of}
use Rattle.table_model.specs.declared.command.Command.TheVariants.{Operate}
use Rattle.apply_path.proofs.Steps.{DoneSoFar}
use Rattle.apply_path.proofs.session.do_operations.Given as goal

abbrev pub invariant-loop-piece : goal.invariant-loop-piece
invariant-loop-piece l = DoneSoFar l.setting.numbering l.fn.core l.core
    (map (λ operation. Operate 0 operation (pos l.fn.number)) (orders_of l.setting l.request).operations)
    (map (λ operation. Operate 0 operation (pos l.fn.number)) (map (operation_at l.setting) l.pieces))
    l.fn.writer.out.items l.writer.out.items

abbrev pub decreases-loop-piece : goal.decreases-loop-piece
decreases-loop-piece l = length l.pieces
