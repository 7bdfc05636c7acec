use Rattle.std.proofs.Common.{◌≡◌, ◌++◌, map, length}
use Rattle.gribi_messages.specs.Request.{operation_of, operations_of}
use Rattle.gribi_messages.proofs.decode.operations_of.Given as goal

abbrev pub invariant-loop-piece : goal.invariant-loop-piece
invariant-loop-piece l = l.all ++ map (operation_of l.n) l.pieces ≡ operations_of l.n l.bytes

abbrev pub decreases-loop-piece : goal.decreases-loop-piece
decreases-loop-piece l = length l.pieces
