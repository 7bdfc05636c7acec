use Rattle.std.proofs.Common.{◌≡◌, map}
use Rattle.call_answers.specs.Orders as said
use Rattle.call_answers.proofs.orders.operations_of.Given as goal

abbrev pub invariant-loop-operation : goal.invariant-loop-operation
invariant-loop-operation l = l.items.items ≡ map (said.operation_of l.fn.instances) l.yielded
