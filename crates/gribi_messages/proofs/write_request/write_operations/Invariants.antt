use Rattle.std.proofs.Common.{◌≡◌, ◌++◌, take}
use Rattle.std.specs.List.{flat_map}
use Rattle.gribi_messages.specs.RequestEncoding.{operation_field}
use Rattle.gribi_messages.proofs.write_request.write_operations.Given as goal

abbrev pub invariant-loop-o : goal.invariant-loop-o
invariant-loop-o l = l.out.items ≡ l.fn.out.items ++ flat_map (operation_field l.n) (take l.o-index l.operations)
