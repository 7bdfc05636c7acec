use Rattle.std.proofs.Common.{◌≡◌, take}
use Rattle.table_model.specs.Reply as reply
use Rattle.flush_get.proofs.selection.select.Given as goal

abbrev pub invariant-loop-n : goal.invariant-loop-n
invariant-loop-n l = l.rows.items ≡ reply.selected (take l.n l.store.entries) l.fib.entries l.which l.kinds
