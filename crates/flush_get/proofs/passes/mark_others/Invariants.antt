use Rattle.std.proofs.Common.{◌≡◌, ◌≤◌, map, take}
use Rattle.std.specs.Prelude.{not}
use Rattle.table_model.specs.Table as spec
use Rattle.flush_get.proofs.passes.mark_others.Given as goal

abbrev pub invariant-loop-n : goal.invariant-loop-n
invariant-loop-n l = (l.marks.items ≡ map (λ e. not (spec.names l.which e.key.instance)) (take l.n l.store.entries)) × (l.marks.len ≡ l.n) × (l.initial.marks.cap ≤ l.marks.cap)
