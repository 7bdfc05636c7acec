use Rattle.std.proofs.Common.{◌≡◌, false, take}
use Rattle.std.specs.List.{list_any}
use Rattle.aft_entries.specs.References.{refers}
use Rattle.aft_store.proofs.scan.is_referred.Given as goal

-- none so far
abbrev pub invariant-loop-n : goal.invariant-loop-n
invariant-loop-n l = list_any (λ e. refers e l.key) (take l.n l.store.entries) ≡ false
