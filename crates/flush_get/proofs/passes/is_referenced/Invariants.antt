use Rattle.std.proofs.Common.{◌≡◌, Bool, false, map, take}
use Rattle.aft_entries.specs.declared.entry.Entry.{Entry}
use Rattle.flush_get.specs.Marking as marking
use Rattle.flush_get.proofs.passes.is_referenced.Given as goal

-- no marked entry so far
abbrev pub invariant-loop-n : goal.invariant-loop-n
invariant-loop-n l = (marked : Entry → Bool) → l.marks ≡ map marked l.store.entries → marking.is_referenced marked (take l.n l.store.entries) l.key ≡ false
