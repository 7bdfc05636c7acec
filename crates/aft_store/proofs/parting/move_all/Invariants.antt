use Rattle.std.proofs.Common.{◌≡◌, ◌≤◌, ◌+◌, ◌++◌}
use Rattle.aft_store.proofs.parting.move_all.Given as goal

abbrev pub invariant-boxes : goal.invariant-boxes
invariant-boxes l =
    (l.entries.items ++ l.gone.items ≡ l.initial.entries.items) × (l.entries.len + l.gone.len ≡ l.initial.entries.len)
    × (l.entries.cap ≡ l.initial.entries.cap) × (l.initial.gone.cap ≤ l.gone.cap)

abbrev pub decreases-boxes : goal.decreases-boxes
decreases-boxes l = l.entries.len
