use Rattle.std.proofs.Common.{◌≤◌, ◌+◌, ◌≡◌}
use Rattle.aft_store.proofs.Parted.{IsParted}
use Rattle.aft_store.proofs.parting.move_marked.Given as goal

-- so many boxes are parted
abbrev pub invariant-boxes : goal.invariant-boxes
invariant-boxes l =
    IsParted l.marks l.initial.gone.items l.gone.items l.entries.items l.n × (l.entries.len ≤ l.n) × (l.entries.len + l.gone.len ≡ l.initial.gone.len)
    × (l.initial.entries.cap ≤ l.entries.cap) × (l.initial.gone.cap ≤ l.gone.cap)
