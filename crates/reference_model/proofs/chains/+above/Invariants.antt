use Rattle.std.proofs.Common.{◌≡◌, ◌≤◌, ◌-◌, ℕ, List, take}
use Rattle.aft_entries.specs.declared.entry.Entry.{Entry}
use Rattle.aft_entries.specs.declared.key.Key.{Key}
use Rattle.reference_model.proofs.Walks.{longest_of}
use Rattle.reference_model.proofs.chains.+above.Given as goal

abbrev pub decreases-above : goal.decreases-above
decreases-above l = l.most

-- the longest of the chains through the entries so far
pub record Longest (most longest : ℕ) (table seen : List Entry) (group : Key) : Type 0 where
  pub is : longest ≡ longest_of (most - 1) table group seen
  pub bound : longest ≤ most

abbrev pub invariant-loop-e : goal.invariant-loop-e
invariant-loop-e l = Longest l.most l.longest l.table (take l.e-index l.table) l.group
