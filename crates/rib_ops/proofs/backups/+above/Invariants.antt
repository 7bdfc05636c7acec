use Rattle.rib_ops.proofs.Chains.{IsLongest}
use Rattle.rib_ops.proofs.backups.+above.Given as goal

abbrev pub decreases-above : goal.decreases-above
decreases-above l = l.most

-- the longest through the entries so far
abbrev pub invariant-entries : goal.invariant-entries
invariant-entries l = IsLongest l.store.entries l.group l.most l.longest l.n
