use Rattle.rib_ops.proofs.backups.+is_in_chain.Given as goal

abbrev pub decreases-is_in_chain : goal.decreases-is_in_chain
decreases-is_in_chain l = l.most
