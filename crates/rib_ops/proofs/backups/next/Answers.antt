use Rattle.rib_ops.proofs.Chains.{next_found}
use Rattle.rib_ops.proofs.backups.next.Goals as goal

pub returns-in-Some : goal.returns-in-Some
returns-in-Some c = next_found _ _ _ _ c.in-Some.ensures c.payload_backup.ensures
