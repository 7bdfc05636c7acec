use denote.Param.Send.{sendable}
use Rattle.table_lock.proofs.SendSync.{lock_sync}
use Rattle.table_lock.proofs.send_sync.lock_is_sync.Goals as goal

pub shared-requires-sync-T : goal.shared-requires-sync-T
shared-requires-sync-T g c κs within = search (sendable, lock_sync)
