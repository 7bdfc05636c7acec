use denote.Param.Send.{sendable}
use Rattle.table_workers.proofs.Sends.{core_lock, worker_send}
use Rattle.table_workers.proofs.threads.run_workers.Goals as goal

pub for_each_mut-requires-send-T : goal.for_each_mut-requires-send-T
for_each_mut-requires-send-T g c κs within = search (sendable, worker_send) depth 20

pub for_each_mut-requires-sync-F : goal.for_each_mut-requires-sync-F
for_each_mut-requires-sync-F g c κs within = search (sendable, core_lock) depth 20
