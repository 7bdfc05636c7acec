use denote.Param.Send.{sendable}
use Rattle.table_workers.proofs.Sends.{core_lock}
use Rattle.worker_tests.proofs.Sends.{mem_worker}
use Rattle.worker_tests.proofs.threads.run_beside.Goals as goal

pub join_mut-requires-send-F : goal.join_mut-requires-send-F
join_mut-requires-send-F g c κs within = search (sendable, core_lock, mem_worker) depth 20
