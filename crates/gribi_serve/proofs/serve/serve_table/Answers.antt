use denote.Param.Send.{sendable}
use Rattle.table_workers.proofs.Sends.{core_lock, worker_send}
use Rattle.gribi_serve.proofs.serve.serve_table.Goals as goal

pub join_mut-requires-send-F : goal.join_mut-requires-send-F
join_mut-requires-send-F g c κs within = search (sendable, core_lock, worker_send) depth 20
