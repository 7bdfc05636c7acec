use denote.Param.Send.{sendable}
use Rattle.table_lock.proofs.SendSync.{pass_send}
use Rattle.table_lock.proofs.send_sync.pass_is_send.Goals as goal

pub sent-requires-send-T : goal.sent-requires-send-T
sent-requires-send-T g c κs within = search (sendable, pass_send)
