use denote.Param.Send.{sendable}
use Rattle.table_lock.proofs.SendSync.{note_send}
use Rattle.table_lock.proofs.send_sync.note_is_send.Goals as goal

pub sent-requires-send-T : goal.sent-requires-send-T
sent-requires-send-T g c κs within = search (sendable, note_send)
