use denote.Param.Send.{sendable}
use Rattle.std.proofs.sync.atomic.AtomicU64.TheSendSync as atomic
use Rattle.lock_counter.proofs.SendSync.{counter_lock}
use Rattle.lock_counter.proofs.tests.rest_until_rung.Goals as goal

pub join-rang-requires-send-F : goal.join-rang-requires-send-F
join-rang-requires-send-F g c κs within = search (sendable, counter_lock, atomic.the_sync) depth 12
