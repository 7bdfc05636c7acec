use denote.Param.Send.{sendable}
use Rattle.std.proofs.sync.atomic.AtomicU64.TheSendSync as atomic
use Rattle.lock_counter.proofs.SendSync.{counter_pass, counter_lock}
use Rattle.lock_counter.proofs.tests.meet_in_two.Goals as goal

pub join-a-requires-send-F : goal.join-a-requires-send-F
join-a-requires-send-F g c κs within = search (sendable, counter_pass, counter_lock, atomic.the_sync) depth 12

pub join-a-requires-send-A : goal.join-a-requires-send-A
join-a-requires-send-A g c κs within = search (sendable, counter_pass) depth 10
