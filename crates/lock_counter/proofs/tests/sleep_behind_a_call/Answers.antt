use denote.Param.Send.{IsSend, IsSync, sendable}
use Rattle.std.proofs.sync.atomic.AtomicU64.TheSendSync as atomic
use denote.Struct.Field.{u64-field}
use Rattle.table_lock.specs.contracts.lock.Pass as pass
use Rattle.table_lock.specs.contracts.lock.TableLock as lock
use Rattle.table_lock.proofs.SendSync.{pass_send, lock_sync}
use Rattle.lock_counter.specs.contracts.tests.Holder as holder
use Rattle.lock_counter.specs.contracts.tests.HolderMachine.TheImpl as machine
use Rattle.lock_counter.proofs.tests.Holder.TheSendSync as holder_laws
use Rattle.lock_counter.proofs.tests.sleep_behind_a_call.Goals as goal

holder_pass : IsSend (pass.the_row holder.the_row u64-field.row u64-field.row u64-field.row machine.ghosts)
holder_pass = pass_send holder.the_row u64-field.row u64-field.row u64-field.row machine.ghosts holder_laws.the_send

holder_lock : IsSync (lock.the_row holder.the_row u64-field.row u64-field.row u64-field.row machine.ghosts)
holder_lock = lock_sync holder.the_row u64-field.row u64-field.row u64-field.row machine.ghosts holder_laws.the_send

pub join-a-requires-send-F : goal.join-a-requires-send-F
join-a-requires-send-F g c κs within = search (sendable, holder_pass, holder_lock, atomic.the_sync) depth 12

pub join-a-requires-send-A : goal.join-a-requires-send-A
join-a-requires-send-A g c κs within = search (sendable, holder_pass) depth 10
