-- Threads share a counter's lock, and passes may be sent.
use denote.Param.Send.{IsSend, IsSync}
use denote.Struct.Field.{u64-field}
use Rattle.table_lock.specs.contracts.lock.Pass as pass
use Rattle.table_lock.specs.contracts.lock.TableLock as lock
use Rattle.table_lock.proofs.SendSync.{pass_send, lock_sync}
use Rattle.lock_counter.specs.contracts.counter.Counter as counter
use Rattle.lock_counter.specs.contracts.counter.CounterMachine.TheImpl as machine
use Rattle.lock_counter.proofs.counter.Counter.TheSendSync as counter_laws

pub counter_pass : IsSend (pass.the_row counter.the_row u64-field.row u64-field.row u64-field.row machine.ghosts)
counter_pass = pass_send counter.the_row u64-field.row u64-field.row u64-field.row machine.ghosts counter_laws.the_send

pub counter_lock : IsSync (lock.the_row counter.the_row u64-field.row u64-field.row u64-field.row machine.ghosts)
counter_lock = lock_sync counter.the_row u64-field.row u64-field.row u64-field.row machine.ghosts counter_laws.the_send
