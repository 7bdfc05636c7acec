-- Workers over devices in memory may cross threads.
use denote.Param.Send.{IsSend}
use Rattle.aft_entries.specs.contracts.mem_device.MemDevice as device
use Rattle.aft_entries.proofs.mem_device.MemDevice.TheSendSync as device_laws
use Rattle.rig_io.specs.contracts.clock.StepClock as clock
use Rattle.rig_io.proofs.clock.StepClock.TheSendSync as clock_laws
use Rattle.table_workers.specs.contracts.threads.Worker as worker
use Rattle.table_workers.proofs.Sends.{worker_send}

pub mem_worker : IsSend (worker.the_row device.the_row clock.the_row)
mem_worker = worker_send device.the_row clock.the_row device_laws.the_send clock_laws.the_send
