-- What workers share and carry may cross threads.
use denote.RattleType.{RattleType}
use denote.Struct.Declared.{shape}
use denote.Param.Send.{IsSend, IsSync, recorded_send, struct_send, sendable}
use Rattle.table_lock.specs.contracts.lock.Pass as pass
use Rattle.table_lock.specs.contracts.lock.TableLock as lock
use Rattle.table_lock.proofs.SendSync.{pass_send, lock_sync}
use Rattle.table_model.specs.contracts.command.Command as command
use Rattle.table_model.specs.contracts.command.Config as config
use Rattle.table_model.specs.contracts.reply.Reply as reply
use Rattle.rib_core.specs.contracts.machine.RibCore as core
use Rattle.rib_core.specs.contracts.locked.RibCoreMachine.TheImpl as machine
use Rattle.rib_core.proofs.machine.RibCore.TheSendSync as core_laws
use Rattle.table_workers.specs.contracts.threads.Worker as worker

pub core_pass : IsSend (pass.the_row core.the_row command.the_row reply.the_row config.the_row machine.ghosts)
core_pass = pass_send core.the_row command.the_row reply.the_row config.the_row machine.ghosts core_laws.the_send

pub core_lock : IsSync (lock.the_row core.the_row command.the_row reply.the_row config.the_row machine.ghosts)
core_lock = lock_sync core.the_row command.the_row reply.the_row config.the_row machine.ghosts core_laws.the_send

pub worker_send : (D C : RattleType) → IsSend D → IsSend C → IsSend (worker.the_row D C)
worker_send D C sd sc = recorded_send (worker.the_field D C).row _ _ (worker.the_type D C).to_one (struct_send (shape (worker.the_type D C)) (search sendable, (core_pass, (sd, (sc, (search sendable, tt))))))
