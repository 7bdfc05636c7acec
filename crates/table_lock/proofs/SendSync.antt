-- A pass, a note and a lock may cross threads where the machine may.
use denote.RattleType.{RattleType}
use denote.Struct.Declared.{shape}
use denote.Param.Send.{IsSend, IsSync, view_send, view_sync, recorded_send, recorded_sync, struct_send, struct_sync, plain_sync}
use Rattle.std.proofs.option.Option.TheSendSync as option_laws
use Rattle.std.proofs.alloc.Global.TheSendSync as global_laws
use Rattle.std.below.std_heap.proofs.GlobalAllocator.TheSendSync as heap_laws
use Rattle.atomic_table.proofs.shared.Shared.TheSendSync as shared_laws
use Rattle.atomic_table.proofs.send_lease.SendLease.TheSendSync as lease_laws
use Rattle.atomic_table.proofs.shared.Seat.TheSendSync as seat_laws
use Rattle.table_lock.proofs.doorbell.Doorbell.TheSendSync as doorbell_laws
use Rattle.std.specs.contracts.option.Option as option
use Rattle.std.specs.contracts.snapshot.Snapshot as snapshot
use Rattle.std.specs.contracts.alloc.Global as global
use Rattle.std.specs.contracts.impls.GlobalAllocator.TheImpl as heap
use Rattle.atomic_table.specs.contracts.owned.Table as table
use Rattle.table_lock.specs.contracts.transitions.LockRule as ruled
use Rattle.table_lock.specs.contracts.transitions.LockRuleTableRuleOptionSlotCommandReplyViewCommandReplySetupSnapshot.TheImpl as rule
use Rattle.table_lock.specs.declared.machine.Machine.{Ghosts}
use Rattle.table_lock.specs.contracts.view.View as view
use Rattle.table_lock.specs.contracts.view.Slot as slot_content
use Rattle.table_lock.specs.contracts.view.LastCall as last
use Rattle.table_lock.specs.contracts.lock.Pass as pass
use Rattle.table_lock.specs.contracts.lock.Pass.TheInside as pass_inside
use Rattle.table_lock.specs.contracts.lock.Note as note
use Rattle.table_lock.specs.contracts.lock.Note.TheInside as note_inside
use Rattle.table_lock.specs.contracts.lock.TableLock as lock
use Rattle.table_lock.specs.contracts.lock.TableLock.TheInside as lock_inside

snapshot_send : (Y : RattleType) → IsSend (snapshot.the_row Y)
snapshot_send Y = record { owned = λ d vs. ((λ vss. (tt, ((λ uss. (tt, tt)), tt))), tt); leaving = λ k f vs. tt }

last_send : (C R : RattleType) → IsSend (last.the_row C R)
last_send C R = recorded_send (last.the_field C R).row _ _ (last.the_type C R).to_one (struct_send (shape (last.the_type C R)) (snapshot_send C, (snapshot_send R, tt)))

pub slot_send : (M C R : RattleType) → IsSend M → IsSend (slot_content.the_row M C R)
slot_send M C R s = recorded_send (slot_content.the_field M C R).row _ _ (slot_content.the_type M C R).to_one (struct_send (shape (slot_content.the_type M C R)) (s, (option_laws.the_field_send (last.the_row C R) (last_send C R), tt)))

seat_send : (M C R G : RattleType) → IsSend M → IsSend (Rattle.atomic_table.specs.contracts.shared.Seat.the_row (option.the_row (slot_content.the_row M C R)) (view.the_row C R G))
seat_send M C R G s = seat_laws.the_send (option.the_row (slot_content.the_row M C R)) (view.the_row C R G) (option_laws.the_send (slot_content.the_row M C R) (slot_send M C R s))

pub pass_send : (M C R G : RattleType) (g : Ghosts M.Denot C.Denot R.Denot G.Denot) → IsSend M → IsSend (pass.the_row M C R G g)
pass_send M C R G g s = view_send (pass_inside.the_row M C R G g) _ _ _ _
    (recorded_send (pass_inside.the_field M C R G g).row _ _ (pass_inside.the_type M C R G g).to_one (struct_send (shape (pass_inside.the_type M C R G g)) (seat_send M C R G s, tt)))

pub note_send : (M C R G : RattleType) (g : Ghosts M.Denot C.Denot R.Denot G.Denot) → IsSend M → IsSend (note.the_row M C R G g)
note_send M C R G g s = view_send (note_inside.the_row M C R G g) _ _ _ _
    (recorded_send (note_inside.the_field M C R G g).row _ _ (note_inside.the_type M C R G g).to_one (struct_send (shape (note_inside.the_type M C R G g)) (seat_send M C R G s, tt)))

pub lock_sync : (M C R G : RattleType) (g : Ghosts M.Denot C.Denot R.Denot G.Denot) → IsSend M → IsSync (lock.the_row M C R G g)
lock_sync M C R G g s = view_sync (lock_inside.the_row M C R G g) _ _ _ _
    (recorded_sync (lock_inside.the_field M C R G g).row _ _ (lock_inside.the_type M C R G g).to_one (struct_sync (shape (lock_inside.the_type M C R G g)) (
      struct_sync (shape (table.the_type (option.the_row (slot_content.the_row M C R)) (view.the_row C R G) (snapshot.the_row M) (ruled.the_row M) global.the_row (rule.ghosts M C R G g rule.no_dict rule.no_dict rule.no_dict rule.no_dict) heap.ghosts)) (
        shared_laws.the_sync (option.the_row (slot_content.the_row M C R)) (view.the_row C R G) (snapshot.the_row M) (ruled.the_row M) (rule.ghosts M C R G g rule.no_dict rule.no_dict rule.no_dict rule.no_dict)
            (option_laws.the_send (slot_content.the_row M C R) (slot_send M C R s)),
        (
          plain_sync _ _ _ _ _,
          (
            plain_sync _ _ _ _ _,
            (lease_laws.the_sync _ _ _ global_laws.the_send heap_laws.the_frees, (lease_laws.the_sync _ _ _ global_laws.the_send heap_laws.the_frees, (global_laws.the_sync, tt))),
          ),
        ),
      ),
      (doorbell_laws.the_field_sync, tt),
    )))
