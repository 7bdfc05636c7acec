-- What a core decides by what it keeps, and what it is after an operation that is done.
use Rattle.std.specs.Prelude.{◌≡◌, is_some, ℕ, Bool, true, false, not, ◌&&◌, ◌==◌, nat_le, Option, Some, None, if◌then◌else◌}
use Rattle.aft_entries.specs.declared.operation.Reason.{Reason}
use Rattle.aft_entries.specs.declared.operation.Reason.TheVariants.{NotPrimary, ElectionIdDiffers}
use Rattle.table_model.specs.declared.command.FlushBy.{FlushBy}
use Rattle.table_model.specs.declared.command.FlushBy.TheVariants.{Id, Override}
use Rattle.table_model.specs.declared.command.Operation.{Operation}
use Rattle.table_model.specs.Jobs.{TrackedTask, is_clear, is_skipped}
use Rattle.table_model.specs.Rib.{is_same_id}
use Rattle.table_model.specs.Table.{refusal}
use Rattle.table_model.specs.declared.reply.Reply.{Reply}
use Rattle.table_model.specs.declared.reply.Reply.TheVariants as reply
use Rattle.table_model.specs.Election.{is_it}
use Rattle.table_model.specs.Sessions.{deletes, wants_results}
use Rattle.session_params.specs.Rows.{is_entered, params_in}
use Rattle.fib_board.specs.declared.board.Given.{Given}
use Rattle.fib_board.specs.declared.board.Given.TheVariants as given
use Rattle.rib_core.specs.declared.tables.Origin.{Origin}
use Rattle.rib_core.specs.Core.{Core}
use Rattle.rib_core.specs.Tables.{IsAskDone}

-- the session is the primary, and the whole table goes with it
abbrev pub purges_in : Core → ℕ → Bool
purges_in core session = is_it core.election_state.primary session && deletes (params_in session core.session_records)

-- why the operation fails, by what the core keeps
abbrev pub verdict_in : Core → ℕ → Operation → Option Reason
verdict_in core session operation =
    if not (is_it core.election_state.primary session) then Some NotPrimary
    else if not (is_same_id operation.election core.election_state.highest) then Some ElectionIdDiffers
    else refusal core.config.instances core.config.limit core.table.entries operation.ask

abbrev pub failed : Option Reason → Option Reply
failed None = None
failed (Some reason) = Some (reply.RibFailed reason)

-- the reply to an operation that isn't done, where no Halt stands
abbrev pub refuse_running_in : Core → ℕ → Operation → Option Reply
refuse_running_in core session operation =
    if not (is_entered session core.session_records) then Some reply.Gone
    else if not (is_some (params_in session core.session_records)) then Some reply.NoParams
    else failed (verdict_in core session operation)

abbrev pub refuse_in : Core → ℕ → Operation → Option Reply
refuse_in core session operation = if core.halted then Some reply.Stopped else refuse_running_in core session operation

-- whose the job of an operation is
abbrev pub origin_in : Core → ℕ → Operation → Origin
origin_in core session operation = record { session = session; id = operation.id; wants = wants_results (params_in session core.session_records) }

-- the core after an operation that is done
pub record Accepts (old : Core) (session : ℕ) (operation : Operation) (new : Core) : Type 0 where
  pub config : new.config ≡ old.config
  pub performs : IsAskDone (origin_in old session operation) operation.ask old.table.entries old.board old.count new.table.entries new.board new.count
  pub election_state : new.election_state ≡ old.election_state
  pub session_records : new.session_records ≡ old.session_records
  pub halted : new.halted ≡ old.halted

-- the answer to a worker that has no job that it may do now
abbrev pub idle_in : Core → ℕ → Reply
idle_in core worker = if core.halted && is_clear core.board.workers core.board.undone worker then reply.HaltSeen else reply.Idle

-- the answer to a worker, by its next job
abbrev pub take_in : Core → ℕ → Option TrackedTask → Reply
take_in core worker None = idle_in core worker
take_in core worker (Some tracked) =
    if is_skipped core.board.fib tracked.task.job.work then reply.Skipped tracked.task.job.number else reply.Given tracked.task.job

abbrev pub reply_by_given : Core → ℕ → Given → Reply
reply_by_given core worker (given.Work job) = reply.Given job
reply_by_given core worker (given.Skipped number) = reply.Skipped number
reply_by_given core worker given.Idle = idle_in core worker

-- the answer to a report, by whether its job was out
abbrev pub report_in : Bool → Reply
report_in true = reply.Reported
report_in false = reply.NotOut

abbrev pub may_flush_in : Core → FlushBy → Bool
may_flush_in core Override = true
may_flush_in core (Id id) = not (id == 0) && nat_le core.election_state.highest id
