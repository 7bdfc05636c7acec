-- What a core stands for after what workers ask and say, what sessions collect, and a Halt.
use Rattle.std.proofs.Common.{◌≡◌, ℕ, ◌+◌, Bool, true, false, List, [], ◌∷◌, length, take, drop, Some, None, Option, refl, sym, ap, ◌∙◌, arith}
use Rattle.std.specs.Prelude.{cond, ℤ, ◌&&◌, option_map, nat_eq, count_by}
use Rattle.std.specs.List.{list_any}
use Rattle.std.proofs.lemmas.Bool.Decides.{nat_tests}
use Rattle.table_model.specs.declared.command.Command.{Command}
use Rattle.table_model.specs.declared.command.Command.TheVariants.{Collect, Take, Report, Halt}
use Rattle.table_model.specs.declared.command.Config.{Config}
use Rattle.table_model.specs.declared.job.JobNumber.{JobNumber}
use Rattle.table_model.specs.declared.job.Verdict.{Verdict}
use Rattle.table_model.specs.declared.reply.Reply.{Reply}
use Rattle.table_model.specs.declared.reply.Reply.TheVariants as reply
use Rattle.table_model.specs.declared.results.FibResult.{FibResult}
use Rattle.table_model.specs.BoardState as board
use Rattle.table_model.specs.BoardState.{BoardState, as_wanted, due_for}
use Rattle.table_model.specs.Election.{announcements, primary}
use Rattle.table_model.specs.Event.{Event, events}
use Rattle.table_model.specs.Jobs.{TrackedTask, tracked_tasks, next_task, is_clear, is_skipped, is_out, outcome_of}
use Rattle.table_model.specs.Legal.{is_well_formed}
use Rattle.table_model.specs.Reply.{reply_to, reply_take, take_reply, is_halted}
use Rattle.table_model.specs.Results.{is_awaited, batch, outstanding}
use Rattle.table_model.specs.Rib.{rib}
use Rattle.table_model.specs.Sessions.{live, params_of}
use Rattle.table_model.proofs.Inert.{IsInert}
use Rattle.table_laws.specs.Boards.{BoardAnswersAsHistory, AnswersAsHistory}
use Rattle.aft_store.specs.StoreState.{StoreState}
use Rattle.fib_board.specs.Follows.{AfterTake, AfterReport, AfterCollect}
use Rattle.fib_board.specs.Steps.{is_out_as, given_for, undone_after_take}
use Rattle.fib_board.specs.declared.board.Given.{Given}
use Rattle.fib_board.specs.declared.board.Given.TheVariants as given
use Rattle.fib_board.proofs.Following.{takes_follow, reports_follow, collects_follow}
use Rattle.session_params.specs.Book.{session_records_of}
use Rattle.session_params.specs.Rows.{is_entered}
use Rattle.session_params.proofs.Going.{inert_session_records}
use Rattle.rib_core.specs.Core.{Core}
use Rattle.rib_core.specs.Decisions.{idle_in, take_in, reply_by_given, report_in}
use Rattle.rib_core.specs.Stands.{StandsFor, with}
use Rattle.rib_core.proofs.Replies.{reply_live, reply_free}
use Rattle.rib_core.proofs.Steps.{Counts, OneMore, event, one_more, lawful, goes, live_by, running_by, board_stays, inert_on}

itself : (n : ℕ) → nat_eq n n ≡ true
itself n = grind (arith, nat_tests)

-- the answers to workers change no session, no election and no table
idle_inert : (b : Bool) → IsInert (cond b reply.HaltSeen reply.Idle)
idle_inert true = record { began = refl; params_set = refl; announced = refl; done = refl; left = refl; flushed = refl; halt_done = refl; no_memory = refl }
idle_inert false = record { began = refl; params_set = refl; announced = refl; done = refl; left = refl; flushed = refl; halt_done = refl; no_memory = refl }

given_inert : (b : Bool) (tracked : TrackedTask) → IsInert (cond b (reply.Skipped tracked.task.job.number) (reply.Given tracked.task.job))
given_inert true tracked = record { began = refl; params_set = refl; announced = refl; done = refl; left = refl; flushed = refl; halt_done = refl; no_memory = refl }
given_inert false tracked = record { began = refl; params_set = refl; announced = refl; done = refl; left = refl; flushed = refl; halt_done = refl; no_memory = refl }

take_inert : (core : Core) (worker : ℕ) (o : Option TrackedTask) → IsInert (take_in core worker o)
take_inert core worker None = idle_inert (core.halted && is_clear core.board.workers core.board.undone worker)
take_inert core worker (Some tracked) = given_inert (is_skipped core.board.fib tracked.task.job.work) tracked

report_inert : (b : Bool) → IsInert (report_in b)
report_inert true = record { began = refl; params_set = refl; announced = refl; done = refl; left = refl; flushed = refl; halt_done = refl; no_memory = refl }
report_inert false = record { began = refl; params_set = refl; announced = refl; done = refl; left = refl; flushed = refl; halt_done = refl; no_memory = refl }

report_is : (b : Bool) → report_in b ≡ cond b reply.Reported reply.NotOut
report_is true = refl
report_is false = refl

-- what is as before beside the board and the count
pub record BesideBoard (old new : Core) : Type 0 where
  pub config : new.config ≡ old.config
  pub table : new.table ≡ old.table
  pub elected : new.election_state ≡ old.election_state
  pub records : new.session_records ≡ old.session_records
  pub count : new.count ≡ old.count + 1
  pub halted : new.halted ≡ old.halted

module _ (core : Core) (recorded : List Event) (stands : StandsFor core recorded) (law : (config : Config) → BoardAnswersAsHistory config) (new : Core) (beside : BesideBoard core new) where
  answers : AnswersAsHistory core.config core.board (events recorded)
  answers = law core.config (events recorded) core.board stands.keeps.workers stands.keeps.board

  inert_goes : (command : Command) (r : Reply) → new.board.workers ≡ core.board.workers → (told : r ≡ reply_to core.config (events recorded) command) → IsInert r
      → is_well_formed command ≡ true
      → board.StandsFor new.board (event command r ∷ events recorded) → StandsFor new (with command r recorded)
  inert_goes command r workers told inert formed follows =
      inert_on core recorded stands new command r beside.config (ap (λ (t : StoreState). t.entries) beside.table) beside.count beside.elected beside.halted workers formed inert told follows
      (beside.records ∙ stands.keeps.session_records ∙ sym (inert_session_records command r (events recorded) inert))

  same_take : (worker : ℕ) (o : Option TrackedTask) → take_in core worker (option_map (as_wanted (events recorded)) o) ≡ take_reply core.config (events recorded) worker o
  unfolding as_wanted
  same_take worker None = rw (stands.keeps.halted, answers.clear worker) refl
  same_take worker (Some tracked) = rw stands.keeps.board.fib refl

  idle_same : (worker : ℕ) → new.board.workers ≡ core.board.workers → new.board.undone ≡ core.board.undone → idle_in new worker ≡ idle_in core worker
  idle_same worker same undone = rw (beside.halted, same, undone) refl

  given_same : (worker : ℕ) (b : Bool) (tracked : TrackedTask) → reply_by_given new worker (cond b (given.Skipped tracked.task.job.number) (given.Work tracked.task.job)) ≡ cond b (reply.Skipped tracked.task.job.number) (reply.Given tracked.task.job)
  given_same worker true tracked = refl
  given_same worker false tracked = refl

  by_given : (worker : ℕ) (o : Option TrackedTask) → new.board.workers ≡ core.board.workers → new.board.undone ≡ undone_after_take core.board.fib core.board.undone o
      → reply_by_given new worker (given_for core.board.fib o) ≡ take_in core worker o
  by_given worker None same undone = idle_same worker same undone
  by_given worker (Some tracked) same undone = given_same worker (is_skipped core.board.fib tracked.task.job.work) tracked

  pub takes : (worker : ℕ) (now : ℤ) → AfterTake worker now core.board new.board
      → StandsFor new (with (Take worker now) (take_in core worker (next_task core.board.workers core.board.undone worker)) recorded)
  unfolding reply_take
  takes worker now after =
      let told : take_in core worker (next_task core.board.workers core.board.undone worker) ≡ reply_to core.config (events recorded) (Take worker now)
      = ap (take_in core worker) (answers.next worker) ∙ same_take worker (next_task core.config.workers (tracked_tasks (events recorded)) worker) ∙ sym (reply_free core.config (events recorded) (Take worker now) refl refl) in
      inert_goes (Take worker now) (take_in core worker (next_task core.board.workers core.board.undone worker)) after.workers told
      (take_inert core worker (next_task core.board.workers core.board.undone worker)) refl
      (takes_follow core.config (law core.config) (events recorded) core.board new.board worker now (take_in core worker (next_task core.board.workers core.board.undone worker)) (told, lawful core recorded stands, refl) stands.keeps.workers stands.keeps.board after)

  pub takes_given : (worker : ℕ) (now : ℤ) (found : Given) → found ≡ given_for core.board.fib (next_task core.board.workers core.board.undone worker) → AfterTake worker now core.board new.board
      → StandsFor new (with (Take worker now) (reply_by_given new worker found) recorded)
  takes_given worker now found is after =
      rw (is, by_given worker (next_task core.board.workers core.board.undone worker) after.workers after.undone) (takes worker now after)

  pub reports : (number : JobNumber) (said : Verdict) (now : ℤ) → AfterReport number said now core.board new.board
      → StandsFor new (with (Report number said now) (report_in (list_any (is_out_as number) core.board.undone)) recorded)
  reports number said now after =
      let told : report_in (list_any (is_out_as number) core.board.undone) ≡ reply_to core.config (events recorded) (Report number said now)
      = report_is (list_any (is_out_as number) core.board.undone) ∙ ap (λ b. cond b reply.Reported reply.NotOut) (answers.out number (lawful core recorded stands)) ∙ sym (reply_free core.config (events recorded) (Report number said now) refl refl) in
      inert_goes (Report number said now) (report_in (list_any (is_out_as number) core.board.undone)) after.workers told
      (report_inert (list_any (is_out_as number) core.board.undone)) refl
      (reports_follow core.config (law core.config) (events recorded) core.board new.board number said now (report_in (list_any (is_out_as number) core.board.undone)) (told, lawful core recorded stands, refl) stands.keeps.board after)

  pub collects : (session : ℕ) → core.halted ≡ false → is_entered session core.session_records ≡ true → AfterCollect session core.board new.board
      → StandsFor new (with (Collect session) (reply.Collected (take 256 (due_for core.board.due session)) (count_by (is_awaited session) new.board.undone + length (due_for new.board.due session))) recorded)
  collects session running here after =
      let alive = live_by core recorded stands session true here in
      let left : count_by (is_awaited session) new.board.undone + length (due_for new.board.due session) ≡ outstanding (events recorded) session
      = rw (after.undone, after.due session, itself session) (answers.left session alive) in
      let told : reply.Collected (take 256 (due_for core.board.due session)) (count_by (is_awaited session) new.board.undone + length (due_for new.board.due session)) ≡ reply_to core.config (events recorded) (Collect session)
      = rw (left, answers.given session alive) (sym (reply_live core.config (events recorded) (Collect session) (running_by core recorded stands running) session refl alive)) in
      inert_goes (Collect session) (reply.Collected (take 256 (due_for core.board.due session)) (count_by (is_awaited session) new.board.undone + length (due_for new.board.due session))) after.workers told
      (record { began = refl; params_set = refl; announced = refl; done = refl; left = refl; flushed = refl; halt_done = refl; no_memory = refl }) refl
      (collects_follow core.config (events recorded) core.board new.board session _ _ (told, lawful core recorded stands, refl) stands.keeps.board after)

module _ (core : Core) (recorded : List Event) (stands : StandsFor core recorded) where
  pub halts : (new : Core) → Counts core new → new.election_state ≡ core.election_state → new.session_records ≡ core.session_records → new.halted ≡ true
      → StandsFor new (with Halt reply.HaltDone recorded)
  unfolding rib live params_of is_halted session_records_of announcements primary
  halts new counted elected records halted =
      let k = stands.keeps in
      let told : reply.HaltDone ≡ reply_to core.config (events recorded) Halt = sym (reply_free core.config (events recorded) Halt refl refl) in
      goes core recorded stands new Halt reply.HaltDone counted.config refl refl told (record {
        count = counted.count ∙ one_more core.count (events recorded) (event Halt reply.HaltDone) k.count;
        table = ap (λ (t : StoreState). t.entries) counted.table ∙ k.table;
        election_state = rw elected (record { highest = k.election_state.highest; primary = k.election_state.primary });
        session_records = records ∙ k.session_records;
        workers = ap (λ (b : BoardState). b.workers) counted.board ∙ k.workers ∙ sym (ap (λ (c : Config). c.workers) counted.config);
        board = board_stays core recorded stands new.board Halt reply.HaltDone counted.board told refl refl refl refl (λ session. refl);
        halted = halted;
      })
