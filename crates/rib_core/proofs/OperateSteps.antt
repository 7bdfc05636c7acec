-- What a core stands for after an operation.
use Rattle.std.proofs.Common.{◌≡◌, ℕ, ◌+◌, Bool, true, false, List, [], ◌∷◌, length, Some, None, Option, refl, sym, ap, subst, ◌∙◌, inr}
use Rattle.std.specs.Prelude.{not, cond, ℤ, is_some, ◌&&◌}
use Rattle.aft_entries.specs.declared.entry.Entry.{Entry}
use Rattle.aft_entries.specs.declared.operation.Ask.{Ask}
use Rattle.aft_entries.specs.declared.operation.Ask.TheVariants as ask
use Rattle.aft_entries.specs.declared.operation.Reason.{Reason}
use Rattle.aft_entries.specs.declared.operation.Reason.TheVariants.{NotPrimary, ElectionIdDiffers}
use Rattle.table_model.specs.declared.command.Command.{Command}
use Rattle.table_model.specs.declared.command.Command.TheVariants.{Operate}
use Rattle.table_model.specs.declared.command.Config.{Config}
use Rattle.table_model.specs.declared.command.Operation.{Operation}
use Rattle.table_model.specs.declared.job.NewJob.{NewJob}
use Rattle.table_model.specs.declared.job.Work.{Work}
use Rattle.table_model.specs.declared.job.Work.TheVariants.{Install, Remove}
use Rattle.table_model.specs.declared.reply.Reply.{Reply}
use Rattle.table_model.specs.declared.reply.Reply.TheVariants as reply
use Rattle.table_model.specs.BoardState.{BoardState, due_for}
use Rattle.table_model.specs.Election.{announcements, primary}
use Rattle.table_model.specs.Event.{Event, events}
use Rattle.table_model.specs.Jobs.{operate_tasks}
use Rattle.table_model.specs.Legal.{Legal, is_well_formed_ask}
use Rattle.table_model.specs.Reply.{reply_to, reply_operate, is_halted}
use Rattle.table_model.specs.Rib.{rib, verdict}
use Rattle.table_model.specs.Sessions.{live, is_live, params_of, wants_results}
use Rattle.table_model.specs.Table.{performed, refusal}
use Rattle.table_model.proofs.Inert.{IsInert}
use Rattle.table_model.proofs.Tests.{and_both}
use Rattle.aft_store.specs.StoreState.{StoreState}
use Rattle.fib_board.specs.Follows.{AfterAdd}
use Rattle.fib_board.specs.Steps.{waiting}
use Rattle.fib_board.proofs.Joining.{adds_follow}
use Rattle.session_params.specs.Book.{session_records_of}
use Rattle.session_params.specs.Rows.{is_entered, params_in}
use Rattle.rib_core.specs.declared.tables.Origin.{Origin}
use Rattle.rib_core.specs.Core.{Core, without_spare}
use Rattle.rib_core.specs.Decisions.{verdict_in, refuse_in, failed, origin_in, Accepts}
use Rattle.rib_core.specs.Stands.{StandsFor, with}
use Rattle.rib_core.specs.Tables.{IsAskDone, made_with}
use Rattle.rib_core.proofs.Replies.{reply_live}
use Rattle.rib_core.proofs.Steps.{OneMore, event, one_more, unwrap, lawful, goes, live_by, params_by, running_by, inert_stands, stopped, gone}

-- what it takes to be done
record MayDo (core : Core) (session : ℕ) (operation : Operation) : Type 0 where
  pub running : core.halted ≡ false
  pub here : is_entered session core.session_records ≡ true
  pub some : is_some (params_in session core.session_records) ≡ true
  pub why : verdict_in core session operation ≡ None

module _ (core : Core) (recorded : List Event) (stands : StandsFor core recorded) (session : ℕ) (operation : Operation) (moment : ℤ) (formed : is_well_formed_ask operation.ask ≡ true) where
  abbrev asks : Command
  asks = Operate session operation moment

  same_verdict : verdict core.config (events recorded) session operation ≡ verdict_in core session operation
  unfolding verdict
  same_verdict = rw (← stands.keeps.election_state.primary, ← stands.keeps.election_state.highest, ← stands.keeps.table) refl

  module _ (running : core.halted ≡ false) (here : is_entered session core.session_records ≡ true) where
    told : reply_to core.config (events recorded) asks ≡ reply_operate core.config (events recorded) session operation
    told = reply_live core.config (events recorded) asks (running_by core recorded stands running) session refl (live_by core recorded stands session true here)

    told_by : (b : Bool) (o : Option Reason) → is_some (params_in session core.session_records) ≡ b → verdict_in core session operation ≡ o
        → reply_to core.config (events recorded) asks ≡ cond (not b) reply.NoParams (elim o [ None ↦ reply.RibDone | Some reason ↦ reply.RibFailed reason ])
    unfolding reply_operate
    told_by b o some why = told ∙ rw (params_by core recorded stands session here, some, same_verdict, why) refl

  module _ (new : Core) (one : OneMore core new) where
    unserved : (r : Reply) → IsInert r → r ≡ reply_to core.config (events recorded) asks → StandsFor new (with asks r recorded)
    unserved r inert due = inert_stands core recorded stands new asks r one.counted one.elected one.halted one.records formed inert due refl (λ other. refl)

    refused_why : (o : Option Reason) → core.halted ≡ false → is_entered session core.session_records ≡ true → is_some (params_in session core.session_records) ≡ true
        → verdict_in core session operation ≡ o → (r : Reply) → failed o ≡ Some r → StandsFor new (with asks r recorded)
    refused_why None running here some why r is = cc
    refused_why (Some reason) running here some why r is =
        rw (← unwrap (reply.RibFailed reason) r is)
        (unserved (reply.RibFailed reason) (record { began = refl; params_set = refl; announced = refl; done = refl; left = refl; flushed = refl; halt_done = refl; no_memory = refl })
        (sym (told_by running here true (Some reason) some why)))

    refused_params : (b : Bool) → core.halted ≡ false → is_entered session core.session_records ≡ true → is_some (params_in session core.session_records) ≡ b
        → (r : Reply) → cond (not b) (Some reply.NoParams) (failed (verdict_in core session operation)) ≡ Some r → StandsFor new (with asks r recorded)
    refused_params true running here some r is = refused_why (verdict_in core session operation) running here some refl r is
    refused_params false running here none r is =
        rw (← unwrap reply.NoParams r is)
        (unserved reply.NoParams (record { began = refl; params_set = refl; announced = refl; done = refl; left = refl; flushed = refl; halt_done = refl; no_memory = refl })
        (sym (told_by running here false (verdict_in core session operation) none refl)))

    refused_session : (b : Bool) → core.halted ≡ false → is_entered session core.session_records ≡ b
        → (r : Reply) → cond (not b) (Some reply.Gone) (cond (not (is_some (params_in session core.session_records))) (Some reply.NoParams) (failed (verdict_in core session operation))) ≡ Some r
        → StandsFor new (with asks r recorded)
    refused_session true running here r is = refused_params (is_some (params_in session core.session_records)) running here refl r is
    refused_session false running away r is = rw (← unwrap reply.Gone r is) (gone core recorded stands new one asks formed session refl (running_by core recorded stands running) away)

    refused_halt : (b : Bool) → core.halted ≡ b
        → (r : Reply) → cond b (Some reply.Stopped) (cond (not (is_entered session core.session_records)) (Some reply.Gone) (cond (not (is_some (params_in session core.session_records))) (Some reply.NoParams) (failed (verdict_in core session operation)))) ≡ Some r
        → StandsFor new (with asks r recorded)
    refused_halt true halted r is = rw (← unwrap reply.Stopped r is) (stopped core recorded stands new one asks formed (and_both core.halted true halted refl))
    refused_halt false running r is = refused_session (is_entered session core.session_records) running refl r is

    -- an operation that is refused, by what the core keeps
    pub refused_by : (r : Reply) → refuse_in core session operation ≡ Some r → StandsFor new (with asks r recorded)
    refused_by r is = refused_halt core.halted refl r is

  may_do : (h a b : Bool) (o : Option Reason) → core.halted ≡ h → is_entered session core.session_records ≡ a → is_some (params_in session core.session_records) ≡ b → verdict_in core session operation ≡ o
      → cond h (Some reply.Stopped) (cond (not a) (Some reply.Gone) (cond (not b) (Some reply.NoParams) (failed o))) ≡ None → MayDo core session operation
  may_do false true true None d e f g is = record { running = d; here = e; some = f; why = g }
  may_do false true true (Some reason) d e f g is = cc
  may_do false true false o d e f g is = cc
  may_do false false b o d e f g is = cc
  may_do true a b o d e f g is = cc

  allowed : refuse_in core session operation ≡ None → MayDo core session operation
  allowed is = may_do core.halted (is_entered session core.session_records) (is_some (params_in session core.session_records)) (verdict_in core session operation) refl refl refl refl is

  -- no memory was found, and spare places are all that changed
  pub lacking_by : (new : Core) → refuse_in core session operation ≡ None → without_spare new ≡ without_spare core → StandsFor new (with asks reply.NoMemory recorded)
  unfolding events
  lacking_by new is same =
      let may = allowed is in
      let k = stands.keeps in
      record {
        legal = subst (λ c. Legal c (with asks reply.NoMemory recorded)) (sym (ap (λ (c : Core). c.config) same)) (inr (refl, rw (running_by core recorded stands may.running, live_by core recorded stands session true may.here) refl), stands.legal, formed);
        keeps = record {
          count = ap (λ (c : Core). c.count) same ∙ k.count;
          table = ap (λ (c : Core). c.table.entries) same ∙ k.table;
          election_state = rw (ap (λ (c : Core). c.election_state) same) k.election_state;
          session_records = ap (λ (c : Core). c.session_records) same ∙ k.session_records;
          workers = ap (λ (c : Core). c.board.workers) same ∙ k.workers ∙ sym (ap (λ (c : Core). c.config.workers) same);
          board = record {
            undone = ap (λ (c : Core). c.board.undone) same ∙ k.board.undone;
            fib = ap (λ (c : Core). c.board.fib) same ∙ k.board.fib;
            due = λ other. ap (λ (c : Core). due_for c.board.due other) same ∙ k.board.due other;
          };
          halted = ap (λ (c : Core). c.halted) same ∙ k.halted;
        };
      }

  -- the operation with another thing that is asked
  abbrev asking : Ask → Operation
  asking asked = record { id = operation.id; election = operation.election; ask = asked }

  -- what is done, over any thing that is asked but a bad one
  record IsPerformed (asked : Ask) (new : Core) : Type 0 where
    pub entries : new.table.entries ≡ performed asked core.table.entries
    pub counted : new.count ≡ core.count + 1
    pub made : NewJob
    pub added : AfterAdd made core.board new.board
    pub due : operate_tasks (events recorded) (Operate session (asking asked) moment) ≡ (waiting made).task ∷ []

  bad_fails : (a b : Bool) (reason : Reason) (instances limit : ℕ) (table : List Entry)
      → cond (not a) (Some NotPrimary) (cond (not b) (Some ElectionIdDiffers) (refusal instances limit table (ask.Bad reason))) ≡ None → ⊥
  unfolding refusal
  bad_fails true true reason instances limit table h = cc
  bad_fails true false reason instances limit table h = cc
  bad_fails false b reason instances limit table h = cc

  performs : (here : is_entered session core.session_records ≡ true) (new : Core) (asked : Ask) → verdict_in core session (asking asked) ≡ None
      → IsAskDone (origin_in core session operation) asked core.table.entries core.board core.count new.table.entries new.board new.count → IsPerformed asked new
  performs here new (ask.Put entry replace) why done = record {
    entries = done.entries;
    counted = done.counted;
    made = made_with core.count (origin_in core session operation) (Install entry) _;
    added = done.added;
    due = rw (← stands.keeps.count, ← stands.keeps.table, params_by core recorded stands session here) refl;
  }
  performs here new (ask.Remove key) why done = record {
    entries = done.entries;
    counted = done.counted;
    made = made_with core.count (origin_in core session operation) (Remove key) _;
    added = done.added;
    due = rw (← stands.keeps.count, ← stands.keeps.table, params_by core recorded stands session here) refl;
  }
  performs here new (ask.Bad reason) why done = absurd (bad_fails _ _ reason _ _ _ why)

  -- an operation that is done
  pub done_by : (new : Core) → refuse_in core session operation ≡ None → Accepts core session operation new → StandsFor new (with asks reply.RibDone recorded)
  unfolding rib live params_of is_halted session_records_of announcements primary
  done_by new is accepts =
      let may = allowed is in
      let k = stands.keeps in
      let told_done : reply.RibDone ≡ reply_to core.config (events recorded) asks = sym (told_by may.running may.here true None may.some may.why) in
      let parts : IsPerformed operation.ask new = performs may.here new operation.ask may.why accepts.performs in
      goes core recorded stands new asks reply.RibDone accepts.config formed refl told_done (record {
        count = parts.counted ∙ one_more core.count (events recorded) (event asks reply.RibDone) k.count;
        table = parts.entries ∙ ap (performed operation.ask) k.table;
        election_state = rw accepts.election_state (record { highest = k.election_state.highest; primary = k.election_state.primary });
        session_records = accepts.session_records ∙ k.session_records;
        workers = parts.added.workers ∙ k.workers ∙ sym (ap (λ (c : Config). c.workers) accepts.config);
        board = adds_follow core.config (events recorded) core.board new.board session operation moment parts.made (told_done, lawful core recorded stands, formed) parts.due k.board parts.added;
        halted = accepts.halted ∙ k.halted;
      })
