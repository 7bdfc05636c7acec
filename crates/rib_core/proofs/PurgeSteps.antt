-- What a core stands for after the end of a session, and after a Flush.
use Rattle.std.proofs.Common.{◌≡◌, ℕ, ◌+◌, Bool, true, false, List, [], ◌∷◌, ◌++◌, length, Some, None, Option, refl, sym, ap, ◌∙◌}
use Rattle.std.specs.Prelude.{cond, ℤ, not, ◌&&◌, ◌||◌, map, nat_le, nat_eq}
use Rattle.aft_entries.specs.declared.entry.Entry.{Entry}
use Rattle.table_model.specs.declared.command.Command.{Command}
use Rattle.table_model.specs.declared.command.Command.TheVariants.{Leave, Flush}
use Rattle.table_model.specs.declared.command.Config.{Config}
use Rattle.table_model.specs.declared.command.FlushBy.{FlushBy}
use Rattle.table_model.specs.declared.command.FlushBy.TheVariants.{Id, Override}
use Rattle.table_model.specs.declared.command.Which.{Which}
use Rattle.table_model.specs.declared.reply.Reply.{Reply}
use Rattle.table_model.specs.declared.reply.Reply.TheVariants as reply
use Rattle.table_model.specs.BoardState as board
use Rattle.table_model.specs.BoardState.{BoardState, due_for}
use Rattle.table_model.specs.Election.{announcements, primary, highest}
use Rattle.table_model.specs.Event.{Event, events}
use Rattle.table_model.specs.Reply.{reply_to, may_flush, is_halted}
use Rattle.table_model.specs.Rib.{rib, purges}
use Rattle.table_model.specs.Sessions.{live, params_of, deletes}
use Rattle.table_model.specs.Table.{kept, remains}
use Rattle.table_model.proofs.Inert.{IsInert}
use Rattle.aft_store.specs.StoreState.{StoreState}
use Rattle.election.specs.ElectionState as election
use Rattle.election.specs.ElectionState.{ElectionState}
use Rattle.fib_board.specs.Follows.{AfterForget}
use Rattle.fib_board.proofs.Joining.{forgets_follow, leaves_follow, flushes_follow}
use Rattle.session_params.specs.Book as sessions
use Rattle.session_params.specs.Book.{session_records_of}
use Rattle.session_params.specs.Rows.{is_entered, params_in}
use Rattle.rib_core.specs.Core.{Core}
use Rattle.rib_core.specs.Decisions.{purges_in, may_flush_in}
use Rattle.rib_core.specs.Stands.{StandsFor, with}
use Rattle.rib_core.specs.Tables.{IsLeft, IsPurged}
use Rattle.rib_core.proofs.Replies.{reply_live, reply_free}
use Rattle.rib_core.proofs.Steps.{OneMore, event, one_more, lawful, goes, live_by, params_by, running_by, inert_stands}

module _ (core : Core) (recorded : List Event) (stands : StandsFor core recorded) (new : Core) (config : new.config ≡ core.config) (halted : new.halted ≡ core.halted) where
  module _ (session : ℕ) (here : is_entered session core.session_records ≡ true)
      (elected : election.StandsFor new.election_state (event (Leave session) reply.Left ∷ events recorded))
      (records : sessions.StandsFor new.session_records (event (Leave session) reply.Left ∷ events recorded)) where
    purged : purges (events recorded) session ≡ purges_in core session
    purged = rw (← stands.keeps.election_state.primary, params_by core recorded stands session here) refl

    told : reply.Left ≡ reply_to core.config (events recorded) (Leave session)
    told = sym (reply_live core.config (events recorded) (Leave session) refl session refl (live_by core recorded stands session true here))

    rib_left : (b : Bool) → purges (events recorded) session ≡ b → rib (event (Leave session) reply.Left ∷ events recorded) ≡ cond b [] (rib (events recorded))
    unfolding rib
    rib_left b is = rw is refl

    left : new.count ≡ core.count + 1 → new.table.entries ≡ rib (event (Leave session) reply.Left ∷ events recorded) → new.board.workers ≡ core.board.workers
        → board.StandsFor new.board (event (Leave session) reply.Left ∷ events recorded) → StandsFor new (with (Leave session) reply.Left recorded)
    unfolding is_halted
    left count entries workers follows =
        let k = stands.keeps in
        goes core recorded stands new (Leave session) reply.Left config refl refl told (record {
          count = count ∙ one_more core.count (events recorded) (event (Leave session) reply.Left) k.count;
          table = entries;
          election_state = elected;
          session_records = records;
          workers = workers ∙ k.workers ∙ sym (ap (λ (c : Config). c.workers) config);
          board = follows;
          halted = halted ∙ k.halted;
        })

    pub leaves : (b : Bool) → b ≡ purges_in core session → IsLeft b session core.table.entries core.board core.count new.table.entries new.board new.count → StandsFor new (with (Leave session) reply.Left recorded)
    leaves false is done =
        left done.2 (done.0 ∙ stands.keeps.table ∙ sym (rib_left false (purged ∙ sym is))) done.1.workers
        (forgets_follow core.config (events recorded) core.board new.board session (told, lawful core recorded stands, refl) (purged ∙ sym is) stands.keeps.board done.1)
    leaves true is done =
        let gone : rib (event (Leave session) reply.Left ∷ events recorded) ≡ [] = rib_left true (purged ∙ sym is) in
        left done.counted (done.entries ∙ sym gone) done.purged.workers
        (leaves_follow core.config (events recorded) core.board new.board session (told, lawful core recorded stands, refl) stands.keeps.board
        (rw (gone, ← stands.keeps.count, ← stands.keeps.table) done.purged))

  module _ (running : core.halted ≡ false) (by : FlushBy) (which : Which) (now : ℤ) (elected : new.election_state ≡ core.election_state) (records : new.session_records ≡ core.session_records) where
    allowed : (by : FlushBy) → may_flush (events recorded) by ≡ may_flush_in core by
    allowed Override = refl
    allowed (Id id) = rw stands.keeps.election_state.highest refl

    told_flush : reply_to core.config (events recorded) (Flush by which now) ≡ cond (may_flush_in core by) (reply.Flushed (remains (rib (events recorded)) which)) (reply.FlushRefused (highest (events recorded)))
    told_flush = reply_free core.config (events recorded) (Flush by which now) (running_by core recorded stands running) refl ∙ rw (allowed by) refl

    rib_flushed : (remain : Bool) → rib (event (Flush by which now) (reply.Flushed remain) ∷ events recorded) ≡ kept (rib (events recorded)) which
    unfolding rib
    rib_flushed remain = refl

    pub flushes : may_flush_in core by ≡ true
        → IsPurged core.board.undone (due_for core.board.due) (kept core.table.entries which) core.table.entries core.board core.count new.table.entries new.board new.count
        → StandsFor new (with (Flush by which now) (reply.Flushed (remains core.table.entries which)) recorded)
    unfolding live params_of is_halted session_records_of announcements primary
    flushes may done =
        let k = stands.keeps in
        let remain : Bool = remains core.table.entries which in
        let due : reply.Flushed (remains core.table.entries which) ≡ reply_to core.config (events recorded) (Flush by which now) = sym (told_flush ∙ rw (may, ← k.table) refl) in
        goes core recorded stands new (Flush by which now) (reply.Flushed (remains core.table.entries which)) config refl refl due (record {
          count = done.counted ∙ one_more core.count (events recorded) (event (Flush by which now) (reply.Flushed (remains core.table.entries which))) k.count;
          table = done.entries ∙ ap (λ t. kept t which) k.table ∙ sym (rib_flushed (remains core.table.entries which));
          election_state = rw elected (record { highest = k.election_state.highest; primary = k.election_state.primary });
          session_records = records ∙ k.session_records;
          workers = done.purged.workers ∙ k.workers ∙ sym (ap (λ (c : Config). c.workers) config);
          board = flushes_follow core.config (events recorded) core.board new.board by which now (remains core.table.entries which) (due, lawful core recorded stands, refl) k.board
              (rw (rib_flushed (remains core.table.entries which), ← k.count, ← k.table) done.purged);
          halted = halted ∙ k.halted;
        })

    pub flush_refused : OneMore core new → may_flush_in core by ≡ false → StandsFor new (with (Flush by which now) (reply.FlushRefused core.election_state.highest) recorded)
    flush_refused one may =
        inert_stands core recorded stands new (Flush by which now) (reply.FlushRefused core.election_state.highest) one.counted one.elected one.halted one.records refl
        (record { began = refl; params_set = refl; announced = refl; done = refl; left = refl; flushed = refl; halt_done = refl; no_memory = refl })
        (sym (told_flush ∙ rw (may, ← stands.keeps.election_state.highest) refl)) refl (λ session. refl)
