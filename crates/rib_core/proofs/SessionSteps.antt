-- What a core stands for after what a session asks for itself.
use Rattle.std.proofs.Common.{◌≡◌, ◌≢◌, ℕ, ◌+◌, ◌≤◌, Bool, true, false, List, [], ◌∷◌, ◌++◌, length, Some, None, Option, refl, sym, ap, ◌∙◌, arith, inr}
use Rattle.std.specs.Prelude.{not, cond, is_some, nat_eq, max}
use Rattle.std.proofs.lemmas.Bool.{eqb-true}
use Rattle.std.proofs.lemmas.Bool.Decides.{nat_tests}
use Rattle.table_model.specs.declared.command.Command.{Command}
use Rattle.table_model.specs.declared.command.Command.TheVariants.{Begin, SetParams, Announce, Select}
use Rattle.table_model.specs.declared.command.Config.{Config}
use Rattle.table_model.specs.declared.command.KindAsk.{KindAsk}
use Rattle.table_model.specs.declared.command.Which.{Which}
use Rattle.table_model.specs.declared.params.AskedParams.{AskedParams}
use Rattle.table_model.specs.declared.reply.Reply.{Reply}
use Rattle.table_model.specs.declared.reply.Reply.TheVariants as reply
use Rattle.table_model.specs.BoardState.{BoardState}
use Rattle.table_model.specs.Election.{announcements, primary}
use Rattle.table_model.specs.Event.{Event, events}
use Rattle.table_model.specs.Reply.{reply_to, reply_announce, reply_params, is_halted, selected}
use Rattle.table_model.specs.Rib.{rib}
use Rattle.table_model.specs.Sessions.{live, is_live, params_of}
use Rattle.table_model.proofs.Inert.{IsInert}
use Rattle.table_model.proofs.Lawful.{params_to_come, began_primary}
use Rattle.aft_store.specs.StoreState.{StoreState}
use Rattle.election.specs.ElectionState as election
use Rattle.election.specs.ElectionState.{ElectionState}
use Rattle.election.specs.declared.AnnounceEnd.{AnnounceEnd}
use Rattle.election.specs.declared.AnnounceEnd.TheVariants as ended
use Rattle.session_params.specs.Book as sessions
use Rattle.session_params.specs.Book.{session_records_of, set_reply}
use Rattle.session_params.specs.Rows.{is_entered, params_in}
use Rattle.session_params.specs.declared.SessionRecord.{SessionRecord}
use Rattle.session_params.specs.declared.SetEnd.{SetEnd}
use Rattle.session_params.specs.declared.SetEnd.TheVariants as end
use Rattle.session_params.proofs.Going.{enters}
use Rattle.rib_core.specs.Core.{Core}
use Rattle.rib_core.specs.Ends.{announce_reply}
use Rattle.rib_core.specs.Stands.{StandsFor, with}
use Rattle.rib_core.proofs.Replies.{reply_live, reply_free}
use Rattle.rib_core.proofs.Steps.{Counts, OneMore, event, one_more, lawful, goes, live_by, params_by, running_by, board_stays, inert_with, inert_stands}

module _ (core : Core) (recorded : List Event) (stands : StandsFor core recorded) (running : core.halted ≡ false) where
  -- a Begin or a Select that finds no memory leaves the core
  pub begin_lacks : StandsFor core (with Begin reply.NoMemory recorded)
  unfolding events
  begin_lacks = record {
    legal = (inr (refl, rw (running_by core recorded stands running) refl), stands.legal, refl);
    keeps = stands.keeps;
  }

  pub select_lacks : (which : Which) (kinds : KindAsk) → StandsFor core (with (Select which kinds) reply.NoMemory recorded)
  unfolding events
  select_lacks which kinds = record {
    legal = (inr (refl, rw (running_by core recorded stands running) refl), stands.legal, refl);
    keeps = stands.keeps;
  }

  module _ (new : Core) (counted : Counts core new) (halted : new.halted ≡ core.halted) where
    -- a session is entered
    pub begins : new.election_state ≡ core.election_state → new.session_records ≡ core.session_records ++ record { session = core.count; params = None } ∷ []
        → StandsFor new (with Begin (reply.Began core.count) recorded)
    unfolding rib live params_of is_halted session_records_of announcements
    begins elected records =
        let k = stands.keeps in
        let past : List Event = events recorded in
        let told : reply.Began core.count ≡ reply_to core.config (events recorded) Begin = ap reply.Began k.count ∙ sym (reply_free core.config (events recorded) Begin (running_by core recorded stands running) refl) in
        goes core recorded stands new Begin (reply.Began core.count) counted.config refl refl told (record {
          count = counted.count ∙ one_more core.count (events recorded) (event Begin (reply.Began core.count)) k.count;
          table = ap (λ (t : StoreState). t.entries) counted.table ∙ k.table;
          election_state = rw elected (record { highest = k.election_state.highest; primary = k.election_state.primary ∙ sym (began_primary core.config (events recorded) core.count (lawful core recorded stands)) });
          session_records = records ∙ enters core.session_records (events recorded) core.count k.session_records k.count (rw k.count (params_to_come core.config (events recorded) (length (events recorded)) (lawful core recorded stands) (omega arith)));
          workers = ap (λ (b : BoardState). b.workers) counted.board ∙ k.workers ∙ sym (ap (λ (c : Config). c.workers) counted.config);
          board = board_stays core recorded stands new.board Begin (reply.Began core.count) counted.board told refl refl refl refl (λ session. refl);
          halted = halted ∙ k.halted;
        })

    -- a Get
    pub selects : (which : Which) (kinds : KindAsk) → new.election_state ≡ core.election_state → new.session_records ≡ core.session_records
        → StandsFor new (with (Select which kinds) (reply.Selected (selected core.table.entries core.board.fib which kinds)) recorded)
    selects which kinds elected records =
        let k = stands.keeps in
        inert_stands core recorded stands new (Select which kinds) (reply.Selected (selected core.table.entries core.board.fib which kinds)) counted elected halted records refl
        (record { began = refl; params_set = refl; announced = refl; done = refl; left = refl; flushed = refl; halt_done = refl; no_memory = refl })
        (rw (k.table, k.board.fib) (sym (reply_free core.config (events recorded) (Select which kinds) (running_by core recorded stands running) refl))) refl (λ session. refl)

    -- an announcement
    module _ (session id : ℕ) (here : is_entered session core.session_records ≡ true) where
      alive : is_live (events recorded) session ≡ true
      alive = live_by core recorded stands session true here

      told : reply_to core.config (events recorded) (Announce session id) ≡ reply_announce (events recorded) session id
      told = reply_live core.config (events recorded) (Announce session id) (running_by core recorded stands running) session refl alive

      pub without_params : new.election_state ≡ core.election_state → new.session_records ≡ core.session_records → is_some (params_in session core.session_records) ≡ false
          → StandsFor new (with (Announce session id) reply.NoParams recorded)
      unfolding reply_announce
      without_params elected records none = inert_stands core recorded stands new (Announce session id) reply.NoParams counted elected halted records refl
          (record { began = refl; params_set = refl; announced = refl; done = refl; left = refl; flushed = refl; halt_done = refl; no_memory = refl })
          (sym (told ∙ rw (params_by core recorded stands session here, none) refl)) refl (λ other. refl)

      module _ (records : new.session_records ≡ core.session_records) (some : is_some (params_in session core.session_records) ≡ true) where
        zero_id : new.election_state ≡ core.election_state → id ≡ 0 → StandsFor new (with (Announce session id) reply.ZeroId recorded)
        unfolding reply_announce
        zero_id elected zero = inert_stands core recorded stands new (Announce session id) reply.ZeroId counted elected halted records refl
            (record { began = refl; params_set = refl; announced = refl; done = refl; left = refl; flushed = refl; halt_done = refl; no_memory = refl })
            (sym (told ∙ rw (params_by core recorded stands session here, some, zero) refl)) refl (λ other. refl)

        announces : nat_eq id 0 ≡ false → election.StandsFor new.election_state (election.announced session id (max id core.election_state.highest) ∷ events recorded)
            → StandsFor new (with (Announce session id) (reply.Announced (max id core.election_state.highest)) recorded)
        unfolding rib live params_of is_halted session_records_of reply_announce
        announces nonzero elected =
            let k = stands.keeps in
            let due : reply.Announced (max id core.election_state.highest) ≡ reply_to core.config (events recorded) (Announce session id)
            = sym (told ∙ rw (params_by core recorded stands session here, some, nonzero, k.election_state.highest) refl) in
            goes core recorded stands new (Announce session id) (reply.Announced (max id core.election_state.highest)) counted.config refl refl due (record {
              count = counted.count ∙ one_more core.count (events recorded) (event (Announce session id) (reply.Announced (max id core.election_state.highest))) k.count;
              table = ap (λ (t : StoreState). t.entries) counted.table ∙ k.table;
              election_state = elected;
              session_records = records ∙ k.session_records;
              workers = ap (λ (b : BoardState). b.workers) counted.board ∙ k.workers ∙ sym (ap (λ (c : Config). c.workers) counted.config);
              board = board_stays core recorded stands new.board (Announce session id) (reply.Announced (max id core.election_state.highest)) counted.board due refl refl refl refl (λ other. refl);
              halted = halted ∙ k.halted;
            })

        by_id : (b : Bool) → nat_eq id 0 ≡ b → (end : AnnounceEnd)
            → (id ≡ 0 → (end ≡ ended.ZeroId) × (new.election_state ≡ core.election_state)) → (id ≢ 0 → end ≡ ended.Announced (max id core.election_state.highest))
            → ((past : List Event) → id ≢ 0 → election.StandsFor core.election_state past → is_live past session ≡ true → election.StandsFor new.election_state (election.announced session id (max id core.election_state.highest) ∷ past))
            → StandsFor new (with (Announce session id) (announce_reply end) recorded)
        by_id true is end zero nonzero elected =
            let none : id ≡ 0 = eqb-true id 0 is in
            rw (zero none).0 (zero_id (zero none).1 none)
        by_id false is end zero nonzero elected =
            let some_id : id ≢ 0 = λ e. grind (arith, nat_tests) in
            rw (nonzero some_id) (announces is (elected (events recorded) some_id stands.keeps.election_state alive))

        pub announce_ends : (end : AnnounceEnd)
            → (id ≡ 0 → (end ≡ ended.ZeroId) × (new.election_state ≡ core.election_state)) → (id ≢ 0 → end ≡ ended.Announced (max id core.election_state.highest))
            → ((past : List Event) → id ≢ 0 → election.StandsFor core.election_state past → is_live past session ≡ true → election.StandsFor new.election_state (election.announced session id (max id core.election_state.highest) ∷ past))
            → StandsFor new (with (Announce session id) (announce_reply end) recorded)
        announce_ends = by_id (nat_eq id 0) refl

    -- parameters
    module _ (session : ℕ) (asked : AskedParams) (here : is_entered session core.session_records ≡ true) (elected : new.election_state ≡ core.election_state) where
      told_params : reply_to core.config (events recorded) (SetParams session asked) ≡ reply_params (events recorded) session asked
      told_params = reply_live core.config (events recorded) (SetParams session asked) (running_by core recorded stands running) session refl (live_by core recorded stands session true here)

      -- with the reply, and the sessions that the book has after it
      abbrev Ends : SetEnd → Type 0
      Ends ended = (set_reply ended ≡ reply_params (events recorded) session asked) × sessions.StandsFor new.session_records (sessions.asked_for session asked ended ∷ events recorded)

      refused : (r : Reply) → IsInert r → r ≡ reply_params (events recorded) session asked
          → sessions.StandsFor new.session_records (event (SetParams session asked) r ∷ events recorded) → StandsFor new (with (SetParams session asked) r recorded)
      refused r inert due standing =
          inert_with core recorded stands new (SetParams session asked) r counted elected halted refl inert (due ∙ sym told_params) refl (λ other. refl) standing

      pub set_ends : (ended : SetEnd) → Ends ended → StandsFor new (with (SetParams session asked) (set_reply ended) recorded)
      unfolding rib live is_halted announcements primary
      set_ends end.Set law =
          let k = stands.keeps in
          let due : reply.ParamsSet ≡ reply_to core.config (events recorded) (SetParams session asked) = law.0 ∙ sym told_params in
          goes core recorded stands new (SetParams session asked) reply.ParamsSet counted.config refl refl due (record {
            count = counted.count ∙ one_more core.count (events recorded) (event (SetParams session asked) reply.ParamsSet) k.count;
            table = ap (λ (t : StoreState). t.entries) counted.table ∙ k.table;
            election_state = rw elected (record { highest = k.election_state.highest; primary = k.election_state.primary });
            session_records = law.1;
            workers = ap (λ (b : BoardState). b.workers) counted.board ∙ k.workers ∙ sym (ap (λ (c : Config). c.workers) counted.config);
            board = board_stays core recorded stands new.board (SetParams session asked) reply.ParamsSet counted.board due refl refl refl refl (λ other. refl);
            halted = halted ∙ k.halted;
          })
      set_ends end.Unsupported law = refused reply.ParamsUnsupported (record { began = refl; params_set = refl; announced = refl; done = refl; left = refl; flushed = refl; halt_done = refl; no_memory = refl }) law.0 law.1
      set_ends end.NotAllowed law = refused reply.ParamsNotAllowed (record { began = refl; params_set = refl; announced = refl; done = refl; left = refl; flushed = refl; halt_done = refl; no_memory = refl }) law.0 law.1
      set_ends (end.Differs other) law = refused (reply.ParamsDiffer other) (record { began = refl; params_set = refl; announced = refl; done = refl; left = refl; flushed = refl; halt_done = refl; no_memory = refl }) law.0 law.1
