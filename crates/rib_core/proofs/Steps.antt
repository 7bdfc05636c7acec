-- What a core stands for after one more command: the common steps.
use Rattle.std.proofs.Common.{◌≡◌, ℕ, suc, ◌+◌, Bool, true, false, List, [], ◌∷◌, length, Some, None, Option, refl, sym, ap, subst, ◌∙◌, inl, add-one}
use Rattle.std.specs.Prelude.{not, cond, ◌&&◌, ◌||◌, ℤ, nat_eq}
use Rattle.table_model.specs.declared.command.Command.{Command}
use Rattle.table_model.specs.declared.command.Command.TheVariants.{Begin, SetParams, Announce, Operate, Collect, Leave, Flush, Select, Take, Report, Halt}
use Rattle.table_model.specs.declared.command.Config.{Config}
use Rattle.table_model.specs.declared.reply.Reply.{Reply}
use Rattle.table_model.specs.declared.reply.Reply.TheVariants as reply
use Rattle.table_model.specs.BoardState as board
use Rattle.table_model.specs.BoardState.{BoardState}
use Rattle.table_model.specs.Event.{Event, events, is_left, is_no_memory, is_done, is_flushed, is_reported}
use Rattle.table_model.specs.Jobs.{update_of, update_by_take, tasks_by}
use Rattle.table_model.specs.Legal.{Legal, IsLawful, is_well_formed}
use Rattle.table_model.specs.Reply.{reply_to, is_halted, is_stoppable, caller}
use Rattle.table_model.specs.Results.{collected_by, batch_length}
use Rattle.table_model.specs.Sessions.{is_live, params_of}
use Rattle.table_model.proofs.Inert.{IsInert, inert_highest, inert_primary, inert_halted, inert_rib}
use Rattle.table_model.proofs.Lawful.{lawful_events}
use Rattle.table_model.proofs.Tests.{and_left, and_right, and_both}
use Rattle.fib_board.proofs.Quiet.{quiet_follows}
use Rattle.election.specs.ElectionState as election
use Rattle.election.specs.ElectionState.{ElectionState}
use Rattle.session_params.specs.Book as sessions
use Rattle.session_params.specs.declared.SessionRecord.{SessionRecord}
use Rattle.session_params.specs.Rows.{is_entered, params_in}
use Rattle.session_params.proofs.Going as going
use Rattle.session_params.proofs.Going.{inert_session_records}
use Rattle.aft_store.specs.StoreState.{StoreState}
use Rattle.rib_core.specs.Core.{Core}
use Rattle.rib_core.specs.Stands.{Keeps, StandsFor, with}
use Rattle.rib_core.proofs.Replies.{reply_stopped, reply_gone}

abbrev pub event : Command → Reply → Event
event command r = record { command = command; reply = r }

pub one_more : (n : ℕ) (past : List Event) (e : Event) → n ≡ length past → n + 1 ≡ length (e ∷ past)
one_more n past e h = rw add-one (ap suc h)

pub unwrap : {X : Type 0} (x y : X) → Some x ≡ Some y → x ≡ y
unwrap x y e = cc

-- one more event is counted; the table and the board are as before
pub record Counts (old new : Core) : Type 0 where
  pub config : new.config ≡ old.config
  pub table : new.table ≡ old.table
  pub board : new.board ≡ old.board
  pub count : new.count ≡ old.count + 1

pub counts : (old new : Core) → new.config ≡ old.config → new.table ≡ old.table → new.board ≡ old.board → new.count ≡ old.count + 1 → Counts old new
counts old new a b c d = record { config = a; table = b; board = c; count = d }

module _ (core : Core) (recorded : List Event) (stands : StandsFor core recorded) where
  abbrev pub past : List Event
  past = events recorded

  pub lawful : IsLawful core.config past
  lawful = lawful_events core.config recorded stands.legal

  -- a command whose reply is the server's
  pub goes : (new : Core) (command : Command) (r : Reply) → new.config ≡ core.config → is_well_formed command ≡ true → is_no_memory r ≡ false
      → r ≡ reply_to core.config past command → Keeps new (event command r ∷ past) → StandsFor new (with command r recorded)
  unfolding events
  goes new command r same formed is_event told keeps = record {
    legal = subst (λ c. Legal c (with command r recorded)) (sym same) (inl told, stands.legal, formed);
    keeps = rw is_event keeps;
  }

  -- what the core keeps says of the history
  pub live_by : (session : ℕ) (b : Bool) → is_entered session core.session_records ≡ b → is_live past session ≡ b
  live_by session b h = sym (going.entered_by core.session_records past session stands.keeps.session_records) ∙ h

  pub params_by : (session : ℕ) → is_entered session core.session_records ≡ true → params_of past session ≡ params_in session core.session_records
  params_by session here = sym (going.params_by core.session_records past session stands.keeps.session_records (live_by session true here))

  pub running_by : core.halted ≡ false → is_halted past ≡ false
  running_by h = sym stands.keeps.halted ∙ h

  -- an event that is about no job leaves the board
  pub board_stays : (after : BoardState) (command : Command) (r : Reply) → after ≡ core.board → r ≡ reply_to core.config past command → is_well_formed command ≡ true
      → update_of (event command r) ≡ None → tasks_by (event command r) past ≡ [] → is_left r ≡ false → ((session : ℕ) → collected_by session (event command r) ≡ 0)
      → board.StandsFor after (event command r ∷ past)
  board_stays after command r same told formed none made stays untaken =
      rw same (quiet_follows core.config past core.board (event command r) (told, lawful, formed) none made stays untaken stands.keeps.board)

  -- a reply that sessions, election and table take no note of; the board is what it is after the event
  pub inert_on : (new : Core) (command : Command) (r : Reply) → new.config ≡ core.config → new.table.entries ≡ core.table.entries → new.count ≡ core.count + 1
      → new.election_state ≡ core.election_state → new.halted ≡ core.halted → new.board.workers ≡ core.board.workers
      → is_well_formed command ≡ true → IsInert r → r ≡ reply_to core.config past command
      → board.StandsFor new.board (event command r ∷ past) → sessions.StandsFor new.session_records (event command r ∷ past) → StandsFor new (with command r recorded)
  inert_on new command r config entries count elected halted workers formed inert told follows standing =
      let k = stands.keeps in
      goes new command r config formed inert.no_memory told (record {
        count = count ∙ one_more core.count past (event command r) k.count;
        table = entries ∙ k.table ∙ sym (inert_rib command r past inert);
        election_state = rw elected (record { highest = k.election_state.highest ∙ sym (inert_highest command r past inert); primary = k.election_state.primary ∙ sym (inert_primary command r past inert) });
        session_records = standing;
        workers = workers ∙ k.workers ∙ sym (ap (λ (c : Config). c.workers) config);
        board = follows;
        halted = halted ∙ k.halted ∙ sym (inert_halted command r past inert);
      })

  -- a reply that changes nothing but the count of events
  pub inert_with : (new : Core) (command : Command) (r : Reply) → Counts core new → new.election_state ≡ core.election_state → new.halted ≡ core.halted
      → is_well_formed command ≡ true → IsInert r → r ≡ reply_to core.config past command
      → update_of (event command r) ≡ None → ((session : ℕ) → collected_by session (event command r) ≡ 0)
      → sessions.StandsFor new.session_records (event command r ∷ past) → StandsFor new (with command r recorded)
  inert_with new command r counted elected halted formed inert told none untaken standing =
      inert_on new command r counted.config (ap (λ (t : StoreState). t.entries) counted.table) counted.count elected halted (ap (λ (b : BoardState). b.workers) counted.board) formed inert told
      (board_stays new.board command r counted.board told formed none (rw (inert.done, inert.flushed, inert.left) refl) inert.left untaken) standing

  pub inert_stands : (new : Core) (command : Command) (r : Reply) → Counts core new → new.election_state ≡ core.election_state → new.halted ≡ core.halted → new.session_records ≡ core.session_records
      → is_well_formed command ≡ true → IsInert r → r ≡ reply_to core.config past command
      → update_of (event command r) ≡ None → ((session : ℕ) → collected_by session (event command r) ≡ 0)
      → StandsFor new (with command r recorded)
  inert_stands new command r counted elected halted same formed inert told none untaken =
      inert_with new command r counted elected halted formed inert told none untaken
      (same ∙ stands.keeps.session_records ∙ sym (inert_session_records command r past inert))

-- what is as before in a core where one more event is counted
pub record OneMore (old new : Core) : Type 0 where
  pub counted : Counts old new
  pub elected : new.election_state ≡ old.election_state
  pub records : new.session_records ≡ old.session_records
  pub halted : new.halted ≡ old.halted

-- a reply that tells of no job and hands out no result
module _ (r : Reply) where
  quiet_update : ((now : ℤ) → update_by_take now r ≡ None) → is_reported r ≡ false → (command : Command) → update_of (event command r) ≡ None
  quiet_update taken reported Begin = refl
  quiet_update taken reported (SetParams session asked) = refl
  quiet_update taken reported (Announce session id) = refl
  quiet_update taken reported (Operate session operation now) = refl
  quiet_update taken reported (Collect session) = refl
  quiet_update taken reported (Leave session) = refl
  quiet_update taken reported (Flush by which now) = refl
  quiet_update taken reported (Select which kinds) = refl
  quiet_update taken reported (Take worker now) = taken now
  quiet_update taken reported (Report number said now) = rw reported refl
  quiet_update taken reported Halt = refl

  none_either : (b : Bool) (n : ℕ) → cond b n n ≡ n
  none_either true n = refl
  none_either false n = refl

  quiet_taken : batch_length r ≡ 0 → (command : Command) (session : ℕ) → collected_by session (event command r) ≡ 0
  quiet_taken none Begin session = refl
  quiet_taken none (SetParams asker asked) session = refl
  quiet_taken none (Announce asker id) session = refl
  quiet_taken none (Operate asker operation now) session = refl
  quiet_taken none (Collect asker) session = rw none (none_either (nat_eq asker session) 0)
  quiet_taken none (Leave asker) session = refl
  quiet_taken none (Flush by which now) session = refl
  quiet_taken none (Select which kinds) session = refl
  quiet_taken none (Take worker now) session = refl
  quiet_taken none (Report number said now) session = refl
  quiet_taken none Halt session = refl

module _ (core : Core) (recorded : List Event) (stands : StandsFor core recorded) (new : Core) (one : OneMore core new) (command : Command) (formed : is_well_formed command ≡ true) where
  -- a command that a Halt stops
  pub stopped : (core.halted && is_stoppable command) ≡ true → StandsFor new (with command reply.Stopped recorded)
  stopped stops =
      inert_stands core recorded stands new command reply.Stopped one.counted one.elected one.halted one.records formed
      (record { began = refl; params_set = refl; announced = refl; done = refl; left = refl; flushed = refl; halt_done = refl; no_memory = refl })
      (sym (reply_stopped core.config (events recorded) command
      (and_both (is_stoppable command) (is_halted (events recorded)) (and_right core.halted (is_stoppable command) stops) (sym stands.keeps.halted ∙ and_left core.halted (is_stoppable command) stops))))
      (quiet_update reply.Stopped (λ now. refl) refl command) (quiet_taken reply.Stopped refl command)

  -- a command of a session that isn't live
  pub gone : (session : ℕ) → caller command ≡ Some session → (is_stoppable command && is_halted (events recorded)) ≡ false
      → is_entered session core.session_records ≡ false → StandsFor new (with command reply.Gone recorded)
  gone session called goes away =
      inert_stands core recorded stands new command reply.Gone one.counted one.elected one.halted one.records formed
      (record { began = refl; params_set = refl; announced = refl; done = refl; left = refl; flushed = refl; halt_done = refl; no_memory = refl })
      (sym (reply_gone core.config (events recorded) command goes session called (live_by core recorded stands session false away)))
      (quiet_update reply.Gone (λ now. refl) refl command) (quiet_taken reply.Gone refl command)
