-- What a book of sessions stands for after one more event.
use Rattle.std.proofs.Common.{◌≡◌, ℕ, Bool, true, false, List, [], ◌∷◌, ◌++◌, map, length, Some, None, Option, refl, sym, ap, ◌∙◌, arith}
use Rattle.std.specs.Prelude.{not, nat_eq, cond, filter, find, is_some}
use Rattle.std.proofs.lemmas.Bool.{eqb-true}
use Rattle.std.proofs.lemmas.Bool.Decides.{nat_tests}
use Rattle.table_model.specs.declared.command.Command.{Command}
use Rattle.table_model.specs.declared.command.Command.TheVariants.{SetParams}
use Rattle.table_model.specs.declared.params.Params.{Params}
use Rattle.table_model.specs.declared.params.AskedParams.{AskedParams}
use Rattle.table_model.specs.declared.reply.Reply.{Reply}
use Rattle.table_model.specs.declared.reply.Reply.TheVariants as reply
use Rattle.table_model.specs.Event.{Event}
use Rattle.table_model.specs.Reply.{reply_params}
use Rattle.table_model.specs.Sessions.{live, is_live, params_of, supported, differing}
use Rattle.table_model.proofs.Inert.{IsInert, inert_live, inert_params}
use Rattle.session_params.specs.declared.SessionRecord.{SessionRecord}
use Rattle.session_params.specs.declared.SetEnd.{SetEnd}
use Rattle.session_params.specs.declared.SetEnd.TheVariants as end
use Rattle.session_params.specs.Book.{session_record_of, session_records_of, StandsFor, set_reply, began, asked_for, left}
use Rattle.session_params.specs.Ends.{set_end, session_records_after, end_by}
use Rattle.session_params.specs.Rows.{is_of, is_entered, params_in, differing_in, with_params}
use Rattle.session_params.proofs.SessionRecordLemmas.{map_same, map-append, entered_live, params_live, session_record_live, differing_live, session_records_without}

eq_self : (n : ℕ) → nat_eq n n ≡ true
eq_self n = grind (arith, nat_tests)

-- a reply that sets nothing leaves the sessions as they are
pub inert_session_records : (command : Command) (r : Reply) (past : List Event) → IsInert r → session_records_of (record { command = command; reply = r } ∷ past) ≡ session_records_of past
unfolding session_records_of
inert_session_records command r past inert =
    rw (inert_live command r past inert) (map_same (session_record_of (record { command = command; reply = r } ∷ past)) (session_record_of past) (live past) (λ s. ap (λ p. record { session = s; params = p }) (inert_params command r past inert s)))

module _ (past : List Event) (session : ℕ) (asked : AskedParams) (params : Params) (is : supported asked ≡ Some params) where
  abbrev set_now : List Event
  set_now = record { command = SetParams session asked; reply = reply.ParamsSet } ∷ past

  written_at : (b : Bool) (x : ℕ) → nat_eq x session ≡ b → cond b (record { session = session; params = Some params }) (session_record_of past x) ≡ session_record_of set_now x
  unfolding params_of
  written_at true x same = rw (eqb-true x session same, is) (rw (eq_self session) refl)
  written_at false x differ = let other : nat_eq session x ≡ false = grind (arith, nat_tests) in rw other refl

  written : (xs : List ℕ) → with_params session (Some params) (map (session_record_of past) xs) ≡ map (session_record_of set_now) xs
  written [] = refl
  written (x ∷ xs) = rw (written xs) (ap (λ session_record. session_record ∷ map (session_record_of set_now) xs) (written_at (nat_eq x session) x refl))

  set_session_records : with_params session (Some params) (session_records_of past) ≡ session_records_of set_now
  unfolding session_records_of live
  set_session_records = written (live past)

module _ (session_records : List SessionRecord) (past : List Event) (session : ℕ) (stands : StandsFor session_records past) where
  pub entered_by : is_entered session session_records ≡ is_live past session
  entered_by = ap (is_entered session) stands ∙ entered_live past session

  pub params_by : is_live past session ≡ true → params_in session session_records ≡ params_of past session
  params_by alive = ap (params_in session) stands ∙ params_live past session alive

  pub session_record_by : find (is_of session) session_records ≡ cond (is_live past session) (Some (session_record_of past session)) None
  session_record_by = ap (find (is_of session)) stands ∙ session_record_live past session

  pub enters : session ≡ length past → params_of past session ≡ None → StandsFor (session_records ++ record { session = session; params = None } ∷ []) (began session ∷ past)
  unfolding session_records_of live params_of
  enters place none =
      ap (λ (xs : List SessionRecord). xs ++ record { session = session; params = None } ∷ []) stands
      ∙ sym (map-append (session_record_of (began session ∷ past)) (live past) (length past ∷ []) ∙ rw (← place, none) refl)

  pub leaves : StandsFor (filter (λ session_record. not (is_of session session_record)) session_records) (left session ∷ past)
  unfolding session_records_of live params_of
  leaves = ap (filter (λ session_record. not (is_of session session_record))) stands ∙ session_records_without past session (live past)

  module _ (asked : AskedParams) (here : is_entered session session_records ≡ true) where
    abbrev Sets : SetEnd → List SessionRecord → Type 0
    Sets ended new = (set_reply ended ≡ reply_params past session asked) × StandsFor new (asked_for session asked ended ∷ past)

    alive : is_live past session ≡ true
    alive = sym entered_by ∙ here

    stays : (ended : SetEnd) → IsInert (set_reply ended) → StandsFor session_records (asked_for session asked ended ∷ past)
    stays ended inert = stands ∙ sym (inert_session_records (SetParams session asked) (set_reply ended) past inert)

    unsupported : supported asked ≡ None → Sets end.Unsupported session_records
    unfolding reply_params
    unsupported none = (sym (rw none refl), stays end.Unsupported (record { began = refl; params_set = refl; announced = refl; done = refl; left = refl; flushed = refl; halt_done = refl; no_memory = refl }))

    module _ (params : Params) (is : supported asked ≡ Some params) where
      twice : is_some (params_in session session_records) ≡ true → Sets end.NotAllowed session_records
      unfolding reply_params
      twice some = (sym (rw (is, ← params_by alive, some) refl), stays end.NotAllowed (record { began = refl; params_set = refl; announced = refl; done = refl; left = refl; flushed = refl; halt_done = refl; no_memory = refl }))

      differs : differing_in session params session_records ≡ differing past session params
      differs = ap (differing_in session params) stands ∙ differing_live past session params

      otherwise : (other : Params) → is_some (params_in session session_records) ≡ false → differing_in session params session_records ≡ Some other → Sets (end.Differs other) session_records
      unfolding reply_params
      otherwise other none found = (sym (rw (is, ← params_by alive, none, ← differs, found) refl), stays (end.Differs other) (record { began = refl; params_set = refl; announced = refl; done = refl; left = refl; flushed = refl; halt_done = refl; no_memory = refl }))

      done : is_some (params_in session session_records) ≡ false → differing_in session params session_records ≡ None → Sets end.Set (with_params session (Some params) session_records)
      unfolding reply_params
      done none found = (sym (rw (is, ← params_by alive, none, ← differs, found) refl), ap (with_params session (Some params)) stands ∙ set_session_records past session asked params is)

      by_other : (o : Option Params) → differing_in session params session_records ≡ o → is_some (params_in session session_records) ≡ false → Sets (end_by o) (session_records_after (end_by o) session_records session (Some params))
      by_other None found none = done none found
      by_other (Some other) found none = otherwise other none found

      by_params : (b : Bool) → is_some (params_in session session_records) ≡ b → Sets (cond b end.NotAllowed (end_by (differing_in session params session_records))) (session_records_after (cond b end.NotAllowed (end_by (differing_in session params session_records))) session_records session (Some params))
      by_params true some = twice some
      by_params false none = by_other (differing_in session params session_records) refl none

    by_support : (o : Option Params) → supported asked ≡ o → Sets (set_end session_records session o) (session_records_after (set_end session_records session o) session_records session o)
    by_support None none = unsupported none
    by_support (Some params) is = by_params params is (is_some (params_in session session_records)) refl

    pub sets : (ended : SetEnd) (new : List SessionRecord) → ended ≡ set_end session_records session (supported asked) → new ≡ session_records_after ended session_records session (supported asked) → Sets ended new
    sets ended new e f = rw (f, e) (by_support (supported asked) refl)
