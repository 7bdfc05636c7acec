-- A message that can be read, and the turns behind it.
use Rattle.std.specs.Prelude.{is_some}
use Rattle.std.specs.List.{flat_map}
use Rattle.std.specs.Option.{option_map_or, option_or}
use Rattle.std.proofs.Common.{◌≡◌, ℕ, ℤ, pos, Bool, true, false, cond, List, [], ◌∷◌, ◌++◌, map, Option, Some, None, refl, sym, ap, subst, ◌∙◌}
use Rattle.std.proofs.lemmas.List.{append-nil}
use Rattle.std.proofs.lemmas.List.Concat.{flat_map-append}
use Rattle.schema_numbers.specs.Numbers.{Numbers}
use Rattle.proto_schema.specs.declared.legal.MessageFault.{MessageFault}
use Rattle.call_answers.specs.Orders.{commands_of, orders_of}
use Rattle.call_answers.specs.declared.orders.Setting.{Setting}
use Rattle.table_model.specs.declared.command.Command.{Command}
use Rattle.table_model.specs.declared.command.Command.TheVariants.{SetParams, Announce, Operate}
use Rattle.table_model.specs.declared.command.Config.{Config}
use Rattle.table_model.specs.declared.command.Operation.{Operation}
use Rattle.table_model.specs.declared.params.AskedParams.{AskedParams}
use Rattle.table_model.specs.declared.job.Verdict.{Verdict}
use Rattle.table_model.specs.Event.{Event}
use Rattle.table_model.specs.Reply.{is_halted}
use Rattle.table_model.specs.Sessions.{is_live}
use Rattle.inline_worker.specs.Turns.{behind, collect_events, events_behind, work_events}
use Rattle.inline_worker.proofs.Working.{behind_both}
use Rattle.apply_path.specs.History.{event, answered, answer_bytes, first_end, status_code_of, up_to_end, CommandRun, run_of_events}
use Rattle.apply_path.specs.Responses.{config_of, fault_of, message_events, run_message, with_turns}
use Rattle.apply_path.proofs.Resting.{AreOfSession, IsOfSession}
use Rattle.apply_path.proofs.Turning.{GoOn, collecting_goes, go_all, go_both, go_no_end, quiet_bytes, quiet_goes, quiet_live, quiet_runs, quiet_work}

-- events without an end all go on
pub none_goes : (es : List Event) → first_end es ≡ None → GoOn es
unfolding first_end
none_goes [] h = tt
none_goes (e ∷ es) h = by_code (status_code_of e) refl h (none_goes es)
  where
    by_code : (o : Option ℕ) → status_code_of e ≡ o → option_or (status_code_of e) (first_end es) ≡ None → (first_end es ≡ None → GoOn es) → GoOn (e ∷ es)
    by_code None is h rest = (is, rest (sym (ap (λ (x : Option ℕ). option_or x (first_end es)) is) ∙ h))
    by_code (Some code) is h rest = let bad : Some code ≡ None = sym (ap (λ (x : Option ℕ). option_or x (first_end es)) is) ∙ h in absurd cc

-- the worker's turns and the session's behind events that go on
pub run_turns : (n : Numbers) (config : Config) (heard : List Verdict) (now : ℤ) (past asked : List Event) → GoOn asked → is_halted (behind past asked) ≡ false → is_live (behind past asked) 0 ≡ true
    → run_of_events n past (asked ++ events_behind config heard now (behind past asked))
    ≡ record {
      written = flat_map (answer_bytes n) asked ++ flat_map (answer_bytes n) (collect_events config (behind (behind past asked) (work_events config heard now (behind past asked))));
      ending = None;
      past = behind (behind (behind past asked) (work_events config heard now (behind past asked))) (collect_events config (behind (behind past asked) (work_events config heard now (behind past asked))));
    }
run_turns n config heard now past asked goes runs is_there =
    let mid = behind past asked in
    let worked = work_events config heard now mid in
    let quiet = quiet_work config heard now mid in
    let after = behind mid worked in
    let collected = collect_events config after in
    let all = asked ++ (worked ++ collected) in
    let go : GoOn all = go_both asked (worked ++ collected) goes (go_both worked collected (quiet_goes worked quiet) (collecting_goes config after (quiet_runs worked mid quiet ∙ runs) (quiet_live worked mid quiet ∙ is_there))) in
    let bytes : flat_map (answer_bytes n) all ≡ flat_map (answer_bytes n) asked ++ flat_map (answer_bytes n) collected
    = flat_map-append (answer_bytes n) asked (worked ++ collected)
    ∙ ap (λ (x : List ℕ). flat_map (answer_bytes n) asked ++ x) (flat_map-append (answer_bytes n) worked collected ∙ ap (λ (x : List ℕ). x ++ flat_map (answer_bytes n) collected) (quiet_bytes n worked quiet)) in
    let history : behind past all ≡ behind after collected = behind_both past asked (worked ++ collected) ∙ behind_both mid worked collected in
    ap (λ (l : List Event). record { written = flat_map (answer_bytes n) l; ending = first_end all; past = behind past l }) (go_all all go)
    ∙ ap (λ (o : Option ℕ). record { written = flat_map (answer_bytes n) all; ending = o; past = behind past all }) (go_no_end all go)
    ∙ ap (λ (w : List ℕ). record { written = w; ending = None; past = behind past all }) bytes
    ∙ ap (λ (p : List Event). record { written = flat_map (answer_bytes n) asked ++ flat_map (answer_bytes n) collected; ending = None; past = p }) history

-- ---- the commands of a request are the session's

abbrev pub AreOrders : List Command → Type 0
AreOrders [] = Unit {0}
AreOrders (c ∷ cs) = IsOfSession c × AreOrders cs

orders_both : (cs ds : List Command) → AreOrders cs → AreOrders ds → AreOrders (cs ++ ds)
orders_both [] ds x y = y
orders_both (c ∷ cs) ds x y = (x.0, orders_both cs ds x.1 y)

orders_params : (o : Option AskedParams) → AreOrders (option_map_or (λ asked. SetParams 0 asked ∷ []) o [])
orders_params None = tt
orders_params (Some asked) = (refl, tt)

orders_election : (o : Option ℕ) → AreOrders (option_map_or (λ id. Announce 0 id ∷ []) o [])
orders_election None = tt
orders_election (Some id) = (refl, tt)

orders_operations : (now : ℤ) (operations : List Operation) → AreOrders (map (λ operation. Operate 0 operation now) operations)
orders_operations now [] = tt
orders_operations now (operation ∷ operations) = (refl, orders_operations now operations)

pub are_orders : (s : Setting) (now : ℤ) (m : List ℕ) → AreOrders (commands_of 0 now (orders_of s m))
are_orders s now m =
    let orders = orders_of s m in
    orders_both _ _ (orders_both _ _ (orders_params orders.params) (orders_election orders.election)) (orders_operations now orders.operations)

cut_here : (b : Bool) (es : List Event) → AreOfSession es → AreOfSession (cond b [] es)
cut_here true es h = tt
cut_here false es h = h

pub events_of_session : (config : Config) (past : List Event) (cs : List Command) → AreOrders cs → AreOfSession (up_to_end (answered config past cs))
unfolding up_to_end answered
events_of_session config past [] h = tt
events_of_session config past (c ∷ cs) h =
    let e : Event = event config past c in
    (h.0, cut_here (is_some (status_code_of e)) (up_to_end (answered config (e ∷ past) cs)) (events_of_session config (e ∷ past) cs h.1))

-- ---- what a message comes to that can be read

module _ (s : Setting) (heard : List Verdict) (past : List Event) (place : ℕ) (m : List ℕ) (readable : fault_of s m ≡ None) where
  abbrev pub asked : List Event
  asked = answered (config_of s) past (commands_of 0 (pos place) (orders_of s m))

  events_are : message_events s heard past place m ≡ with_turns s heard (pos place) past asked
  events_are = ap (λ (f : Option MessageFault). cond (is_some f) [] (with_turns s heard (pos place) past asked)) readable

  -- nothing ends it
  pub message_goes : first_end asked ≡ None → is_halted (behind past asked) ≡ false → is_live (behind past asked) 0 ≡ true
      → run_message s heard past place m
      ≡ record {
        written = flat_map (answer_bytes s.numbering) asked ++ flat_map (answer_bytes s.numbering) (collect_events (config_of s) (behind (behind past asked) (work_events (config_of s) heard (pos place) (behind past asked))));
        ending = None;
        past = behind (behind (behind past asked) (work_events (config_of s) heard (pos place) (behind past asked))) (collect_events (config_of s) (behind (behind past asked) (work_events (config_of s) heard (pos place) (behind past asked))));
      }
  message_goes none runs is_there =
      ap (run_of_events s.numbering past) (events_are ∙ ap (λ (o : Option ℕ). asked ++ cond (is_some o) [] (events_behind (config_of s) heard (pos place) (behind past asked))) none)
      ∙ run_turns s.numbering (config_of s) heard (pos place) past asked (none_goes asked none) runs is_there

  -- a reply ends it
  pub message_ends : (code : ℕ) → first_end asked ≡ Some code → run_message s heard past place m ≡ run_of_events s.numbering past asked
  message_ends code ends =
      ap (run_of_events s.numbering past) (events_are ∙ ap (λ (o : Option ℕ). asked ++ cond (is_some o) [] (events_behind (config_of s) heard (pos place) (behind past asked))) ends ∙ append-nil asked)

  -- its answers begin with those to its commands
  pub message_begins : is_halted (behind past (up_to_end asked)) ≡ false → is_live (behind past (up_to_end asked)) 0 ≡ true
      → (rest : List ℕ) × ((run_message s heard past place m).written ≡ (run_of_events s.numbering past asked).written ++ rest)
  message_begins runs is_there = by_end (first_end asked) refl
    where
      by_end : (o : Option ℕ) → first_end asked ≡ o → (rest : List ℕ) × ((run_message s heard past place m).written ≡ (run_of_events s.numbering past asked).written ++ rest)
      by_end (Some code) ends = ([], ap (λ (r : CommandRun). r.written) (message_ends code ends) ∙ sym (append-nil (run_of_events s.numbering past asked).written))
      by_end None none =
          let all : up_to_end asked ≡ asked = go_all asked (none_goes asked none) in
          let whole = message_goes none (subst (λ (l : List Event). is_halted (behind past l) ≡ false) all runs) (subst (λ (l : List Event). is_live (behind past l) 0 ≡ true) all is_there) in
          (_, ap (λ (r : CommandRun). r.written) whole ∙ ap (λ (l : List Event). flat_map (answer_bytes s.numbering) l ++ flat_map (answer_bytes s.numbering) (collect_events (config_of s) (behind (behind past asked) (work_events (config_of s) heard (pos place) (behind past asked))))) (sym all))
