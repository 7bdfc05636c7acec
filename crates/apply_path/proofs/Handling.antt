-- A request is done, and the turns behind it.
use Rattle.std.specs.Prelude.{is_some, ◌==◌}
use Rattle.std.specs.List.{flat_map}
use Rattle.std.proofs.Common.{◌≡◌, ℕ, zero, suc, pos, Bool, true, false, cond, List, [], ◌∷◌, ◌++◌, length, None, refl, sym, ap, subst, ◌∙◌, append_assoc, arith}
use Rattle.std.proofs.lemmas.List.{append-nil}
use Rattle.fib_worker.specs.Shards.{OthersKeepShard}
use Rattle.call_answers.specs.Orders.{commands_of, orders_of}
use Rattle.call_answers.specs.declared.orders.Setting.{Setting}
use Rattle.table_model.specs.declared.command.Command.{Command}
use Rattle.table_model.specs.declared.command.Command.TheVariants.{Collect, Report}
use Rattle.table_model.specs.declared.command.Config.{Config}
use Rattle.table_model.specs.declared.job.Verdict.{Verdict}
use Rattle.table_model.specs.Event.{Event}
use Rattle.table_model.specs.Legal.{IsLawful}
use Rattle.table_model.specs.Reply.{is_halted}
use Rattle.table_model.specs.Results.{owed}
use Rattle.table_model.specs.Sessions.{is_live}
use Rattle.rib_core.specs.Core.{Core}
use Rattle.inline_worker.specs.CoreAt.{CoreAt}
use Rattle.inline_worker.specs.Turns.{behind, collect_events, collects, is_report, next_event, outstanding_in, reports, work_events}
use Rattle.inline_worker.specs.Works.{DeviceTold}
use Rattle.inline_worker.proofs.Standing.{lawful_at}
use Rattle.message_run.specs.declared.message_handler.Handled.{Handled}
use Rattle.message_run.specs.declared.message_handler.Handled.TheVariants.{Continue, Ends, Unreadable, NoMemory}
use Rattle.apply_path.specs.History.{event, answered, answer_bytes, first_end, status_code_of, up_to_end, CommandRun, run_of_events, run_commands}
use Rattle.apply_path.specs.Responses.{config_of, fault_of, run_message}
use Rattle.apply_path.specs.SessionAt.{Ended, MessageDone, OutOfMemory, RanOn, TakesTurns, TurnsTaken}
use Rattle.apply_path.proofs.Messages.{went_all, ended_all}
use Rattle.apply_path.proofs.MessageTurns.{AreOrders, are_orders, events_of_session, message_begins, message_ends, message_goes, none_goes}
use Rattle.apply_path.proofs.Resting.{AreOfSession, IsCalm, IsOfSession, Rests, calm_live, calm_runs, reply_calm, rests_through}
use Rattle.apply_path.proofs.Turning.{go_all}

-- no report is among the session's events
no_report : (c : Command) → IsOfSession c → is_report c ≡ false
no_report (Report number said now) mine = absurd mine
no_report _ mine = refl

pub same_reports : (es past : List Event) → AreOfSession es → reports (behind past es) ≡ reports past
same_reports [] past h = refl
same_reports (e ∷ es) past h = same_reports es (e ∷ past) h.1 ∙ ap (λ (b : Bool). cond b (suc (reports past)) (reports past)) (no_report e.command h.0)

collects_mine : (config : Config) (n : ℕ) (past : List Event) → AreOfSession (collects config n past)
collects_mine config zero past = (refl, tt)
collects_mine config (suc n) past =
    let e : Event = next_event config past (Collect 0) in
    (refl, cut (outstanding_in e.reply == 0) (collects config n (e ∷ past)) (collects_mine config n (e ∷ past)))
  where
    cut : (b : Bool) (es : List Event) → AreOfSession es → AreOfSession (cond b [] es)
    cut true es h = tt
    cut false es h = h

-- no Halt stands behind the session's commands, and it is there
steady_row : (config : Config) (past : List Event) (cs : List Command) → is_halted past ≡ false → is_live past 0 ≡ true → AreOrders cs
    → (is_halted (behind past (up_to_end (answered config past cs))) ≡ false) × (is_live (behind past (up_to_end (answered config past cs))) 0 ≡ true)
unfolding up_to_end answered
steady_row config past [] runs is_there h = (runs, is_there)
steady_row config past (c ∷ cs) runs is_there h =
    let e : Event = event config past c in
    let calm : IsCalm e.reply = reply_calm config past c runs is_there h.0 in
    let runs' = calm_runs e past calm ∙ runs in
    let there' = calm_live e past calm ∙ is_there in
    by_end (is_some (status_code_of e)) (up_to_end (answered config (e ∷ past) cs)) (runs', there') (steady_row config (e ∷ past) cs runs' there' h.1)
  where
    by_end : (b : Bool) (es : List Event) → (is_halted (event config past c ∷ past) ≡ false) × (is_live (event config past c ∷ past) 0 ≡ true)
        → (is_halted (behind (event config past c ∷ past) es) ≡ false) × (is_live (behind (event config past c ∷ past) es) 0 ≡ true)
        → (is_halted (behind (event config past c ∷ past) (cond b [] es)) ≡ false) × (is_live (behind (event config past c ∷ past) (cond b [] es)) 0 ≡ true)
    by_end true es here rest = here
    by_end false es here rest = rest

module _ (s : Setting) (law : OthersKeepShard (config_of s)) (place : ℕ) (m : List ℕ) (past : List Event) (takes : TakesTurns (config_of s) past) where
  abbrev cs : List Command
  cs = commands_of 0 (pos place) (orders_of s m)

  abbrev row : List Event
  row = answered (config_of s) past cs

  run_is : run_commands s.numbering (config_of s) past cs ≡ run_of_events s.numbering past row
  unfolding run_commands
  run_is = refl

  rests_row : (mid : Core) (now : List Event) → CoreAt (config_of s) mid now → behind past (up_to_end row) ≡ now → Rests (config_of s) past now
  rests_row mid now stood is =
      subst (Rests (config_of s) past) is
      (rests_through (config_of s) law (up_to_end row) past takes (events_of_session (config_of s) past cs (are_orders s (pos place) m)) (subst (IsLawful (config_of s)) (sym is) (lawful_at (config_of s) mid now stood)))

  -- its commands are done, and none ended the stream
  module _ (mid : Core) (before between : List ℕ) (k : RanOn s.numbering (config_of s) mid past cs before between) where
    row_is : run_of_events s.numbering past row ≡ record { written = k.written; ending = None; past = k.now }
    row_is = sym run_is ∙ went_all s mid past cs before between k

    no_end : first_end row ≡ None
    no_end = ap (λ (r : CommandRun). r.ending) row_is

    all_row : up_to_end row ≡ row
    all_row = go_all row (none_goes row no_end)

    now_is : behind past row ≡ k.now
    now_is = ap (behind past) (sym all_row) ∙ ap (λ (r : CommandRun). r.past) row_is

    bytes_is : flat_map (answer_bytes s.numbering) row ≡ k.written
    bytes_is = ap (flat_map (answer_bytes s.numbering)) (sym all_row) ∙ ap (λ (r : CommandRun). r.written) row_is

    pub rests_mid : Rests (config_of s) past k.now
    rests_mid = rests_row mid k.now k.stood (ap (λ (r : CommandRun). r.past) row_is)

    pub reports_mid : reports k.now ≡ reports past
    reports_mid = subst (λ (l : List Event). reports l ≡ reports past) (ap (λ (r : CommandRun). r.past) row_is) (same_reports (up_to_end row) past (events_of_session (config_of s) past cs (are_orders s (pos place) m)))

    -- what the message comes to
    comes_to : (heard : List Verdict) (worked : List Event) → behind k.now (work_events (config_of s) heard (pos place) k.now) ≡ worked → fault_of s m ≡ None
        → run_message s heard past place m
        ≡ record { written = k.written ++ flat_map (answer_bytes s.numbering) (collect_events (config_of s) worked); ending = None; past = behind worked (collect_events (config_of s) worked) }
    comes_to heard worked is readable =
        let whole = message_goes s heard past place m readable no_end (subst (λ (l : List Event). is_halted l ≡ false) (sym now_is) rests_mid.takes.runs) (subst (λ (l : List Event). is_live l 0 ≡ true) (sym now_is) rests_mid.takes.is_there) in
        let worked_is : behind (behind past row) (work_events (config_of s) heard (pos place) (behind past row)) ≡ worked = ap (λ (l : List Event). behind l (work_events (config_of s) heard (pos place) l)) now_is ∙ is in
        whole
        ∙ ap (λ (w : List ℕ). record { written = w ++ flat_map (answer_bytes s.numbering) (collect_events (config_of s) (behind (behind past row) (work_events (config_of s) heard (pos place) (behind past row)))); ending = None; past = behind (behind (behind past row) (work_events (config_of s) heard (pos place) (behind past row))) (collect_events (config_of s) (behind (behind past row) (work_events (config_of s) heard (pos place) (behind past row)))) }) bytes_is
        ∙ ap (λ (l : List Event). record { written = k.written ++ flat_map (answer_bytes s.numbering) (collect_events (config_of s) l); ending = None; past = behind l (collect_events (config_of s) l) }) worked_is

    module _ (said : List Verdict) (new : Core) (device : DeviceTold) (after : List ℕ) where
      pub message_done : (answer : Handled) → TurnsTaken s.numbering (config_of s) (pos place) k.now said new device answer between after → MessageDone s place m past said new device answer before after
      message_done Continue t =
          let collected = collect_events (config_of s) t.turns.worked in
          let mine = collects_mine (config_of s) (owed t.turns.worked 0) t.turns.worked in
          let rest = rests_through (config_of s) law collected t.turns.worked t.turns.takes mine (lawful_at (config_of s) new (behind t.turns.worked collected) t.turns.collects.0) in
          record {
            more = t.more;
            done = record {
              now = behind t.turns.worked collected;
              written = k.written ++ flat_map (answer_bytes s.numbering) collected;
              runs = λ later readable. comes_to ((said ++ t.more) ++ later) t.turns.worked (t.turns.events_are later) readable;
              appended = t.turns.collects.1 ∙ ap (λ (x : List ℕ). x ++ flat_map (answer_bytes s.numbering) collected) k.appended ∙ append_assoc before k.written (flat_map (answer_bytes s.numbering) collected);
              stood = t.turns.collects.0;
              few = t.turns.collects.2;
              counted = t.turns.counted ∙ sym (same_reports collected t.turns.worked mine);
              takes = rest.takes;
              holds = λ h. rest.keeps device.held_after (t.turns.holds (rests_mid.keeps device.held_before h));
            };
            later = t.later;
            failed = t.failed;
          }
      message_done (Ends code) t = absurd t.turns
      message_done (Unreadable at) t = absurd t.turns
      message_done NoMemory t =
          let p = t.turns in
          record {
            more = t.more;
            done = λ readable. record {
              part = k.written ++ p.part;
              others = p.others;
              bytes_are = ap (λ (r : CommandRun). r.written) (comes_to (said ++ t.more) (behind k.now (work_events (config_of s) (said ++ t.more) (pos place) k.now)) refl readable)
                  ∙ ap (λ (x : List ℕ). k.written ++ x) p.bytes_are ∙ sym (append_assoc k.written p.part p.others);
              appended = p.appended ∙ ap (λ (x : List ℕ). x ++ p.part) k.appended ∙ append_assoc before k.written p.part;
            };
            later = t.later;
            failed = t.failed;
          }

  -- a reply ended the stream, and the device did nothing
  pub message_ended : (new : Core) (said : List Verdict) (device : DeviceTold) (code : ℕ) (before after : List ℕ) → length said ≡ reports past → device.faults_after ≡ device.faults_before → device.held_after ≡ device.held_before
      → Ended s.numbering (config_of s) new past cs code before after → MessageDone s place m past said new device (Ends code) before after
  message_ended new said device code before after counted faults held k =
      let row_is = sym run_is ∙ ended_all s new past cs code before after k in
      let now_is = ap (λ (r : CommandRun). r.past) row_is in
      let rests = rests_row new k.now k.stood now_is in
      record {
        more = [];
        done = record {
          now = k.now;
          written = k.written;
          runs = λ later readable. message_ends s ((said ++ []) ++ later) past place m readable code (ap (λ (r : CommandRun). r.ending) row_is) ∙ row_is;
          appended = k.appended;
          stood = k.stood;
          few = k.few;
          counted = ap (λ (l : List Verdict). length l) (append-nil said) ∙ counted
              ∙ sym (subst (λ (l : List Event). reports l ≡ reports past) now_is (same_reports (up_to_end row) past (events_of_session (config_of s) past cs (are_orders s (pos place) m))));
          takes = rests.takes;
          holds = λ h. rw held (rests.keeps device.held_before h);
        };
        later = omega (arith, faults);
        failed = λ few. omega (arith, faults);
      }

  -- there was no memory for a command
  pub message_lacks : (new : Core) (said : List Verdict) (device : DeviceTold) (before after : List ℕ) → device.faults_after ≡ device.faults_before
      → OutOfMemory s.numbering (config_of s) past cs before after → MessageDone s place m past said new device NoMemory before after
  message_lacks new said device before after faults k =
      let steady = steady_row (config_of s) past cs takes.runs takes.is_there (are_orders s (pos place) m) in
      let b = k.begins [] in
      let written : (run_of_events s.numbering past row).written ≡ k.part ++ b.0 = ap (λ (r : CommandRun). r.written) (sym run_is) ∙ ap (λ (l : List Command). (run_commands s.numbering (config_of s) past l).written) (sym (append-nil cs)) ∙ b.1 in
      record {
        more = [];
        done = λ readable.
            let w = message_begins s (said ++ []) past place m readable steady.0 steady.1 in
            record {
              part = k.part;
              others = b.0 ++ w.0;
              bytes_are = w.1 ∙ ap (λ (x : List ℕ). x ++ w.0) written ∙ append_assoc k.part b.0 w.0;
              appended = k.appended;
            };
        later = omega (arith, faults);
        failed = λ few. omega (arith, faults);
      }
