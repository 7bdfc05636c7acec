-- A session begins, handles its messages, and leaves.
use Rattle.std.proofs.Common.{◌≡◌, ℕ, ◌+◌, ◌-◌, ◌<◌, ◌≤◌, ◌^◌, List, [], ◌∷◌, ◌++◌, length, Option, Some, None, refl, sym, ap, subst, ◌∙◌, append_assoc, arith}
use Rattle.std.proofs.lemmas.List.{append-nil, length_push}
use Rattle.aft_entries.specs.declared.entry.Entry.{Entry}
use Rattle.fib_worker.specs.Shards.{HoldsShard, OthersKeepShard}
use Rattle.proto_schema.specs.declared.legal.MessageFault.{MessageFault}
use Rattle.proto_schema.specs.declared.legal.MessageFault.TheVariants.{Wire, Utf8}
use Rattle.proto_schema.specs.declared.legal.MessageFault.TheVariants as fault
use Rattle.call_answers.specs.declared.orders.Setting.{Setting}
use Rattle.table_model.specs.declared.command.Command.TheVariants.{Leave}
use Rattle.table_model.specs.declared.job.Verdict.{Verdict}
use Rattle.table_model.specs.declared.job.Verdict.TheVariants.{Programmed, DeviceFault}
use Rattle.table_model.specs.declared.reply.Reply.{Reply}
use Rattle.table_model.specs.Event.{Event}
use Rattle.table_model.specs.Jobs.{fib, outcome_of, table_of, tasks, tracked_tasks}
use Rattle.table_model.specs.Legal.{IsLawful}
use Rattle.table_model.specs.Reply.{is_halted, reply_to}
use Rattle.table_model.specs.Sessions.{live}
use Rattle.rib_core.specs.Core.{Core}
use Rattle.rib_core.specs.Stands.{Acts}
use Rattle.inline_worker.specs.CoreAt.{CoreAt}
use Rattle.inline_worker.specs.Turns.{failures}
use Rattle.inline_worker.specs.Works.{DeviceTold}
use Rattle.inline_worker.proofs.Standing.{lawful_at}
use Rattle.message_run.specs.Behaviour.{AgreesAt, Appends, Behaviour, HandledAfter, HandlesMessage, PartAppended, Response}
use Rattle.message_run.specs.declared.message_handler.Handled.{Handled}
use Rattle.message_run.specs.declared.message_handler.Handled.TheVariants.{Continue, Ends, Unreadable, NoMemory}
use Rattle.message_run.proofs.Agreeing.{handles_alike}
use Rattle.apply_path.specs.History.{event, CommandRun}
use Rattle.apply_path.specs.Responses.{apply_behaviour, begun, config_of, fault_of, history, history_from, response_by, run_message}
use Rattle.apply_path.specs.SessionAt.{Begun, DoneWith, HandlesFault, HasLeft, MessageDone, SessionAt, Shows}
use Rattle.apply_path.proofs.Messages.{history_more}
use Rattle.apply_path.proofs.Resting.{keeps_shard}
use Rattle.apply_path.proofs.Steps.{leaves}

-- ---- behaviours that come to the same

-- two that come to the same as a third
agrees_both : (f a b : Behaviour) (done ms : List (List ℕ)) → AgreesAt f a done ms → AgreesAt f b done ms → AgreesAt a b done ms
agrees_both f a b done [] x y = tt
agrees_both f a b done (m ∷ ms) x y = (sym x.0 ∙ y.0, agrees_both f a b (done ++ m ∷ []) ms x.1 y.1)

-- at a message more
agrees_more : (a b : Behaviour) (done ms : List (List ℕ)) (m : List ℕ) → AgreesAt a b done ms → a (done ++ ms) m ≡ b (done ++ ms) m → AgreesAt a b done (ms ++ m ∷ [])
agrees_more a b done [] m x e = (subst (λ (l : List (List ℕ)). a l m ≡ b l m) (append-nil done) e, tt)
agrees_more a b done (n ∷ ms) m x e = (
  x.0,
  agrees_more a b (done ++ n ∷ []) ms m x.1 (subst (λ (l : List (List ℕ)). a l m ≡ b l m) (sym (append_assoc done (n ∷ []) ms)) e),
)

-- ---- failures

failures_join : (xs ys : List Verdict) → failures (xs ++ ys) ≡ failures xs + failures ys
failures_join [] ys = omega arith
failures_join (Programmed ∷ xs) ys = failures_join xs ys
failures_join (DeviceFault ∷ xs) ys = let more = failures_join xs ys in omega (arith, more)

-- ---- a message that can't be read

fault_appends : (s : Setting) (said : List Verdict) (done : List (List ℕ)) (m : List ℕ) (f : MessageFault) (answer : Handled) (out : List ℕ) → fault_of s m ≡ Some f → HandlesFault f answer → Appends (apply_behaviour s said done m) answer out out
unfolding apply_behaviour
fault_appends s said done m (Wire place found) answer out e is =
    rw is (ap (λ (x : Option MessageFault). response_by x (run_message s said (history s said done) (length done + 1) m)) e, refl)
fault_appends s said done m (Utf8 place) answer out e is =
    rw is (ap (λ (x : Option MessageFault). response_by x (run_message s said (history s said done) (length done + 1) m)) e, refl)
fault_appends s said done m fault.NoMemory answer out e is = rw is record { part = []; others = (apply_behaviour s said done m).written; bytes_are = refl; appended = sym (append-nil out) }

fault_stood : (stands : List (List ℕ) → Type 0) (done : List (List ℕ)) (m : List ℕ) (f : MessageFault) (answer : Handled) → HandlesFault f answer → stands done → HandledAfter stands done m answer
fault_stood stands done m (Wire place found) answer is h = rw is h
fault_stood stands done m (Utf8 place) answer is h = rw is h
fault_stood stands done m fault.NoMemory answer is h = rw is tt

pub fault_handled : (s : Setting) (core : Core) (count : ℕ) (device : DeviceTold) (f : Behaviour) (done : List (List ℕ)) (m : List ℕ) (found : MessageFault) (answer : Handled) (out : List ℕ) → SessionAt s core count device f done
    → fault_of s m ≡ Some found → HandlesFault found answer → HandlesMessage (Shows s device) (λ g ms. SessionAt s core count device g ms) f done m answer out out
fault_handled s core count device f done m found answer out h e is =
    handles_alike (Shows s device) (λ g ms. SessionAt s core count device g ms) f done m answer out out h.shown
    (subst (λ (g : Behaviour). Appends (g done m) answer out out) (sym h.shown.behaves) (fault_appends s h.shown.said done m found answer out e is))
    (fault_stood (λ ms. SessionAt s core count device f ms) done m found answer is h)

-- ---- one that can be read

apply_is : (s : Setting) (said : List Verdict) (done : List (List ℕ)) (m : List ℕ) → fault_of s m ≡ None → apply_behaviour s said done m ≡ response_by None (run_message s said (history s said done) (length done + 1) m)
unfolding apply_behaviour
apply_is s said done m e = ap (λ (x : Option MessageFault). response_by x (run_message s said (history s said done) (length done + 1) m)) e

module _ (s : Setting) (old new : Core) (count : ℕ) (a b c : ℕ) (x y z : Option (List Entry)) (f : Behaviour) (done : List (List ℕ)) (m : List ℕ)
    (h : SessionAt s old count (record { faults_before = a; faults_after = b; held_before = x; held_after = y }) f done) (readable : fault_of s m ≡ None)
    (more : List Verdict) (rose : b ≤ c) (failed : c < 2 ^ 64 - 1 → failures more + b ≤ c) where
  abbrev heard : List Verdict
  heard = h.shown.said ++ more

  abbrev told : DeviceTold
  told = record { faults_before = a; faults_after = c; held_before = x; held_after = z }

  abbrev now_behaves : Behaviour
  now_behaves = apply_behaviour s heard

  shown_then : Shows s told now_behaves
  shown_then = record {
    said = heard;
    behaves = refl;
    later = omega (arith, h.shown.later, rose);
    failed = λ few. let before : b < 2 ^ 64 - 1 = omega (arith, few, rose) in let first = h.shown.failed before in let second = failed few in let both = failures_join h.shown.said more in omega (arith, first, second, both);
  }

  same_now : apply_behaviour s heard done m ≡ apply_behaviour s (heard ++ []) done m
  same_now = ap (λ (l : List Verdict). apply_behaviour s l done m) (sym (append-nil heard))

  message_is : (later : List Verdict) → run_message s (heard ++ later) (history s (heard ++ later) done) (length done + 1) m ≡ run_message s (heard ++ later) h.past (count + 1) m
  message_is later =
      let past_at : history s (heard ++ later) done ≡ h.past = ap (λ (l : List Verdict). history s l done) (append_assoc h.shown.said more later) ∙ h.past_is (more ++ later) in
      ap (λ (p : List Event). run_message s (heard ++ later) p (length done + 1) m) past_at
      ∙ ap (λ (k : ℕ). run_message s (heard ++ later) h.past (k + 1) m) (sym h.count_is)

  comes : (later : List Verdict) → apply_behaviour s (heard ++ later) done m ≡ response_by None (run_message s (heard ++ later) h.past (count + 1) m)
  comes later = apply_is s (heard ++ later) done m readable ∙ ap (response_by None) (message_is later)

  module _ (before after : List ℕ) where
    -- it is done
    module _ (ending : Option ℕ) (k : DoneWith s (count + 1) m h.past heard new y z ending before after) where
      response : (later : List Verdict) → apply_behaviour s (heard ++ later) done m ≡ response_by None (record { written = k.written; ending = ending; past = k.now })
      response later = comes later ∙ ap (response_by None) (k.runs later readable)

      response_now : apply_behaviour s heard done m ≡ response_by None (record { written = k.written; ending = ending; past = k.now })
      response_now = same_now ∙ response []

      session_then : SessionAt s new (count + 1) told now_behaves (done ++ m ∷ [])
      unfolding shown_then
      session_then = record {
        shown = shown_then;
        past = k.now;
        past_is = λ later. history_more s (heard ++ later) (begun s) 1 done m ∙ ap (λ (r : CommandRun). r.past) (message_is later ∙ k.runs later readable);
        agrees = λ later.
            let g : Behaviour = apply_behaviour s (heard ++ later) in
            let other : AgreesAt f g [] done = subst (λ (l : List Verdict). AgreesAt f (apply_behaviour s l) [] done) (sym (append_assoc h.shown.said more later)) (h.agrees (more ++ later)) in
            agrees_more now_behaves g [] done m (agrees_both f now_behaves g [] done (h.agrees more) other) (response_now ∙ sym (response later));
        stood = k.stood;
        counted = k.counted;
        few = k.few;
        count_is = ap (λ (n : ℕ). n + 1) h.count_is ∙ sym (length_push done m);
        takes = k.takes;
        holds = λ held. k.holds (h.holds held);
      }

      appended_then : after ≡ before ++ (now_behaves done m).written
      appended_then = k.appended ∙ ap (λ (r : Response). before ++ r.written) (sym response_now)

    -- there was no memory
    part_then : PartAppended (run_message s heard h.past (count + 1) m).written before after → PartAppended (now_behaves done m).written before after
    part_then p =
        let same : (now_behaves done m).written ≡ (run_message s heard h.past (count + 1) m).written
        = ap (λ (r : Response). r.written) (same_now ∙ comes []) ∙ ap (λ (l : List Verdict). (run_message s l h.past (count + 1) m).written) (append-nil heard) in
        subst (λ (l : List ℕ). PartAppended l before after) (sym same) p

pub message_handled : (s : Setting) (old new : Core) (count : ℕ) (a b c : ℕ) (x y z : Option (List Entry)) (f : Behaviour) (done : List (List ℕ)) (m : List ℕ) (answer : Handled) (before after : List ℕ)
    → (h : SessionAt s old count (record { faults_before = a; faults_after = b; held_before = x; held_after = y }) f done) → fault_of s m ≡ None
    → MessageDone s (count + 1) m h.past h.shown.said new (record { faults_before = b; faults_after = c; held_before = y; held_after = z }) answer before after
    → HandlesMessage (Shows s (record { faults_before = a; faults_after = c; held_before = x; held_after = z }))
    (λ g ms. SessionAt s new (count + 1) (record { faults_before = a; faults_after = c; held_before = x; held_after = z }) g ms) f done m answer before after
message_handled s old new count a b c x y z f done m Continue before after h readable d = record {
  behaviour = apply_behaviour s (h.shown.said ++ d.more);
  shown = shown_then s old new count a b c x y z f done m h readable d.more d.later d.failed;
  agrees = h.agrees d.more;
  appends = (
    ap (λ (r : Response). r.ending) (response_now s old new count a b c x y z f done m h readable d.more d.later d.failed before after None d.done),
    appended_then s old new count a b c x y z f done m h readable d.more d.later d.failed before after None d.done,
  );
  stood = session_then s old new count a b c x y z f done m h readable d.more d.later d.failed before after None d.done;
}
message_handled s old new count a b c x y z f done m (Ends code) before after h readable d = record {
  behaviour = apply_behaviour s (h.shown.said ++ d.more);
  shown = shown_then s old new count a b c x y z f done m h readable d.more d.later d.failed;
  agrees = h.agrees d.more;
  appends = (
    ap (λ (r : Response). r.ending) (response_now s old new count a b c x y z f done m h readable d.more d.later d.failed before after (Some code) d.done),
    appended_then s old new count a b c x y z f done m h readable d.more d.later d.failed before after (Some code) d.done,
  );
  stood = session_then s old new count a b c x y z f done m h readable d.more d.later d.failed before after (Some code) d.done;
}
message_handled s old new count a b c x y z f done m (Unreadable place) before after h readable d = absurd d.done
message_handled s old new count a b c x y z f done m NoMemory before after h readable d = record {
  behaviour = apply_behaviour s (h.shown.said ++ d.more);
  shown = shown_then s old new count a b c x y z f done m h readable d.more d.later d.failed;
  agrees = h.agrees d.more;
  appends = part_then s old new count a b c x y z f done m h readable d.more d.later d.failed before after (d.done readable);
  stood = tt;
}

-- ---- the session leaves

pub left_then : (s : Setting) → OthersKeepShard (config_of s) → (old new : Core) (count : ℕ) (device : DeviceTold) (f : Behaviour) (done : List (List ℕ)) (given : Reply) → SessionAt s old count device f done
    → Acts old (Leave 0) given new → new.config ≡ old.config → HasLeft s new device f done
left_then s law old new count device f done given h acts kept =
    let here : history s h.shown.said done ≡ h.past = ap (λ (l : List Verdict). history s l done) (sym (append-nil h.shown.said)) ∙ h.past_is [] in
    let stood = leaves (config_of s) old new h.past given h.stood acts kept in
    let e : Event = event (config_of s) h.past (Leave 0) in
    let lawful : IsLawful (config_of s) (e ∷ h.past) = lawful_at (config_of s) new (e ∷ h.past) stood in
    record {
      shown = h.shown;
      stood = subst (λ (p : List Event). CoreAt (config_of s) new (event (config_of s) p (Leave 0) ∷ p)) (sym here) stood;
      holds = λ held.
          subst (λ (p : List Event). HoldsShard 1 0 device.held_after (fib (event (config_of s) p (Leave 0) ∷ p))) (sym here)
          (keeps_shard (config_of s) law e h.past refl lawful tt device.held_after (h.holds held));
    }

-- ---- the session begins

pub session_begun : (s : Setting) (core : Core) (count faults : ℕ) (held : Option (List Entry)) → count ≡ 0 → Begun (length s.instances) core
    → SessionAt s core count (record { faults_before = faults; faults_after = faults; held_before = held; held_after = held }) (apply_behaviour s []) []
unfolding history_from is_halted live reply_to fib table_of tracked_tasks tasks outcome_of
session_begun s core count faults held none h = record {
  shown = record { said = []; behaves = refl; later = omega arith; failed = λ few. omega arith };
  past = begun s;
  past_is = λ later. refl;
  agrees = λ later. tt;
  stood = h.stood;
  counted = refl;
  few = h.few;
  count_is = none;
  takes = record { one_worker = refl; rest = record { lawful = (refl, tt, refl); none_out = refl }; runs = refl; is_there = refl };
  holds = λ it. it;
}
