-- What is written for an input is answers to all its events, in a row.
use Rattle.std.proofs.Common.{◌≡◌, ℕ, ◌+◌, cond, List, [], ◌∷◌, ◌++◌, length, Option, Some, None, refl, sym, ap, subst, ◌∙◌, append_assoc}
use Rattle.std.specs.Prelude.{is_some}
use Rattle.std.specs.List.{flat_map}
use Rattle.std.specs.Option.{option_map, option_or}
use Rattle.std.proofs.lemmas.List.{append-nil, length_push}
use Rattle.std.proofs.lemmas.List.Concat.{flat_map-append}
use Rattle.schema_numbers.specs.Numbers.{Numbers}
use Rattle.proto_schema.specs.declared.legal.MessageFault.{MessageFault}
use Rattle.proto_schema.specs.declared.legal.MessageFault.TheVariants.{Wire, Utf8}
use Rattle.proto_schema.specs.declared.legal.MessageFault.TheVariants as fault
use Rattle.call_answers.specs.declared.orders.Setting.{Setting}
use Rattle.table_model.specs.declared.job.Verdict.{Verdict}
use Rattle.table_model.specs.Event.{Event}
use Rattle.inline_worker.specs.Turns.{behind}
use Rattle.message_run.specs.Behaviour.{MessageTrace, Reply, trace_with, trace_from}
use Rattle.apply_path.specs.History.{answer_bytes, first_end, status_code_of, up_to_end}
use Rattle.apply_path.specs.Responses.{apply_behaviour, begun, fault_of, history, history_from, message_events, response_by, run_message}
use Rattle.apply_path.specs.Laws.{ending_by, events_from, events_of, first_unreadable, is_unreadable, readable, unreadable_place}
use Rattle.apply_path.proofs.Messages.{history_more}
use Rattle.apply_path.proofs.MessageTurns.{none_goes}
use Rattle.apply_path.proofs.Turning.{GoOn, go_all}

-- ---- events, and others behind them

go_then : (es fs : List Event) → GoOn es → (up_to_end (es ++ fs) ≡ es ++ up_to_end fs) × (first_end (es ++ fs) ≡ first_end fs)
unfolding up_to_end first_end
go_then [] fs h = (refl, refl)
go_then (e ∷ es) fs h = let rest = go_then es fs h.1 in (rw h.0 (ap (λ (l : List Event). e ∷ l) rest.0), rw h.0 rest.1)

end_stops : (es fs : List Event) (code : ℕ) → first_end es ≡ Some code → (up_to_end (es ++ fs) ≡ up_to_end es) × (first_end (es ++ fs) ≡ Some code)
unfolding up_to_end first_end
end_stops [] fs code h = absurd cc
end_stops (e ∷ es) fs code h = by_code (status_code_of e) refl h (end_stops es fs code)
  where
    by_code : (o : Option ℕ) → status_code_of e ≡ o → option_or (status_code_of e) (first_end es) ≡ Some code
        → (first_end es ≡ Some code → (up_to_end (es ++ fs) ≡ up_to_end es) × (first_end (es ++ fs) ≡ Some code))
        → (e ∷ cond (is_some (status_code_of e)) [] (up_to_end (es ++ fs)) ≡ e ∷ cond (is_some (status_code_of e)) [] (up_to_end es)) × (option_or (status_code_of e) (first_end (es ++ fs)) ≡ Some code)
    by_code None is h rest =
        let r = rest (sym (ap (λ (x : Option ℕ). option_or x (first_end es)) is) ∙ h) in
        (rw is (ap (λ (l : List Event). e ∷ l) r.0), ap (λ (x : Option ℕ). option_or x (first_end (es ++ fs))) is ∙ r.1)
    by_code (Some c) is h rest = (
      rw is refl,
      ap (λ (x : Option ℕ). option_or x (first_end (es ++ fs))) is ∙ sym (ap (λ (x : Option ℕ). option_or x (first_end es)) is) ∙ h,
    )

-- ---- messages

-- what messages come to is what these events do
record InARow (n : Numbers) (all : List (List ℕ)) (unreadable : Option ℕ) (row : List Event) (t : MessageTrace) : Type 0 where
  written : t.written ≡ flat_map (answer_bytes n) (up_to_end row)
  ending : t.ending ≡ ending_by (first_end row) unreadable
  done_are : first_end row ≡ None → t.done ≡ all

message_then : (n : Numbers) (es rest : List Event) (done all : List (List ℕ)) (m : List ℕ) (unreadable : Option ℕ) (t : MessageTrace) (o : Option ℕ) → first_end es ≡ o
    → (first_end es ≡ None → InARow n all unreadable rest t)
    → InARow n all unreadable (es ++ rest) (trace_with done m (flat_map (answer_bytes n) (up_to_end es)) (option_map (λ code. Reply code) o) t)
message_then n es rest done all m unreadable t None is more =
    let r = more is in
    let goes = none_goes es is in
    let j = go_then es rest goes in
    record {
      written = ap (λ (x : List ℕ). flat_map (answer_bytes n) (up_to_end es) ++ x) r.written
          ∙ ap (λ (l : List Event). flat_map (answer_bytes n) l ++ flat_map (answer_bytes n) (up_to_end rest)) (go_all es goes)
          ∙ sym (ap (flat_map (answer_bytes n)) j.0 ∙ flat_map-append (answer_bytes n) es (up_to_end rest));
      ending = r.ending ∙ ap (λ (x : Option ℕ). ending_by x unreadable) (sym j.1);
      done_are = λ none. r.done_are (sym j.1 ∙ none);
    }
message_then n es rest done all m unreadable t (Some code) is more =
    let e = end_stops es rest code is in
    record {
      written = ap (flat_map (answer_bytes n)) (sym e.0);
      ending = ap (λ (x : Option ℕ). ending_by x unreadable) (sym e.1);
      done_are = λ none. let bad : Some code ≡ None = sym e.1 ∙ none in absurd cc;
    }

nothing_done : (s : Setting) (said : List Verdict) (past : List Event) (place : ℕ) (done : List (List ℕ)) (m : List ℕ) (ms : List (List ℕ)) (t : MessageTrace) → fault_of s m ≡ Some fault.NoMemory
    → InARow s.numbering ((done ++ m ∷ []) ++ readable s ms) (first_unreadable s ms) (events_from s said (run_message s said past place m).past (place + 1) (readable s ms)) t
    → InARow s.numbering (done ++ m ∷ readable s ms) (first_unreadable s ms) (events_from s said past place (m ∷ readable s ms)) (record { done = t.done; written = t.written; ending = t.ending })
unfolding events_from up_to_end
nothing_done s said past place done m ms t e more =
    let rest : List (List ℕ) = readable s ms in
    let none : message_events s said past place m ≡ [] = rw e refl in
    let here = subst (λ (l : List Event). InARow s.numbering ((done ++ m ∷ []) ++ rest) (first_unreadable s ms) (events_from s said (behind past (up_to_end l)) (place + 1) rest) t) none more in
    let row = subst (λ (l : List Event). InARow s.numbering ((done ++ m ∷ []) ++ rest) (first_unreadable s ms) (l ++ events_from s said (behind past l) (place + 1) rest) t) (sym none) here in
    record { written = row.written; ending = row.ending; done_are = λ none. row.done_are none ∙ append_assoc done (m ∷ []) rest }

message_step : (s : Setting) (said : List Verdict) (past : List Event) (place : ℕ) (done : List (List ℕ)) (m : List ℕ) (ms : List (List ℕ)) (t : MessageTrace) (f : Option MessageFault) → fault_of s m ≡ f
    → InARow s.numbering ((done ++ m ∷ []) ++ readable s ms) (first_unreadable s ms) (events_from s said (run_message s said past place m).past (place + 1) (readable s ms)) t
    → InARow s.numbering (done ++ cond (is_unreadable f) [] (m ∷ readable s ms)) (option_or (unreadable_place f) (first_unreadable s ms)) (events_from s said past place (cond (is_unreadable f) [] (m ∷ readable s ms)))
    (trace_with done m (response_by f (run_message s said past place m)).written (response_by f (run_message s said past place m)).ending t)
unfolding events_from up_to_end first_end
message_step s said past place done m ms t None e more =
    let es = message_events s said past place m in
    let rest : List (List ℕ) = readable s ms in
    let here = subst (λ (l : List (List ℕ)). InARow s.numbering l (first_unreadable s ms) (events_from s said (behind past (up_to_end es)) (place + 1) rest) t) (append_assoc done (m ∷ []) rest) more in
    message_then s.numbering es (events_from s said (behind past es) (place + 1) rest) done (done ++ m ∷ rest) m (first_unreadable s ms) t (first_end es) refl
    (λ none. subst (λ (l : List Event). InARow s.numbering (done ++ m ∷ rest) (first_unreadable s ms) (events_from s said (behind past l) (place + 1) rest) t) (go_all es (none_goes es none)) here)
message_step s said past place done m ms t (Some (Wire p found)) e more = record { written = refl; ending = refl; done_are = λ none. sym (append-nil done) }
message_step s said past place done m ms t (Some (Utf8 p)) e more = record { written = refl; ending = refl; done_are = λ none. sym (append-nil done) }
message_step s said past place done m ms t (Some fault.NoMemory) e more = nothing_done s said past place done m ms t e more

in_a_row : (s : Setting) (said : List Verdict) (done ms : List (List ℕ))
    → InARow s.numbering (done ++ readable s ms) (first_unreadable s ms) (events_from s said (history s said done) (length done + 1) (readable s ms)) (trace_from (apply_behaviour s said) done ms)
unfolding trace_from readable events_from first_unreadable apply_behaviour up_to_end first_end
in_a_row s said done [] = record { written = refl; ending = refl; done_are = λ none. sym (append-nil done) }
in_a_row s said done (m ∷ ms) =
    let past = history s said done in
    let t = trace_from (apply_behaviour s said) (done ++ m ∷ []) ms in
    let rest : List (List ℕ) = readable s ms in
    let row_is : events_from s said (history s said (done ++ m ∷ [])) (length (done ++ m ∷ []) + 1) rest ≡ events_from s said (run_message s said past (length done + 1) m).past (length done + 1 + 1) rest
    = ap (λ (p : List Event). events_from s said p (length (done ++ m ∷ []) + 1) rest) (history_more s said (begun s) 1 done m)
    ∙ ap (λ (k : ℕ). events_from s said (run_message s said past (length done + 1) m).past (k + 1) rest) (length_push done m) in
    message_step s said past (length done + 1) done m ms t (fault_of s m) refl
    (subst (λ (row : List Event). InARow s.numbering ((done ++ m ∷ []) ++ rest) (first_unreadable s ms) row t) row_is (in_a_row s said (done ++ m ∷ []) ms))

-- ---- an input

pub answers_in_a_row : (s : Setting) (said : List Verdict) (messages : List (List ℕ)) → (trace_from (apply_behaviour s said) [] messages).written ≡ flat_map (answer_bytes s.numbering) (up_to_end (events_of s said messages))
unfolding history_from
answers_in_a_row s said messages = (in_a_row s said [] messages).written

pub whole_answers : (s : Setting) (said : List Verdict) (messages : List (List ℕ)) → first_end (events_of s said messages) ≡ None
    → (trace_from (apply_behaviour s said) [] messages).written ≡ flat_map (answer_bytes s.numbering) (events_of s said messages)
whole_answers s said messages e = answers_in_a_row s said messages ∙ ap (flat_map (answer_bytes s.numbering)) (go_all (events_of s said messages) (none_goes (events_of s said messages) e))

pub ending_is : (s : Setting) (said : List Verdict) (messages : List (List ℕ)) → (trace_from (apply_behaviour s said) [] messages).ending ≡ ending_by (first_end (events_of s said messages)) (first_unreadable s messages)
unfolding history_from
ending_is s said messages = (in_a_row s said [] messages).ending

pub done_are : (s : Setting) (said : List Verdict) (messages : List (List ℕ)) → first_end (events_of s said messages) ≡ None → (trace_from (apply_behaviour s said) [] messages).done ≡ readable s messages
unfolding history_from
done_are s said messages = (in_a_row s said [] messages).done_are
