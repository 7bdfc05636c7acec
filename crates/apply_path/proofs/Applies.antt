-- A run of a session is one of `apply`.
use Rattle.std.specs.Option.{option_map}
use Rattle.std.proofs.Common.{inl, inr, ◌⊎◌, ◌≡◌, ℕ, ◌+◌, ◌-◌, ◌<◌, ◌≤◌, ◌^◌, List, [], ◌++◌, Option, Some, None, refl, sym, ap, subst, ◌∙◌, arith}
use Rattle.std.proofs.lemmas.List.{append-nil}
use Rattle.aft_entries.specs.declared.entry.Entry.{Entry}
use Rattle.fib_worker.specs.Shards.{EmptyHoldsShard, HoldsShard}
use Rattle.call_answers.specs.declared.orders.Setting.{Setting}
use Rattle.table_model.specs.declared.job.Verdict.{Verdict}
use Rattle.table_model.specs.Event.{Event}
use Rattle.table_model.specs.Jobs.{fib}
use Rattle.rib_core.specs.Core.{Core}
use Rattle.inline_worker.specs.Turns.{failures}
use Rattle.inline_worker.specs.Works.{DeviceTold}
use Rattle.message_run.specs.Behaviour.{Behaviour}
use Rattle.message_run.specs.Outcomes.{done_of, outcome_of, output_of}
use Rattle.message_run.specs.Runs.{IsClosing, IsStatus, Runs, RunsSomehow, Told}
use Rattle.message_run.specs.Written.{WrotePart}
use Rattle.message_run.proofs.Closing.{goes_on, runs_over}
use Rattle.apply_path.specs.Applied.{Applies, HoldsTable, HoldsTableAfterLeave}
use Rattle.apply_path.specs.Responses.{apply_behaviour, history}
use Rattle.apply_path.specs.SessionAt.{HasLeft, SessionAt, Shows}

-- ---- what the device said is what the run's end knows of

with_said : (s : Setting) (status : ℕ) (told : Told) (device : DeviceTold) (f : Behaviour) (said : List Verdict) (has_done has_left : List (List ℕ) → Type 0) (runs : Runs f has_done has_left status told)
    → f ≡ apply_behaviour s said → device.faults_before ≤ device.faults_after → (device.faults_after < 2 ^ 64 - 1 → failures said + device.faults_before ≤ device.faults_after)
    → (IsClosing status → HoldsTableAfterLeave s said device (done_of f runs.taken)) → (status ≡ 4 → HoldsTable s said device (done_of f runs.taken)) → Applies s status told device
with_said s status told device f said has_done has_left runs behaves later failed left stood =
    let held : Runs f (HoldsTable s said device) (HoldsTableAfterLeave s said device) status told
    = record {
      taken = runs.taken;
      taken_is = runs.taken_is;
      left_is = runs.left_is;
      whole = λ closing. let w = runs.whole closing in (w.0, w.1, left closing);
      still = runs.still;
      failed = λ four. let w = runs.failed four in (stood four, w.1, w.2);
      over = runs.over;
      answers = runs.answers;
      part = runs.part;
    } in
    let said_so : Runs (apply_behaviour s said) (HoldsTable s said device) (HoldsTableAfterLeave s said device) status told
    = subst (λ (g : Behaviour). Runs g (HoldsTable s said device) (HoldsTableAfterLeave s said device) status told) behaves held in
    record {
      said = said;
      runs = said_so;
      over = λ input e. runs_over (apply_behaviour s said) (HoldsTable s said device) (HoldsTableAfterLeave s said device) status input told said_so e;
      later = later;
      failed = failed;
    }

module _ (law : EmptyHoldsShard) (s : Setting) (core : Core) (count : ℕ) (device : DeviceTold) (f : Behaviour) (done : List (List ℕ)) where
  empty_holds : device.held_before ≡ Some [] → HoldsShard 1 0 device.held_before (fib [])
  empty_holds none = subst (λ (o : Option (List Entry)). HoldsShard 1 0 o (fib [])) (sym none) (law 1 0)

  left_holds : (k : HasLeft s core device f done) → HoldsTableAfterLeave s k.shown.said device done
  left_holds k = λ none. k.holds (empty_holds none)

  stood_holds : (k : SessionAt s core count device f done) → HoldsTable s k.shown.said device done
  stood_holds k = λ none.
      let here : history s k.shown.said done ≡ k.past = ap (λ (l : List Verdict). history s l done) (sym (append-nil k.shown.said)) ∙ k.past_is [] in
      subst (λ (p : List Event). HoldsShard 1 0 device.held_after (fib p)) (sym here) (k.holds (empty_holds none))

module _ (law : EmptyHoldsShard) (s : Setting) (core : Core) (count : ℕ) (status : ℕ) (told : Told) (device : DeviceTold)
    (r : RunsSomehow (Shows s device) (λ f ms. SessionAt s core count device f ms) (λ f ms. HasLeft s core device f ms) status told) where
  closed : IsClosing status → (status ≡ 4 → ⊥) → Applies s status told device
  closed closing other =
      let f : Behaviour = r.behaviour in
      let done : List (List ℕ) = done_of f r.runs.taken in
      let k : HasLeft s core device f done = (r.runs.whole closing).2 in
      with_said s status told device f k.shown.said (λ ms. SessionAt s core count device f ms) (λ ms. HasLeft s core device f ms) r.runs k.shown.behaves k.shown.later k.shown.failed
      (λ any. left_holds law s core count device f done k) (λ four. absurd (other four))

  unread : status ≡ 4 → Applies s status told device
  unread four =
      let f : Behaviour = r.behaviour in
      let done : List (List ℕ) = done_of f r.runs.taken in
      let k : SessionAt s core count device f done = (r.runs.failed four).0 in
      with_said s status told device f k.shown.said (λ ms. SessionAt s core count device f ms) (λ ms. HasLeft s core device f ms) r.runs k.shown.behaves k.shown.later k.shown.failed
      (λ closing. absurd (goes_on status (inl four) closing)) (λ again. stood_holds law s core count device f done k)

  stopped : (status ≡ 5) ⊎ (status ≡ 6) → (status ≡ 4 → ⊥) → Applies s status told device
  stopped which other =
      let f : Behaviour = r.behaviour in
      with_said s status told device f r.shown.said (λ ms. SessionAt s core count device f ms) (λ ms. HasLeft s core device f ms) r.runs r.shown.behaves r.shown.later r.shown.failed
      (λ closing. absurd (goes_on status (inr which) closing)) (λ four. absurd (other four))

  pub session_applies : IsStatus status → Applies s status told device
  session_applies (inl e) = closed (inl e) (λ z. omega (arith, e, z))
  session_applies (inr (inl e)) = closed (inr (inl e)) (λ z. omega (arith, e, z))
  session_applies (inr (inr (inl e))) = unread e
  session_applies (inr (inr (inr (inl e)))) = stopped (inl e) (λ z. omega (arith, e, z))
  session_applies (inr (inr (inr (inr (inl e))))) = stopped (inr e) (λ z. omega (arith, e, z))
  session_applies (inr (inr (inr (inr (inr e))))) = closed (inr (inr e)) (λ z. omega (arith, e, z))

-- ---- a run that has taken and written nothing

nothing_taken : (taken : Option (List ℕ)) → taken ≡ option_map (λ given. given ++ []) taken
nothing_taken None = refl
nothing_taken (Some given) = ap (λ (x : List ℕ). Some x) (sym (append-nil given))

nothing_left : (left : Option (List ℕ)) → left ≡ option_map (λ rest. [] ++ rest) left
nothing_left None = refl
nothing_left (Some rest) = refl

not_closing : (IsClosing 6) → ⊥
not_closing (inl e) = absurd cc
not_closing (inr (inl e)) = absurd cc
not_closing (inr (inr e)) = absurd cc

nothing_written : (before : Option (List ℕ)) (bytes : List ℕ) → WrotePart before bytes before
nothing_written before bytes = record { written = []; others = bytes; parts = refl; wrote = nothing_taken before }

lacks : (f : Behaviour) (has_done has_left : List (List ℕ) → Type 0) (taken left before : Option (List ℕ))
    → Runs f has_done has_left 6 (record { source = record { taken_before = taken; taken_after = taken; left_before = left; left_after = left }; sink = record { before = before; after = before } })
lacks f has_done has_left taken left before = record {
  taken = [];
  taken_is = nothing_taken taken;
  left_is = nothing_left left;
  whole = λ closing. absurd (not_closing closing);
  still = λ closing. absurd (not_closing closing);
  failed = λ e. absurd cc;
  over = λ e. absurd cc;
  answers = λ which. nothing_written before (outcome_of f []).written;
  part = nothing_written before (output_of f []);
}

pub lacks_memory : (s : Setting) (taken left before : Option (List ℕ)) (faults : ℕ) (held : Option (List Entry))
    → Applies s 6 (record { source = record { taken_before = taken; taken_after = taken; left_before = left; left_after = left }; sink = record { before = before; after = before } })
    (record { faults_before = faults; faults_after = faults; held_before = held; held_after = held })
lacks_memory s taken left before faults held =
    let device : DeviceTold = record { faults_before = faults; faults_after = faults; held_before = held; held_after = held } in
    with_said s 6 _ device (apply_behaviour s []) [] (HoldsTable s [] device) (HoldsTableAfterLeave s [] device)
    (lacks (apply_behaviour s []) (HoldsTable s [] device) (HoldsTableAfterLeave s [] device) taken left before) refl (omega arith) (λ few. omega arith)
    (λ closing. absurd (not_closing closing)) (λ e. absurd cc)
