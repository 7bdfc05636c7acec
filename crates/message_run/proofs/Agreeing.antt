-- Behaviours that come to the same at the messages that are done.
use Rattle.std.proofs.Common.{◌≡◌, ℕ, List, [], ◌∷◌, ◌++◌, Option, Some, None, refl, sym, ap, ◌∙◌, append_assoc}
use Rattle.std.proofs.lemmas.List.{append-nil}
use Rattle.message_run.specs.Behaviour.{AgreesAt, Appends, Behaviour, Ending, Reply, Field, HandledAfter, HandlesMessage, Response, MessageTrace, trace_with, trace_from}
use Rattle.message_run.specs.declared.message_handler.Handled.{Handled}
use Rattle.message_run.specs.Reading.{HandledSoFar, with_prefix}
use Rattle.message_run.proofs.MessageTraces.{trace_none, trace_more}

pub agrees_same : (f : Behaviour) (done ms : List (List ℕ)) → AgreesAt f f done ms
agrees_same f done [] = tt
agrees_same f done (m ∷ ms) = (refl, agrees_same f (done ++ m ∷ []) ms)

-- a message leaves the behaviour that shows as it was
pub handles_alike : (shows : Behaviour → Type 0) (stands : Behaviour → List (List ℕ) → Type 0) (f : Behaviour) (done : List (List ℕ)) (m : List ℕ) (answer : Handled) (before after : List ℕ)
    → shows f → Appends (f done m) answer before after → HandledAfter (stands f) done m answer → HandlesMessage shows stands f done m answer before after
handles_alike shows stands f done m answer before after shown appends stood = record { behaviour = f; shown = shown; agrees = agrees_same f [] done; appends = appends; stood = stood }

-- the same course
pub same_trace : (f g : Behaviour) (done ms : List (List ℕ)) → AgreesAt f g done ms → trace_from f done ms ≡ trace_from g done ms
unfolding trace_from
same_trace f g done [] a = refl
same_trace f g done (m ∷ ms) a =
    ap (λ (r : Response). trace_with done m r.written r.ending (trace_from f (done ++ m ∷ []) ms)) a.0
    ∙ ap (trace_with done m (g done m).written (g done m).ending) (same_trace f g (done ++ m ∷ []) ms a.1)

-- a message that nothing ends, and the others behind it
goes_first : (done all : List (List ℕ)) (m w v : List ℕ) (e : Option Ending) (others : MessageTrace) → trace_with done m v e others ≡ record { done = all; written = w; ending = None }
    → (e ≡ None) × (w ≡ v ++ others.written) × (others ≡ record { done = all; written = others.written; ending = None })
goes_first done all m w v None others h =
    let same : others.done ≡ all = ap (λ (c : MessageTrace). c.done) h in
    let ended : others.ending ≡ None = ap (λ (c : MessageTrace). c.ending) h in (
      refl,
      sym (ap (λ (c : MessageTrace). c.written) h),
      ap (λ (x : List (List ℕ)). record { done = x; written = others.written; ending = others.ending }) same
          ∙ ap (λ (x : Option Ending). record { done = all; written = others.written; ending = x }) ended,
    )
goes_first done all m w v (Some (Reply code)) others h = let bad : Some (Reply code) ≡ None = ap (λ (c : MessageTrace). c.ending) h in absurd cc
goes_first done all m w v (Some (Field place)) others h = let bad : Some (Field place) ≡ None = ap (λ (c : MessageTrace). c.ending) h in absurd cc

-- where nothing ends these messages, the course goes on behind them
pub goes_behind : (f : Behaviour) (done ms : List (List ℕ)) (w : List ℕ) → trace_from f done ms ≡ record { done = done ++ ms; written = w; ending = None }
    → (others : List (List ℕ)) → trace_from f done (ms ++ others) ≡ with_prefix w (trace_from f (done ++ ms) others)
goes_behind f done [] w h others =
    let none : [] ≡ w = ap (λ (c : MessageTrace). c.written) (sym (trace_none f done) ∙ h) in
    ap (λ (x : List (List ℕ)). trace_from f x others) (sym (append-nil done)) ∙ ap (λ (x : List ℕ). with_prefix x (trace_from f (done ++ []) others)) none
goes_behind f done (m ∷ ms) w h others =
    let rest = trace_from f (done ++ m ∷ []) ms in
    let all : done ++ m ∷ ms ≡ (done ++ m ∷ []) ++ ms = sym (append_assoc done (m ∷ []) ms) in
    let first = goes_first done (done ++ m ∷ ms) m w (f done m).written (f done m).ending rest (sym (trace_more f done m ms) ∙ h) in
    let behind = goes_behind f (done ++ m ∷ []) ms rest.written (first.2 ∙ ap (λ (x : List (List ℕ)). record { done = x; written = rest.written; ending = None }) all) others in
    let c = trace_from f ((done ++ m ∷ []) ++ ms) others in
    trace_more f done m (ms ++ others)
    ∙ ap (λ (x : Option Ending). trace_with done m (f done m).written x (trace_from f (done ++ m ∷ []) (ms ++ others))) first.0
    ∙ ap (trace_with done m (f done m).written None) behind
    ∙ ap (λ (x : List ℕ). record { done = c.done; written = x; ending = c.ending }) (sym (append_assoc (f done m).written rest.written c.written))
    ∙ ap (λ (x : List ℕ). with_prefix x c) (sym first.1)
    ∙ ap (λ (x : List (List ℕ)). with_prefix w (trace_from f x others)) (sym all)

-- what nothing ends before the rest
pub trace_so_far : (f : Behaviour) (stands : List (List ℕ) → Type 0) (bytes held written : List ℕ) (h : HandledSoFar f stands bytes held written) → trace_from f [] h.messages ≡ record { done = h.messages; written = written; ending = None }
trace_so_far f stands bytes held written h =
    ap (trace_from f []) (sym (append-nil h.messages)) ∙ h.goes [] ∙ ap (with_prefix written) (trace_none f h.messages)
    ∙ ap (λ (x : List ℕ). record { done = h.messages; written = x; ending = None }) (append-nil written)

-- another behaviour has done the same messages
abbrev pub agreeing : (f g : Behaviour) (stands later : List (List ℕ) → Type 0) (bytes held written : List ℕ) (h : HandledSoFar f stands bytes held written) → AgreesAt f g [] h.messages → later h.messages
    → HandledSoFar g later bytes held written
agreeing f g stands later bytes held written h a stood = record {
  messages = h.messages;
  leads = h.leads;
  goes = goes_behind g [] h.messages written (sym (same_trace f g [] h.messages a) ∙ trace_so_far f stands bytes held written h);
  stood = stood;
  size = h.size;
}
