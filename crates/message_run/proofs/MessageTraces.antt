-- Messages one after another, and how long their items are.
use Rattle.std.proofs.Common.{◌≡◌, ℕ, ◌+◌, ◌≤◌, List, [], ◌∷◌, ◌++◌, length, Option, Some, None, refl, sym, ap, arith}
use Rattle.std.specs.Int.{w32, to_be_bytes}
use Rattle.std.proofs.lemmas.List.{append-nil, length-append, flat_map_more}
use Rattle.std.proofs.lemmas.List.Concat.{flat_map-cons}
use Rattle.grpc_framing.specs.Framing.{Messages, item, items}
use Rattle.message_run.specs.Behaviour.{Behaviour, Ending, Reply, Field, MessageTrace, trace_with, trace_from}
use Rattle.message_run.specs.Outcomes.{outcome_with, outcome_at}

-- ---- items

length-head : (n : ℕ) → length (to_be_bytes w32 n) ≡ 4
length-head n = refl

length-item : (message : List ℕ) → length (item message) ≡ 5 + length message
length-item message = omega (arith, length-append (to_be_bytes w32 (length message)) message, length-head (length message))

items-push : (ms : List (List ℕ)) (m : List ℕ) → length (items (ms ++ m ∷ [])) ≡ length (items ms) + 5 + length m
items-push ms m = omega (arith, ap (λ (x : List ℕ). length x) (sym (flat_map_more item [] ms m)), length-append (items ms) (item m), length-item m)

pub items_many : (ms : List (List ℕ)) → length ms ≤ length (items ms)
items_many [] = omega arith
items_many (m ∷ ms) = omega (arith, items_many ms, ap (λ (x : List ℕ). length x) (flat_map-cons item m ms), length-append (item m) (items ms), length-item m)

pub items_more : (ms : List (List ℕ)) (m : List ℕ) → length (items (ms ++ m ∷ [])) ≡ length (items ms) + 5 + length m
items_more ms m = items-push ms m

-- ---- courses

pub trace_none : (f : Behaviour) (done : List (List ℕ)) → trace_from f done [] ≡ record { done = done; written = []; ending = None }
unfolding trace_from
trace_none f done = refl

pub trace_more : (f : Behaviour) (done : List (List ℕ)) (m : List ℕ) (ms : List (List ℕ)) → trace_from f done (m ∷ ms) ≡ trace_with done m (f done m).written (f done m).ending (trace_from f (done ++ m ∷ []) ms)
unfolding trace_from
trace_more f done m ms = refl

-- the answers to a message come first
pub trace_first : (done : List (List ℕ)) (m w : List ℕ) (e : Option Ending) (others : MessageTrace) → (more : List ℕ) × ((trace_with done m w e others).written ≡ w ++ more)
trace_first done m w None others = (others.written, refl)
trace_first done m w (Some (Reply code)) others = ([], sym (append-nil w))
trace_first done m w (Some (Field place)) others = ([], sym (append-nil w))

pub outcome_is : (f : Behaviour) (count : ℕ) (cut : Messages) (c : MessageTrace) → trace_from f [] cut.messages ≡ c → outcome_at f count cut ≡ outcome_with count cut c
unfolding outcome_at
outcome_is f count cut c e = ap (outcome_with count cut) e
