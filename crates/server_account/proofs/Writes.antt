-- What a connection that is over still writes keeps its promise.
use Rattle.std.proofs.Common.{◌≡◌, ℕ, ◌<◌, ◌≤◌, List, [], ◌∷◌, ◌++◌, drop, length, Some, sym, ap, subst, ◌∙◌, arith, append_assoc, append-nil, sum_by}
use Rattle.std.proofs.lemmas.List.{length-drop}
use Rattle.std.proofs.lemmas.List.Concat.{flat_map-append}
use Rattle.std.proofs.lemmas.List.Sums.{sum_by-cons}
use Rattle.rig_io.specs.Link as link
use Rattle.h2_frames.specs.declared.frame.Frame.{Frame}
use Rattle.h2_frames.specs.Layout.{size_of}
use Rattle.h2_frames.specs.Stream.{AreWhole, Reads}
use Rattle.h2_exchange.specs.declared.role.Role.TheVariants.{Server}
use Rattle.h2_exchange.specs.Exchange.{received}
use Rattle.h2_exchange.specs.Order.{AreFrames, RestBreaks, end_of, peer_preface, received_bytes, sent_bytes}
use Rattle.h2_exchange.specs.Outcomes.{BeginWithFrames}
use Rattle.h2_exchange.specs.Outgoing.{SendsOnly}
use Rattle.h2_exchange.specs.Stops.{IsBroken}
use Rattle.h2_exchange.proofs.Ordering.{order_told}
use Rattle.call_answers.specs.declared.orders.Setting.{Setting}
use Rattle.server_turns.specs.declared.outcome.DropCause.{DropCause}
use Rattle.server_turns.specs.declared.outcome.DropCause.TheVariants as drop
use Rattle.server_turns.specs.declared.outcome.Outcome.{Outcome}
use Rattle.server_turns.specs.declared.outcome.Outcome.TheVariants as over
use Rattle.server_turns.specs.Past.{Past}
use Rattle.server_turns.specs.Serving.{Account, EndsWhole, HasCause, IsDropCause, Serves, Unbroken, none_asked}
use Rattle.server_account.specs.Laws.{WritesKeep}

-- ---- frames that stand first end within the bytes

read_length : (bytes : List ℕ) (fs : List Frame) (rest : List ℕ) → Reads bytes fs rest → sum_by size_of fs ≤ length bytes
read_length bytes [] rest h = omega arith
read_length bytes (f ∷ fs) rest h = omega (arith, h.0, read_length (drop (size_of f) bytes) fs rest h.2, length-drop (size_of f) bytes, sum_by-cons size_of f fs)

ends_within : (due bytes : List ℕ) (fs : List Frame) → BeginWithFrames due bytes fs → 0 < length fs → end_of due fs ≤ length bytes
ends_within due bytes [] h some = absurd (omega (arith, some))
ends_within due bytes (f ∷ fs) h some = omega (arith, h.2.0, read_length (drop (length due) bytes) (f ∷ fs) h.0 h.2, length-drop (length due) bytes)

nothing_behind : (xs ys : List ℕ) → xs ++ ys ≡ [] → ys ≡ []
nothing_behind [] ys e = e
nothing_behind (x ∷ xs) ys e = absurd cc

-- ---- one more piece

module _ (s : Setting) (past : Past) (a : Account) (piece left : List ℕ) (is : a.output ≡ piece ++ left) where
  abbrev now : Past
  now = record past { pieces = past.pieces ++ link.sent piece ∷ [] }

  abbrev rest_of : Account
  rest_of = record a { output = left }

  same : received_bytes past.pieces ≡ received_bytes now.pieces
  same = sym (flat_map-append link.received_bytes past.pieces (link.sent piece ∷ []) ∙ append-nil (received_bytes past.pieces))

  unbroken_on : Unbroken s past a → Unbroken s now rest_of
  unbroken_on h = (h.0, λ why place breaks. h.1 why place (subst (λ (bytes : List ℕ). RestBreaks (peer_preface Server) bytes (received a.frames) a.rest why place) (sym same) breaks))

  whole_on : EndsWhole s past a → EndsWhole s now rest_of
  whole_on h = (subst (λ (bytes : List ℕ). AreWhole (peer_preface Server) bytes (received a.frames)) same h.0, h.1)

  whole_before : EndsWhole s now rest_of → EndsWhole s past a
  whole_before h = (subst (λ (bytes : List ℕ). AreWhole (peer_preface Server) bytes (received a.frames)) (sym same) h.0, h.1)

  drop_on : (cause : DropCause) → IsDropCause s past a cause → IsDropCause s now rest_of cause
  drop_on drop.CutFrame h = λ whole. h (whole_before whole)
  drop_on drop.OpenCall h = (whole_on h.0, h.1)
  drop_on drop.NoWindow h = (whole_on h.0, h.1, h.2)

  cause_on : (outcome : Outcome) → HasCause s past a (Some outcome) → HasCause s now rest_of (Some outcome)
  cause_on over.Served h = (unbroken_on h.0, h.1, whole_on h.2, h.3, nothing_behind piece left (sym is ∙ h.4), h.5)
  cause_on (over.Dropped cause) h = (unbroken_on h.0, h.1, drop_on cause h.2)
  cause_on (over.Protocol why place) h = (subst (λ (bytes : List ℕ). IsBroken Server a.limits a.heads bytes a.frames a.rest why place) same h.0, h.1)
  cause_on (over.Calm cause) h = h
  cause_on over.ReadFault h = unbroken_on h
  cause_on over.WriteFault h = unbroken_on h
  cause_on over.Halted h = λ id did cut earlier last. unbroken_on (h id did cut earlier last)
  cause_on other h = tt

  text_is : sent_bytes past.pieces ++ a.output ≡ sent_bytes now.pieces ++ left
  text_is =
      ap (λ (bytes : List ℕ). sent_bytes past.pieces ++ bytes) is ∙ sym (append_assoc (sent_bytes past.pieces) piece left)
      ∙ ap (λ (bytes : List ℕ). bytes ++ left) (ap (λ (bytes : List ℕ). sent_bytes past.pieces ++ bytes) (sym (append-nil piece)) ∙ sym (flat_map-append link.sent_bytes past.pieces (link.sent piece ∷ [])))

  serves_on : (outcome : Outcome) → Serves s past a (Some outcome) → Serves s now rest_of (Some outcome)
  serves_on outcome h = record {
    limits = h.limits;
    exchange = record {
      known = h.exchange.known;
      front = subst (λ (bytes : List ℕ). BeginWithFrames (peer_preface Server) bytes (received a.frames)) same h.exchange.front;
      whole = λ all clear. subst (λ (bytes : List ℕ). AreFrames (peer_preface Server) bytes (received a.frames) a.rest) same (h.exchange.whole all clear);
      text = h.exchange.text ∙ text_is;
      order = order_told Server past.pieces (link.sent piece) a.frames (ends_within (peer_preface Server) (received_bytes past.pieces) (received a.frames) h.exchange.front) h.exchange.order;
    };
    orders = h.orders;
    spelled = h.spelled;
    sends = subst (λ (bytes : List ℕ). SendsOnly Server a.limits a.heads none_asked bytes a.rest a.frames) same h.sends;
    first = h.first;
    resets = h.resets;
    cause = cause_on outcome h.cause;
  }

pub writes_keep : WritesKeep
writes_keep = λ s past a outcome piece left h is. serves_on s past a piece left is outcome h
