-- The loop over the bytes that are held.
use Rattle.std.specs.Prelude.{⊤}
use Rattle.std.proofs.Common.{◌≡◌, ℕ, ◌+◌, ◌^◌, ◌<◌, ◌≤◌, List, [], ◌++◌, length, take, drop, Some, None, refl, sym, ap, subst, ◌∙◌, append_assoc, arith}
use Rattle.std.proofs.lemmas.List.{append-nil, length-drop, drop-drop}
use Rattle.grpc_framing.specs.declared.front.Front.TheVariants.{Message, Compressed, TooLong}
use Rattle.grpc_framing.specs.Framing.{front_at}
use Rattle.message_run.specs.Behaviour.{Behaviour, HandlesMessage}
use Rattle.message_run.specs.Outcomes.{Unreadable, MAX_MESSAGE_SIZE}
use Rattle.message_run.specs.Reading.{HandledSoFar, Closes, AnswersBegin, FeedsBytes}
use Rattle.message_run.specs.declared.message_handler.Handled.TheVariants as answer
use Rattle.message_run.specs.declared.stop.Stop.TheVariants as why
use Rattle.message_run.proofs.Agreeing.{agreeing}
use Rattle.message_run.proofs.Streams.{few_read, reads_more, closes_at_reply, closes_at_field, closes_at_compressed, closes_at_too_long, begins_so, begins_message}

-- the bytes up to here are done, with a behaviour that shows then
pub record IsFeeding (shown_first shows : Behaviour → Type 0) (first stands : Behaviour → List (List ℕ) → Type 0) (start : ℕ) (held : List ℕ) (at : ℕ) (before out : List ℕ) : Type 0 where
  pub within : at ≤ length held
  pub reads : (so_far : Behaviour) (bytes sent : List ℕ) → shown_first so_far → HandledSoFar so_far (first so_far) bytes held (sent ++ before) → length bytes ≡ start + length held
      → (f : Behaviour) × shows f × HandledSoFar f (stands f) bytes (drop at held) (sent ++ out)

pub feeds_first : (shows : Behaviour → Type 0) (first : Behaviour → List (List ℕ) → Type 0) (start : ℕ) (held before : List ℕ) → IsFeeding shows shows first first start held 0 before before
feeds_first shows first start held before = record { within = omega arith; reads = λ so_far bytes sent show h len. (so_far, show, h) }

-- so many bytes stand before what is still held
offset : (bytes held : List ℕ) (start at : ℕ) → at ≤ length held → length bytes ≡ start + length held → start + at + length (drop at held) ≡ length bytes
offset bytes held start at le len = omega (arith, len, le, length-drop at held)

few_of : (f : Behaviour) (stands : List (List ℕ) → Type 0) (bytes held written : List ℕ) (count : ℕ) (h : HandledSoFar f stands bytes held written) → length bytes ≡ count → count < 2 ^ 61 → length h.messages < 2 ^ 61
few_of f stands bytes held written count h len lt = omega (arith, few_read f stands bytes held written h, len, lt)

pub may_answer : (shown_first shows : Behaviour → Type 0) (first stands : Behaviour → List (List ℕ) → Type 0) (start : ℕ) (held : List ℕ) (at : ℕ) (before out : List ℕ) → IsFeeding shown_first shows first stands start held at before out
    → (so_far : Behaviour) × (bytes : List ℕ) × (sent : List ℕ) × shown_first so_far × HandledSoFar so_far (first so_far) bytes held (sent ++ before) × (length bytes ≡ start + length held) → start + length held < 2 ^ 61
    → (f : Behaviour) × (done : List (List ℕ)) × stands f done × (length done < 2 ^ 61)
may_answer shown_first shows first stands start held at before out h r lt =
    let now = h.reads r.0 r.1 r.2 r.3 r.4 r.5 in
    (now.0, now.2.messages, now.2.stood, few_of now.0 (stands now.0) r.1 (drop at held) (r.2 ++ out) (start + length held) now.2 r.5 lt)

-- ---- one message

abbrev anything : List (List ℕ) → Type 0
anything done = ⊤

module _ (shown_first shows shown_later : Behaviour → Type 0) (first stands later : Behaviour → List (List ℕ) → Type 0) (start : ℕ) (held : List ℕ) (at : ℕ) (before out : List ℕ) (h : IsFeeding shown_first shows first stands start held at before out) (short : start + length held < 2 ^ 61)
    (message : List ℕ) (k : ℕ) (item : front_at MAX_MESSAGE_SIZE (drop at held) ≡ Message k) (text : message ≡ take k (drop 5 (drop at held))) (after : List ℕ) where
  few_now : (so_far : Behaviour) (bytes sent : List ℕ) (show : shown_first so_far) (r : HandledSoFar so_far (first so_far) bytes held (sent ++ before)) (len : length bytes ≡ start + length held)
      → length (h.reads so_far bytes sent show r len).2.messages < 2 ^ 61
  few_now so_far bytes sent show r len =
      let now = h.reads so_far bytes sent show r len in
      few_of now.0 (stands now.0) bytes (drop at held) (sent ++ out) (start + length held) now.2 len short

  pub feeds_more : at + (5 + k) ≤ length held → ((so_far : Behaviour) (done : List (List ℕ)) → stands so_far done → length done < 2 ^ 61 → HandlesMessage shown_later later so_far done message answer.Continue out after)
      → IsFeeding shown_first shown_later first later start held (at + (5 + k)) before after
  feeds_more le told = record {
    within = le;
    reads = λ so_far bytes sent show r len.
        let now = h.reads so_far bytes sent show r len in
        let a = told now.0 now.2.messages now.2.stood (few_now so_far bytes sent show r len) in
        let f = a.behaviour in
        let on = agreeing now.0 f (stands now.0) anything bytes (drop at held) (sent ++ out) now.2 a.agrees tt in (
          f,
          a.shown,
          subst (λ (x : List ℕ). HandledSoFar f (later f) bytes x (sent ++ after)) (drop-drop (5 + k) at held)
              (reads_more f anything (later f) bytes (drop at held) (sent ++ out) (sent ++ after) message k on item text a.appends.0
              (ap (λ (x : List ℕ). sent ++ x) a.appends.1 ∙ sym (append_assoc sent out (f now.2.messages message).written)) a.stood),
        );
  }

  module _ (so_far : Behaviour) (bytes sent : List ℕ) (show : shown_first so_far) (r : HandledSoFar so_far (first so_far) bytes held (sent ++ before)) (len : length bytes ≡ start + length held) (rest : List ℕ) where
    pub feeds_reply : (code : ℕ) → ((f : Behaviour) (done : List (List ℕ)) → stands f done → length done < 2 ^ 61 → HandlesMessage shown_later later f done message (answer.Ends code) out after)
        → FeedsBytes shown_later later (Some (why.Refused code)) bytes rest (sent ++ after)
    feeds_reply code told =
        let now = h.reads so_far bytes sent show r len in
        let a = told now.0 now.2.messages now.2.stood (few_now so_far bytes sent show r len) in
        let f = a.behaviour in
        let on = agreeing now.0 f (stands now.0) anything bytes (drop at held) (sent ++ out) now.2 a.agrees tt in
        let written = (f now.2.messages message).written in
        record {
          behaviour = f;
          shown = a.shown;
          reads = tt;
          stops = closes_at_reply f anything (later f) bytes (drop at held) (sent ++ out) (sent ++ after) message k code on item text a.appends.0
              (ap (λ (x : List ℕ). sent ++ x) a.appends.1 ∙ sym (append_assoc sent out written)) a.stood;
          begins = begins_message f anything bytes (drop at held) (sent ++ out) message out after sent k on item text refl
              (record { part = written; others = []; bytes_are = sym (append-nil written); appended = a.appends.1 });
        }

    pub feeds_field : (place : ℕ) → ((f : Behaviour) (done : List (List ℕ)) → stands f done → length done < 2 ^ 61 → HandlesMessage shown_later later f done message (answer.Unreadable place) out after)
        → FeedsBytes shown_later later (Some (why.Unreadable (start + at + 5 + place))) bytes rest (sent ++ after)
    feeds_field place told =
        let now = h.reads so_far bytes sent show r len in
        let a = told now.0 now.2.messages now.2.stood (few_now so_far bytes sent show r len) in
        let f = a.behaviour in
        let on = agreeing now.0 f (stands now.0) anything bytes (drop at held) (sent ++ out) now.2 a.agrees tt in
        record {
          behaviour = f;
          shown = a.shown;
          reads = tt;
          stops = subst (λ (x : List ℕ). Closes f (later f) bytes (sent ++ x) (Unreadable (start + at + 5 + place))) (sym a.appends.1)
              (closes_at_field f anything (later f) bytes (drop at held) (sent ++ out) message k place (start + at) on item text a.appends.0 a.stood (offset bytes held start at h.within len));
          begins = subst (λ (x : List ℕ). AnswersBegin f bytes (sent ++ x)) (sym a.appends.1) (begins_so f anything bytes (drop at held) (sent ++ out) on);
        }

    pub feeds_part : ((f : Behaviour) (done : List (List ℕ)) → stands f done → length done < 2 ^ 61 → HandlesMessage shown_later later f done message answer.NoMemory out after)
        → FeedsBytes shown_later later (Some why.NoMemory) bytes rest (sent ++ after)
    feeds_part told =
        let now = h.reads so_far bytes sent show r len in
        let a = told now.0 now.2.messages now.2.stood (few_now so_far bytes sent show r len) in
        let f = a.behaviour in
        let on = agreeing now.0 f (stands now.0) anything bytes (drop at held) (sent ++ out) now.2 a.agrees tt in
        record {
          behaviour = f;
          shown = a.shown;
          reads = tt;
          stops = tt;
          begins = begins_message f anything bytes (drop at held) (sent ++ out) message out after sent k on item text refl a.appends;
        }

-- ---- no message

module _ (shown_first shows : Behaviour → Type 0) (first stands : Behaviour → List (List ℕ) → Type 0) (start : ℕ) (held : List ℕ) (at : ℕ) (before out : List ℕ) (h : IsFeeding shown_first shows first stands start held at before out)
    (so_far : Behaviour) (bytes sent : List ℕ) (show : shown_first so_far) (r : HandledSoFar so_far (first so_far) bytes held (sent ++ before)) (len : length bytes ≡ start + length held) where
  pub feeds_compressed : (rest : List ℕ) → front_at MAX_MESSAGE_SIZE (drop at held) ≡ Compressed → FeedsBytes shows stands (Some (why.Unreadable (start + at))) bytes rest (sent ++ out)
  feeds_compressed rest e =
      let now = h.reads so_far bytes sent show r len in
      record {
        behaviour = now.0;
        shown = now.1;
        reads = tt;
        stops = closes_at_compressed now.0 (stands now.0) bytes (drop at held) (sent ++ out) (start + at) now.2 e (offset bytes held start at h.within len);
        begins = begins_so now.0 (stands now.0) bytes (drop at held) (sent ++ out) now.2;
      }

  pub feeds_too_long : (rest : List ℕ) → front_at MAX_MESSAGE_SIZE (drop at held) ≡ TooLong → FeedsBytes shows stands (Some (why.Unreadable (start + at))) bytes rest (sent ++ out)
  feeds_too_long rest e =
      let now = h.reads so_far bytes sent show r len in
      record {
        behaviour = now.0;
        shown = now.1;
        reads = tt;
        stops = closes_at_too_long now.0 (stands now.0) bytes (drop at held) (sent ++ out) (start + at) now.2 e (offset bytes held start at h.within len);
        begins = begins_so now.0 (stands now.0) bytes (drop at held) (sent ++ out) now.2;
      }

  pub feeds_rest : (rest : List ℕ) → rest ≡ drop at held → FeedsBytes shows stands None bytes rest (sent ++ out)
  feeds_rest rest is =
      let now = h.reads so_far bytes sent show r len in
      record {
        behaviour = now.0;
        shown = now.1;
        reads = subst (λ (x : List ℕ). HandledSoFar now.0 (stands now.0) bytes x (sent ++ out)) (sym is) now.2;
        stops = tt;
        begins = begins_so now.0 (stands now.0) bytes (drop at held) (sent ++ out) now.2;
      }
