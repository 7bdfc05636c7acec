-- The bytes that are held, message by message.
use Rattle.std.proofs.Common.{◌≡◌, ℕ, ◌+◌, ◌≤◌, List, [], ◌∷◌, ◌++◌, length, take, drop, Option, Some, None, refl, sym, ap, ◌∙◌, append_assoc, arith}
use Rattle.std.proofs.lemmas.List.{append-nil, length_push, length-take, length-drop}
use Rattle.grpc_framing.specs.declared.front.Front.{Front}
use Rattle.grpc_framing.specs.declared.front.Front.TheVariants.{Message, Compressed, TooLong}
use Rattle.grpc_framing.specs.Framing.{Messages, front_at, messages_of, stopped, first_then, all_then, items}
use Rattle.grpc_framing.proofs.Fronts.{front_at-len}
use Rattle.grpc_framing.proofs.Streams.{messages_of-message, messages_of-compressed, messages_of-too_long}
use Rattle.message_run.specs.Behaviour.{Behaviour, Ending, Reply, Field, Response, MessageTrace, trace_with, trace_from, PartAppended}
use Rattle.message_run.specs.Outcomes.{Close, Refused, Unreadable, outcome_at, close_at_rest, MAX_MESSAGE_SIZE}
use Rattle.message_run.specs.Reading.{HandledSoFar, Closes, AnswersBegin, with_prefix}
use Rattle.message_run.proofs.MessageTraces.{items_many, items_more, trace_none, trace_more, trace_first, outcome_is}

pub few_read : (f : Behaviour) (stands : List (List ℕ) → Type 0) (bytes held written : List ℕ) (h : HandledSoFar f stands bytes held written) → length h.messages ≤ length bytes
few_read f stands bytes held written h = omega (arith, items_many h.messages, h.size)

all_then-more : (messages : List (List ℕ)) (message : List ℕ) (cut : Messages) → all_then messages (first_then message cut) ≡ all_then (messages ++ message ∷ []) cut
all_then-more messages message cut = ap (λ (x : List (List ℕ)). record { messages = x; rest = cut.rest; ending = cut.ending }) (sym (append_assoc messages (message ∷ []) cut.messages))

-- a message stands at the front
message_leads : (f : Behaviour) (stands : List (List ℕ) → Type 0) (bytes held written message : List ℕ) (k : ℕ) (more : List ℕ) (h : HandledSoFar f stands bytes held written) → front_at MAX_MESSAGE_SIZE held ≡ Message k → message ≡ take k (drop 5 held)
    → messages_of MAX_MESSAGE_SIZE (bytes ++ more) ≡ all_then h.messages (first_then message (messages_of MAX_MESSAGE_SIZE (drop (5 + k) held ++ more)))
message_leads f stands bytes held written message k more h e is =
    h.leads more ∙ ap (all_then h.messages) (messages_of-message MAX_MESSAGE_SIZE k held more e ∙ ap (λ (x : List ℕ). first_then x (messages_of MAX_MESSAGE_SIZE (drop (5 + k) held ++ more))) (sym is))

message_size : (held message : List ℕ) (k : ℕ) → front_at MAX_MESSAGE_SIZE held ≡ Message k → message ≡ take k (drop 5 held) → length held ≡ 5 + length message + length (drop (5 + k) held)
message_size held message k e is =
    let len = front_at-len MAX_MESSAGE_SIZE held k e in
    omega (arith, ap (λ (x : List ℕ). length x) is, length-take k (drop 5 held), length-drop 5 held, length-drop (5 + k) held, len)

-- the course of the messages behind the first of them
message_trace : (f : Behaviour) (stands : List (List ℕ) → Type 0) (bytes held written message : List ℕ) (w : List ℕ) (e : Option Ending) (others : List (List ℕ)) (h : HandledSoFar f stands bytes held written)
    → (f h.messages message).written ≡ w → (f h.messages message).ending ≡ e
    → trace_from f [] (h.messages ++ message ∷ others) ≡ with_prefix written (trace_with h.messages message w e (trace_from f (h.messages ++ message ∷ []) others))
message_trace f stands bytes held written message w e others h p q =
    h.goes (message ∷ others) ∙ ap (with_prefix written) (trace_more f h.messages message others
    ∙ ap (λ (x : List ℕ). trace_with h.messages message x (f h.messages message).ending (trace_from f (h.messages ++ message ∷ []) others)) p
    ∙ ap (λ (x : Option Ending). trace_with h.messages message w x (trace_from f (h.messages ++ message ∷ []) others)) q)

behind_both : (v w : List ℕ) (done : List (List ℕ)) (m : List ℕ) (c : MessageTrace) → with_prefix v (trace_with done m w None c) ≡ with_prefix (v ++ w) c
behind_both v w done m c = ap (λ (x : List ℕ). record { done = c.done; written = x; ending = c.ending }) (sym (append_assoc v w c.written))

pub reads_more : (f : Behaviour) (stands later : List (List ℕ) → Type 0) (bytes held written written' message : List ℕ) (k : ℕ) (h : HandledSoFar f stands bytes held written) → front_at MAX_MESSAGE_SIZE held ≡ Message k → message ≡ take k (drop 5 held)
    → (f h.messages message).ending ≡ None → written' ≡ written ++ (f h.messages message).written → later (h.messages ++ message ∷ []) → HandledSoFar f later bytes (drop (5 + k) held) written'
reads_more f stands later bytes held written written' message k h e is none out stood = record {
  messages = h.messages ++ message ∷ [];
  leads = λ more. message_leads f stands bytes held written message k more h e is ∙ all_then-more h.messages message (messages_of MAX_MESSAGE_SIZE (drop (5 + k) held ++ more));
  goes = λ others. ap (trace_from f []) (append_assoc h.messages (message ∷ []) others)
      ∙ message_trace f stands bytes held written message (f h.messages message).written None others h refl none
      ∙ behind_both written (f h.messages message).written h.messages message (trace_from f (h.messages ++ message ∷ []) others)
      ∙ ap (λ (x : List ℕ). with_prefix x (trace_from f (h.messages ++ message ∷ []) others)) (sym out);
  stood = stood;
  size = omega (arith, h.size, items_more h.messages message, message_size held message k e is);
}

-- ---- the run closes

pub closes_at_reply : (f : Behaviour) (stands later : List (List ℕ) → Type 0) (bytes held written written' message : List ℕ) (k code : ℕ) (h : HandledSoFar f stands bytes held written) → front_at MAX_MESSAGE_SIZE held ≡ Message k → message ≡ take k (drop 5 held)
    → (f h.messages message).ending ≡ Some (Reply code) → written' ≡ written ++ (f h.messages message).written → later (h.messages ++ message ∷ []) → Closes f later bytes written' (Refused code)
closes_at_reply f stands later bytes held written written' message k code h e is ends out stood = record {
  messages = h.messages ++ message ∷ [];
  closes = λ count more.
      let cut = messages_of MAX_MESSAGE_SIZE (drop (5 + k) held ++ more) in
      let all = all_then h.messages (first_then message cut) in
      ap (outcome_at f count) (message_leads f stands bytes held written message k more h e is)
      ∙ outcome_is f count all (record { done = h.messages ++ message ∷ []; written = written ++ (f h.messages message).written; ending = Some (Reply code) })
      (message_trace f stands bytes held written message (f h.messages message).written (Some (Reply code)) cut.messages h refl ends)
      ∙ ap (λ (x : List ℕ). record { done = h.messages ++ message ∷ []; written = x; close = Refused code }) (sym out);
  stood = stood;
  few = omega (arith, few_read f stands bytes held written h, h.size, items_many h.messages, items_more h.messages message, message_size held message k e is, length_push h.messages message);
}

pub closes_at_field : (f : Behaviour) (stands later : List (List ℕ) → Type 0) (bytes held written message : List ℕ) (k place offset : ℕ) (h : HandledSoFar f stands bytes held written) → front_at MAX_MESSAGE_SIZE held ≡ Message k → message ≡ take k (drop 5 held)
    → f h.messages message ≡ record { written = []; ending = Some (Field place) } → later h.messages → offset + length held ≡ length bytes → Closes f later bytes written (Unreadable (offset + 5 + place))
closes_at_field f stands later bytes held written message k place offset h e is ends stood at = record {
  messages = h.messages;
  closes = λ count more.
      let cut = messages_of MAX_MESSAGE_SIZE (drop (5 + k) held ++ more) in
      let all = all_then h.messages (first_then message cut) in
      let same : length (items h.messages) ≡ offset = omega (arith, at, h.size) in
      ap (outcome_at f count) (message_leads f stands bytes held written message k more h e is)
      ∙ outcome_is f count all (record { done = h.messages; written = written ++ []; ending = Some (Field place) })
      (message_trace f stands bytes held written message [] (Some (Field place)) cut.messages h (ap (λ (x : Response). x.written) ends) (ap (λ (x : Response). x.ending) ends))
      ∙ ap (λ (x : List ℕ). record { done = h.messages; written = x; close = Unreadable (length (items h.messages) + 5 + place) }) (append-nil written)
      ∙ ap (λ (x : ℕ). record { done = h.messages; written = written; close = Unreadable (x + 5 + place) }) same;
  stood = stood;
  few = few_read f stands bytes held written h;
}

closes_at_bad : (f : Behaviour) (stands : List (List ℕ) → Type 0) (bytes held written : List ℕ) (why : Front) (offset : ℕ) (h : HandledSoFar f stands bytes held written)
    → ((count offset : ℕ) (rest : List ℕ) → close_at_rest count offset rest why ≡ Unreadable offset) → ((more : List ℕ) → messages_of MAX_MESSAGE_SIZE (held ++ more) ≡ stopped (held ++ more) why) → offset + length held ≡ length bytes → Closes f stands bytes written (Unreadable offset)
closes_at_bad f stands bytes held written why offset h bad stops at = record {
  messages = h.messages;
  closes = λ count more.
      let all = all_then h.messages (stopped (held ++ more) why) in
      let same : length (items h.messages) ≡ offset = omega (arith, at, h.size) in
      ap (outcome_at f count) (h.leads more ∙ ap (all_then h.messages) (stops more))
      ∙ outcome_is f count all (record { done = h.messages; written = written ++ []; ending = None }) (h.goes [] ∙ ap (with_prefix written) (trace_none f h.messages))
      ∙ ap (λ (x : List ℕ). record { done = h.messages; written = x; close = close_at_rest count (length (items h.messages)) (held ++ more) why }) (append-nil written)
      ∙ ap (λ (x : Close). record { done = h.messages; written = written; close = x }) (bad count (length (items h.messages)) (held ++ more) ∙ ap Unreadable same);
  stood = h.stood;
  few = few_read f stands bytes held written h;
}

pub closes_at_compressed : (f : Behaviour) (stands : List (List ℕ) → Type 0) (bytes held written : List ℕ) (offset : ℕ) → HandledSoFar f stands bytes held written → front_at MAX_MESSAGE_SIZE held ≡ Compressed → offset + length held ≡ length bytes → Closes f stands bytes written (Unreadable offset)
closes_at_compressed f stands bytes held written offset h e at = closes_at_bad f stands bytes held written Compressed offset h (λ count offset rest. refl) (λ more. messages_of-compressed MAX_MESSAGE_SIZE held more e) at

pub closes_at_too_long : (f : Behaviour) (stands : List (List ℕ) → Type 0) (bytes held written : List ℕ) (offset : ℕ) → HandledSoFar f stands bytes held written → front_at MAX_MESSAGE_SIZE held ≡ TooLong → offset + length held ≡ length bytes → Closes f stands bytes written (Unreadable offset)
closes_at_too_long f stands bytes held written offset h e at = closes_at_bad f stands bytes held written TooLong offset h (λ count offset rest. refl) (λ more. messages_of-too_long MAX_MESSAGE_SIZE held more e) at

-- ---- what was written comes first

pub begins_so : (f : Behaviour) (stands : List (List ℕ) → Type 0) (bytes held written : List ℕ) → HandledSoFar f stands bytes held written → AnswersBegin f bytes written
begins_so f stands bytes held written h =
    let more = (messages_of MAX_MESSAGE_SIZE (held ++ [])).messages in
    let all : (messages_of MAX_MESSAGE_SIZE bytes).messages ≡ h.messages ++ more = ap (λ (x : List ℕ). (messages_of MAX_MESSAGE_SIZE x).messages) (sym (append-nil bytes)) ∙ ap (λ (x : Messages). x.messages) (h.leads []) in
    record { others = (trace_from f h.messages more).written; begins = ap (λ (x : List (List ℕ)). (trace_from f [] x).written) all ∙ ap (λ (x : MessageTrace). x.written) (h.goes more) }

-- the first of the answers to the next message
pub begins_message : (f : Behaviour) (stands : List (List ℕ) → Type 0) (bytes held written message before after sent : List ℕ) (k : ℕ) (h : HandledSoFar f stands bytes held written) → front_at MAX_MESSAGE_SIZE held ≡ Message k → message ≡ take k (drop 5 held)
    → written ≡ sent ++ before → PartAppended (f h.messages message).written before after → AnswersBegin f bytes (sent ++ after)
begins_message f stands bytes held written message before after sent k h e is w p =
    let cut = messages_of MAX_MESSAGE_SIZE (drop (5 + k) held ++ []) in
    let all : (messages_of MAX_MESSAGE_SIZE bytes).messages ≡ h.messages ++ message ∷ cut.messages = ap (λ (x : List ℕ). (messages_of MAX_MESSAGE_SIZE x).messages) (sym (append-nil bytes)) ∙ ap (λ (x : Messages). x.messages) (message_leads f stands bytes held written message k [] h e is) in
    let response = f h.messages message in
    let first = trace_first h.messages message response.written response.ending (trace_from f (h.messages ++ message ∷ []) cut.messages) in
    let whole : (trace_from f [] (messages_of MAX_MESSAGE_SIZE bytes).messages).written ≡ written ++ (response.written ++ first.0)
    = ap (λ (x : List (List ℕ)). (trace_from f [] x).written) all ∙ ap (λ (x : MessageTrace). x.written) (message_trace f stands bytes held written message response.written response.ending cut.messages h refl refl)
    ∙ ap (λ (x : List ℕ). written ++ x) first.1 in
    record {
      others = p.others ++ first.0;
      begins = whole ∙ ap (λ (x : List ℕ). written ++ (x ++ first.0)) p.bytes_are ∙ ap (λ (x : List ℕ). written ++ x) (append_assoc p.part p.others first.0)
          ∙ sym (append_assoc written p.part (p.others ++ first.0)) ∙ ap (λ (x : List ℕ). (x ++ p.part) ++ (p.others ++ first.0)) w
          ∙ ap (λ (x : List ℕ). x ++ (p.others ++ first.0)) (append_assoc sent before p.part ∙ ap (λ (x : List ℕ). sent ++ x) (sym p.appended));
    }
