-- What the frames of a stream spell is a first part of what was taken for it.
use Rattle.std.proofs.Common.{◌≡◌, ℕ, ◌+◌, ◌<◌, ◌≤◌, Bool, true, false, List, [], ◌∷◌, ◌++◌, length, take, drop, map, Option, Some, None, refl, sym, ap, subst, ◌∙◌, arith, ltb, cond}
use Rattle.std.specs.List.{All, flat_map}
use Rattle.std.proofs.lemmas.List.Elements.{All-cons, All-nil}
use Rattle.std.specs.Int.{w32, from_be_bytes, to_be_bytes}
use Rattle.std.proofs.lemmas.Bool.{le-ltb, lt-ltb, ltb-false, ltb-true}
use Rattle.std.proofs.lemmas.Nat.{from_be_bytes-to_be_bytes_4}
use Rattle.std.proofs.lemmas.List.{append-nil, length-drop, take-append-drop, take-append-le, drop-append-le, take_at, drop_at}
use Rattle.grpc_framing.specs.declared.front.Front.TheVariants as front
use Rattle.grpc_framing.specs.declared.front.Front.TheVariants.{NeedMore}
use Rattle.grpc_framing.specs.Framing.{first_then, front_at, item, item_at, messages_of}
use Rattle.grpc_framing.proofs.Fronts.{front_at-nil}
use Rattle.grpc_framing.proofs.Streams.{messages_of-need_more}
use Rattle.grpc_framing.proofs.Whole.{messages_of-items}
use Rattle.grpc_heads.specs.CallEnd.{CallEnd, call_end_of}
use Rattle.grpc_heads.specs.Written.{response_fields}
use Rattle.h2_exchange.specs.declared.role.Role.{Role}
use Rattle.h2_exchange.specs.declared.role.Role.TheVariants.{Client, Server}
use Rattle.h2_exchange.specs.Requests.{end_if}
use Rattle.h2_exchange.specs.StreamParts.{Item, Message, Finish, IsPrefixOf, end_by}
use Rattle.grpc_stream.specs.CallTrace.{CallTrace, CarriesCallOn, CarriesRequestOn, CarriesResponseOn, half, queued_on, text_of}
use Rattle.call_sending.specs.Spelling.{AreSuited, AreTaken, Answers, Asks, EndsIn, Speaks, Spells}

-- ---- a part of an item

part_of_text : (head message bytes more : List ℕ) → length head ≡ 4 → from_be_bytes w32 head ≡ length message → length message ≤ 4294967295 →
    bytes ++ more ≡ head ++ message → length bytes < 4 + length message → item_at 4294967295 bytes ≡ NeedMore
unfolding item_at
part_of_text head message bytes more four count small e short = by (ltb (length bytes) 4) refl
  where
    by : (b : Bool) → ltb (length bytes) 4 ≡ b → cond (ltb (length bytes) 4) NeedMore (cond (ltb 4294967295 (from_be_bytes w32 (take 4 bytes))) front.TooLong
        (cond (ltb (length (drop 4 bytes)) (from_be_bytes w32 (take 4 bytes))) NeedMore (front.Message (from_be_bytes w32 (take 4 bytes))))) ≡ NeedMore
    by true h = rw h refl
    by false h =
        let long : 4 ≤ length bytes = ltb-false _ _ h in
        let text : take 4 bytes ≡ head = sym (take-append-le 4 bytes more long) ∙ ap (take 4) e ∙ take_at head message 4 four in
        let within : ltb 4294967295 (length message) ≡ false = le-ltb _ _ small in
        let part : ltb (length (drop 4 bytes)) (length message) ≡ true = lt-ltb _ _ (omega (arith, length-drop 4 bytes, short, long)) in
        rw (h, text, count, within, part) refl

pub part_of_item : (message bytes more : List ℕ) → bytes ++ more ≡ item message → length bytes < length (item message) → length message ≤ 4294967295 →
    front_at 4294967295 bytes ≡ NeedMore
unfolding front_at
part_of_item message [] more e short small = refl
part_of_item message (b ∷ bytes) more e short small =
    let flag : b ≡ 0 = ap (λ (x : List ℕ). first x) e in
    let rest : bytes ++ more ≡ to_be_bytes w32 (length message) ++ message = ap (drop 1) e in
    let size : length (item message) ≡ 5 + length message = omega arith in
    let here = part_of_text (to_be_bytes w32 (length message)) message bytes more refl (from_be_bytes-to_be_bytes_4 (length message) (omega (arith, small))) small rest (omega (arith, short, size)) in
    rw flag here
  where
    first : List ℕ → ℕ
    first [] = 0
    first (x ∷ xs) = x

-- ---- the messages of a first part of the text

pub record IsCut (bytes : List ℕ) (items : List (Item CallEnd)) : Type 0 where
  pub messages : List (List ℕ)
  pub rest : List ℕ
  pub cut : messages_of 4294967295 bytes ≡ record { messages = messages; rest = rest; ending = NeedMore }
  pub front : IsPrefixOf messages rest None items

-- a message stands before the messages of what is behind it
first_item : (message more : List ℕ) → length message ≤ 4294967295 → messages_of 4294967295 (item message ++ more) ≡ first_then message (messages_of 4294967295 more)
first_item message more small =
    let one : All (λ (m : List ℕ). length m ≤ 4294967295) (message ∷ []) = All-cons (λ (m : List ℕ). length m ≤ 4294967295) message [] small (All-nil (λ (m : List ℕ). length m ≤ 4294967295)) in
    ap (λ (x : List ℕ). messages_of 4294967295 (x ++ more)) (sym (append-nil (item message)))
    ∙ messages_of-items 4294967295 (message ∷ []) more (omega arith) one

nothing : (bytes left : List ℕ) → [] ≡ bytes ++ left → bytes ≡ []
nothing [] left e = refl
nothing (b ∷ bytes) left e = absurd cc

no_messages : (bytes : List ℕ) (items : List (Item CallEnd)) → bytes ≡ [] → IsPrefixOf [] bytes None items → IsCut bytes items
no_messages bytes items e front = record {
  messages = [];
  rest = bytes;
  cut = messages_of-need_more 4294967295 bytes (ap (front_at 4294967295) e ∙ front_at-nil 4294967295);
  front = front;
}

cut_message : (message bytes left text : List ℕ) (items : List (Item CallEnd)) → length message ≤ 4294967295 → item message ++ text ≡ bytes ++ left →
    ((behind : List ℕ) → text ≡ behind ++ left → IsCut behind items) → (short : Bool) → ltb (length bytes) (length (item message)) ≡ short → IsCut bytes (Message message ∷ items)
cut_message message bytes left text items small e others true h =
    let less : length bytes < length (item message) = ltb-true _ _ h in
    let same : bytes ≡ take (length bytes) (item message) =
    sym (take_at bytes left (length bytes) refl) ∙ ap (take (length bytes)) (sym e) ∙ take-append-le (length bytes) (item message) text (omega (arith, less)) in
    let whole : bytes ++ drop (length bytes) (item message) ≡ item message =
    ap (λ (x : List ℕ). x ++ drop (length bytes) (item message)) same ∙ take-append-drop (length bytes) (item message) in
    record {
      messages = [];
      rest = bytes;
      cut = messages_of-need_more 4294967295 bytes (part_of_item message bytes (drop (length bytes) (item message)) whole less small);
      front = (drop (length bytes) (item message), whole);
    }
cut_message message bytes left text items small e others false h =
    let long : length (item message) ≤ length bytes = ltb-false _ _ h in
    let size : ℕ = length (item message) in
    let same : item message ≡ take (length (item message)) bytes =
    sym (take_at (item message) text (length (item message)) refl) ∙ ap (take (length (item message))) e ∙ take-append-le (length (item message)) bytes left long in
    let behind : text ≡ drop (length (item message)) bytes ++ left =
    sym (drop_at (item message) text (length (item message)) refl) ∙ ap (drop (length (item message))) e ∙ drop-append-le (length (item message)) bytes left long in
    let whole : bytes ≡ item message ++ drop (length (item message)) bytes =
    sym (take-append-drop (length (item message)) bytes) ∙ ap (λ (x : List ℕ). x ++ drop (length (item message)) bytes) (sym same) in
    let rest = others (drop (length (item message)) bytes) behind in
    record {
      messages = message ∷ rest.messages;
      rest = rest.rest;
      cut = ap (messages_of 4294967295) whole ∙ first_item message (drop (length (item message)) bytes) small ∙ ap (first_then message) rest.cut;
      front = (refl, rest.front);
    }

pub cut_of : (items : List (Item CallEnd)) (bytes left : List ℕ) → AreTaken items → flat_map text_of items ≡ bytes ++ left → IsCut bytes items
cut_of [] bytes left taken e = let none = nothing bytes left e in no_messages bytes [] none none
cut_of (Finish c ∷ []) bytes left taken e = let none = nothing bytes left e in no_messages bytes (Finish c ∷ []) none none
cut_of (Finish c ∷ i ∷ items) bytes left taken e = absurd taken
cut_of (Message m ∷ items) bytes left taken e =
    cut_message m bytes left (flat_map text_of items) items taken.0 e (λ behind f. cut_of items behind left taken.1 f) (ltb (length bytes) (length (item m))) refl

-- and of all of it, with the end
pub with_end : (items : List (Item CallEnd)) (bytes : List ℕ) (e : CallEnd) → AreTaken items → flat_map text_of items ≡ bytes → EndsIn e items →
    (messages : List (List ℕ)) × (messages_of 4294967295 bytes ≡ record { messages = messages; rest = []; ending = NeedMore }) × IsPrefixOf messages [] (Some e) items
with_end [] bytes e taken text ends = absurd ends
with_end (Finish c ∷ []) bytes e taken text ends =
    ([], messages_of-need_more 4294967295 bytes (ap (front_at 4294967295) (sym text) ∙ front_at-nil 4294967295) ∙ ap (λ (x : List ℕ). record { messages = []; rest = x; ending = NeedMore }) (sym text), (refl, ends))
with_end (Finish c ∷ i ∷ items) bytes e taken text ends = absurd ends
with_end (Message m ∷ items) bytes e taken text ends =
    let rest = with_end items (flat_map text_of items) e taken.1 refl ends in (
      m ∷ rest.0,
      ap (messages_of 4294967295) (sym text) ∙ first_item m (flat_map text_of items) taken.0 ∙ ap (first_then m) rest.1,
      (refl, rest.2),
    )

-- ---- what a side spells

half_front : (messages : List (List ℕ)) (rest : List ℕ) (items : List (Item CallEnd)) → IsPrefixOf messages rest None items → IsPrefixOf messages rest None (map half items)
half_front (m ∷ ms) rest (Message n ∷ items) h = (h.0, half_front ms rest items h.1)
half_front (m ∷ ms) rest (Finish e ∷ items) h = absurd h
half_front (m ∷ ms) rest [] h = absurd h
half_front [] rest (Message n ∷ items) h = h
half_front [] rest (Finish e ∷ items) h = h
half_front [] rest [] h = h

half_end : (messages : List (List ℕ)) (rest : List ℕ) (e : CallEnd) (items : List (Item CallEnd)) → IsPrefixOf messages rest (Some e) items → IsPrefixOf messages rest (Some tt) (map half items)
half_end (m ∷ ms) rest e (Message n ∷ items) h = (h.0, half_end ms rest e items h.1)
half_end (m ∷ ms) rest e (Finish f ∷ items) h = absurd h
half_end (m ∷ ms) rest e [] h = absurd h
half_end [] rest e (Finish f ∷ []) h = (h.0, refl)
half_end [] rest e (Finish f ∷ i ∷ items) h = absurd h
half_end [] rest e (Message n ∷ items) h = absurd h
half_end [] rest e [] h = absurd h

answers : (t : CallTrace) (id : ℕ) (left : List ℕ) → AreTaken (queued_on t id) → (h : Answers t id left) →
    (end : Option CallEnd) → end_by response_fields (call_end_of t.numbers) h.close ≡ end → CarriesResponseOn t id
answers t id left taken h None e =
    let c = cut_of (queued_on t id) h.bytes left taken h.text in
    record {
      messages = c.messages;
      rest = c.rest;
      end = None;
      spells = record { bytes = h.bytes; close = h.close; response = h.response; cut = c.cut; end_is = sym e };
      front = c.front;
      begins = h.begins;
    }
answers t id left taken h (Some close) e =
    let all = h.closes close e in
    let text : flat_map text_of (queued_on t id) ≡ h.bytes = h.text ∙ ap (λ (x : List ℕ). h.bytes ++ x) all.0 ∙ append-nil h.bytes in
    let c = with_end (queued_on t id) h.bytes close taken text all.1 in
    record {
      messages = c.0;
      rest = [];
      end = Some close;
      spells = record { bytes = h.bytes; close = h.close; response = h.response; cut = c.1; end_is = sym e };
      front = c.2;
      begins = h.begins;
    }

asks : (t : CallTrace) (id : ℕ) (left : List ℕ) → AreTaken (queued_on t id) → (h : Asks t id left) → (last : Bool) → h.is_last ≡ last → CarriesRequestOn t id
asks t id left taken h false e =
    let c = cut_of (queued_on t id) h.bytes left taken h.text in
    record {
      messages = c.messages;
      rest = c.rest;
      ended = h.is_last;
      asks = record { bytes = h.bytes; request = h.request; cut = c.cut };
      front = subst (λ (b : Bool). IsPrefixOf c.messages c.rest (end_if b) (map half (queued_on t id))) (sym e) (half_front c.messages c.rest (queued_on t id) c.front);
    }
asks t id left taken h true e =
    let all = h.closes e in
    let text : flat_map text_of (queued_on t id) ≡ h.bytes = h.text ∙ ap (λ (x : List ℕ). h.bytes ++ x) all.0 ∙ append-nil h.bytes in
    let c = with_end (queued_on t id) h.bytes all.1.0 taken text all.1.1 in
    record {
      messages = c.0;
      rest = [];
      ended = h.is_last;
      asks = record { bytes = h.bytes; request = h.request; cut = c.1 };
      front = subst (λ (b : Bool). IsPrefixOf c.0 [] (end_if b) (map half (queued_on t id))) (sym e) (half_end c.0 [] all.1.0 (queued_on t id) c.2);
    }

by_role : (role : Role) (t : CallTrace) (id : ℕ) (left : List ℕ) → AreTaken (queued_on t id) → Spells role t id left → CarriesCallOn role t id
by_role Server t id left taken h = answers t id left taken h (end_by response_fields (call_end_of t.numbers) h.close) refl
by_role Client t id left taken h = asks t id left taken h h.is_last refl

pub carries_call : (t : CallTrace) (id : ℕ) (left : List ℕ) → Speaks t id left → AreSuited t id → CarriesCallOn t.connection_trace.role t id
carries_call t id left h suited = by_role t.connection_trace.role t id left h.taken (h.spelled suited)
