-- What is taken to be sent: messages and ends.
use Rattle.std.proofs.Common.{◌≡◌, ℕ, ◌≤◌, ◌==◌, Bool, true, false, ◌||◌, List, [], ◌∷◌, ◌++◌, length, map, sum_by, refl, sym, ap, subst, ◌∙◌, append_assoc, arith}
use Rattle.std.specs.Prelude.{filter, if◌then◌else◌}
use Rattle.std.specs.List.{All, flat_map, list_any}
use Rattle.std.proofs.lemmas.Bool.{false≢true}
use Rattle.std.proofs.lemmas.List.{append-nil, length-append, map-append}
use Rattle.std.proofs.lemmas.List.Concat.{flat_map-append}
use Rattle.std.proofs.lemmas.List.Elements.{All-head, All-tail, All-cons, All-nil, filter-append}
use Rattle.std.proofs.lemmas.List.Folds.{list_any-append}
use Rattle.grpc_framing.specs.Framing.{item}
use Rattle.grpc_heads.specs.CallEnd.{CallEnd}
use Rattle.hpack_tables.specs.declared.field.Field.{Field}
use Rattle.hpack_tables.specs.EntrySizes.{size_of}
use Rattle.h2_exchange.specs.declared.role.Role.{Role}
use Rattle.h2_exchange.specs.declared.role.Role.TheVariants.{Client, Server}
use Rattle.h2_exchange.specs.StreamParts.{Finish, IsMessageFirst, Item, Message}
use Rattle.h2_exchange.specs.Streams.{is_open}
use Rattle.h2_exchange.proofs.Looking.{or_nothing}
use Rattle.h2_exchange.proofs.Places.{clash, same_self}
use Rattle.grpc_stream.proofs.Counted.{item_length}
use Rattle.grpc_stream.specs.CallTrace.{CallTrace, is_end, is_ended, queued_on, suits, text_of, took}
use Rattle.kept_calls.specs.declared.call.Ending.{Ending}
use Rattle.kept_calls.specs.declared.call.Ending.TheVariants as end
use Rattle.kept_calls.specs.CallState.{CallState, closed_by, ended, is_sent, with_message}
use Rattle.call_sending.specs.Laws.{TakenIsKept}
use Rattle.call_sending.specs.Spelling.{AreSuited, AreTaken, EndsIn, Prepares, Sends, Speaks, Spells}
use Rattle.call_sending.proofs.Kept.{IsUntouched, sends_kept}
use Rattle.call_sending.proofs.Moving.{begun_open}
use Rattle.call_sending.proofs.Spoke.{not_ended}

-- ---- one more of what was taken

queued_more : (t : CallTrace) (id k : ℕ) (what : Item CallEnd) → queued_on (took id what t) k ≡ queued_on t k ++ (if id == k then what ∷ [] else [])
queued_more t id k what =
    ap (map (λ (x : ℕ × Item CallEnd). x.1)) (filter-append (λ (x : ℕ × Item CallEnd). x.0 == k) t.taken ((id, what) ∷ []))
    ∙ map-append (λ (x : ℕ × Item CallEnd). x.1) (filter (λ (x : ℕ × Item CallEnd). x.0 == k) t.taken) (filter (λ (x : ℕ × Item CallEnd). x.0 == k) ((id, what) ∷ []))
    ∙ ap (λ (items : List (Item CallEnd)). queued_on t k ++ items) (last (id == k))
  where
    last : (b : Bool) → map (λ (x : ℕ × Item CallEnd). x.1) (if b then (id, what) ∷ [] else []) ≡ (if b then what ∷ [] else [])
    last true = refl
    last false = refl

pub queued_here : (t : CallTrace) (id : ℕ) (what : Item CallEnd) → queued_on (took id what t) id ≡ queued_on t id ++ what ∷ []
queued_here t id what = queued_more t id id what ∙ ap (λ (b : Bool). queued_on t id ++ (if b then what ∷ [] else [])) (same_self id)

pub queued_elsewhere : (t : CallTrace) (id k : ℕ) (what : Item CallEnd) → (id == k) ≡ false → queued_on (took id what t) k ≡ queued_on t k
queued_elsewhere t id k what other = queued_more t id k what ∙ ap (λ (b : Bool). queued_on t k ++ (if b then what ∷ [] else [])) other ∙ append-nil (queued_on t k)

pub taken_untouched : (t : CallTrace) (id k : ℕ) (what : Item CallEnd) → (id == k) ≡ false → IsUntouched t (took id what t) k
taken_untouched t id k what other = record {
  role_is = refl;
  numbers_are = refl;
  queued_is = queued_elsewhere t id k what other;
  head_is = refl;
  parts_are = refl;
  spent_is = refl;
  ended_is = refl;
  begun = λ e. e;
  begun_before = λ role_is e. e;
  opened = λ e. e;
}

text_more : (items : List (Item CallEnd)) (what : Item CallEnd) → flat_map text_of (items ++ what ∷ []) ≡ flat_map text_of items ++ text_of what
text_more items what = flat_map-append text_of items (what ∷ []) ∙ ap (λ (l : List ℕ). flat_map text_of items ++ l) (append-nil (text_of what))

taken_more : (items : List (Item CallEnd)) (what : Item CallEnd) → AreTaken items → list_any is_end items ≡ false → AreTaken (what ∷ []) → AreTaken (items ++ what ∷ [])
taken_more [] what h none fine = fine
taken_more (Message m ∷ items) what (size, h) none fine = (size, taken_more items what h none fine)
taken_more (Finish e ∷ items) what h none fine = absurd cc

end_any : (e : CallEnd) (items : List (Item CallEnd)) → EndsIn e items → list_any is_end items ≡ true
end_any e [] h = absurd h
end_any e (Message m ∷ items) h = end_any e items h
end_any e (Finish x ∷ []) h = refl
end_any e (Finish x ∷ item ∷ items) h = refl

pub first_more : (items : List (Item CallEnd)) (what : Item CallEnd) → IsMessageFirst items → IsMessageFirst (items ++ what ∷ [])
first_more [] what h = absurd h
first_more (Message m ∷ items) what h = tt
first_more (Finish e ∷ items) what h = absurd h

pub ends_with : (items : List (Item CallEnd)) (e : CallEnd) → list_any is_end items ≡ false → EndsIn e (items ++ Finish e ∷ [])
ends_with [] e h = refl
ends_with (Message m ∷ items) e h = ends_with items e h
ends_with (Finish x ∷ items) e h = absurd cc

-- every message has a text
pub none_taken : (items : List (Item CallEnd)) → list_any is_end items ≡ false → flat_map text_of items ≡ [] → items ≡ []
none_taken [] none e = refl
none_taken (Message m ∷ items) none e = absurd (omega (arith, item_length m, length-append (text_of (Message m)) (flat_map text_of items), ap length e))
none_taken (Finish x ∷ items) none e = absurd cc

message_first : (m : List ℕ) (items : List (Item CallEnd)) → AreTaken items → list_any is_end items ≡ false → IsMessageFirst (items ++ Message m ∷ [])
message_first m [] h none = tt
message_first m (Message n ∷ items) h none = tt
message_first m (Finish e ∷ items) h none = absurd cc

suited_front : (P : Item CallEnd → Type 0) (xs ys : List (Item CallEnd)) → All P (xs ++ ys) → All P xs
suited_front P [] ys h = All-nil P
suited_front P (x ∷ xs) ys h = All-cons P x xs (All-head P x (xs ++ ys) h) (suited_front P xs ys (All-tail P x (xs ++ ys) h))

-- ---- a stream that is open, and whose end was not taken

module _ (t : CallTrace) (id : ℕ) (what : Item CallEnd) (opened : is_open t.connection_trace.role t.connection_trace.frames id ≡ true) (unended : is_ended t id ≡ false) (fine : AreTaken (what ∷ [])) where
  abbrev next : CallTrace
  next = took id what t

  all_is : queued_on next id ≡ queued_on t id ++ what ∷ []
  all_is = queued_here t id what

  suited_before : AreSuited next id → AreSuited t id
  suited_before h =
      suited_front (λ (x : Item CallEnd). suits t.connection_trace.role x ≡ true) (queued_on t id) (what ∷ [])
      (subst (All (λ (x : Item CallEnd). suits t.connection_trace.role x ≡ true)) all_is h)

  text_now : (bytes rest : List ℕ) → flat_map text_of (queued_on t id) ≡ bytes ++ rest → flat_map text_of (queued_on next id) ≡ bytes ++ (rest ++ text_of what)
  text_now bytes rest e = ap (flat_map text_of) all_is ∙ text_more (queued_on t id) what ∙ ap (λ (l : List ℕ). l ++ text_of what) e ∙ append_assoc bytes rest (text_of what)

  spells_taken : (role : Role) (rest : List ℕ) → Spells role t id rest → Spells role next id (rest ++ text_of what)
  spells_taken Server rest a = record {
    bytes = a.bytes;
    close = a.close;
    response = a.response;
    text = text_now a.bytes rest a.text;
    begins = λ e. subst IsMessageFirst (sym all_is) (first_more (queued_on t id) what (a.begins e));
    closes = λ e q. absurd (clash _ (end_any e (queued_on t id) (a.closes e q).1) unended);
  }
  spells_taken Client rest a = record {
    bytes = a.bytes;
    is_last = a.is_last;
    headed = a.headed;
    request = a.request;
    text = text_now a.bytes rest a.text;
    closes = λ e. let over = (a.closes e).1 in absurd (clash _ (end_any over.0 (queued_on t id) over.1) unended);
  }

  pub speaks_taken : (rest : List ℕ) → Speaks t id rest → Speaks next id (rest ++ text_of what)
  speaks_taken rest h = record {
    taken = subst AreTaken (sym all_is) (taken_more (queued_on t id) what h.taken unended fine);
    begun_first = λ e. absurd (clash _ (begun_open t.connection_trace.role t.connection_trace.frames id opened) e);
    count =
        let text = ap length (ap (flat_map text_of) all_is ∙ text_more (queued_on t id) what) in
        omega (arith, h.count, text, length-append (flat_map text_of (queued_on t id)) (text_of what), length-append rest (text_of what));
    whole = λ e. absurd (clash _ e (not_ended t id opened));
    spelled = λ suited. spells_taken t.connection_trace.role rest (h.spelled (suited_before suited));
  }

-- ---- the call on it

or_all : (a : Bool) → (a || true) ≡ true
or_all true = refl
or_all false = refl

open_keeps : (role : Role) (t u : CallTrace) (id : ℕ) (e : Ending) (fields : List Field) → ended e ≡ false → Prepares role u id e fields
open_keeps Server t u id end.Open fields none = tt
open_keeps Client t u id end.Open fields none = tt
open_keeps role t u id end.Block fields none = absurd cc
open_keeps role t u id end.Trailers fields none = absurd cc
open_keeps role t u id end.HalfClose fields none = absurd cc
open_keeps role t u id end.Sent fields none = absurd cc

not_sent : (e : Ending) → ended e ≡ false → is_sent e ≡ true → ⊥
not_sent end.Open none s = false≢true s
not_sent end.Block none s = false≢true s
not_sent end.Trailers none s = false≢true s
not_sent end.HalfClose none s = false≢true s
not_sent end.Sent none s = false≢true (sym none)

module _ (t : CallTrace) (c : CallState) (opened : is_open t.connection_trace.role t.connection_trace.frames c.stream ≡ true) (unended : ended c.ending ≡ false) (h : Sends t c) where
  none_ended : is_ended t c.stream ≡ false
  none_ended = h.ended_is ∙ unended

  pub sends_message : (m : List ℕ) → length m ≤ 4294967295 → Sends (took c.stream (Message m) t) (with_message m c)
  sends_message m size =
      let all = queued_here t c.stream (Message m) in
      record {
        speaks = speaks_taken t c.stream (Message m) opened none_ended (size, tt) c.unsent h.speaks;
        ended_is = ap (list_any is_end) all ∙ list_any-append is_end (queued_on t c.stream) (Message m ∷ []) ∙ or_nothing (list_any is_end (queued_on t c.stream)) ∙ h.ended_is;
        sent_is = λ s. absurd (not_sent c.ending unended s);
        fits = h.fits;
        message_is = λ e. absurd (false≢true (sym e));
        first_is = λ e. subst IsMessageFirst (sym all) (message_first m (queued_on t c.stream) h.speaks.taken none_ended);
        ahead = h.ahead;
        prepared = λ suited. open_keeps t.connection_trace.role t (took c.stream (Message m) t) c.stream c.ending c.fields unended;
      }

  pub sends_end : (e : CallEnd) (ending : Ending) (fields : List Field) → ended ending ≡ true → is_sent ending ≡ false → sum_by size_of fields ≤ 65536 →
      (AreSuited (took c.stream (Finish e) t) c.stream → (c.has_message ≡ false → queued_on t c.stream ≡ []) → (c.has_message ≡ true → IsMessageFirst (queued_on t c.stream)) →
      Prepares t.connection_trace.role (took c.stream (Finish e) t) c.stream ending fields) → Sends (took c.stream (Finish e) t) (closed_by ending fields c)
  sends_end e ending fields over unsent size prepares =
      let all = queued_here t c.stream (Finish e) in
      record {
        speaks = subst (Speaks (took c.stream (Finish e) t) c.stream) (append-nil c.unsent) (speaks_taken t c.stream (Finish e) opened none_ended tt c.unsent h.speaks);
        ended_is = ap (list_any is_end) all ∙ list_any-append is_end (queued_on t c.stream) (Finish e ∷ []) ∙ or_all (list_any is_end (queued_on t c.stream)) ∙ sym over;
        sent_is = λ s. absurd (clash _ s unsent);
        fits = size;
        message_is = λ k. ap (flat_map text_of) all ∙ text_more (queued_on t c.stream) (Finish e) ∙ append-nil (flat_map text_of (queued_on t c.stream)) ∙ h.message_is k;
        first_is = λ k. subst IsMessageFirst (sym all) (first_more (queued_on t c.stream) (Finish e) (h.first_is k));
        ahead = h.ahead;
        prepared = λ suited. prepares suited (λ k. none_taken (queued_on t c.stream) none_ended (h.message_is k)) h.first_is;
      }

pub taken_is_kept : TakenIsKept
taken_is_kept = record {
  messages = λ t c m opened unended size h. sends_message t c opened unended h m size;
  ends = λ t c e ending fields opened unended over unsent size prepares h. sends_end t c opened unended h e ending fields over unsent size prepares;
  others = λ t c id what apart h. sends_kept t (took id what t) c (taken_untouched t id c.stream what apart) h;
}
