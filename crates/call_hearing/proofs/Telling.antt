-- What one more event tells.
use Rattle.std.proofs.Common.{◌≡◌, ℕ, Bool, ◌&&◌, ◌||◌, false, true, not, List, [], ◌∷◌, ◌++◌, length, drop, refl, sym, ap, ◌∙◌, map}
use Rattle.std.specs.Prelude.{if◌then◌else◌}
use Rattle.std.specs.List.{list_any}
use Rattle.std.proofs.lemmas.List.{append-nil}
use Rattle.std.proofs.lemmas.Bool.{eqb-true}
use Rattle.grpc_framing.specs.CutterState.{CutterState}
use Rattle.grpc_framing.specs.declared.front.Front.{Front}
use Rattle.grpc_framing.specs.declared.front.Front.TheVariants.{NeedMore}
use Rattle.grpc_framing.specs.Framing.{Messages, all_then, front_at, stopped}
use Rattle.grpc_framing.proofs.Streams.{messages_of-need_more}
use Rattle.grpc_heads.specs.CallEnd.{compressed, method_by, status_by, too_long, truncated, unknown}
use Rattle.grpc_heads.specs.Heads.{head_of}
use Rattle.grpc_heads.specs.Trailers.{status_in_trailers}
use Rattle.hpack_tables.specs.declared.field.Field.{Field}
use Rattle.h2_exchange.specs.declared.role.Role.{Role}
use Rattle.h2_exchange.specs.declared.role.Role.TheVariants.{Client, Server}
use Rattle.h2_exchange.specs.Calls.{Request, Dropped, Answered, Closed, answers, answers_of, calls, calls_of, closes, cut, end_calls, further, is_ended_on, is_refused, is_refused_cut, refusals}
use Rattle.h2_exchange.specs.Events.{Event, Head, Data, Ended, Reset, GoneAway, bytes_on}
use Rattle.h2_exchange.proofs.Looking.{collect_push}
use Rattle.grpc_stream.specs.CallTrace as trace
use Rattle.grpc_stream.specs.CallTrace.{PeerEvent, Asked}
use Rattle.schema_numbers.specs.Numbers.{Numbers}
use Rattle.kept_calls.specs.CallState.{CallState}
use Rattle.call_hearing.specs.declared.pending.Pending.{Pending}
use Rattle.call_hearing.specs.Laws.{EventsTell, OpenCallsAnswer, OpenCallsAsk, OthersTellNothing, tells}
use Rattle.call_hearing.specs.Listening.{Cuts, HearsAnswered, HearsAsked, awaits_answers, ends_answers, heads_on, has_method, is_asking, is_cut, is_on}

both : {A B : Type 0} (f : A → B) (xs ys : List A) → map f (xs ++ ys) ≡ map f xs ++ map f ys
both f [] ys = refl
both f (x ∷ xs) ys = ap (λ (more : List _). f x ∷ more) (both f xs ys)

pub events_tell : EventsTell
events_tell Server n es e =
    ap (map Asked) (collect_push (calls_of (λ fields. method_by (head_of fields)) compressed too_long truncated) es e)
    ∙ both Asked (calls (λ fields. method_by (head_of fields)) compressed too_long truncated es) (calls_of (λ fields. method_by (head_of fields)) compressed too_long truncated es e)
events_tell Client n es e =
    ap (map trace.Answered) (collect_push (answers_of (λ fields. status_by (status_in_trailers n fields)) unknown) es e)
    ∙ both trace.Answered (answers (λ fields. status_by (status_in_trailers n fields)) unknown es) (answers_of (λ fields. status_by (status_in_trailers n fields)) unknown es e)

-- ---- tests

pub if_true : {A : Type 0} (t : Bool) (xs : List A) → t ≡ true → (if t then xs else []) ≡ xs
if_true true xs e = refl
if_true false xs e = absurd cc

pub if_false : {A : Type 0} (t : Bool) (xs : List A) → t ≡ false → (if t then xs else []) ≡ []
if_false true xs e = absurd cc
if_false false xs e = refl

pub both_hold : (a b : Bool) → a ≡ true → b ≡ false → (a && not b) ≡ true
both_hold true false e f = refl
both_hold true true e f = absurd cc
both_hold false b e f = absurd cc

pub neither_holds : (a b : Bool) → a ≡ false → b ≡ false → (not a && not b) ≡ true
neither_holds false false e f = refl
neither_holds false true e f = absurd cc
neither_holds true b e f = absurd cc

-- ---- bytes behind whole messages

in_place : (xs ys : List (List ℕ)) → drop (length xs) (xs ++ ys) ≡ ys
in_place [] ys = refl
in_place (x ∷ xs) ys = in_place xs ys

pub cut_now : (bytes : List ℕ) (c : CutterState) (h : Cuts bytes c) → cut bytes ≡ all_then h.given (cut c.held)
cut_now bytes c h =
    ap cut (sym (append-nil bytes)) ∙ h.leads [] ∙ ap (λ (l : List ℕ). all_then h.given (cut l)) (append-nil c.held)

pub drained_cut : (bytes : List ℕ) (c : CutterState) (h : Cuts bytes c) → front_at 4194304 c.held ≡ NeedMore → cut bytes ≡ all_then h.given (stopped c.held NeedMore)
drained_cut bytes c h drained = cut_now bytes c h ∙ ap (all_then h.given) (messages_of-need_more 4194304 c.held drained)

pub further_is : (bytes more : List ℕ) (c : CutterState) (h : Cuts bytes c) → front_at 4194304 c.held ≡ NeedMore → further bytes more ≡ (cut (c.held ++ more)).messages
further_is bytes more c h drained =
    ap (λ (m : Messages). drop (length m.messages) (cut (bytes ++ more)).messages) (drained_cut bytes c h drained)
    ∙ ap (λ (l : List (List ℕ)). drop (length l) (cut (bytes ++ more)).messages) (append-nil h.given)
    ∙ ap (λ (m : Messages). drop (length h.given) m.messages) (h.leads more)
    ∙ in_place h.given (cut (c.held ++ more)).messages

pub ending_is : (bytes more : List ℕ) (c : CutterState) (h : Cuts bytes c) → (cut (bytes ++ more)).ending ≡ (cut (c.held ++ more)).ending
ending_is bytes more c h = ap (λ (m : Messages). m.ending) (h.leads more)

pub rest_is : (bytes : List ℕ) (c : CutterState) (h : Cuts bytes c) → front_at 4194304 c.held ≡ NeedMore → (cut bytes).rest ≡ c.held
rest_is bytes c h drained = ap (λ (m : Messages). m.rest) (drained_cut bytes c h drained)

fine_unless : (ended : Bool) (held : List ℕ) → (ended ≡ true → held ≡ []) → is_refused ended NeedMore held ≡ false
fine_unless true held empty = ap (is_refused true NeedMore) (empty refl)
fine_unless false [] empty = refl
fine_unless false (b ∷ held) empty = refl

-- bytes that hold no whole message are not refused
pub fine : (ended : Bool) (bytes : List ℕ) (c : CutterState) (h : Cuts bytes c) → front_at 4194304 c.held ≡ NeedMore → (ended ≡ true → c.held ≡ []) → is_refused_cut ended (cut bytes) ≡ false
fine ended bytes c h drained empty = ap (is_refused_cut ended) (drained_cut bytes c h drained) ∙ fine_unless ended c.held empty

-- ---- at a server

pub still_asks : (es : List Event) (reported : List PeerEvent) (pending : Pending) (c : CallState) → is_cut pending c.stream ≡ false → HearsAsked es reported pending c → is_asking es c.stream ≡ true
still_asks es reported pending c quiet h =
    both_hold (has_method es c.stream) (is_refused_cut (list_any (is_ended_on c.stream) es) (cut (bytes_on c.stream es))) h.begun
    (fine (list_any (is_ended_on c.stream) es) (bytes_on c.stream es) c.cutter h.cuts (h.drained quiet) h.whole)

pub open_calls_ask : OpenCallsAsk
open_calls_ask = record {
  data_tell = λ n es reported pending c bytes quiet h.
      ap (map Asked) (if_true (is_asking es c.stream) (map (Request c.stream) (further (bytes_on c.stream es) bytes) ++ refusals (λ fields. method_by (head_of fields)) compressed too_long truncated c.stream (cut (bytes_on c.stream es ++ bytes)).ending) (still_asks es reported pending c quiet h)
      ∙ ap (λ (ms : List (List ℕ)). map (Request c.stream) ms ++ refusals (λ fields. method_by (head_of fields)) compressed too_long truncated c.stream (cut (bytes_on c.stream es ++ bytes)).ending) (further_is (bytes_on c.stream es) bytes c.cutter h.cuts (h.drained quiet))
      ∙ ap (λ (f : Front). map (Request c.stream) (cut (c.cutter.held ++ bytes)).messages ++ refusals (λ fields. method_by (head_of fields)) compressed too_long truncated c.stream f) (ending_is (bytes_on c.stream es) bytes c.cutter h.cuts));
  end_tells = λ n es reported pending c quiet h.
      ap (map Asked) (if_true (is_asking es c.stream) (end_calls (λ fields. method_by (head_of fields)) compressed too_long truncated c.stream (cut (bytes_on c.stream es)).rest) (still_asks es reported pending c quiet h)
      ∙ ap (end_calls (λ fields. method_by (head_of fields)) compressed too_long truncated c.stream) (rest_is (bytes_on c.stream es) c.cutter h.cuts (h.drained quiet)));
  reset_tells = λ n es reported pending c why quiet h.
      ap (map Asked) (if_true (is_asking es c.stream) (Dropped c.stream ∷ []) (still_asks es reported pending c quiet h));
}

-- ---- at a client

same_any : (p q : Event → Bool) → ((e : Event) → p e ≡ q e) → (es : List Event) → list_any p es ≡ list_any q es
same_any p q same [] = refl
same_any p q same (e ∷ es) = ap (λ (t : Bool). t || list_any p es) (same e) ∙ ap (λ (t : Bool). q e || t) (same_any p q same es)

pub awaits_is : (id : ℕ) (es : List Event) → awaits_answers es id ≡ (not (list_any (ends_answers id) es) && not (is_refused_cut false (cut (bytes_on id es))))
awaits_is id es =
    ap (λ (t : Bool). not t && not (is_refused_cut false (cut (bytes_on id es))))
    (same_any _ (ends_answers id) (λ e. elim e [
      | Head stream fields last ↦ refl
      | Data stream bytes ↦ refl
      | Ended stream ↦ refl
      | Reset stream why ↦ refl
      | GoneAway stream why ↦ refl
    ]) es)

pub still_awaits : (es : List Event) (pending : Pending) (c : CallState) → is_cut pending c.stream ≡ false → HearsAnswered es pending c → awaits_answers es c.stream ≡ true
still_awaits es pending c quiet h =
    awaits_is c.stream es
    ∙ neither_holds (list_any (ends_answers c.stream) es) (is_refused_cut false (cut (bytes_on c.stream es))) h.unended
    (fine false (bytes_on c.stream es) c.cutter h.cuts (h.drained quiet) (λ e. absurd cc))

pub open_calls_answer : OpenCallsAnswer
open_calls_answer = record {
  data_tell = λ n es pending c bytes quiet h.
      ap (map trace.Answered) (if_true (awaits_answers es c.stream) (map (Answered c.stream) (further (bytes_on c.stream es) bytes) ++ closes (λ (fields : List Field). unknown) unknown c.stream (cut (bytes_on c.stream es ++ bytes)).ending) (still_awaits es pending c quiet h)
      ∙ ap (λ (ms : List (List ℕ)). map (Answered c.stream) ms ++ closes (λ (fields : List Field). unknown) unknown c.stream (cut (bytes_on c.stream es ++ bytes)).ending) (further_is (bytes_on c.stream es) bytes c.cutter h.cuts (h.drained quiet))
      ∙ ap (λ (f : Front). map (Answered c.stream) (cut (c.cutter.held ++ bytes)).messages ++ closes (λ (fields : List Field). unknown) unknown c.stream f) (ending_is (bytes_on c.stream es) bytes c.cutter h.cuts));
  trailers_tell = λ n es pending c fields quiet h.
      ap (map trace.Answered) (if_true (awaits_answers es c.stream) (Closed c.stream (status_by (status_in_trailers n fields)) ∷ []) (still_awaits es pending c quiet h));
  end_tells = λ n es pending c quiet h.
      ap (map trace.Answered) (if_true (awaits_answers es c.stream) (Closed c.stream unknown ∷ []) (still_awaits es pending c quiet h));
  reset_tells = λ n es pending c why quiet h.
      ap (map trace.Answered) (if_true (awaits_answers es c.stream) (Closed c.stream unknown ∷ []) (still_awaits es pending c quiet h));
}

-- ---- nothing is told

refused_by_test : (n : Numbers) (es : List Event) (id : ℕ) (e : Event) → is_on id e ≡ true → heads_on id e ≡ false → is_asking es id ≡ false → tells Server n es e ≡ []
refused_by_test n es id (Head stream fields last) on head over = absurd cc
refused_by_test n es id (Data stream bytes) on head over =
    ap (map Asked) (if_false (is_asking es stream) (map (Request stream) (further (bytes_on stream es) bytes) ++ refusals (λ fields. method_by (head_of fields)) compressed too_long truncated stream (cut (bytes_on stream es ++ bytes)).ending)
    (ap (is_asking es) (eqb-true stream id on) ∙ over))
refused_by_test n es id (Ended stream) on head over =
    ap (map Asked) (if_false (is_asking es stream) (end_calls (λ fields. method_by (head_of fields)) compressed too_long truncated stream (cut (bytes_on stream es)).rest) (ap (is_asking es) (eqb-true stream id on) ∙ over))
refused_by_test n es id (Reset stream why) on head over =
    ap (map Asked) (if_false (is_asking es stream) (Dropped stream ∷ []) (ap (is_asking es) (eqb-true stream id on) ∙ over))
refused_by_test n es id (GoneAway stream why) on head over = refl

closed_by_test : (n : Numbers) (es : List Event) (id : ℕ) (e : Event) → is_on id e ≡ true → awaits_answers es id ≡ false → tells Client n es e ≡ []
closed_by_test n es id (Head stream fields last) on over =
    ap (map trace.Answered) (if_false (awaits_answers es stream) (if last then Closed stream (status_by (status_in_trailers n fields)) ∷ [] else []) (ap (awaits_answers es) (eqb-true stream id on) ∙ over))
closed_by_test n es id (Data stream bytes) on over =
    ap (map trace.Answered) (if_false (awaits_answers es stream) (map (Answered stream) (further (bytes_on stream es) bytes) ++ closes (λ (fields : List Field). unknown) unknown stream (cut (bytes_on stream es ++ bytes)).ending) (ap (awaits_answers es) (eqb-true stream id on) ∙ over))
closed_by_test n es id (Ended stream) on over =
    ap (map trace.Answered) (if_false (awaits_answers es stream) (Closed stream unknown ∷ []) (ap (awaits_answers es) (eqb-true stream id on) ∙ over))
closed_by_test n es id (Reset stream why) on over =
    ap (map trace.Answered) (if_false (awaits_answers es stream) (Closed stream unknown ∷ []) (ap (awaits_answers es) (eqb-true stream id on) ∙ over))
closed_by_test n es id (GoneAway stream why) on over = absurd cc

if_nothing : {A : Type 0} (t : Bool) → ◌≡◌ {A = List A} (if t then [] else []) []
if_nothing true = refl
if_nothing false = refl

goes_quietly : (role : Role) (n : Numbers) (es : List Event) (last : ℕ) (why : _) → tells role n es (GoneAway last why) ≡ []
goes_quietly Server n es last why = refl
goes_quietly Client n es last why = ap (map trace.Answered) (if_nothing (awaits_answers es 0))

pub others_tell_nothing : OthersTellNothing
others_tell_nothing = record {
  refused = refused_by_test;
  closed = closed_by_test;
  response = λ n es id fields. ap (map trace.Answered) (if_nothing (awaits_answers es id));
  goaway = goes_quietly;
}
