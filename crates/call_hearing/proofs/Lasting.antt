-- What is kept of a call behind one more event.
use Rattle.std.proofs.Common.{◌≡◌, ◌⊎◌, inl, inr, ℕ, Bool, ◌&&◌, ◌||◌, false, true, not, List, [], ◌∷◌, ◌++◌, refl, sym, ap, subst, ◌∙◌, append_assoc, None}
use Rattle.std.specs.Prelude.{if◌then◌else◌, ◌==◌, is_ok}
use Rattle.std.specs.List.{flat_map, list_any}
use Rattle.std.proofs.lemmas.List.{append-nil}
use Rattle.std.proofs.lemmas.List.Concat.{flat_map-append}
use Rattle.std.proofs.lemmas.List.Folds.{list_any-append}
use Rattle.grpc_framing.specs.CutterState.{CutterState}
use Rattle.grpc_framing.specs.declared.front.Front.TheVariants.{NeedMore}
use Rattle.grpc_framing.specs.Framing.{all_then}
use Rattle.grpc_framing.specs.NextMessage.{fed}
use Rattle.grpc_heads.specs.CallEnd.{compressed, method_by, too_long, truncated}
use Rattle.grpc_heads.specs.Heads.{head_of}
use Rattle.hpack_tables.specs.declared.field.Field.{Field}
use Rattle.h2_exchange.specs.declared.role.Role.{Role}
use Rattle.h2_exchange.specs.declared.role.Role.TheVariants.{Client, Server}
use Rattle.h2_exchange.specs.Calls.{cut, is_begun_call, is_begun_on, is_ended_on, is_refused, is_refused_cut}
use Rattle.h2_exchange.specs.Events.{Event, Head, Data, Ended, Reset, GoneAway, bytes_of, bytes_on}
use Rattle.h2_exchange.proofs.Looking.{or_nothing}
use Rattle.h2_exchange.proofs.Places.{any_push, first_true, second_true, same_self, neither, and_false, and_parts, clash, one_of}
use Rattle.h2_exchange.proofs.Refused.{refused_stays}
use Rattle.grpc_stream.specs.CallTrace.{PeerEvent}
use Rattle.grpc_stream.specs.NextEvent.{asked_of}
use Rattle.kept_calls.specs.declared.call.Receiving.{Receiving}
use Rattle.kept_calls.specs.declared.call.Receiving.TheVariants.{Open, Closed}
use Rattle.kept_calls.specs.CallState.{CallState}
use Rattle.call_hearing.specs.declared.pending.Pending.{Pending}
use Rattle.call_hearing.specs.declared.pending.Pending.TheVariants.{Nothing, Cut}
use Rattle.call_hearing.specs.Laws.{ClosedCallsLast, ListeningLasts, OpenAnswersLast, OpenCallsLast}
use Rattle.call_hearing.specs.Listening.{Cuts, Hears, HearsAnswered, HearsAsked, awaits_answers, ends_answers, has_method, heads_on, is_asking, is_cut, is_on}
use Rattle.call_hearing.proofs.Telling.{awaits_is, drained_cut}

-- ---- one more event

pub bytes_push : (id : ℕ) (es : List Event) (e : Event) → bytes_on id (es ++ e ∷ []) ≡ bytes_on id es ++ bytes_of id e
bytes_push id es e = flat_map-append (bytes_of id) es (e ∷ []) ∙ ap (λ (l : List ℕ). bytes_on id es ++ l) (append-nil (bytes_of id e))

pub no_more_bytes : (id : ℕ) (es : List Event) (e : Event) → bytes_of id e ≡ [] → bytes_on id (es ++ e ∷ []) ≡ bytes_on id es
no_more_bytes id es e none = bytes_push id es e ∙ ap (λ (l : List ℕ). bytes_on id es ++ l) none ∙ append-nil (bytes_on id es)

pub still_none : {A : Type 0} (p : A → Bool) (xs : List A) (x : A) → p x ≡ false → list_any p (xs ++ x ∷ []) ≡ list_any p xs
still_none p xs x e = any_push p xs x ∙ ap (λ (t : Bool). list_any p xs || t) e ∙ or_nothing (list_any p xs)

pub still_some : {A : Type 0} (p : A → Bool) (xs : List A) (x : A) → list_any p xs ≡ true → list_any p (xs ++ x ∷ []) ≡ true
still_some p xs x e = any_push p xs x ∙ first_true (list_any p xs) (p x) e

pub data_here : (id : ℕ) (bytes : List ℕ) → bytes_of id (Data id bytes) ≡ bytes
data_here id bytes = ap (λ (t : Bool). if t then bytes else []) (same_self id)

pub off_bytes : (id : ℕ) (e : Event) → is_on id e ≡ false → bytes_of id e ≡ []
off_bytes id (Data stream bytes) off = ap (λ (t : Bool). if t then bytes else []) off
off_bytes id (Head stream fields last) off = refl
off_bytes id (Ended stream) off = refl
off_bytes id (Reset stream why) off = refl
off_bytes id (GoneAway stream why) off = refl

pub off_end : (id : ℕ) (e : Event) → is_on id e ≡ false → is_ended_on id e ≡ false
off_end id (Data stream bytes) off = refl
off_end id (Head stream fields last) off = refl
off_end id (Ended stream) off = off
off_end id (Reset stream why) off = refl
off_end id (GoneAway stream why) off = refl

pub off_head : (id : ℕ) (e : Event) → is_on id e ≡ false → heads_on id e ≡ false
off_head id (Data stream bytes) off = refl
off_head id (Head stream fields last) off = off
off_head id (Ended stream) off = refl
off_head id (Reset stream why) off = refl
off_head id (GoneAway stream why) off = refl

pub and_off : (a b : Bool) → b ≡ false → (a && b) ≡ false
and_off true b e = e
and_off false b e = refl

pub off_answers : (id : ℕ) (e : Event) → is_on id e ≡ false → ends_answers id e ≡ false
off_answers id (Data stream bytes) off = refl
off_answers id (Head stream fields last) off = and_off last (stream == id) off
off_answers id (Ended stream) off = off
off_answers id (Reset stream why) off = off
off_answers id (GoneAway stream why) off = refl

abbrev pub begins_asking : ℕ → Event → Bool
begins_asking id e = is_begun_on (λ (fields : List Field). method_by (head_of fields)) compressed too_long truncated id e

pub no_head_no_call : (id : ℕ) (e : Event) → heads_on id e ≡ false → begins_asking id e ≡ false
no_head_no_call id (Data stream bytes) off = refl
no_head_no_call id (Head stream fields last) off = and_false (stream == id) (is_ok (method_by (head_of fields))) off
no_head_no_call id (Ended stream) off = refl
no_head_no_call id (Reset stream why) off = refl
no_head_no_call id (GoneAway stream why) off = refl

-- ---- what a cutter holds

pub cuts_same : (a b : List ℕ) (c : CutterState) → b ≡ a → Cuts a c → Cuts b c
cuts_same a b c same h = record { limit_is = h.limit_is; alive = h.alive; given = h.given; leads = λ more. ap (λ (l : List ℕ). cut (l ++ more)) same ∙ h.leads more }

fed_is : (c : CutterState) (bytes : List ℕ) → c.refusal ≡ None → fed c bytes ≡ record { limit = c.limit; held = c.held ++ bytes; refusal = c.refusal }
fed_is c bytes alive = rw alive refl

pub cuts_fed : (old bytes : List ℕ) (c : CutterState) → Cuts old c → Cuts (old ++ bytes) (fed c bytes)
cuts_fed old bytes c h = subst (Cuts (old ++ bytes)) (sym (fed_is c bytes h.alive)) (record {
  limit_is = h.limit_is;
  alive = h.alive;
  given = h.given;
  leads = λ more. ap cut (append_assoc old bytes more) ∙ h.leads (bytes ++ more) ∙ ap (λ (l : List ℕ). all_then h.given (cut l)) (sym (append_assoc c.held bytes more));
})

-- ---- at a server

-- an event without bytes and without an end changes nothing
pub asked_same : (es : List Event) (e : Event) (reported : List PeerEvent) (pending : Pending) (c : CallState) → bytes_of c.stream e ≡ [] → is_ended_on c.stream e ≡ false →
    HearsAsked es reported pending c → HearsAsked (es ++ e ∷ []) reported pending c
asked_same es e reported pending c none unended h = record {
  begun = still_some _ es e h.begun;
  shown = h.shown;
  cuts = cuts_same (bytes_on c.stream es) (bytes_on c.stream (es ++ e ∷ [])) c.cutter (no_more_bytes c.stream es e none) h.cuts;
  drained = h.drained;
  whole = λ ended. h.whole (sym (still_none (is_ended_on c.stream) es e unended) ∙ ended);
}

answered_same : (es : List Event) (e : Event) (pending : Pending) (c : CallState) → bytes_of c.stream e ≡ [] → ends_answers c.stream e ≡ false →
    HearsAnswered es pending c → HearsAnswered (es ++ e ∷ []) pending c
answered_same es e pending c none unended h = record {
  unended = still_none (ends_answers c.stream) es e unended ∙ h.unended;
  cuts = cuts_same (bytes_on c.stream es) (bytes_on c.stream (es ++ e ∷ [])) c.cutter (no_more_bytes c.stream es e none) h.cuts;
  drained = h.drained;
}

-- a call that was refused stays so
not_and : (a b : Bool) → (a && not b) ≡ false → (a ≡ false) ⊎ (b ≡ true)
not_and true true e = inr refl
not_and true false e = absurd cc
not_and false b e = inl refl

pub and_not : (a b : Bool) → (a ≡ false) ⊎ (b ≡ true) → (a && not b) ≡ false
and_not true true e = refl
and_not true false (inl e) = absurd cc
and_not true false (inr e) = absurd cc
and_not false b e = refl

pub asking_push : (es : List Event) (e : Event) (id : ℕ) →
    is_asking (es ++ e ∷ []) id ≡ ((has_method es id || begins_asking id e) && not (is_refused_cut (list_any (is_ended_on id) es || is_ended_on id e) (cut (bytes_on id es ++ bytes_of id e))))
asking_push es e id = rw (any_push (begins_asking id) es e, any_push (is_ended_on id) es e, bytes_push id es e) refl

pub refused_lasts : (es : List Event) (e : Event) (id : ℕ) → heads_on id e ≡ false → (bytes_of id e ≡ []) ⊎ (list_any (is_ended_on id) es ≡ false) → is_asking es id ≡ false →
    is_asking (es ++ e ∷ []) id ≡ false
refused_lasts es e id no_head place over =
    asking_push es e id
    ∙ and_not (has_method es id || begins_asking id e) (is_refused_cut (list_any (is_ended_on id) es || is_ended_on id e) (cut (bytes_on id es ++ bytes_of id e)))
    (elim (not_and (has_method es id) (is_refused_cut (list_any (is_ended_on id) es) (cut (bytes_on id es))) over) [
      | inl unbegun ↦ inl (neither (has_method es id) (begins_asking id e) unbegun (no_head_no_call id e no_head))
      | inr refused ↦ inr (refused_stays (list_any (is_ended_on id) es) (is_ended_on id e) (bytes_on id es) (bytes_of id e) place refused)
    ])

-- ---- at a client

pub awaits_push : (es : List Event) (e : Event) (id : ℕ) →
    awaits_answers (es ++ e ∷ []) id ≡ (not (list_any (ends_answers id) es || ends_answers id e) && not (is_refused_cut false (cut (bytes_on id es ++ bytes_of id e))))
awaits_push es e id = awaits_is id (es ++ e ∷ []) ∙ rw (any_push (ends_answers id) es e, bytes_push id es e) refl

not_both : (a b : Bool) → (not a && not b) ≡ false → (a ≡ true) ⊎ (b ≡ true)
not_both true b e = inl refl
not_both false true e = inr refl
not_both false false e = absurd cc

pub one_ends : (a b : Bool) → (a ≡ true) ⊎ (b ≡ true) → (not a && not b) ≡ false
one_ends true b e = refl
one_ends false true e = refl
one_ends false false (inl e) = absurd cc
one_ends false false (inr e) = absurd cc

pub over_lasts : (es : List Event) (e : Event) (id : ℕ) → awaits_answers es id ≡ false → awaits_answers (es ++ e ∷ []) id ≡ false
over_lasts es e id over =
    awaits_push es e id
    ∙ one_ends (list_any (ends_answers id) es || ends_answers id e) (is_refused_cut false (cut (bytes_on id es ++ bytes_of id e)))
    (elim (not_both (list_any (ends_answers id) es) (is_refused_cut false (cut (bytes_on id es))) (sym (awaits_is id es) ∙ over)) [
      | inl ended ↦ inl (first_true (list_any (ends_answers id) es) (ends_answers id e) ended)
      | inr refused ↦ inr (refused_stays false false (bytes_on id es) (bytes_of id e) (inr refl) refused)
    ])

pub ends_now : (es : List Event) (id : ℕ) (e : Event) → ends_answers id e ≡ true → awaits_answers (es ++ e ∷ []) id ≡ false
ends_now es id e ends =
    awaits_push es e id
    ∙ one_ends (list_any (ends_answers id) es || ends_answers id e) (is_refused_cut false (cut (bytes_on id es ++ bytes_of id e)))
    (inl (second_true (list_any (ends_answers id) es) (ends_answers id e) ends))

-- ---- laws

elsewhere : (role : Role) (es : List Event) (e : Event) (reported : List PeerEvent) (pending : Pending) (c : CallState) (r : Receiving) →
    is_on c.stream e ≡ false → Hears role es reported pending c r → Hears role (es ++ e ∷ []) reported pending c r
elsewhere Server es e reported pending c Open off h = asked_same es e reported pending c (off_bytes c.stream e off) (off_end c.stream e off) h
elsewhere Client es e reported pending c Open off h = answered_same es e pending c (off_bytes c.stream e off) (off_answers c.stream e off) h
elsewhere Server es e reported pending c Closed off h =
    (still_some (heads_on c.stream) es e h.0, refused_lasts es e c.stream (off_head c.stream e off) (inl (off_bytes c.stream e off)) h.1)
elsewhere Client es e reported pending c Closed off h = over_lasts es e c.stream h

more_reported : (role : Role) (es : List Event) (reported more : List PeerEvent) (pending : Pending) (c : CallState) (r : Receiving) →
    Hears role es reported pending c r → Hears role es (reported ++ more) pending c r
more_reported Server es reported more pending c Open h = record {
  begun = h.begun;
  shown = ap (list_any (is_begun_call c.stream)) (flat_map-append asked_of reported more)
      ∙ list_any-append (is_begun_call c.stream) (flat_map asked_of reported) (flat_map asked_of more)
      ∙ first_true (list_any (is_begun_call c.stream) (flat_map asked_of reported)) (list_any (is_begun_call c.stream) (flat_map asked_of more)) h.shown;
  cuts = h.cuts;
  drained = h.drained;
  whole = h.whole;
}
more_reported Client es reported more pending c Open h = h
more_reported Server es reported more pending c Closed h = h
more_reported Client es reported more pending c Closed h = h

other_pending : (role : Role) (es : List Event) (reported : List PeerEvent) (before now : Pending) (c : CallState) (r : Receiving) →
    (is_cut now c.stream ≡ false → is_cut before c.stream ≡ false) → Hears role es reported before c r → Hears role es reported now c r
other_pending Server es reported before now c Open same h = record { begun = h.begun; shown = h.shown; cuts = h.cuts; drained = λ quiet. h.drained (same quiet); whole = h.whole }
other_pending Client es reported before now c Open same h = record { unended = h.unended; cuts = h.cuts; drained = λ quiet. h.drained (same quiet) }
other_pending Server es reported before now c Closed same h = h
other_pending Client es reported before now c Closed same h = h

pub listening_lasts : ListeningLasts
listening_lasts = record { elsewhere = elsewhere; reported = more_reported; pending = other_pending }

pushed_data : (id : ℕ) (es : List Event) (bytes : List ℕ) → bytes_on id (es ++ Data id bytes ∷ []) ≡ bytes_on id es ++ bytes
pushed_data id es bytes = bytes_push id es (Data id bytes) ∙ ap (λ (l : List ℕ). bytes_on id es ++ l) (data_here id bytes)

pub cut_here : {A : Type 0} (id : ℕ) → is_cut (Cut id) id ≡ false → A
cut_here id e = absurd (clash (id == id) (same_self id) e)

refused_by_end : (held : List ℕ) → (held ≡ [] → ⊥) → is_refused true NeedMore held ≡ true
refused_by_end [] some = absurd (some refl)
refused_by_end (b ∷ held) some = refl

pub head_of_call : (id : ℕ) (e : Event) → begins_asking id e ≡ true → heads_on id e ≡ true
head_of_call id (Head stream fields last) e = (and_parts (stream == id) (is_ok (method_by (head_of fields))) e).0
head_of_call id (Data stream bytes) e = absurd cc
head_of_call id (Ended stream) e = absurd cc
head_of_call id (Reset stream why) e = absurd cc
head_of_call id (GoneAway stream why) e = absurd cc

pub heads_first : (es : List Event) (id : ℕ) → has_method es id ≡ true → list_any (heads_on id) es ≡ true
heads_first [] id e = absurd cc
heads_first (x ∷ es) id e = elim (one_of (begins_asking id x) (has_method es id) e) [
  | inl now ↦ first_true (heads_on id x) (list_any (heads_on id) es) (head_of_call id x now)
  | inr later ↦ second_true (heads_on id x) (list_any (heads_on id) es) (heads_first es id later)
]

pub open_calls_last : OpenCallsLast
open_calls_last = record {
  fed = λ es reported c bytes unended h. record {
    begun = still_some _ es (Data c.stream bytes) h.begun;
    shown = h.shown;
    cuts = cuts_same (bytes_on c.stream es ++ bytes) (bytes_on c.stream (es ++ Data c.stream bytes ∷ [])) (fed c.cutter bytes) (pushed_data c.stream es bytes)
        (cuts_fed (bytes_on c.stream es) bytes c.cutter h.cuts);
    drained = λ quiet. cut_here c.stream quiet;
    whole = λ ended. absurd (clash (list_any (is_ended_on c.stream) es) (sym (still_none (is_ended_on c.stream) es (Data c.stream bytes) refl) ∙ ended) unended);
  };
  ended = λ es reported c empty h. record {
    begun = still_some _ es (Ended c.stream) h.begun;
    shown = h.shown;
    cuts = cuts_same (bytes_on c.stream es) (bytes_on c.stream (es ++ Ended c.stream ∷ [])) c.cutter (no_more_bytes c.stream es (Ended c.stream) refl) h.cuts;
    drained = h.drained;
    whole = λ e. empty;
  };
  cut_off = λ es reported c some h. (
    still_some (heads_on c.stream) es (Ended c.stream) (heads_first es c.stream h.begun),
    asking_push es (Ended c.stream) c.stream
        ∙ and_not (has_method es c.stream || begins_asking c.stream (Ended c.stream)) (is_refused_cut (list_any (is_ended_on c.stream) es || is_ended_on c.stream (Ended c.stream)) (cut (bytes_on c.stream es ++ [])))
        (inr (ap (λ (t : Bool). is_refused_cut t (cut (bytes_on c.stream es ++ []))) (second_true (list_any (is_ended_on c.stream) es) (is_ended_on c.stream (Ended c.stream)) (same_self c.stream))
        ∙ ap (λ (l : List ℕ). is_refused_cut true (cut l)) (append-nil (bytes_on c.stream es))
        ∙ ap (is_refused_cut true) (drained_cut (bytes_on c.stream es) c.cutter h.cuts (h.drained refl)) ∙ refused_by_end c.cutter.held some)),
  );
  reset = λ es reported c why h. asked_same es (Reset c.stream why) reported Nothing c refl refl h;
}

pub open_answers_last : OpenAnswersLast
open_answers_last = record {
  fed = λ es c bytes h. record {
    unended = still_none (ends_answers c.stream) es (Data c.stream bytes) refl ∙ h.unended;
    cuts = cuts_same (bytes_on c.stream es ++ bytes) (bytes_on c.stream (es ++ Data c.stream bytes ∷ [])) (fed c.cutter bytes) (pushed_data c.stream es bytes)
        (cuts_fed (bytes_on c.stream es) bytes c.cutter h.cuts);
    drained = λ quiet. cut_here c.stream quiet;
  };
  response = λ es c fields h. answered_same es (Head c.stream fields false) Nothing c refl refl h;
  over = ends_now;
}

pub closed_calls_last : ClosedCallsLast
closed_calls_last = record { asked = refused_lasts; answered = over_lasts }
