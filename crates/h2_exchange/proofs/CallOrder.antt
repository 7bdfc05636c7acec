-- The calls of events that come in order stand in their places.
use Rattle.std.proofs.Common.{◌≡◌, ◌⊎◌, ℕ, Bool, ◌||◌, ◌&&◌, true, false, List, [], ◌∷◌, ◌++◌, Result, Ok, Err, refl, sym, ap, ◌∙◌, inl, inr}
use Rattle.std.specs.Prelude.{not, ◌==◌, if◌then◌else◌}
use Rattle.std.specs.List.{list_any}
use Rattle.std.proofs.lemmas.List.Folds.{list_any-append}
use Rattle.grpc_framing.specs.declared.front.Front.{Front}
use Rattle.grpc_framing.specs.declared.front.Front.TheVariants.{Message, NeedMore, Compressed, TooLong}
use Rattle.hpack_tables.specs.declared.field.Field.{Field}
use Rattle.h2_exchange.specs.Calls.{Call, Begun, Finished, Dropped, Declined, cut, is_refused_cut, is_ended_on, is_begun_call, ends_asking, ends_call, head_calls, refusals, end_calls, further, calls_of, calls, are_in_place}
use Rattle.h2_exchange.specs.Events.{Event, Head, Data, Ended, Reset, GoneAway, bytes_of, bytes_on}
use Rattle.h2_exchange.specs.Exchange.{collect, some_step}
use Rattle.h2_exchange.proofs.Looking.{some_more}
use Rattle.h2_exchange.proofs.Places.{MayCome, AreInOrder, heads_on, closes_on, brings_on, resets_on, or_parts, neither, and_parts, clash, one_of, first_true, second_true, not_true, same_self, any_push, weaker, ended_closes, asks_right, twice_not, on, bad, Asks, quiet_asking, quiet_call, requests_stand}
use Rattle.h2_exchange.proofs.Refused.{refused_stays}
use Rattle.h2_exchange.proofs.Spelled.{Adds, adds, begins_call, going, going_is, begun_heads, spelled, data_calls}

both_true : (a b : Bool) → a ≡ true → b ≡ false → (a && not b) ≡ true
both_true true false e f = refl
both_true true true e f = absurd cc
both_true false b e f = absurd cc

no_bytes : (k : ℕ) (e : Event) → brings_on k e ≡ false → bytes_of k e ≡ []
no_bytes k (Data s bytes) e = ap (λ (b : Bool). if b then bytes else []) e
no_bytes k (Head s f l) e = refl
no_bytes k (Ended s) e = refl
no_bytes k (Reset s w) e = refl
no_bytes k (GoneAway s w) e = refl

module _ {M E : Type 0} (method_of : List Field → Result M E) (compressed too_long truncated : E) where
  abbrev goes_on : ℕ → List Event → Bool
  goes_on k past = going method_of compressed too_long truncated k past

  abbrev gives : List Event → Event → List (Call M E)
  gives past e = spelled method_of compressed too_long truncated past e

  abbrev opens : ℕ → Event → Bool
  opens k e = begins_call method_of compressed too_long truncated k e

  -- what events so far say of the calls so far, on a stream
  record Known (k : ℕ) (past : List Event) (cp : List (Call M E)) : Type 0 where
    fresh : list_any (heads_on k) past ≡ false → list_any (on k) cp ≡ false
    begun : list_any (opens k) past ≡ true → list_any (is_begun_call k) cp ≡ true
    asking : goes_on k past ≡ true → list_any (closes_on k) past ≡ false → list_any (ends_asking k) cp ≡ false
    lasting : goes_on k past ≡ true → list_any (resets_on k) past ≡ false → list_any (ends_call k) cp ≡ false

  abbrev AllKnown : List Event → List (Call M E) → Type 0
  AllKnown past cp = (k : ℕ) → Known k past cp

  silent : (k : ℕ) (past : List Event) (e : Event) → MayCome past e → (t : Bool) → brings_on k e ≡ t → (bytes_of k e ≡ []) ⊎ (list_any (is_ended_on k) past ≡ false)
  silent k past e may true is = inr (weaker (closes_on k) (is_ended_on k) (ended_closes k) past (may.goes k is))
  silent k past e may false is = inl (no_bytes k e is)

  not_opened : (k : ℕ) (e : Event) (t : Bool) → opens k e ≡ t → heads_on k e ≡ false → opens k e ≡ false
  not_opened k e true is none = absurd (clash (heads_on k e) (begun_heads method_of compressed too_long truncated k e is) none)
  not_opened k e false is none = is

  -- a call that goes on behind an event went on before it, or the event is its head
  went : (k : ℕ) (past : List Event) (e : Event) → MayCome past e → heads_on k e ≡ false → goes_on k (past ++ e ∷ []) ≡ true → goes_on k past ≡ true
  went k past e may none g =
      let r = and_parts (list_any (opens k) past || opens k e) (not (is_refused_cut (list_any (is_ended_on k) past || is_ended_on k e) (cut (bytes_on k past ++ bytes_of k e)))) (sym (going_is method_of compressed too_long truncated k past e) ∙ g) in
      let accepted = not_true (is_refused_cut (list_any (is_ended_on k) past || is_ended_on k e) (cut (bytes_on k past ++ bytes_of k e))) r.1 in
      both_true (list_any (opens k) past) (is_refused_cut (list_any (is_ended_on k) past) (cut (bytes_on k past)))
      (old_one (list_any (opens k) past) (opens k e) r.0 (not_opened k e (opens k e) refl none))
      (still (is_refused_cut (list_any (is_ended_on k) past) (cut (bytes_on k past))) refl accepted)
    where
      old_one : (a b : Bool) → (a || b) ≡ true → b ≡ false → a ≡ true
      old_one true b e f = refl
      old_one false b e f = absurd cc

      still : (t : Bool) → is_refused_cut (list_any (is_ended_on k) past) (cut (bytes_on k past)) ≡ t → is_refused_cut (list_any (is_ended_on k) past || is_ended_on k e) (cut (bytes_on k past ++ bytes_of k e)) ≡ false → is_refused_cut (list_any (is_ended_on k) past) (cut (bytes_on k past)) ≡ false
      still true is accepted =
          absurd (clash (is_refused_cut (list_any (is_ended_on k) past || is_ended_on k e) (cut (bytes_on k past ++ bytes_of k e)))
          (refused_stays (list_any (is_ended_on k) past) (is_ended_on k e) (bytes_on k past) (bytes_of k e) (silent k past e may (brings_on k e) refl) is) accepted)
      still false is accepted = is

  known_more : (k : ℕ) (past : List Event) (e : Event) (cp : List (Call M E)) → MayCome past e → Known k past cp → Adds method_of compressed too_long truncated k past e (gives past e) → Known k (past ++ e ∷ []) (cp ++ gives past e)
  known_more k past e cp may old new = record {
    fresh = λ none.
        let r = or_parts (list_any (heads_on k) past) (heads_on k e) (sym (any_push (heads_on k) past e) ∙ none) in
        joined (on k) (old.fresh r.0) (new.fresh r.1 r.0);
    begun = λ b.
        list_any-append (is_begun_call k) cp (gives past e)
        ∙ (elim (one_of (list_any (opens k) past) (opens k e) (sym (any_push (opens k) past e) ∙ b)) [
          | inl before ↦ first_true (list_any (is_begun_call k) cp) (list_any (is_begun_call k) (gives past e)) (old.begun before)
          | inr now ↦ second_true (list_any (is_begun_call k) cp) (list_any (is_begun_call k) (gives past e)) (new.begun now)
        ]);
    asking = λ g none.
        let r = or_parts (list_any (closes_on k) past) (closes_on k e) (sym (any_push (closes_on k) past e) ∙ none) in
        joined (ends_asking k) (asked (heads_on k e) refl g r.0) (new.asking g r.1);
    lasting = λ g none.
        let r = or_parts (list_any (resets_on k) past) (resets_on k e) (sym (any_push (resets_on k) past e) ∙ none) in
        joined (ends_call k) (lasted (heads_on k e) refl g r.0) (new.lasting g r.1);
  }
    where
      joined : (p : Call M E → Bool) → list_any p cp ≡ false → list_any p (gives past e) ≡ false → list_any p (cp ++ gives past e) ≡ false
      joined p a b = list_any-append p cp (gives past e) ∙ neither (list_any p cp) (list_any p (gives past e)) a b

      asked : (t : Bool) → heads_on k e ≡ t → goes_on k (past ++ e ∷ []) ≡ true → list_any (closes_on k) past ≡ false → list_any (ends_asking k) cp ≡ false
      asked true is g none = quiet_asking k cp (old.fresh (may.once k is))
      asked false is g none = old.asking (went k past e may is g) none

      lasted : (t : Bool) → heads_on k e ≡ t → goes_on k (past ++ e ∷ []) ≡ true → list_any (resets_on k) past ≡ false → list_any (ends_call k) cp ≡ false
      lasted true is g none = quiet_call k cp (old.fresh (may.once k is))
      lasted false is g none = old.lasting (went k past e may is g) none

  -- ---- each call in its place

  if_going : (g : Bool) (cp cs : List (Call M E)) → (g ≡ true → some_step bad cp cs ≡ false) → some_step bad cp (if g then cs else []) ≡ false
  if_going true cp cs k = k refl
  if_going false cp cs k = refl

  begun_of : (a b : Bool) → (a && b) ≡ true → a ≡ true
  begun_of a b e = (and_parts a b e).0

  may_ask : (s : ℕ) (past : List Event) (cp : List (Call M E)) → Known s past cp → goes_on s past ≡ true → list_any (closes_on s) past ≡ false → Asks s cp
  may_ask s past cp known g none = (
    known.begun (begun_of (list_any (opens s) past) (not (is_refused_cut (list_any (is_ended_on s) past) (cut (bytes_on s past)))) g),
    known.asking g none,
  )

  head_stands : (s : ℕ) (last : Bool) (m : Result M E) (cp : List (Call M E)) → list_any (on s) cp ≡ false → some_step bad cp (head_calls method_of compressed too_long truncated s last m) ≡ false
  head_stands s last (Err a) cp none = neither (bad cp (Declined s a)) false (twice_not (list_any (ends_asking s) cp) (quiet_asking s cp none)) refl
  head_stands s false (Ok m) cp none = neither (bad cp (Begun s m)) false (twice_not (list_any (on s) cp) none) refl
  head_stands s true (Ok m) cp none =
      neither (bad cp (Begun s m)) (bad (cp ++ Begun s m ∷ []) (Finished s) || false) (twice_not (list_any (on s) cp) none)
      (neither (bad (cp ++ Begun s m ∷ []) (Finished s)) false
      (asks_right (list_any (is_begun_call s) (cp ++ Begun s m ∷ [])) (list_any (ends_asking s) (cp ++ Begun s m ∷ []))
      (any_push (is_begun_call s) cp (Begun s m) ∙ second_true (list_any (is_begun_call s) cp) (s == s) (same_self s))
      (any_push (ends_asking s) cp (Begun s m) ∙ neither (list_any (ends_asking s) cp) false (quiet_asking s cp none) refl)) refl)

  refusals_stand : (s : ℕ) (f : Front) (cp : List (Call M E)) → Asks s cp → some_step bad cp (refusals method_of compressed too_long truncated s f) ≡ false
  refusals_stand s Compressed cp h = neither (bad cp (Declined s compressed)) false (twice_not (list_any (ends_asking s) cp) h.1) refl
  refusals_stand s TooLong cp h = neither (bad cp (Declined s too_long)) false (twice_not (list_any (ends_asking s) cp) h.1) refl
  refusals_stand s NeedMore cp h = refl
  refusals_stand s (Message n) cp h = refl

  end_stands : (s : ℕ) (rest : List ℕ) (cp : List (Call M E)) → Asks s cp → some_step bad cp (end_calls method_of compressed too_long truncated s rest) ≡ false
  end_stands s [] cp h = neither (bad cp (Finished s)) false (asks_right (list_any (is_begun_call s) cp) (list_any (ends_asking s) cp) h.0 h.1) refl
  end_stands s (b ∷ rest) cp h = neither (bad cp (Declined s truncated)) false (twice_not (list_any (ends_asking s) cp) h.1) refl

  stand : (past : List Event) (e : Event) (cp : List (Call M E)) → MayCome past e → AllKnown past cp → some_step bad cp (gives past e) ≡ false
  stand past (Head s fields last) cp may known = head_stands s last (method_of fields) cp ((known s).fresh (may.once s (same_self s)))
  stand past (Data s bytes) cp may known =
      if_going (goes_on s past) cp (data_calls method_of compressed too_long truncated past s bytes) (λ g.
      requests_stand s (further (bytes_on s past) bytes) (refusals method_of compressed too_long truncated s (cut (bytes_on s past ++ bytes)).ending) cp
      (may_ask s past cp (known s) g (may.goes s (same_self s))) (λ now h. refusals_stand s (cut (bytes_on s past ++ bytes)).ending now h))
  stand past (Ended s) cp may known =
      if_going (goes_on s past) cp (end_calls method_of compressed too_long truncated s (cut (bytes_on s past)).rest) (λ g.
      end_stands s (cut (bytes_on s past)).rest cp (may_ask s past cp (known s) g (may.goes s (same_self s))))
  stand past (Reset s why) cp may known =
      if_going (goes_on s past) cp (Dropped s ∷ []) (λ g.
      neither (bad cp (Dropped s)) false (asks_right (list_any (is_begun_call s) cp) (list_any (ends_call s) cp)
      ((known s).begun (begun_of (list_any (opens s) past) (not (is_refused_cut (list_any (is_ended_on s) past) (cut (bytes_on s past)))) g))
      ((known s).lasting g (may.lives s (same_self s)))) refl)
  stand past (GoneAway s why) cp may known = refl

  all_stand : (past es : List Event) (cp : List (Call M E)) → AreInOrder past es → AllKnown past cp → some_step bad cp (collect (calls_of method_of compressed too_long truncated) past es) ≡ false
  all_stand past [] cp h known = refl
  all_stand past (e ∷ es) cp h known =
      some_more bad cp (gives past e) (collect (calls_of method_of compressed too_long truncated) (past ++ e ∷ []) es)
      ∙ neither (some_step bad cp (gives past e)) (some_step bad (cp ++ gives past e) (collect (calls_of method_of compressed too_long truncated) (past ++ e ∷ []) es))
      (stand past e cp h.0 known)
      (all_stand (past ++ e ∷ []) es (cp ++ gives past e) h.1 (λ k. known_more k past e cp h.0 (known k) (adds method_of compressed too_long truncated k past e h.0)))

  pub in_place : (es : List Event) → AreInOrder [] es → are_in_place (calls method_of compressed too_long truncated es) ≡ true
  in_place es h = ap not (all_stand [] es [] h (λ k. record { fresh = λ a. refl; begun = λ a. absurd cc; asking = λ a b. refl; lasting = λ a b. refl }))
