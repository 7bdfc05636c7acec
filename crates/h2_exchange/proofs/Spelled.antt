-- What an event spells, in the light of those before it.
use Rattle.std.proofs.Common.{◌≡◌, ℕ, Bool, ◌||◌, ◌&&◌, true, false, List, [], ◌∷◌, ◌++◌, Result, Ok, Err, refl, sym, ap, subst, ◌∙◌}
use Rattle.std.specs.Prelude.{not, ◌==◌, map, is_ok, if◌then◌else◌}
use Rattle.std.specs.List.{list_any}
use Rattle.std.proofs.lemmas.Bool.{eqb-true}
use Rattle.std.proofs.lemmas.List.{append-nil}
use Rattle.std.proofs.lemmas.List.Concat.{flat_map-append}
use Rattle.grpc_framing.specs.declared.front.Front.{Front}
use Rattle.grpc_framing.specs.declared.front.Front.TheVariants.{Message, NeedMore, Compressed, TooLong}
use Rattle.hpack_tables.specs.declared.field.Field.{Field}
use Rattle.h2_exchange.specs.Calls.{Call, Request, Dropped, cut, is_refused, is_refused_cut, is_ended_on, is_begun_call, ends_asking, ends_call, is_begun_on, is_going, head_calls, refusals, end_calls, further, calls_of}
use Rattle.h2_exchange.specs.Events.{Event, Head, Data, Ended, Reset, GoneAway, bytes_of, bytes_on}
use Rattle.h2_exchange.proofs.Places.{MayCome, heads_on, closes_on, resets_on, neither, and_parts, clash, first_true, and_false, not_true, same_self, any_push, weaker, on, quiet_asking, quiet_call, requests_elsewhere, requests_ask, requests_last}

module _ {M E : Type 0} (method_of : List Field → Result M E) (compressed too_long truncated : E) where
  abbrev pub begins_call : ℕ → Event → Bool
  begins_call k e = is_begun_on method_of compressed too_long truncated k e

  abbrev pub going : ℕ → List Event → Bool
  going k past = is_going method_of compressed too_long truncated k past

  abbrev pub spelled : List Event → Event → List (Call M E)
  spelled past e = calls_of method_of compressed too_long truncated past e

  pub begun_heads : (k : ℕ) (e : Event) → begins_call k e ≡ true → heads_on k e ≡ true
  begun_heads k (Head s fields l) e = (and_parts (s == k) (is_ok (method_of fields)) e).0
  begun_heads k (Data s b) e = absurd cc
  begun_heads k (Ended s) e = absurd cc
  begun_heads k (Reset s w) e = absurd cc
  begun_heads k (GoneAway s w) e = absurd cc

  pub no_head_not_begun : (k : ℕ) (past : List Event) → list_any (heads_on k) past ≡ false → list_any (begins_call k) past ≡ false
  no_head_not_begun k past e = weaker (heads_on k) (begins_call k) (begun_heads k) past e

  pub no_head_not_going : (k : ℕ) (past : List Event) → list_any (heads_on k) past ≡ false → going k past ≡ false
  no_head_not_going k past e =
      and_false (list_any (begins_call k) past) (not (is_refused_cut (list_any (is_ended_on k) past) (cut (bytes_on k past)))) (no_head_not_begun k past e)

  -- what an event adds to the calls of a stream
  pub record Adds (k : ℕ) (past : List Event) (e : Event) (cs : List (Call M E)) : Type 0 where
    pub fresh : heads_on k e ≡ false → list_any (heads_on k) past ≡ false → list_any (on k) cs ≡ false
    pub begun : begins_call k e ≡ true → list_any (is_begun_call k) cs ≡ true
    pub asking : going k (past ++ e ∷ []) ≡ true → closes_on k e ≡ false → list_any (ends_asking k) cs ≡ false
    pub lasting : going k (past ++ e ∷ []) ≡ true → resets_on k e ≡ false → list_any (ends_call k) cs ≡ false

  -- ---- on another stream

  head_elsewhere : (k s : ℕ) (last : Bool) (m : Result M E) → (s == k) ≡ false → list_any (on k) (head_calls method_of compressed too_long truncated s last m) ≡ false
  head_elsewhere k s last (Err a) e = neither (s == k) false e refl
  head_elsewhere k s true (Ok m) e = neither (s == k) ((s == k) || false) e (neither (s == k) false e refl)
  head_elsewhere k s false (Ok m) e = neither (s == k) false e refl

  refusals_elsewhere : (k s : ℕ) (f : Front) → (s == k) ≡ false → list_any (on k) (refusals method_of compressed too_long truncated s f) ≡ false
  refusals_elsewhere k s Compressed e = neither (s == k) false e refl
  refusals_elsewhere k s TooLong e = neither (s == k) false e refl
  refusals_elsewhere k s NeedMore e = refl
  refusals_elsewhere k s (Message n) e = refl

  end_elsewhere : (k s : ℕ) (rest : List ℕ) → (s == k) ≡ false → list_any (on k) (end_calls method_of compressed too_long truncated s rest) ≡ false
  end_elsewhere k s [] e = neither (s == k) false e refl
  end_elsewhere k s (b ∷ rest) e = neither (s == k) false e refl

  gated : (p : Call M E → Bool) (g : Bool) (cs : List (Call M E)) → list_any p cs ≡ false → list_any p (if g then cs else []) ≡ false
  gated p true cs e = e
  gated p false cs e = refl

  shut : (p : Call M E → Bool) (g : Bool) (cs : List (Call M E)) → g ≡ false → list_any p (if g then cs else []) ≡ false
  shut p true cs e = absurd cc
  shut p false cs e = refl

  abbrev pub data_calls : List Event → ℕ → List ℕ → List (Call M E)
  data_calls past s bytes = map (Request s) (further (bytes_on s past) bytes) ++ refusals method_of compressed too_long truncated s (cut (bytes_on s past ++ bytes)).ending

  abbrev pub last_calls : List Event → ℕ → List (Call M E)
  last_calls past s = end_calls method_of compressed too_long truncated s (cut (bytes_on s past)).rest

  by_quiet : (k : ℕ) (past : List Event) (e : Event) (cs : List (Call M E)) → list_any (on k) cs ≡ false → (begins_call k e ≡ false) → Adds k past e cs
  by_quiet k past e cs q none = record {
    fresh = λ a b. q;
    begun = λ b. absurd (clash (begins_call k e) b none);
    asking = λ a b. quiet_asking k cs q;
    lasting = λ a b. quiet_call k cs q;
  }

  -- ---- on this stream

  bytes_push : (k : ℕ) (past : List Event) (e : Event) → bytes_on k (past ++ e ∷ []) ≡ bytes_on k past ++ bytes_of k e
  bytes_push k past e = flat_map-append (bytes_of k) past (e ∷ []) ∙ ap (λ (l : List ℕ). bytes_on k past ++ l) (append-nil (bytes_of k e))

  pub going_is : (k : ℕ) (past : List Event) (e : Event) →
      going k (past ++ e ∷ []) ≡ ((list_any (begins_call k) past || begins_call k e) && not (is_refused_cut (list_any (is_ended_on k) past || is_ended_on k e) (cut (bytes_on k past ++ bytes_of k e))))
  going_is k past e = rw (any_push (begins_call k) past e, any_push (is_ended_on k) past e, bytes_push k past e) refl

  not_refused : (k : ℕ) (past : List Event) (e : Event) → going k (past ++ e ∷ []) ≡ true → is_refused_cut (list_any (is_ended_on k) past || is_ended_on k e) (cut (bytes_on k past ++ bytes_of k e)) ≡ false
  not_refused k past e g =
      not_true (is_refused_cut (list_any (is_ended_on k) past || is_ended_on k e) (cut (bytes_on k past ++ bytes_of k e)))
      (and_parts (list_any (begins_call k) past || begins_call k e) (not (is_refused_cut (list_any (is_ended_on k) past || is_ended_on k e) (cut (bytes_on k past ++ bytes_of k e)))) (sym (going_is k past e) ∙ g)).1

  has_begun : (k : ℕ) (past : List Event) (e : Event) → going k (past ++ e ∷ []) ≡ true → (list_any (begins_call k) past || begins_call k e) ≡ true
  has_begun k past e g =
      (and_parts (list_any (begins_call k) past || begins_call k e) (not (is_refused_cut (list_any (is_ended_on k) past || is_ended_on k e) (cut (bytes_on k past ++ bytes_of k e)))) (sym (going_is k past e) ∙ g)).0

  no_refusals : (p : Call M E → Bool) (k : ℕ) (a : Bool) (f : Front) (rest : List ℕ) → is_refused a f rest ≡ false → list_any p (refusals method_of compressed too_long truncated k f) ≡ false
  no_refusals p k a Compressed rest e = absurd cc
  no_refusals p k a TooLong rest e = absurd cc
  no_refusals p k a NeedMore rest e = refl
  no_refusals p k a (Message n) rest e = refl

  finishes : (k : ℕ) (a : Bool) (f : Front) (rest : List ℕ) → is_refused (a || true) f rest ≡ false → list_any (ends_call k) (end_calls method_of compressed too_long truncated k rest) ≡ false
  finishes k a f [] e = refl
  finishes k true Compressed (b ∷ rest) e = absurd cc
  finishes k true TooLong (b ∷ rest) e = absurd cc
  finishes k true NeedMore (b ∷ rest) e = absurd cc
  finishes k true (Message n) (b ∷ rest) e = absurd cc
  finishes k false Compressed (b ∷ rest) e = absurd cc
  finishes k false TooLong (b ∷ rest) e = absurd cc
  finishes k false NeedMore (b ∷ rest) e = absurd cc
  finishes k false (Message n) (b ∷ rest) e = absurd cc

  plain_bytes : (k : ℕ) (bytes : List ℕ) → bytes_of k (Data k bytes) ≡ bytes
  plain_bytes k bytes = ap (λ (b : Bool). if b then bytes else []) (same_self k)

  data_here : (k : ℕ) (past : List Event) (bytes : List ℕ) → Adds k past (Data k bytes) (spelled past (Data k bytes))
  data_here k past bytes = record {
    fresh = λ a none. shut (on k) (going k past) (data_calls past k bytes) (no_head_not_going k past none);
    begun = λ b. absurd cc;
    asking = λ g open_still. gated (ends_asking k) (going k past) (data_calls past k bytes) (requests_ask k k (further (bytes_on k past) bytes) (refusals method_of compressed too_long truncated k (cut (bytes_on k past ++ bytes)).ending) (none_refused (ends_asking k) g));
    lasting = λ g alive. gated (ends_call k) (going k past) (data_calls past k bytes) (requests_last k k (further (bytes_on k past) bytes) (refusals method_of compressed too_long truncated k (cut (bytes_on k past ++ bytes)).ending) (none_refused (ends_call k) g));
  }
    where
      none_refused : (p : Call M E → Bool) → going k (past ++ Data k bytes ∷ []) ≡ true → list_any p (refusals method_of compressed too_long truncated k (cut (bytes_on k past ++ bytes)).ending) ≡ false
      none_refused p g =
          no_refusals p k (list_any (is_ended_on k) past || false) (cut (bytes_on k past ++ bytes)).ending (cut (bytes_on k past ++ bytes)).rest
          (subst (λ (l : List ℕ). is_refused_cut (list_any (is_ended_on k) past || false) (cut (bytes_on k past ++ l)) ≡ false) (plain_bytes k bytes) (not_refused k past (Data k bytes) g))

  ended_here : (k : ℕ) (past : List Event) → Adds k past (Ended k) (spelled past (Ended k))
  ended_here k past = record {
    fresh = λ a none. shut (on k) (going k past) (last_calls past k) (no_head_not_going k past none);
    begun = λ b. absurd cc;
    asking = λ g open_still. absurd (clash (k == k) (same_self k) open_still);
    lasting = λ g alive. gated (ends_call k) (going k past) (last_calls past k)
        (finishes k (list_any (is_ended_on k) past) (cut (bytes_on k past)).ending (cut (bytes_on k past)).rest
        (subst (λ (l : List ℕ). is_refused_cut (list_any (is_ended_on k) past || true) (cut l) ≡ false) (append-nil (bytes_on k past))
        (subst (λ (b : Bool). is_refused_cut (list_any (is_ended_on k) past || b) (cut (bytes_on k past ++ [])) ≡ false) (same_self k) (not_refused k past (Ended k) g))));
  }

  reset_here : (k : ℕ) (past : List Event) (why : _) → Adds k past (Reset k why) (spelled past (Reset k why))
  reset_here k past why = record {
    fresh = λ a none. shut (on k) (going k past) (Dropped k ∷ []) (no_head_not_going k past none);
    begun = λ b. absurd cc;
    asking = λ g open_still. absurd (clash (k == k) (same_self k) open_still);
    lasting = λ g alive. absurd (clash (k == k) (same_self k) alive);
  }

  head_here : (k : ℕ) (past : List Event) (fields : List Field) (last : Bool) (m : Result M E) → method_of fields ≡ m → list_any (heads_on k) past ≡ false →
      Adds k past (Head k fields last) (head_calls method_of compressed too_long truncated k last m)
  head_here k past fields last (Err a) is once = record {
    fresh = λ e none. absurd (clash (k == k) (same_self k) e);
    begun = λ b. absurd (clash ((k == k) && is_ok (method_of fields)) b declined);
    asking = λ g open_still. absurd (clash (list_any (begins_call k) past || begins_call k (Head k fields last)) (has_begun k past (Head k fields last) g) none_begun);
    lasting = λ g alive. absurd (clash (list_any (begins_call k) past || begins_call k (Head k fields last)) (has_begun k past (Head k fields last) g) none_begun);
  }
    where
      declined : ((k == k) && is_ok (method_of fields)) ≡ false
      declined = rw (same_self k, is) refl

      none_begun : (list_any (begins_call k) past || begins_call k (Head k fields last)) ≡ false
      none_begun = neither (list_any (begins_call k) past) (begins_call k (Head k fields last)) (no_head_not_begun k past once) declined
  head_here k past fields true (Ok m) is once = record {
    fresh = λ e none. absurd (clash (k == k) (same_self k) e);
    begun = λ b. first_true (k == k) false (same_self k);
    asking = λ g open_still. absurd (clash (k == k) (same_self k) open_still);
    lasting = λ g alive. refl;
  }
  head_here k past fields false (Ok m) is once = record {
    fresh = λ e none. absurd (clash (k == k) (same_self k) e);
    begun = λ b. first_true (k == k) false (same_self k);
    asking = λ g open_still. refl;
    lasting = λ g alive. refl;
  }

  -- ---- on any stream

  at_head : (k s : ℕ) (past : List Event) (fields : List Field) (last : Bool) (t : Bool) → (s == k) ≡ t → MayCome past (Head s fields last) → Adds k past (Head s fields last) (spelled past (Head s fields last))
  at_head k s past fields last true is may =
      let same : s ≡ k = eqb-true s k is in
      subst (λ (i : ℕ). Adds i past (Head s fields last) (spelled past (Head s fields last))) same (head_here s past fields last (method_of fields) refl (may.once s (same_self s)))
  at_head k s past fields last false is may =
      by_quiet k past (Head s fields last) (spelled past (Head s fields last)) (head_elsewhere k s last (method_of fields) is) (and_false (s == k) (is_ok (method_of fields)) is)

  at_data : (k s : ℕ) (past : List Event) (bytes : List ℕ) (t : Bool) → (s == k) ≡ t → Adds k past (Data s bytes) (spelled past (Data s bytes))
  at_data k s past bytes true is = subst (λ (i : ℕ). Adds i past (Data s bytes) (spelled past (Data s bytes))) (eqb-true s k is) (data_here s past bytes)
  at_data k s past bytes false is =
      by_quiet k past (Data s bytes) (spelled past (Data s bytes))
      (gated (on k) (going s past) (data_calls past s bytes) (requests_elsewhere k s (further (bytes_on s past) bytes) (refusals method_of compressed too_long truncated s (cut (bytes_on s past ++ bytes)).ending) is (refusals_elsewhere k s (cut (bytes_on s past ++ bytes)).ending is))) refl

  at_ended : (k s : ℕ) (past : List Event) (t : Bool) → (s == k) ≡ t → Adds k past (Ended s) (spelled past (Ended s))
  at_ended k s past true is = subst (λ (i : ℕ). Adds i past (Ended s) (spelled past (Ended s))) (eqb-true s k is) (ended_here s past)
  at_ended k s past false is = by_quiet k past (Ended s) (spelled past (Ended s)) (gated (on k) (going s past) (last_calls past s) (end_elsewhere k s (cut (bytes_on s past)).rest is)) refl

  pub adds : (k : ℕ) (past : List Event) (e : Event) → MayCome past e → Adds k past e (spelled past e)
  adds k past (Head s fields last) may = at_head k s past fields last (s == k) refl may
  adds k past (Data s bytes) may = at_data k s past bytes (s == k) refl
  adds k past (Ended s) may = at_ended k s past (s == k) refl
  adds k past (Reset s why) may = by (s == k) refl
    where
      by : (t : Bool) → (s == k) ≡ t → Adds k past (Reset s why) (spelled past (Reset s why))
      by true is = subst (λ (i : ℕ). Adds i past (Reset s why) (spelled past (Reset s why))) (eqb-true s k is) (reset_here s past why)
      by false is = by_quiet k past (Reset s why) (spelled past (Reset s why)) (gated (on k) (going s past) (Dropped s ∷ []) (neither (s == k) false is refl)) refl
  adds k past (GoneAway s why) may = by_quiet k past (GoneAway s why) [] refl refl
