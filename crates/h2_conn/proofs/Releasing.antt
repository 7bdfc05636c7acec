-- Credit that was held back is released.
use Rattle.std.proofs.Common.{◌≡◌, ℕ, zero, suc, ◌+◌, ◌-◌, ◌<◌, ◌≤◌, ◌^◌, Bool, true, false, ◌||◌, ◌&&◌, List, [], ◌∷◌, ◌++◌, length, map, Option, Some, None, refl, sym, ap, subst, ◌∙◌, arith, inl, inr, ◌⊎◌}
use Rattle.std.specs.Prelude.{not, is_some, filter, option_map, slice_get, ◌==◌, if◌then◌else◌}
use Rattle.std.specs.List.{list_any}
use Rattle.std.proofs.lemmas.List.{append-nil, append_assoc, map-append, length-map}
use Rattle.std.proofs.lemmas.List.Elements.{All-nil, All-cons, All-append}
use Rattle.h2_frames.specs.declared.frame.Frame.{Frame}
use Rattle.h2_frames.specs.declared.frame.Frame.TheVariants.{WindowUpdate}
use Rattle.h2_frames.specs.Layout.{frame_text}
use Rattle.hpack_tables.specs.declared.field.Field.{Field}
use Rattle.h2_exchange.specs.declared.role.Role.{Role}
use Rattle.h2_exchange.specs.declared.limits.H2Limits.{H2Limits}
use Rattle.h2_exchange.specs.Exchange.{Step, Sent, received, sent}
use Rattle.h2_exchange.specs.Sending.{update_text, IsCredited}
use Rattle.h2_exchange.specs.Streams.{begun, is_begun, is_live, is_over, live}
use Rattle.h2_exchange.specs.Windows.{granted_on, spent_on, spent}
use Rattle.h2_exchange.proofs.Steps.{received_sent, sent_push, window_sums_grow, begun_has}
use Rattle.h2_streams.specs.Set.{Set, at, credited, credited_on, owed_in}
use Rattle.h2_streams.specs.Stands.{stream_at}
use Rattle.h2_streams.specs.declared.live.Stream.{Stream}
use Rattle.h2_streams.proofs.Credits.{live_same}
use Rattle.h2_streams.proofs.Lists.{eqb_is, self_eq}
use Rattle.h2_streams.proofs.Seen.{id_told}
use Rattle.h2_streams.proofs.SentFrames.{nothing_new}
use Rattle.h2_streams.proofs.Standing.{at_is}
use Rattle.http_connection.specs.ConnectionTrace.{ConnectionTrace, Refusal, is_alive, held, wrote}
use Rattle.http_connection.specs.Sends.{IsCredit}
use Rattle.h2_conn.specs.Credit.{owed_by, all_granted}
use Rattle.h2_conn.specs.Crediting.{ahead_in, granted_at, Credits, Releases, Holds}
use Rattle.h2_conn.specs.State.{State}
use Rattle.h2_conn.specs.Standing.{Stands, HasCredit, IsWithinCredit, ends_of}
use Rattle.h2_conn.proofs.Asking.{live_small}
use Rattle.h2_conn.proofs.Granting.{live_not_zero}
use Rattle.h2_conn.proofs.Sounds.{one_more}
use Rattle.h2_conn.proofs.Splits.{resets_push}
use Rattle.h2_conn.proofs.Updates.{Updated, increments, update_body, updates_all, updates_on}

-- ---- what is owed

all_owed : (w r used granted n : ℕ) → r + used ≡ 65535 + granted → 65535 + granted ≤ w + used → w - r ≡ n → 65535 + granted + n ≡ w + used
all_owed w r used granted n e le o = omega (arith, e, le, o)

one_owed : (w granted used n : ℕ) → granted ≤ used → used ≤ w + granted → w - (w + granted - used) ≡ n → granted + n ≡ used
one_owed w granted used n le within o = omega (arith, le, within, o)

some_more : (n : ℕ) → (n == 0) ≡ false → 0 < n
some_more zero e = absurd cc
some_more (suc n) e = omega arith

plus_if : (b : Bool) (m n : ℕ) → b ≡ false → m + (if b then n else 0) ≡ m
plus_if true m n e = absurd cc
plus_if false m n e = omega arith

-- ---- one WINDOW_UPDATE

filter_ext : (p q : ℕ → Bool) → ((k : ℕ) → p k ≡ q k) → (xs : List ℕ) → filter p xs ≡ filter q xs
filter_ext p q same [] = refl
filter_ext p q same (x ∷ xs) = ap (λ (b : Bool). if b then x ∷ filter p xs else filter p xs) (same x) ∙ ap (λ (l : List ℕ). if q x then x ∷ l else l) (filter_ext p q same xs)

pub record Grant (s t : State) (d : ConnectionTrace) (k n : ℕ) : Type 0 where
  pub f : Frame
  pub text : frame_text f ≡ update_text k n
  pub stands : Stands t (one_more f d)
  pub lives : live d.role (d.frames ++ Sent f ∷ []) ≡ live d.role d.frames
  pub grants : (j : ℕ) → granted_on j (sent (d.frames ++ Sent f ∷ [])) ≡ granted_on j (sent d.frames) + (if k == j then n else 0)

module _ (s : State) (d : ConnectionTrace) (h : Stands s d) (alive : s.refusal ≡ None) (holds : s.is_holding ≡ true) where
  within : IsWithinCredit d.role d.limits d.frames
  within = subst (λ (b : Bool). HasCredit b d.role d.limits d.frames) holds (h.credited alive)

  module _ (k n : ℕ) (fits : k < 2 ^ 31) (small : n < 2 ^ 31) where
    abbrev f : Frame
    f = WindowUpdate (update_body k n fits)

    abbrev x : List Step
    x = d.frames ++ Sent f ∷ []

    push_on : (j : ℕ) → granted_on j (sent x) ≡ granted_on j (sent d.frames) + (if k == j then n else 0)
    push_on j =
        ap (granted_on j) (sent_push d.frames f) ∙ window_sums_grow.granted_push j (sent d.frames) f
        ∙ ap (λ (m : ℕ). granted_on j (sent d.frames) + (if k == j then m else 0)) (increments k n fits small)

    lives_on : (j : ℕ) → is_live d.role x j ≡ is_live d.role d.frames j
    lives_on j = live_same d.role d.limits d.frames (update_body k n fits) k refl j

    by_updated : (set : Set) → Updated s d f set (ends_of s.ended) [] h.last → IsWithinCredit d.role d.limits x → Grant s (record s { output = s.output ++ update_text k n; set = set }) d k n
    by_updated set u w = record {
      f = f;
      text = refl;
      stands = record {
        role_is = h.role_is;
        limits_are = h.limits_are;
        refusal_is = h.refusal_is;
        holding_is = h.holding_is;
        last = h.last;
        encoder_is = h.encoder_is;
        kept = u.kept;
        resets = resets_push d.role d.limits d.heads d.frames f h.resets;
        credited = λ e. subst (λ (b : Bool). HasCredit b d.role d.limits x) (sym holds) w;
        goes = λ e. u.goes;
      };
      lives = filter_ext (is_live d.role x) (is_live d.role d.frames) lives_on (begun d.role x) ∙ ap (filter (is_live d.role d.frames)) (nothing_new d.role d.frames f refl);
      grants = push_on;
    }

  -- for a live stream
  abbrev owed_to : ℕ → ℕ
  owed_to k = owed_in s.set.limits (at k s.set)

  module _ (k : ℕ) (alive_there : is_live d.role d.frames k ≡ true) where
    here : is_live s.set.role d.frames k ≡ true
    here = ap (λ (r : Role). is_live r d.frames k) (h.goes alive).set_role ∙ alive_there

    stream_is : at k s.set ≡ Some (stream_at s.set.limits d.frames k)
    stream_is = at_is s.set d.frames (h.goes alive).set_is k ∙ ap (λ (b : Bool). if b then Some (stream_at s.set.limits d.frames k) else None) here

    pub owed_is : granted_on k (sent d.frames) + owed_to k ≡ spent_on k (received d.frames)
    owed_is = one_owed s.set.limits.window (granted_on k (sent d.frames)) (spent_on k (received d.frames)) (owed_to k) (within.streams k alive_there) ((h.goes alive).set_is.within k here) (sym (ap (owed_in s.set.limits) stream_is))

    owed_small : owed_to k < 2 ^ 31
    owed_small = by (at k s.set)
      where
        by : (o : Option Stream) → owed_in s.set.limits o < 2 ^ 31
        by None = omega arith
        by (Some stream) = omega (arith, s.set.limits.window_in_range)

    isnt_zero : (k == 0) ≡ false
    isnt_zero = by (k == 0) refl
      where
        by : (b : Bool) → (k == 0) ≡ b → b ≡ false
        by true e = absurd (live_not_zero d.role d.frames k alive_there (eqb_is k 0 e))
        by false e = refl

    pub grants_stream : Grant s (record s { output = s.output ++ update_text k (owed_to k); set = credited_on k (owed_to k) s.set }) d k (owed_to k)
    grants_stream =
        let fits = live_small d.role d.frames k alive_there in
        by_updated k (owed_to k) fits owed_small (credited_on k (owed_to k) s.set) (updates_on s d k (owed_to k) fits (ends_of s.ended) [] h.last owed_small alive_there h.kept (h.goes alive))
        (record {
          whole = omega (
            arith,
            within.whole,
            push_on k (owed_to k) fits owed_small 0,
            plus_if (k == 0) (granted_on 0 (sent d.frames)) (owed_to k) isnt_zero,
            ap spent (received_sent d.frames (WindowUpdate (update_body k (owed_to k) fits))),
          );
          streams = λ j lives. by j (k == j) refl (sym (lives_on k (owed_to k) fits owed_small j) ∙ lives);
        })
      where
        by : (j : ℕ) (b : Bool) → (k == j) ≡ b → is_live d.role d.frames j ≡ true →
            granted_on j (sent (x k (owed_to k) (live_small d.role d.frames k alive_there) owed_small)) ≤ spent_on j (received (x k (owed_to k) (live_small d.role d.frames k alive_there) owed_small))
        by j true e lives =
            let fits = live_small d.role d.frames k alive_there in
            let same : k ≡ j = eqb_is k j e in
            omega (
              arith,
              push_on k (owed_to k) fits owed_small j,
              ap (λ (b : Bool). if b then owed_to k else 0) e,
              subst (λ (i : ℕ). granted_on i (sent d.frames) + owed_to k ≡ spent_on i (received d.frames)) same owed_is,
              ap (spent_on j) (received_sent d.frames (WindowUpdate (update_body k (owed_to k) fits))),
            )
        by j false e lives =
            let fits = live_small d.role d.frames k alive_there in
            omega (arith, push_on k (owed_to k) fits owed_small j, ap (λ (b : Bool). if b then owed_to k else 0) e, within.streams j lives, ap (spent_on j) (received_sent d.frames (WindowUpdate (update_body k (owed_to k) fits))))

  -- for the connection
  pub whole_is : 65535 + granted_on 0 (sent d.frames) + owed_by s.set ≡ d.limits.window + spent (received d.frames)
  whole_is = all_owed d.limits.window s.set.receive (spent (received d.frames)) (granted_on 0 (sent d.frames)) (owed_by s.set) (h.goes alive).set_is.receive_is within.whole
      (ap (λ (l : H2Limits). l.window - s.set.receive) (sym (h.goes alive).set_limits))

  all_small : owed_by s.set < 2 ^ 31
  all_small = omega (arith, s.set.limits.window_in_range)

  pub grants_all : Grant s (record s { output = s.output ++ update_text 0 (owed_by s.set); set = credited (owed_by s.set) s.set }) d 0 (owed_by s.set)
  grants_all =
      let fits : 0 < 2 ^ 31 = omega arith in
      by_updated 0 (owed_by s.set) (omega arith) all_small (credited (owed_by s.set) s.set) (updates_all s d (owed_by s.set) (ends_of s.ended) [] h.last all_small h.kept (h.goes alive))
      (record {
        whole = omega (arith, whole_is, push_on 0 (owed_by s.set) (omega arith) all_small 0, ap spent (received_sent d.frames (WindowUpdate (update_body 0 (owed_by s.set) (omega arith)))));
        streams = λ j lives.
            let before : is_live d.role d.frames j ≡ true = sym (lives_on 0 (owed_by s.set) (omega arith) all_small j) ∙ lives in
            omega (
              arith,
              within.streams j before,
              push_on 0 (owed_by s.set) (omega arith) all_small j,
              plus_if (0 == j) (granted_on j (sent d.frames)) (owed_by s.set) (apart j before (0 == j) refl),
              ap (spent_on j) (received_sent d.frames (WindowUpdate (update_body 0 (owed_by s.set) (omega arith)))),
            );
      })
    where
      apart : (j : ℕ) → is_live d.role d.frames j ≡ true → (b : Bool) → (0 == j) ≡ b → b ≡ false
      apart j lives true e = absurd (live_not_zero d.role d.frames j lives (sym (eqb_is 0 j e)))
      apart j lives false e = refl

-- ---- the connection's window first

x_push : (c : ConnectionTrace) (fs : List Frame) (x : List Step) (f : Frame) → x ≡ c.frames ++ map Sent fs → x ++ Sent f ∷ [] ≡ c.frames ++ map Sent (fs ++ f ∷ [])
x_push c fs x f e = ap (λ (y : List Step). y ++ Sent f ∷ []) e ∙ append_assoc c.frames (map Sent fs) (Sent f ∷ []) ∙ ap (λ (y : List Step). c.frames ++ y) (sym (map-append Sent fs (f ∷ [])))

first_by : (s : State) (c : ConnectionTrace) → Stands s c → s.refusal ≡ None → s.is_holding ≡ true → (b : Bool) → (owed_by s.set == 0) ≡ b → Credits (if b then s else record s { output = s.output ++ update_text 0 (owed_by s.set); set = credited (owed_by s.set) s.set }) c 0
first_by s c h alive holds true e = record {
  fs = [];
  x = c.frames;
  x_is = sym (append-nil c.frames);
  are = All-nil (IsCredit c);
  stands = h;
  alive = alive;
  holds = holds;
  lives = refl;
  whole = omega (arith, whole_is s c h alive holds, eqb_is (owed_by s.set) 0 e);
  done = λ j id lt e. absurd (omega (arith, lt));
}
first_by s c h alive holds false e =
    let g = grants_all s c h alive holds in
    record {
      fs = g.f ∷ [];
      x = c.frames ++ Sent g.f ∷ [];
      x_is = refl;
      are = All-cons (IsCredit c) g.f [] (0, owed_by s.set, g.text, some_more (owed_by s.set) e, all_small s c h alive holds, inl refl) (All-nil (IsCredit c));
      stands = g.stands;
      alive = alive;
      holds = holds;
      lives = g.lives;
      whole = omega (arith, whole_is s c h alive holds, g.grants 0, ap spent (received_sent c.frames g.f));
      done = λ j id lt e. absurd (omega (arith, lt));
    }

pub first_credits : (s : State) (c : ConnectionTrace) → Stands s c → s.refusal ≡ None → s.is_holding ≡ true → Credits (all_granted s) c 0
first_credits s c h alive holds = first_by s c h alive holds (owed_by s.set == 0) refl

pub whole_again : (s t : State) (c : ConnectionTrace) (output : List ℕ) → output ≡ s.output → t ≡ all_granted (record s { output = output }) → Stands s c → s.refusal ≡ None → s.is_holding ≡ true → Credits t c 0
whole_again s t c output e made h alive holds =
    subst (λ (u : State). Credits u c 0) (sym (made ∙ ap (λ (o : List ℕ). all_granted (record s { output = o })) e)) (first_credits s c h alive holds)

-- ---- then one stream after another

member_is : (p : ℕ → Bool) (xs : List ℕ) (j id : ℕ) → slice_get (filter p xs) j ≡ Some id → p id ≡ true
member_is p [] j id e = absurd cc
member_is p (x ∷ xs) j id e = by (p x) refl j e (λ i. member_is p xs i id)
  where
    some_is : (a b : ℕ) → Some a ≡ Some b → a ≡ b
    some_is a b q = cc

    by : (b : Bool) → p x ≡ b → (j : ℕ) → slice_get (if b then x ∷ filter p xs else filter p xs) j ≡ Some id → ((i : ℕ) → slice_get (filter p xs) i ≡ Some id → p id ≡ true) → p id ≡ true
    by true t zero q later = ap p (sym (some_is x id q)) ∙ t
    by true t (suc j) q later = later j q
    by false t j q later = later j q

some_id : (a b : ℕ) → Some a ≡ Some b → a ≡ b
some_id a b e = cc

last_or_before : (j k : ℕ) → j < k + 1 → (j ≡ k) ⊎ (j < k)
last_or_before j k lt = by (j == k) refl
  where
    by : (b : Bool) → (j == k) ≡ b → (j ≡ k) ⊎ (j < k)
    by true e = inl (eqb_is j k e)
    by false e = inr (grind (arith, e, lt))

module _ (s : State) (c : ConnectionTrace) (k : ℕ) (r : Credits s c k) where
  abbrev d : ConnectionTrace
  d = record c { frames = r.x }

  place_is : option_map (λ (t : Stream). t.id) (slice_get s.set.live k) ≡ slice_get (live c.role c.frames) k
  place_is =
      id_told s.set r.x (r.stands.goes r.alive).set_is k ∙ ap (λ (role : Role). slice_get (live role r.x) k) (r.stands.goes r.alive).set_role ∙ ap (λ (l : List ℕ). slice_get l k) r.lives

  none_there : slice_get (live c.role c.frames) k ≡ None → Credits s c (k + 1)
  none_there e = record {
    fs = r.fs;
    x = r.x;
    x_is = r.x_is;
    are = r.are;
    stands = r.stands;
    alive = r.alive;
    holds = r.holds;
    lives = r.lives;
    whole = r.whole;
    done = λ j id lt q. by j id q (last_or_before j k lt);
  }
    where
      by : (j id : ℕ) → slice_get (live c.role c.frames) j ≡ Some id → (j ≡ k) ⊎ (j < k) → granted_on id (sent r.x) ≡ spent_on id (received r.x)
      by j id q (inl same) = absurd (let t : None ≡ Some id = sym e ∙ ap (slice_get (live c.role c.frames)) (sym same) ∙ q in cc)
      by j id q (inr before) = r.done j id before q

  module _ (id : ℕ) (there : slice_get (live c.role c.frames) k ≡ Some id) where
    live_then : is_live c.role c.frames id ≡ true
    live_then = member_is (is_live c.role c.frames) (begun c.role c.frames) k id there

    live_now : is_live c.role r.x id ≡ true
    live_now = member_is (is_live c.role r.x) (begun c.role r.x) k id (ap (λ (l : List ℕ). slice_get l k) r.lives ∙ there)

    abbrev n : ℕ
    n = owed_in s.set.limits (at id s.set)

    owed_here : granted_on id (sent r.x) + n ≡ spent_on id (received r.x)
    owed_here = owed_is s d r.stands r.alive r.holds id live_now

    none_owed : n ≡ 0 → Credits s c (k + 1)
    none_owed z = record {
      fs = r.fs;
      x = r.x;
      x_is = r.x_is;
      are = r.are;
      stands = r.stands;
      alive = r.alive;
      holds = r.holds;
      lives = r.lives;
      whole = r.whole;
      done = λ j i lt q. by j i q (last_or_before j k lt);
    }
      where
        by : (j i : ℕ) → slice_get (live c.role c.frames) j ≡ Some i → (j ≡ k) ⊎ (j < k) → granted_on i (sent r.x) ≡ spent_on i (received r.x)
        by j i q (inl same) =
            let one : id ≡ i = some_id id i (sym there ∙ ap (slice_get (live c.role c.frames)) (sym same) ∙ q) in
            subst (λ (m : ℕ). granted_on m (sent r.x) ≡ spent_on m (received r.x)) one (omega (arith, owed_here, z))
        by j i q (inr before) = r.done j i before q

    some_owed : (n == 0) ≡ false → Credits (record s { output = s.output ++ update_text id n; set = credited_on id n s.set }) c (k + 1)
    some_owed e =
        let g = grants_stream s d r.stands r.alive r.holds id live_now in
        record {
          fs = r.fs ++ g.f ∷ [];
          x = r.x ++ Sent g.f ∷ [];
          x_is = x_push c r.fs r.x g.f r.x_is;
          are = All-append (IsCredit c) r.fs (g.f ∷ []) r.are
              (All-cons (IsCredit c) g.f [] (id, n, g.text, some_more n e, owed_small s d r.stands r.alive r.holds id live_now, inr live_then) (All-nil (IsCredit c)));
          stands = g.stands;
          alive = r.alive;
          holds = r.holds;
          lives = g.lives ∙ r.lives;
          whole = omega (arith, r.whole, g.grants 0, plus_if (id == 0) (granted_on 0 (sent r.x)) n (isnt_zero s d r.stands r.alive r.holds id live_now), ap spent (received_sent r.x g.f));
          done = λ j i lt q. by g j i q (last_or_before j k lt);
        }
      where
        this : (g : Grant s (record s { output = s.output ++ update_text id n; set = credited_on id n s.set }) d id n) (i : ℕ) (b : Bool) → (id == i) ≡ b → (id ≡ i) ⊎ (granted_on i (sent r.x) ≡ spent_on i (received r.x)) →
            granted_on i (sent (r.x ++ Sent g.f ∷ [])) ≡ spent_on i (received (r.x ++ Sent g.f ∷ []))
        this g i true f o =
            omega (arith, g.grants i, ap (λ (b : Bool). if b then n else 0) f, subst (λ (m : ℕ). granted_on m (sent r.x) + n ≡ spent_on m (received r.x)) (eqb_is id i f) owed_here, ap (spent_on i) (received_sent r.x g.f))
        this g i false f (inl same) = absurd (let t : (i == i) ≡ false = ap (λ (m : ℕ). m == i) (sym same) ∙ f in let u : (i == i) ≡ true = self_eq i in cc)
        this g i false f (inr full) = omega (arith, g.grants i, ap (λ (b : Bool). if b then n else 0) f, full, ap (spent_on i) (received_sent r.x g.f))

        by : (g : Grant s (record s { output = s.output ++ update_text id n; set = credited_on id n s.set }) d id n) (j i : ℕ) → slice_get (live c.role c.frames) j ≡ Some i → (j ≡ k) ⊎ (j < k) →
            granted_on i (sent (r.x ++ Sent g.f ∷ [])) ≡ spent_on i (received (r.x ++ Sent g.f ∷ []))
        by g j i q (inl same) = this g i (id == i) refl (inl (some_id id i (sym there ∙ ap (slice_get (live c.role c.frames)) (sym same) ∙ q)))
        by g j i q (inr before) = this g i (id == i) refl (inr (r.done j i before q))

    one_by : (b : Bool) → (n == 0) ≡ b → Credits (if b then s else record s { output = s.output ++ update_text id n; set = credited_on id n s.set }) c (k + 1)
    one_by true e = none_owed (eqb_is n 0 e)
    one_by false e = some_owed e

  next_by : (o : Option ℕ) → slice_get (live c.role c.frames) k ≡ o → Credits (granted_at o s) c (k + 1)
  next_by None e = none_there e
  next_by (Some id) e = one_by id e (owed_in s.set.limits (at id s.set) == 0) refl

  pub next_credits : (t : State) → t ≡ granted_at (option_map (λ (u : Stream). u.id) (slice_get s.set.live k)) s → Credits t c (k + 1)
  next_credits t e = subst (λ (u : State). Credits u c (k + 1)) (sym (e ∙ ap (λ (o : Option ℕ). granted_at o s) place_is)) (next_by (slice_get (live c.role c.frames) k) refl)

-- ---- all of them

has_place : (p : ℕ → Bool) (xs : List ℕ) (id : ℕ) → list_any (λ i. i == id) xs ≡ true → p id ≡ true → (j : ℕ) × (j < length (filter p xs)) × (slice_get (filter p xs) j ≡ Some id)
has_place p [] id e f = absurd cc
has_place p (x ∷ xs) id e f = by (p x) (x == id) refl refl e (λ any. has_place p xs id any f)
  where
    by : (b t : Bool) → p x ≡ b → (x == id) ≡ t → (t || list_any (λ i. i == id) xs) ≡ true →
        (list_any (λ i. i == id) xs ≡ true → (j : ℕ) × (j < length (filter p xs)) × (slice_get (filter p xs) j ≡ Some id)) →
        (j : ℕ) × (j < length (if b then x ∷ filter p xs else filter p xs)) × (slice_get (if b then x ∷ filter p xs else filter p xs) j ≡ Some id)
    by true true q same any later = (zero, omega arith, ap Some (eqb_is x id same))
    by false true q same any later = absurd (let t : p id ≡ false = ap p (sym (eqb_is x id same)) ∙ q in let u : true ≡ false = sym f ∙ t in cc)
    by true false q same any later =
        let r = later any in
        (suc r.0, omega (arith, r.1), r.2)
    by false false q same any later = later any

front_true : (a b : Bool) → (a && b) ≡ true → a ≡ true
front_true true b e = refl
front_true false b e = absurd cc

pub releases : (s t : State) (c : ConnectionTrace) (count : ℕ) → Stands s c → s.refusal ≡ None → count ≡ length s.set.live → Credits t c count → Releases t c
releases s t c count h alive size r =
    let a = h.goes alive in
    let n : count ≡ length (live c.role c.frames) = size ∙ ap length a.set_is.live_is ∙ length-map (live s.set.role c.frames) (stream_at s.set.limits c.frames) ∙ ap (λ (role : Role). length (live role c.frames)) a.set_role in
    record {
      fs = r.fs;
      are = r.are;
      stands =
          subst (λ (x : List Step). Stands t (record c { frames = x; written = c.written ++ [] })) r.x_is
          (subst (λ (w : List (List Field)). Stands t (record c { frames = r.x; written = w })) (sym (append-nil c.written)) r.stands);
      credited = subst (λ (x : List Step). IsCredited c.role c.limits x) r.x_is (record { whole = r.whole; streams = λ id lives. full id lives n });
    }
  where
    full : (id : ℕ) → is_live c.role r.x id ≡ true → count ≡ length (live c.role c.frames) → granted_on id (sent r.x) ≡ spent_on id (received r.x)
    full id lives n =
        let begun_there : list_any (λ i. i == id) (begun c.role r.x) ≡ true = begun_has c.role r.x id ∙ front_true (is_begun c.role r.x id) (not (is_over r.x id)) lives in
        let p = has_place (is_live c.role r.x) (begun c.role r.x) id begun_there lives in
        r.done p.0 id (omega (arith, p.1, n, ap length r.lives)) (ap (λ (l : List ℕ). slice_get l p.0) (sym r.lives) ∙ p.2)

-- ---- holds

rehold : (s : State) (c : ConnectionTrace) (hold : Bool) → Stands s c → (s.refusal ≡ None → HasCredit hold c.role c.limits c.frames) → Stands (record s { is_holding = hold }) (held hold c)
rehold s c hold h credit = record {
  role_is = h.role_is;
  limits_are = h.limits_are;
  refusal_is = h.refusal_is;
  holding_is = refl;
  last = h.last;
  encoder_is = h.encoder_is;
  kept = record {
    front = h.kept.front;
    within = h.kept.within;
    text = h.kept.text;
    read = h.kept.read;
    spelled = h.kept.spelled;
    writable = h.kept.writable;
    closed = h.kept.closed;
    given = h.kept.given;
    placed = h.kept.placed;
    acknowledged = h.kept.acknowledged;
    windows = h.kept.windows;
  };
  resets = h.resets;
  credited = credit;
  goes = λ e.
      let a = h.goes e in
      record {
        reader_goes = a.reader_goes;
        reads = a.reads;
        place_is = a.place_is;
        set_is = a.set_is;
        set_role = a.set_role;
        set_limits = a.set_limits;
        decodes = a.decodes;
        block_is = a.block_is;
        given_is = a.given_is;
        acknowledged = a.acknowledged;
        stays = a.stays;
        watched = a.watched;
        stop_is = a.stop_is;
        last_is = a.last_is;
      };
}

less_credit : (b : Bool) (c : ConnectionTrace) → HasCredit b c.role c.limits c.frames → HasCredit true c.role c.limits c.frames
less_credit true c h = h
less_credit false c h = record { whole = omega (arith, h.whole); streams = λ id lives. omega (arith, h.streams id lives) }

none_written : (t : State) (c : ConnectionTrace) → Stands t c → Stands t (wrote [] [] c)
none_written t c h =
    subst (λ (x : List Step). Stands t (record c { frames = x; written = c.written ++ [] })) (sym (append-nil c.frames))
    (subst (λ (w : List (List Field)). Stands t (record c { written = w })) (sym (append-nil c.written)) h)

-- a hold begins
pub holds_back : (s : State) (c : ConnectionTrace) → Stands s c → Holds true c (record s { is_holding = true })
holds_back s c h = ([], refl, none_written (record s { is_holding = true }) (held true c) (rehold s c true h (λ alive. less_credit s.is_holding c (h.credited alive))))

-- no hold was there
pub holds_none : (s : State) (c : ConnectionTrace) → Stands s c → s.is_holding ≡ false → Holds false c (record s { is_holding = false })
holds_none s c h free = (
  [],
  (All-nil (IsCredit c), λ e. refl, λ e. refl, λ alive. subst (λ (x : List Step). IsCredited c.role c.limits x) (sym (append-nil c.frames)) (credit (unrefused c alive))),
  none_written (record s { is_holding = false }) (held false c) (rehold s c false h (λ alive. subst (λ (b : Bool). HasCredit b c.role c.limits c.frames) free (h.credited alive))),
)
  where
    none_by : (o : Option Refusal) → not (is_some o) ≡ true → o ≡ None
    none_by None p = refl
    none_by (Some why) p = absurd cc

    unrefused : (e : ConnectionTrace) → is_alive e ≡ true → e.refusal ≡ None
    unrefused e q = none_by e.refusal q

    credit : c.refusal ≡ None → IsCredited c.role c.limits c.frames
    credit e = subst (λ (b : Bool). HasCredit b c.role c.limits c.frames) free (h.credited (sym h.refusal_is ∙ e))

-- nothing is changed then
pub holds_kept : (s : State) (c : ConnectionTrace) → Stands s c → s.is_holding ≡ false → Holds false c s
holds_kept s c h free = subst (λ (b : Bool). Holds false c (record s { is_holding = b })) (sym free) (holds_none s c h free)

-- it has refused
pub holds_dead : (s : State) (c : ConnectionTrace) → Stands s c → is_some s.refusal ≡ true → Holds false c (record s { is_holding = false })
holds_dead s c h dead = (
  [],
  (All-nil (IsCredit c), λ e. refl, λ e. refl, λ alive. absurd (let t : not (is_some c.refusal) ≡ false = ap (λ (o : Option Refusal). not (is_some o)) h.refusal_is ∙ ap not dead in let u : true ≡ false = sym alive ∙ t in cc)),
  none_written (record s { is_holding = false }) (held false c) (rehold s c false h (λ alive. absurd (let t : true ≡ false = sym dead ∙ ap is_some alive in cc))),
)

-- a hold ends, and all is sent that was owed
pub holds_over : (s t : State) (c : ConnectionTrace) → Stands s c → s.refusal ≡ None → s.is_holding ≡ true → Releases t c → Holds false c (record t { is_holding = false })
holds_over s t c h alive holding r = (
  r.fs,
  (r.are, λ e. absurd (let u : true ≡ false = sym (h.holding_is ∙ holding) ∙ e in cc), λ e. absurd (let u : true ≡ false = ap (λ (o : Option Refusal). not (is_some o)) (sym alive ∙ sym h.refusal_is) ∙ e in cc), λ e. r.credited),
  rehold t (wrote r.fs [] c) false r.stands (λ e. r.credited),
)

-- what comes before more is fed
same_by : (b : Bool) (s t : State) → ahead_in t ≡ ahead_in s → ahead_in (if b then s else t) ≡ ahead_in s
same_by true s t e = refl
same_by false s t e = e

pub ahead_at : (o : Option ℕ) (s : State) → ahead_in (granted_at o s) ≡ ahead_in s
ahead_at None s = refl
ahead_at (Some id) s =
    same_by (owed_in s.set.limits (at id s.set) == 0) s (record s { output = s.output ++ update_text id (owed_in s.set.limits (at id s.set)); set = credited_on id (owed_in s.set.limits (at id s.set)) s.set }) refl

pub ahead_all : (s : State) → ahead_in (all_granted s) ≡ ahead_in s
ahead_all s = same_by (owed_by s.set == 0) s (record s { output = s.output ++ update_text 0 (owed_by s.set); set = credited (owed_by s.set) s.set }) refl
