-- A connection that makes windows whole.
use Rattle.std.proofs.Common.{◌≡◌, ℕ, ◌+◌, ◌<◌, ◌^◌, Bool, true, false, ◌||◌, ◌&&◌, List, [], ◌∷◌, ◌++◌, map, refl, sym, ap, subst, ◌∙◌, arith}
use Rattle.std.specs.Prelude.{not, nat_lt, ◌==◌, if◌then◌else◌}
use Rattle.std.specs.List.{flat_map}
use Rattle.std.proofs.lemmas.List.{append-nil, append_assoc}
use Rattle.h2_frames.specs.declared.frame.Frame.{Frame}
use Rattle.h2_frames.specs.declared.frame.Frame.TheVariants.{WindowUpdate}
use Rattle.h2_frames.specs.Layout.{frame_text}
use Rattle.hpack_tables.specs.Writing.{Encoder}
use Rattle.h2_exchange.specs.declared.role.Role.{Role}
use Rattle.h2_exchange.specs.declared.role.Role.TheVariants.{Client, Server}
use Rattle.h2_exchange.specs.Events.{Event}
use Rattle.h2_exchange.specs.Exchange.{Step, Received, Sent, received, sent, some_step}
use Rattle.h2_exchange.specs.Frames.{stream_of, is_headers}
use Rattle.h2_exchange.specs.Sending.{credit_text, update_text}
use Rattle.h2_exchange.specs.Streams.{begins, highest, is_begun, is_live, is_odd, is_over}
use Rattle.h2_exchange.specs.Windows.{granted_on}
use Rattle.h2_exchange.proofs.Steps.{sent_push, window_sums_grow}
use Rattle.h2_streams.specs.Set.{at, credited, credited_on, owed_in}
use Rattle.h2_streams.proofs.Credits.{credits_all, live_same, odd_not_zero}
use Rattle.h2_streams.proofs.Lists.{eqb_is, isnt, self_eq}
use Rattle.http_connection.specs.ConnectionTrace.{ConnectionTrace}
use Rattle.h2_conn.specs.Credit.{owed_by, granted, granted_on as granted_to, all_granted, stream_granted, with_credit}
use Rattle.h2_conn.specs.State.{State}
use Rattle.h2_conn.specs.Standing.{Going, Kept}
use Rattle.h2_conn.proofs.Sounds.{one_more}
use Rattle.h2_conn.proofs.Updates.{Updated, increments, update_body, updates, updates_on}

-- ---- a stream has no id of 0

odd_of : (h o lt : Bool) (n id : ℕ) → is_odd n ≡ o → ((h && o && lt && n == id) || false) ≡ true → is_odd id ≡ true
odd_of true true true n id p e = ap is_odd (sym (eqb_is n id (sym (or_false (n == id)) ∙ e))) ∙ p
  where
    or_false : (b : Bool) → (b || false) ≡ b
    or_false true = refl
    or_false false = refl
odd_of true true false n id p e = absurd cc
odd_of true false lt n id p e = absurd cc
odd_of false o lt n id p e = absurd cc

begins_odd : (role : Role) (past : List Step) (s : Step) (id : ℕ) → begins role id past s ≡ true → is_odd id ≡ true
begins_odd Server past (Received f) id e = odd_of (is_headers f) (is_odd (stream_of f)) (nat_lt (highest (received past)) (stream_of f)) (stream_of f) id refl e
begins_odd Server past (Sent f) id e = absurd cc
begins_odd Client past (Received f) id e = absurd cc
begins_odd Client past (Sent f) id e = odd_of (is_headers f) (is_odd (stream_of f)) (nat_lt (highest (sent past)) (stream_of f)) (stream_of f) id refl e

or_either : (P : Type 0) (a b : Bool) → (a ≡ true → P) → (b ≡ true → P) → (a || b) ≡ true → P
or_either P true b p q e = p refl
or_either P false b p q e = q e

begun_odd : (role : Role) (past x : List Step) (id : ℕ) → some_step (begins role id) past x ≡ true → is_odd id ≡ true
begun_odd role past [] id e = absurd cc
begun_odd role past (s ∷ x) id e = or_either (is_odd id ≡ true) (begins role id past s) (some_step (begins role id) (past ++ s ∷ []) x) (begins_odd role past s id) (begun_odd role (past ++ s ∷ []) x id) e

front_true : (a b : Bool) → (a && b) ≡ true → a ≡ true
front_true true b e = refl
front_true false b e = absurd cc

pub live_not_zero : (role : Role) (x : List Step) (id : ℕ) → is_live role x id ≡ true → id ≡ 0 → ⊥
live_not_zero role x id e = odd_not_zero id (begun_odd role [] x id (front_true (is_begun role x id) (not (is_over x id)) e))

-- ---- what updates grant

abbrev pub sent_on : List Frame → ConnectionTrace → ConnectionTrace
sent_on fs c = record c { frames = c.frames ++ map Sent fs }

-- they grant so much to the connection, and to a stream where it is live
pub record Grants (role : Role) (x : List Step) (id n : ℕ) (fs : List Frame) : Type 0 where
  pub all : granted_on 0 (sent (x ++ map Sent fs)) ≡ granted_on 0 (sent x) + n
  pub on : (k : ℕ) → is_live role x k ≡ true → granted_on k (sent (x ++ map Sent fs)) ≡ granted_on k (sent x) + (if k == id then n else 0)

pub record Sends (s : State) (c : ConnectionTrace) (id n : ℕ) (fs : List Frame) (t : State) (es : List Event) (enc : Encoder) : Type 0 where
  pub kept : Kept (sent_on fs c) t.output enc
  pub goes : Going t (sent_on fs c) es []
  pub grants : s.is_holding ≡ false → Grants c.role c.frames id n fs
  pub held : s.is_holding ≡ true → fs ≡ []
  -- no stream begins or ends
  pub live_is : (k : ℕ) → is_live c.role (c.frames ++ map Sent fs) k ≡ is_live c.role c.frames k
  pub text : flat_map frame_text fs ≡ (if s.is_holding then [] else credit_text c.role c.frames id n)

push_on : (x : List Step) (k id n : ℕ) (fits : id < 2 ^ 31) → n < 2 ^ 31 → granted_on k (sent (x ++ Sent (WindowUpdate (update_body id n fits)) ∷ [])) ≡ granted_on k (sent x) + (if id == k then n else 0)
push_on x k id n fits small =
    ap (granted_on k) (sent_push x (WindowUpdate (update_body id n fits))) ∙ window_sums_grow.granted_push k (sent x) (WindowUpdate (update_body id n fits))
    ∙ ap (λ (m : ℕ). granted_on k (sent x) + (if id == k then m else 0)) (increments id n fits small)

pub sym_eq : (a b : ℕ) (t : Bool) → (a == b) ≡ t → (b == a) ≡ t
sym_eq a b true e = ap (λ (m : ℕ). b == m) (eqb_is a b e) ∙ self_eq b
sym_eq a b false e = by (b == a) refl
  where
    by : (t : Bool) → (b == a) ≡ t → (b == a) ≡ false
    by true f = let g : (a == b) ≡ true = ap (λ (m : ℕ). a == m) (eqb_is b a f) ∙ self_eq a in absurd cc
    by false f = f

plus_if : (b : Bool) (m n : ℕ) → b ≡ false → m + (if b then n else 0) ≡ m
plus_if true m n e = absurd cc
plus_if false m n e = omega arith

module _ (s : State) (c : ConnectionTrace) (id n : ℕ) (zero_fits : 0 < 2 ^ 31) (fits : id < 2 ^ 31) (small : n < 2 ^ 31) (es : List Event) (enc : Encoder) (kept : Kept c s.output enc) (goes : Going s c es []) where
  none_grants : n ≡ 0 → Grants c.role c.frames id n []
  none_grants z = record {
    all = ap (λ (x : List Step). granted_on 0 (sent x)) (append-nil c.frames) ∙ omega (arith, z);
    on = λ k live. ap (λ (x : List Step). granted_on k (sent x)) (append-nil c.frames) ∙ sym (ap (λ (m : ℕ). granted_on k (sent c.frames) + (if k == id then m else 0)) z ∙ zero_if (k == id) (granted_on k (sent c.frames)));
  }
    where
      zero_if : (b : Bool) (m : ℕ) → m + (if b then 0 else 0) ≡ m
      zero_if true m = omega arith
      zero_if false m = omega arith

  as_sent : (s.is_holding ≡ false → n ≡ 0) → (flat_map frame_text [] ≡ (if s.is_holding then [] else credit_text c.role c.frames id n)) → Sends s c id n [] s es enc
  as_sent z text = record {
    kept = subst (λ (x : List Step). Kept (record c { frames = x }) s.output enc) (sym (append-nil c.frames)) kept;
    goes = subst (λ (x : List Step). Going s (record c { frames = x }) es []) (sym (append-nil c.frames)) goes;
    grants = λ q. none_grants (z q);
    held = λ q. refl;
    live_is = λ k. ap (λ (x : List Step). is_live c.role x k) (append-nil c.frames);
    text = text;
  }

  abbrev all_frame : Frame
  all_frame = WindowUpdate (update_body 0 n zero_fits)

  abbrev on_frame : Frame
  on_frame = WindowUpdate (update_body id n fits)

  abbrev first : State
  first = record s { output = s.output ++ update_text 0 n; set = credited n s.set }

  abbrev second : State
  second = record first { output = first.output ++ update_text id n; set = credited_on id n first.set }

  up : Updated s c all_frame (credited n s.set) es [] enc
  up = updates s c (update_body 0 n zero_fits) (credited n s.set) es [] enc kept goes (credits_all s.set c.frames n (update_body 0 n zero_fits) goes.set_is refl (increments 0 n zero_fits small)) goes.set_role goes.set_limits

  all_same : (k : ℕ) → is_live c.role (c.frames ++ Sent all_frame ∷ []) k ≡ is_live c.role c.frames k
  all_same k = live_same c.role c.limits c.frames (update_body 0 n zero_fits) 0 refl k

  zero_isnt : (k : ℕ) → is_live c.role c.frames k ≡ true → (0 == k) ≡ false
  zero_isnt k live = isnt k 0 (λ e. live_not_zero c.role c.frames k live (sym e))

  all_on : (k : ℕ) → is_live c.role c.frames k ≡ true → granted_on k (sent (c.frames ++ Sent all_frame ∷ [])) ≡ granted_on k (sent c.frames)
  all_on k live = push_on c.frames k 0 n zero_fits small ∙ plus_if (0 == k) (granted_on k (sent c.frames)) n (zero_isnt k live)

  -- the stream isn't live
  dead_sends : s.is_holding ≡ false → (n == 0) ≡ false → is_live c.role c.frames id ≡ false → Sends s c id n (all_frame ∷ []) first es enc
  dead_sends free some dead = record {
    kept = up.kept;
    goes = up.goes;
    grants = λ q. record {
      all = push_on c.frames 0 0 n zero_fits small;
      on = λ k live. all_on k live
          ∙ sym (plus_if (k == id) (granted_on k (sent c.frames)) n (isnt id k (λ e. let t : is_live c.role c.frames id ≡ true = ap (is_live c.role c.frames) (sym e) ∙ live in let u : true ≡ false = sym t ∙ dead in absurd cc)));
    };
    held = λ q. absurd (let t : true ≡ false = sym q ∙ free in cc);
    live_is = all_same;
    text = sym (rw (free, some, dead) refl);
  }

  then_on : is_live c.role c.frames id ≡ true → Updated first (one_more all_frame c) on_frame (credited_on id n first.set) es [] enc
  then_on live = updates_on first (one_more all_frame c) id n fits es [] enc small (all_same id ∙ live) up.kept up.goes

  abbrev two : List Step
  two = (c.frames ++ Sent all_frame ∷ []) ++ Sent on_frame ∷ []

  two_is : two ≡ c.frames ++ (Sent all_frame ∷ Sent on_frame ∷ [])
  two_is = append_assoc c.frames (Sent all_frame ∷ []) (Sent on_frame ∷ [])

  both_same : (k : ℕ) → is_live c.role two k ≡ is_live c.role c.frames k
  both_same k = live_same c.role c.limits (c.frames ++ Sent all_frame ∷ []) (update_body id n fits) id refl k ∙ all_same k

  live_sends : s.is_holding ≡ false → (n == 0) ≡ false → is_live c.role c.frames id ≡ true → Sends s c id n (all_frame ∷ on_frame ∷ []) second es enc
  live_sends free some live =
      let on = then_on live in
      record {
        kept = subst (λ (x : List Step). Kept (record c { frames = x }) second.output enc) two_is on.kept;
        goes = subst (λ (x : List Step). Going second (record c { frames = x }) es []) two_is on.goes;
        grants = λ q. record {
          all = ap (λ (x : List Step). granted_on 0 (sent x)) (sym two_is) ∙ push_on (c.frames ++ Sent all_frame ∷ []) 0 id n fits small
              ∙ plus_if (id == 0) (granted_on 0 (sent (c.frames ++ Sent all_frame ∷ []))) n (isnt 0 id (λ e. live_not_zero c.role c.frames id live e)) ∙ push_on c.frames 0 0 n zero_fits small;
          on = λ k alive. ap (λ (x : List Step). granted_on k (sent x)) (sym two_is) ∙ push_on (c.frames ++ Sent all_frame ∷ []) k id n fits small
              ∙ ap (λ (m : ℕ). m + (if id == k then n else 0)) (all_on k alive) ∙ ap (λ (b : Bool). granted_on k (sent c.frames) + (if b then n else 0)) (sym_eq k id (k == id) refl);
        };
        held = λ q. absurd (let t : true ≡ false = sym q ∙ free in cc);
        live_is = λ k. ap (λ (x : List Step). is_live c.role x k) (sym two_is) ∙ both_same k;
        text = sym (rw (free, some, live) refl);
      }

  -- ---- the state behind it

  abbrev pub Owes : Type 0
  Owes = (owed_by s.set ≡ n) × (owed_in s.set.limits (at id s.set) ≡ (if is_live c.role c.frames id then n else 0))

  is_with : s.is_holding ≡ false → with_credit id s ≡ stream_granted id (all_granted s)
  is_with free = ap (λ (b : Bool). if b then s else stream_granted id (all_granted s)) free

  all_by : (b : Bool) → (n == 0) ≡ b → Owes → all_granted s ≡ (if b then s else first)
  all_by b e o = ap (λ (m : ℕ). granted m s) o.0 ∙ ap (λ (t : Bool). if t then s else first) e

  zero_state : s.is_holding ≡ false → (n == 0) ≡ true → Owes → with_credit id s ≡ s
  zero_state free z o =
      is_with free ∙ ap (stream_granted id) (all_by true z o)
      ∙ ap (λ (m : ℕ). granted_to id m s) (o.1 ∙ ap (λ (m : ℕ). if is_live c.role c.frames id then m else 0) (eqb_is n 0 z) ∙ either (is_live c.role c.frames id) 0)
    where
      either : (b : Bool) (m : ℕ) → (if b then m else m) ≡ m
      either true m = refl
      either false m = refl

  some_state : (live : Bool) → s.is_holding ≡ false → (n == 0) ≡ false → is_live c.role c.frames id ≡ live → Owes → with_credit id s ≡ (if live then second else first)
  some_state true free some live o =
      is_with free ∙ ap (stream_granted id) (all_by false some o) ∙ ap (λ (m : ℕ). granted_to id m first) (o.1 ∙ ap (λ (b : Bool). if b then n else 0) live)
      ∙ ap (λ (t : Bool). if t then first else second) some
  some_state false free some dead o =
      is_with free ∙ ap (stream_granted id) (all_by false some o) ∙ ap (λ (m : ℕ). granted_to id m first) (o.1 ∙ ap (λ (b : Bool). if b then n else 0) dead)

  by_live : (live : Bool) → s.is_holding ≡ false → (n == 0) ≡ false → is_live c.role c.frames id ≡ live → Owes → (fs : List Frame) × Sends s c id n fs (with_credit id s) es enc
  by_live true free some live o = (all_frame ∷ on_frame ∷ [], subst (λ (t : State). Sends s c id n (all_frame ∷ on_frame ∷ []) t es enc) (sym (some_state true free some live o)) (live_sends free some live))
  by_live false free some dead o = (all_frame ∷ [], subst (λ (t : State). Sends s c id n (all_frame ∷ []) t es enc) (sym (some_state false free some dead o)) (dead_sends free some dead))

  by_count : (b : Bool) → s.is_holding ≡ false → (n == 0) ≡ b → Owes → (fs : List Frame) × Sends s c id n fs (with_credit id s) es enc
  by_count true free z o =
      ([], subst (λ (t : State). Sends s c id n [] t es enc) (sym (zero_state free z o)) (as_sent (λ q. eqb_is n 0 z) (sym (rw (free, z) refl))))
  by_count false free some o = by_live (is_live c.role c.frames id) free some refl o

  by_holding : (b : Bool) → s.is_holding ≡ b → (s.is_holding ≡ false → Owes) → (fs : List Frame) × Sends s c id n fs (with_credit id s) es enc
  by_holding true held o = (
    [],
    subst (λ (t : State). Sends s c id n [] t es enc) (sym (ap (λ (b : Bool). if b then s else stream_granted id (all_granted s)) held))
        (as_sent (λ q. absurd (let t : true ≡ false = sym held ∙ q in cc)) (sym (ap (λ (b : Bool). if b then [] else credit_text c.role c.frames id n) held))),
  )
  by_holding false free o = by_count (n == 0) free refl (o free)

  -- So much is sent that windows are whole again, where that much is owed.
  pub credit_sends : (s.is_holding ≡ false → Owes) → (fs : List Frame) × Sends s c id n fs (with_credit id s) es enc
  credit_sends o = by_holding s.is_holding refl o

-- ---- what else of the state it changes: nothing

if_sides : (b : Bool) (s t : State) → t ≡ record s { output = t.output; set = t.set } → (if b then s else t) ≡ record s { output = (if b then s else t).output; set = (if b then s else t).set }
if_sides true s t e = refl
if_sides false s t e = e

two_sides : (s u v : State) → u ≡ record s { output = u.output; set = u.set } → v ≡ record u { output = v.output; set = v.set } → v ≡ record s { output = v.output; set = v.set }
two_sides s u v e f = f ∙ ap (λ (q : State). record q { output = v.output; set = v.set }) e

pub credit_sides : (id : ℕ) (s : State) → with_credit id s ≡ record s { output = (with_credit id s).output; set = (with_credit id s).set }
credit_sides id s =
    if_sides s.is_holding s (stream_granted id (all_granted s))
    (two_sides s (all_granted s) (stream_granted id (all_granted s))
    (if_sides (owed_by s.set == 0) s (record s { output = s.output ++ update_text 0 (owed_by s.set); set = credited (owed_by s.set) s.set }) refl)
    (if_sides (owed_in (all_granted s).set.limits (at id (all_granted s).set) == 0) (all_granted s)
    (record (all_granted s) { output = (all_granted s).output ++ update_text id (owed_in (all_granted s).set.limits (at id (all_granted s).set)); set = credited_on id (owed_in (all_granted s).set.limits (at id (all_granted s).set)) (all_granted s).set }) refl))
