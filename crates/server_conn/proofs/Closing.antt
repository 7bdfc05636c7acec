-- How the sessions that stayed leave where a connection is over, the oldest first.
use Rattle.std.proofs.Common.{◌≡◌, inl, inr, ℕ, ◌==◌, ◌≤◌, Bool, true, false, map, List, [], ◌∷◌, ◌++◌, Option, Some, None, IsSome, refl, sym, ap, ◌∙◌, subst, append-nil, append_assoc, arith}
use Rattle.std.specs.List.{flat_map}
use Rattle.std.proofs.lemmas.Bool.{eqb-true}
use Rattle.std.proofs.lemmas.List.{map-append}
use Rattle.grpc_heads.specs.CallEnd.{CallEnd}
use Rattle.grpc_heads.specs.declared.head.Method.{Method}
use Rattle.h2_exchange.specs.Calls.{Call, Dropped}
use Rattle.h2_exchange.proofs.Places.{same_self}
use Rattle.rig_io.specs.Link.{Piece}
use Rattle.grpc_stream.specs.CallTrace.{CallTrace}
use Rattle.table_lock.specs.Passes.{IsSound, PassView}
use Rattle.table_lock.proofs.Extends.{extended_none}
use Rattle.rib_core.specs.Recorded.{IsLawful}
use Rattle.table_model.specs.declared.command.Command.{Command}
use Rattle.table_model.specs.declared.command.Command.TheVariants as command
use Rattle.table_model.specs.declared.command.Config.{Config}
use Rattle.table_model.specs.declared.reply.Reply.{Reply}
use Rattle.table_model.specs.declared.reply.Reply.TheVariants as reply
use Rattle.table_model.specs.Event.{Event}
use Rattle.call_answers.specs.declared.orders.Setting.{Setting}
use Rattle.call_orders.specs.Owed.{has_end, items_for}
use Rattle.call_orders.specs.Calls.{Action, CallState, Collects, Continues, Handles, Modifies, Over, after, calls_of, events_of, refusal_for, without_leaves}
use Rattle.call_orders.specs.Actions.{IsAction, events_in, leave}
use Rattle.call_orders.specs.Orders.{AllLeave, staying}
use Rattle.call_orders.proofs.Leaving.{leaving, refused_work}
use Rattle.call_orders.proofs.Open.{asks_late, open_with, parted}
use Rattle.call_orders.proofs.Standing.{any_over}
use Rattle.session_engine.specs.Laws.{AreOpen}
use Rattle.session_engine.specs.declared.open_calls.OpenCall.{OpenCall}
use Rattle.session_engine.specs.declared.open_calls.OpenCall.TheVariants as opened
use Rattle.session_engine.specs.Queries.{OpenCallsView, call_on, session_in}
use Rattle.session_engine.specs.Stands.{DropsCall, IsSpentIn, Stands, StopsIn, Takes}
use Rattle.server_turns.specs.Making.{MadeLast, Makes}
use Rattle.server_turns.specs.Turning.{is_spent}
use Rattle.server_turns.specs.declared.outcome.Outcome.{Outcome}
use Rattle.server_turns.specs.declared.outcome.Outcome.TheVariants as over
use Rattle.server_turns.proofs.Runs.{makes_then}
use Rattle.server_conn.specs.declared.conn.Cause.TheVariants.{Ends}
use Rattle.server_conn.specs.Standing.{KeptBy, MayEnd, past_of}
use Rattle.server_conn.proofs.Sessions.{HasSession, In, Rises, one_call, open_stays, rises_apart, rises_least, stays_open, staying_rises}

-- ---- what a drop makes

module _ (s : Setting) (session stream : ℕ) where
  abbrev drops : List Event → Option ℕ → Action
  drops did cut = Handles (Dropped stream) did cut

  drop_over : (f : Bool) (did : List Event) (cut : Option ℕ) → (after s (open_with session f []) (drops did cut)).state ≡ Over
  drop_over f did (Some made) = refl
  drop_over true did None = any_over (has_end (flat_map (items_for s) (without_leaves did) ++ [])) Over refl
  drop_over false did None = any_over (has_end (flat_map (items_for s) (without_leaves did) ++ [])) Over refl

  drop_asks : (f : Bool) (did : List Event) (cut : Option ℕ) → asks_late f (drops did cut) ≡ false
  drop_asks true did cut = refl
  drop_asks false did cut = refl

  -- of a Modify call: the Leave of its session
  drop_leaves : (f : Bool) (did : List Event) (cut : Option ℕ) → IsAction s (open_with session f []) (drops did cut) →
      (said : Reply) × (did ≡ leave session said ∷ [])
  drop_leaves f did cut act =
      let work : without_leaves did ≡ [] = refused_work s session f [] (drops did cut) act (drop_asks f did cut) refl in
      let l = leaving session (after s (open_with session f []) (drops did cut)).state did (drop_over f did cut)
      (parted s session f [] (drops did cut) act) in
      (l.0, l.1 ∙ ap (λ (w : List Event). w ++ leave session l.0 ∷ []) work)

-- ---- calls

stands_so : (s : Setting) (o : Option OpenCall) (session : ℕ) (f : Bool) → session_in o ≡ Some (session, f) → Stands s o (Modifies session f)
stands_so s None session f e = absurd (cc e)
stands_so s (Some (opened.Modifies n g)) session f e =
    let pair : (session, f) ≡ (n, g) = cc (sym e) in
    ap (λ (p : ℕ × Bool). Modifies p.0 p.1) pair
stands_so s (Some (opened.Receives method first is_more)) session f e = absurd (cc e)
stands_so s (Some (opened.Responds rows)) session f e = absurd (cc e)

over_none : (s : Setting) (o : Option OpenCall) (state : CallState) → state ≡ Over → Stands s o state → session_in o ≡ None
over_none s None state over h = refl
over_none s (Some (opened.Modifies n g)) state over h = absurd (cc (sym over ∙ h))
over_none s (Some (opened.Receives method first is_more)) state over h = refl
over_none s (Some (opened.Responds rows)) state over h = refl

the_pair : (o : Option (ℕ × Bool)) → IsSome o → (session : ℕ) × (f : Bool) × (o ≡ Some (session, f))
the_pair None h = absurd (cc h)
the_pair (Some p) h = (p.0, p.1, refl)

same_session : (m n : ℕ) (b f : Bool) → ◌≡◌ {A = Option (ℕ × Bool)} (Some (m, b)) (Some (n, f)) → m ≡ n
same_session m n b f e =
    let pair : ◌≡◌ {A = ℕ × Bool} (m, b) (n, f) = cc e in
    ap (λ (p : ℕ × Bool). p.0) pair

-- ---- the Leaves

leaves_more : (gone : List ℕ) (n : ℕ) (last : List Event) (e : Event) → AllLeave gone last → e.command ≡ command.Leave n →
    AllLeave (gone ++ n ∷ []) (last ++ e ∷ [])
leaves_more gone n last e h is =
    map-append (λ (x : Event). x.command) last (e ∷ [])
    ∙ (ap (λ (l : List Command). l ++ e.command ∷ []) h
    ∙ (ap (λ (c : Command). map command.Leave gone ++ c ∷ []) is ∙ sym (map-append command.Leave gone (n ∷ []))))

abbrev leaves_for : List ℕ → List Event
leaves_for sessions = map (λ n. leave n reply.Left) sessions

leaves_any : (sessions : List ℕ) → AllLeave sessions (leaves_for sessions)
leaves_any [] = refl
leaves_any (n ∷ sessions) = ap (λ (l : List Command). command.Leave n ∷ l) (leaves_any sessions)

leaves_then : (gone behind : List ℕ) (last more : List Event) → AllLeave gone last → AllLeave behind more → AllLeave (gone ++ behind) (last ++ more)
leaves_then gone behind last more h k =
    map-append (λ (x : Event). x.command) last more
    ∙ (ap (λ (l : List Command). l ++ map (λ (x : Event). x.command) more) h
    ∙ (ap (λ (l : List Command). map command.Leave gone ++ l) k ∙ sym (map-append command.Leave gone behind)))

-- ---- so far

-- These sessions have left, in the order of their numbers, and those behind them are the ones of the open calls.
pub record IsLeaving (config : Config) (p q : PassView Command Reply Config) (own : List Event) (now : OpenCallsView) : Type 0 where
  pub last : List Event
  pub gone : List ℕ
  pub behind : List ℕ
  pub made : Makes config false p q last
  pub leaves : AllLeave gone last
  pub staying_is : staying own ≡ gone ++ behind
  pub rising : Rises behind
  pub there : (n : ℕ) → In n behind → (id : ℕ) × (f : Bool) × HasSession now id n f
  pub among : (id n : ℕ) (f : Bool) → HasSession now id n f → In n behind
  pub apart : (i j n : ℕ) (f g : Bool) → HasSession now i n f → HasSession now j n g → i ≡ j

pub leaving_none : (s : Setting) (config : Config) (p : PassView Command Reply Config) (calls : OpenCallsView) (actions : List Action) (own : List Event) →
    IsSound IsLawful config p → MadeLast p own → AreOpen s calls actions → own ≡ events_in actions → IsLeaving config p p own calls
leaving_none s config p calls actions own sound last open_now did = record {
  last = [];
  gone = [];
  behind = staying own;
  made = extended_none IsLawful config p sound;
  leaves = refl;
  staying_is = refl;
  rising = staying_rises config p own sound last;
  there = stays_open s config p calls actions own sound last open_now did;
  among = open_stays s config p calls actions own sound last open_now did;
  apart = one_call s config p calls actions own sound last open_now did;
}

-- what the oldest session is
abbrev pub IsOldest : OpenCallsView → Option ℕ → Type 0
IsOldest now found = (id session : ℕ) (fin : Bool) → session_in (call_on now id) ≡ Some (session, fin) →
    (k n : ℕ) × (b : Bool) × (found ≡ Some k) × (session_in (call_on now k) ≡ Some (n, b)) × (n ≤ session)

-- The session of a stream is the next to leave.
record IsNext (now : OpenCallsView) (behind : List ℕ) (stream : ℕ) : Type 0 where
  session : ℕ
  f : Bool
  has_it : HasSession now stream session f
  rest : List ℕ
  behind_is : behind ≡ session ∷ rest

next_is : (now : OpenCallsView) (behind : List ℕ) (stream session : ℕ) (f : Bool) → HasSession now stream session f → Rises behind →
    ((n : ℕ) → In n behind → (id : ℕ) × (f : Bool) × HasSession now id n f) → In session behind → IsOldest now (Some stream) → IsNext now behind stream
next_is now [] stream session f has_it rising there here oldest = absurd here
next_is now (m ∷ rest) stream session f has_it rising there here oldest = record {
  session = session;
  f = f;
  has_it = has_it;
  rest = rest;
  behind_is = ap (λ (n : ℕ). n ∷ rest) same;
}
  where
    first : (id : ℕ) × (f : Bool) × HasSession now id m f
    first = there m (inl refl)

    old : (k n : ℕ) × (b : Bool) × (Some stream ≡ Some k) × (session_in (call_on now k) ≡ Some (n, b)) × (n ≤ m)
    old = oldest first.0 m first.1 first.2

    at : stream ≡ old.0
    at = cc old.3

    is : old.1 ≡ session
    is = same_session old.1 session old.2 f (sym old.4 ∙ (ap (λ (k : ℕ). session_in (call_on now k)) (sym at) ∙ has_it))

    same : m ≡ session
    same =
        let least : m ≤ session = rises_least m session rest rising here in
        let less : old.1 ≤ m = old.5 in
        omega (arith, least, less, is)

module _ (s : Setting) (config : Config) (p q r : PassView Command Reply Config) (own : List Event) (now : OpenCallsView) (stream : ℕ)
    (h : IsLeaving config p q own now) (some : IsSome (session_in (call_on now stream))) (oldest : IsOldest now (Some stream)) where
  next : IsNext now h.behind stream
  next =
      let pair = the_pair (session_in (call_on now stream)) some in
      next_is now h.behind stream pair.0 pair.1 pair.2 h.rising h.there (h.among stream pair.0 pair.1 pair.2) oldest

  pub leaving_more : (new : OpenCallsView) → DropsCall IsLawful config s now new q r stream (Dropped stream) → IsLeaving config p r own new
  leaving_more new k = record {
    last = h.last ++ k.did;
    gone = h.gone ++ session ∷ [];
    behind = rest;
    made = makes_then config false p q r h.last k.did h.made k.entries;
    leaves = subst (λ (l : List Event). AllLeave (h.gone ++ session ∷ []) (h.last ++ l)) (sym left.1)
        (leaves_more h.gone session h.last (leave session left.0) h.leaves refl);
    staying_is = h.staying_is ∙ (ap (λ (l : List ℕ). h.gone ++ l) next.behind_is ∙ sym (append_assoc h.gone (session ∷ []) rest));
    rising = rising.1;
    there = stays;
    among = λ id n f has_it. by_among id n f has_it (stream == id) refl;
    apart = λ i j n f g at_i at_j. h.apart i j n f g (was i n f at_i) (was j n g at_j);
  }
    where
      session : ℕ
      session = next.session

      rest : List ℕ
      rest = next.rest

      rising : Rises (session ∷ rest)
      rising = subst Rises next.behind_is h.rising

      taken : Takes s (open_with session next.f []) (call_on new stream) (λ cut. Handles (Dropped stream) k.did cut)
          (refusal_for s (Modifies session next.f) (Dropped stream))
      taken = k.takes (open_with session next.f []) (stands_so s (call_on now stream) session next.f next.has_it) (inr refl)

      left : (said : Reply) × (k.did ≡ leave session said ∷ [])
      left = drop_leaves s session stream next.f k.did taken.cut taken.right

      gone : session_in (call_on new stream) ≡ None
      gone = over_none s (call_on new stream) _ (drop_over s session stream next.f k.did taken.cut) taken.stands

      never : (n : ℕ) (f : Bool) → HasSession new stream n f → ⊥
      never n f has_it = cc (sym gone ∙ has_it)

      was : (id n : ℕ) (f : Bool) → HasSession new id n f → HasSession now id n f
      was id n f has_it = by (stream == id) refl
        where
          by : (b : Bool) → (stream == id) ≡ b → HasSession now id n f
          by true e = absurd (never n f (subst (λ (k : ℕ). HasSession new k n f) (sym (eqb-true stream id e)) has_it))
          by false e = ap session_in (sym (k.others id e)) ∙ has_it

      stays : (n : ℕ) → In n rest → (id : ℕ) × (f : Bool) × HasSession new id n f
      stays n here = by (h.there n (subst (In n) (sym next.behind_is) (inr here)))
        where
          by : (id : ℕ) × (f : Bool) × HasSession now id n f → (id : ℕ) × (f : Bool) × HasSession new id n f
          by (id, f, has_it) = at (stream == id) refl
            where
              at : (b : Bool) → (stream == id) ≡ b → (id : ℕ) × (f : Bool) × HasSession new id n f
              at true e =
                  let same : n ≡ session = same_session n session f next.f
                  (sym has_it ∙ (ap (λ (k : ℕ). session_in (call_on now k)) (sym (eqb-true stream id e)) ∙ next.has_it)) in
                  absurd (rises_apart session rest rising (subst (λ (x : ℕ). In x rest) same here))
              at false e = (id, f, ap session_in (k.others id e) ∙ has_it)

      by_among : (id n : ℕ) (f : Bool) → HasSession new id n f → (b : Bool) → (stream == id) ≡ b → In n rest
      by_among id n f has_it true e = absurd (never n f (subst (λ (k : ℕ). HasSession new k n f) (sym (eqb-true stream id e)) has_it))
      by_among id n f has_it false e = by (subst (In n) next.behind_is (h.among id n f (was id n f has_it)))
        where
          clash : (stream == id) ≡ true → ⊥
          clash t = cc (sym t ∙ e)

          by : In n (session ∷ rest) → In n rest
          by (inr others) = others
          by (inl same) =
              let one : stream ≡ id = h.apart stream id session next.f f next.has_it
              (subst (λ (x : ℕ). HasSession now id x f) (sym same) (was id n f has_it)) in
              absurd (clash (subst (λ (k : ℕ). (stream == k) ≡ true) one (same_self stream)))

  -- A call for a Leave was Spent.
  pub record IsCutOff : Type 0 where
    pub made : Makes config true p r h.last
    pub next_one : Event
    pub others : List Event
    pub leaves : AllLeave (staying own) (h.last ++ next_one ∷ others)

  pub leaving_spent : IsSpentIn IsLawful config s q r stream (Stands s (call_on now stream)) (Dropped stream ∷ []) → IsCutOff
  leaving_spent k = record {
    made = subst (λ (l : List Event). Makes config true p r l) (append-nil h.last)
        (makes_then config true p q r h.last [] h.made (subst (λ (l : List Event). Makes config true q r l) none k.spent));
    next_one = leave next.session reply.Left;
    others = leaves_for next.rest;
    leaves = subst (λ (l : List ℕ). AllLeave l (h.last ++ leaves_for (next.session ∷ next.rest))) (sym (h.staying_is ∙ ap (λ (l : List ℕ). h.gone ++ l) next.behind_is))
        (leaves_then h.gone (next.session ∷ next.rest) h.last (leaves_for (next.session ∷ next.rest)) h.leaves (leaves_any (next.session ∷ next.rest)));
  }
    where
      stops : StopsIn s (open_with next.session next.f []) stream (Dropped stream ∷ []) k.did
      stops = k.stops (open_with next.session next.f []) (stands_so s (call_on now stream) next.session next.f next.has_it) (inr refl)

      first_of : (xs : List Event) (y : Event) (ys : List Event) (z : Event) → xs ++ y ∷ ys ≡ z ∷ [] → xs ≡ []
      first_of [] y ys z e = refl
      first_of (x ∷ []) y ys z e = absurd (cc e)
      first_of (x ∷ w ∷ xs) y ys z e = absurd (cc e)

      of_action : (a : Action) → calls_of a ≡ Dropped stream ∷ [] → IsAction s (open_with next.session next.f []) a → events_of a ≡ k.did ++ stops.next ∷ stops.behind →
          k.did ≡ []
      of_action (Collects id did cut) calls act is = absurd (cc calls)
      of_action (Continues id cut) calls act is = absurd (cc calls)
      of_action (Handles call did cut) calls act is =
          let same : call ≡ Dropped stream = cc calls in
          let l = drop_leaves s next.session stream next.f did cut
          (subst (λ (c : Call Method CallEnd). IsAction s (open_with next.session next.f []) (Handles c did cut)) same act) in
          first_of k.did stops.next stops.behind (leave next.session l.0) (sym is ∙ l.1)

      none : k.did ≡ []
      none = of_action stops.action stops.calls_are stops.right stops.events_are

-- ---- at the end

-- no session is left
pub all_left : (config : Config) (p q : PassView Command Reply Config) (own : List Event) (now : OpenCallsView) (h : IsLeaving config p q own now) →
    (found : Option ℕ) → IsOldest now found → ((k : ℕ) → found ≡ Some k → ⊥) → AllLeave (staying own) h.last
all_left config p q own now h found oldest nowhere =
    subst (λ (l : List ℕ). AllLeave l h.last) (sym (h.staying_is ∙ (ap (λ (l : List ℕ). h.gone ++ l) none ∙ append-nil h.gone))) h.leaves
  where
    by : (behind : List ℕ) → ((n : ℕ) → In n behind → (id : ℕ) × (f : Bool) × HasSession now id n f) → behind ≡ []
    by [] there = refl
    by (m ∷ rest) there =
        let first = there m (inl refl) in
        let old = oldest first.0 m first.1 first.2 in
        absurd (nowhere old.0 old.3)

    none : h.behind ≡ []
    none = by h.behind h.there

module _ (s : Setting) (config : Config) (p q : PassView Command Reply Config) (calls now : OpenCallsView)
    (all : (actions : List Action) (own : List Event) → AreOpen s calls actions → own ≡ events_in actions → MadeLast p own → IsLeaving config p q own now)
    (t : CallTrace) (output : List ℕ) (refused : ℕ) (pieces : List Piece) (own : List Event) (is_ended : Bool) (outcome : Outcome)
    (m : MayEnd s t output calls refused (past_of pieces own is_ended) outcome) (last : MadeLast p own) where
  abbrev left : IsLeaving config p q own now
  left = all m.actions own m.open_now m.did last

  pub close_goes : (found : Option ℕ) → IsOldest now found → ((k : ℕ) → found ≡ Some k → ⊥) → (made : List Event) × Makes config (is_spent (Some outcome)) p q made
      × KeptBy s t output refused (past_of pieces (own ++ made) is_ended) outcome
  close_goes found oldest nowhere = (
    left.last,
    subst (λ (b : Bool). Makes config b p q left.last) (sym m.unspent) left.made,
    m.leaves left.last (all_left config p q own now left found oldest nowhere),
  )

  pub close_spent : (stream : ℕ) (r : PassView Command Reply Config) → IsSome (session_in (call_on now stream)) → IsOldest now (Some stream) →
      IsSpentIn IsLawful config s q r stream (Stands s (call_on now stream)) (Dropped stream ∷ []) →
      (made : List Event) × Makes config (is_spent (Some over.Spent)) p r made × KeptBy s t output refused (past_of pieces (own ++ made) is_ended) over.Spent
  close_spent stream r some oldest k =
      let c = leaving_spent s config p q r own now stream left some oldest k in
      (left.last, c.made, m.spent left.last c.others c.next_one c.leaves)

pub same_outcome : (a b : Outcome) → Ends a ≡ Ends b → a ≡ b
same_outcome a b e = cc
