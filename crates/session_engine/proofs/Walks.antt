-- What walks over all calls find.
use Rattle.std.proofs.Common.{◌≡◌, ℕ, ◌≤◌, ◌<◌, Bool, true, false, cond, nat_lt, ◌&&◌, All, [], ◌∷◌, Option, Some, None, IfSome, IfNone, IsSome, is_some, refl, sym, ap, ◌∙◌, subst, arith}
use Rattle.std.specs.Cmp.{unsigned_tied}
use Rattle.std.specs.List.{AllByRecursion}
use Rattle.std.specs.List.Sorted.{IsStrictlySortedBy}
use Rattle.std.specs.Map.{keys_of}
use Rattle.std.specs.Ordering.{MatchOrdering, nat_cmp, is_le}
use Rattle.std.specs.declared.cmp.Ordering.{Ordering}
use Rattle.std.specs.declared.cmp.Ordering.TheVariants.{Less, Equal, Greater}
use Rattle.std.specs.BTreeMap.{is_at}
use Rattle.std.specs.BTreeMap.Range.{range_contains, entries_between}
use Rattle.std.specs.declared.ops.Bound.TheVariants.{Included, Unbounded}
use Rattle.std.proofs.lemmas.Bool.{eqb-true, ltb-true, ltb-false}
use Rattle.std.proofs.lemmas.Cmp.{ranked}
use Rattle.std.proofs.lemmas.List.Elements.{recursion_from_All}
use Rattle.session_engine.specs.declared.open_calls.OpenCall.{OpenCall}
use Rattle.session_engine.specs.declared.open_calls.OpenCall.TheVariants as opened
use Rattle.session_engine.specs.Queries.{OpenCallsView, call_on, first_where, is_session, lesser, oldest_behind, oldest_of, session_in}

-- Every entry is the call on its stream.
abbrev pub AreHeld : OpenCallsView → OpenCallsView → Type 0
AreHeld all es = AllByRecursion (λ e. call_on all e.0 ≡ Some e.1) es

-- what stands at a stream in front
here : (id : ℕ) (stream : ℕ) → is_at (nat_cmp id) stream ≡ true → id ≡ stream
here id stream e = eqb-true id stream (sym (unsigned_tied id stream) ∙ e)

-- the call that a walk stops at
pub where_found : (test : OpenCall → Bool) (all es : OpenCallsView) → AreHeld all es →
    IfSome (first_where test es) (λ k. (call : OpenCall) × (call_on all k ≡ Some call) × (test call ≡ true))
where_found test all [] held = tt
where_found test all (e ∷ es) held = by (where_found test all es held.1) (test e.1) refl
  where
    by : IfSome (first_where test es) (λ k. (call : OpenCall) × (call_on all k ≡ Some call) × (test call ≡ true)) → (b : Bool) → test e.1 ≡ b →
        IfSome (cond b (Some e.0) (first_where test es)) (λ k. (call : OpenCall) × (call_on all k ≡ Some call) × (test call ≡ true))
    by others true passes = (e.1, held.0, passes)
    by others false fails = others

-- a walk that finds none passes every call
pub where_none : (test : OpenCall → Bool) (es : OpenCallsView) → first_where test es ≡ None → (id : ℕ) (call : OpenCall) →
    call_on es id ≡ Some call → test call ≡ false
where_none test [] none id call on = absurd cc
where_none test (e ∷ es) none id call on = by (λ others. where_none test es others id call) (test e.1) refl (is_at (nat_cmp id) e.0) refl
  where
    never : (k : ℕ) → Some k ≡ None → ⊥
    never k h = cc

    by : (first_where test es ≡ None → call_on es id ≡ Some call → test call ≡ false) → (b : Bool) → test e.1 ≡ b → (h : Bool) →
        is_at (nat_cmp id) e.0 ≡ h → test call ≡ false
    by behind true passes h at = absurd (never e.0 (sym (ap (λ (x : Bool). cond x (Some e.0) (first_where test es)) passes) ∙ none))
    by behind false fails true at =
        let there : Some e.1 ≡ Some call = sym (ap (λ (x : Bool). cond x (Some e.1) (call_on es id)) at) ∙ on in
        let same : e.1 ≡ call = cc there in
        subst (λ (c : OpenCall). test c ≡ false) same fails
    by behind false fails false at =
        behind (sym (ap (λ (x : Bool). cond x (Some e.0) (first_where test es)) fails) ∙ none)
        (sym (ap (λ (x : Bool). cond x (Some e.1) (call_on es id)) at) ∙ on)

-- the same of what is asked of a stream
pub none_there : (test : Option OpenCall → Bool) → test None ≡ false → (es : OpenCallsView) →
    first_where (λ call. test (Some call)) es ≡ None → (id : ℕ) → test (call_on es id) ≡ false
none_there test of_none es none id = by (call_on es id) refl
  where
    by : (found : Option OpenCall) → call_on es id ≡ found → test found ≡ false
    by None on = of_none
    by (Some call) on = where_none (λ c. test (Some c)) es none id call on

pub found_there : (test : Option OpenCall → Bool) (es : OpenCallsView) → All (λ e. call_on es e.0 ≡ Some e.1) es →
    IfSome (first_where (λ call. test (Some call)) es) (λ k. test (call_on es k) ≡ true)
found_there test es held =
    by (first_where (λ call. test (Some call)) es) (where_found (λ call. test (Some call)) es es (recursion_from_All (λ e. call_on es e.0 ≡ Some e.1) es held))
  where
    by : (found : Option ℕ) → IfSome found (λ k. (call : OpenCall) × (call_on es k ≡ Some call) × (test (Some call) ≡ true)) →
        IfSome found (λ k. test (call_on es k) ≡ true)
    by None h = tt
    by (Some k) h = ap test h.1 ∙ h.2

-- ---- the oldest session

-- The best so far is the session of the call on its stream.
abbrev pub IsHeldBest : OpenCallsView → Option (ℕ × ℕ) → Type 0
IsHeldBest all best = IfSome best (λ p. (b : Bool) × (session_in (call_on all p.0) ≡ Some (p.1, b)))

better_held : (all : OpenCallsView) (best : Option (ℕ × ℕ)) (p : ℕ × ℕ) → IsHeldBest all best → IsHeldBest all (Some p) → IsHeldBest all (lesser best p)
better_held all None p h one = one
better_held all (Some q) p h one = by (nat_lt p.1 q.1)
  where
    by : (b : Bool) → IsHeldBest all (Some (cond b p q))
    by true = one
    by false = h

step_held : (all : OpenCallsView) (best : Option (ℕ × ℕ)) (stream : ℕ) (call : OpenCall) → call_on all stream ≡ Some call → IsHeldBest all best →
    IsHeldBest all (oldest_behind best stream call)
step_held all best stream (opened.Modifies session is_finished) on h = better_held all best (stream, session) h (is_finished, ap session_in on)
step_held all best stream (opened.Receives method first is_more) on h = h
step_held all best stream (opened.Responds rows) on h = h

pub oldest_held : (all es : OpenCallsView) (best : Option (ℕ × ℕ)) → AreHeld all es → IsHeldBest all best → IsHeldBest all (oldest_of best es)
oldest_held all [] best held h = h
oldest_held all (e ∷ es) best held h = oldest_held all es (oldest_behind best e.0 e.1) held.1 (step_held all best e.0 e.1 held.0 h)

-- Some pair is there with a session that is no greater.
abbrev pub IsNoYounger : ℕ → Option (ℕ × ℕ) → Type 0
IsNoYounger session best = (p : ℕ × ℕ) × (best ≡ Some p) × (p.1 ≤ session)

lesser_old : (session : ℕ) (best : Option (ℕ × ℕ)) (p : ℕ × ℕ) → IsNoYounger session best → IsNoYounger session (lesser best p)
lesser_old session None p h = absurd (cc h.1)
lesser_old session (Some q) p h = by (nat_lt p.1 q.1) refl
  where
    same : q ≡ h.0
    same = cc h.1

    bound : q.1 ≤ session
    bound = subst (λ (x : ℕ × ℕ). x.1 ≤ session) (sym same) h.2

    by : (b : Bool) → nat_lt p.1 q.1 ≡ b → IsNoYounger session (Some (cond b p q))
    by true less = (p, refl, omega (arith, ltb-true p.1 q.1 less, bound))
    by false more = (q, refl, bound)

lesser_new : (best : Option (ℕ × ℕ)) (p : ℕ × ℕ) → IsNoYounger p.1 (lesser best p)
lesser_new None p = (p, refl, omega arith)
lesser_new (Some q) p = by (nat_lt p.1 q.1) refl
  where
    by : (b : Bool) → nat_lt p.1 q.1 ≡ b → IsNoYounger p.1 (Some (cond b p q))
    by true less = (p, refl, omega arith)
    by false more = (q, refl, ltb-false p.1 q.1 more)

step_old : (session : ℕ) (best : Option (ℕ × ℕ)) (stream : ℕ) (call : OpenCall) → IsNoYounger session best → IsNoYounger session (oldest_behind best stream call)
step_old session best stream (opened.Modifies other is_finished) h = lesser_old session best (stream, other) h
step_old session best stream (opened.Receives method first is_more) h = h
step_old session best stream (opened.Responds rows) h = h

still_old : (session : ℕ) (es : OpenCallsView) (best : Option (ℕ × ℕ)) → IsNoYounger session best → IsNoYounger session (oldest_of best es)
still_old session [] best h = h
still_old session (e ∷ es) best h = still_old session es (oldest_behind best e.0 e.1) (step_old session best e.0 e.1 h)

step_new : (session : ℕ) (fin : Bool) (best : Option (ℕ × ℕ)) (stream : ℕ) (call : OpenCall) → session_in (Some call) ≡ Some (session, fin) →
    IsNoYounger session (oldest_behind best stream call)
step_new session fin best stream (opened.Modifies other is_finished) e =
    let pair : (other, is_finished) ≡ (session, fin) = cc e in
    subst (λ (n : ℕ). IsNoYounger n (lesser best (stream, other))) (ap (λ (p : ℕ × Bool). p.0) pair) (lesser_new best (stream, other))
step_new session fin best stream (opened.Receives method first is_more) e = absurd (cc e)
step_new session fin best stream (opened.Responds rows) e = absurd (cc e)

-- no session is older than the oldest
pub oldest_least : (es : OpenCallsView) (best : Option (ℕ × ℕ)) (id session : ℕ) (fin : Bool) → session_in (call_on es id) ≡ Some (session, fin) →
    IsNoYounger session (oldest_of best es)
oldest_least [] best id session fin on = absurd (cc on)
oldest_least (e ∷ es) best id session fin on =
    by (oldest_least es (oldest_behind best e.0 e.1) id session fin) (is_at (nat_cmp id) e.0) refl
  where
    by : (session_in (call_on es id) ≡ Some (session, fin) → IsNoYounger session (oldest_of (oldest_behind best e.0 e.1) es)) →
        (h : Bool) → is_at (nat_cmp id) e.0 ≡ h → IsNoYounger session (oldest_of (oldest_behind best e.0 e.1) es)
    by behind true at =
        still_old session es (oldest_behind best e.0 e.1) (step_new session fin best e.0 e.1
        (sym (ap (λ (x : Bool). session_in (cond x (Some e.1) (call_on es id))) at) ∙ on))
    by behind false at =
        behind (sym (ap (λ (x : Bool). session_in (cond x (Some e.1) (call_on es id))) at) ∙ on)

-- what is found is a session, and no session is older
abbrev pub stream_of_pair : Option (ℕ × ℕ) → Option ℕ
stream_of_pair None = None
stream_of_pair (Some p) = Some p.0

pub oldest_is : (es : OpenCallsView) → All (λ e. call_on es e.0 ≡ Some e.1) es → IsHeldBest es (oldest_of None es)
oldest_is es held = oldest_held es es None (recursion_from_All (λ e. call_on es e.0 ≡ Some e.1) es held) tt

-- ---- the next session

-- the entries from a stream on
abbrev pub from_on : ℕ → OpenCallsView → OpenCallsView
from_on from es = entries_between nat_cmp (Included from) Unbounded es

within : (from id : ℕ) → from ≤ id → range_contains nat_cmp (Included from) Unbounded id ≡ true
within from id le = by (nat_cmp from id) (ranked from id (nat_cmp from id) refl)
  where
    by : (r : Ordering) → MatchOrdering r (from < id) (from ≡ id) (id < from) → (is_le r && true) ≡ true
    by Less h = refl
    by Equal h = refl
    by Greater h = absurd (omega (arith, le, h))

-- a call stands on a stream above all that are below the others
above : (stream : ℕ) (es : OpenCallsView) → AllByRecursion (λ y. nat_cmp stream y ≡ Less) (keys_of es) → (id : ℕ) → IsSome (call_on es id) → stream < id
above stream [] below id on = absurd cc
above stream (e ∷ es) below id on = by (above stream es below.1 id) (is_at (nat_cmp id) e.0) refl
  where
    by : (IsSome (call_on es id) → stream < id) → (h : Bool) → is_at (nat_cmp id) e.0 ≡ h → stream < id
    by behind true at = subst (λ (n : ℕ). stream < n) (sym (here id e.0 at)) (ranked stream e.0 Less (sym below.0))
    by behind false at = behind (sym (ap (λ (x : Bool). is_some (cond x (Some e.1) (call_on es id))) at) ∙ on)

session_there : (call : OpenCall) → is_session call ≡ is_some (session_in (Some call))
session_there (opened.Modifies session is_finished) = refl
session_there (opened.Receives method first is_more) = refl
session_there (opened.Responds rows) = refl

call_there : (o : Option OpenCall) → IsSome (session_in o) → IsSome o
call_there None h = h
call_there (Some call) h = refl

abbrev FoundUpTo : ℕ → OpenCallsView → Type 0
FoundUpTo id xs = (k : ℕ) × (first_where is_session xs ≡ Some k) × (k ≤ id)

-- the first one from a stream on is no later than any
pub next_least : (from : ℕ) (es : OpenCallsView) → IsStrictlySortedBy nat_cmp (keys_of es) → (id : ℕ) → from ≤ id → IsSome (session_in (call_on es id)) →
    (k : ℕ) × (first_where is_session (from_on from es) ≡ Some k) × (k ≤ id)
unfolding IsStrictlySortedBy
next_least from [] sorted id le on = absurd cc
next_least from (e ∷ es) sorted id le on = by (next_least from es sorted.1 id le) (is_at (nat_cmp id) e.0) refl
  where
    front : e.0 ≤ id → is_session e.1 ≡ true → FoundUpTo id (e ∷ from_on from es)
    front less passes = (e.0, ap (λ (b : Bool). cond b (Some e.0) (first_where is_session (from_on from es))) passes, less)

    one_more : e.0 ≤ id → FoundUpTo id (from_on from es) → (b : Bool) → is_session e.1 ≡ b → FoundUpTo id (e ∷ from_on from es)
    one_more less found true passes = front less passes
    one_more less found false fails =
        (found.0, ap (λ (b : Bool). cond b (Some e.0) (first_where is_session (from_on from es))) fails ∙ found.1, found.2)

    by_range : (b : Bool) → e.0 < id → FoundUpTo id (from_on from es) → FoundUpTo id (cond b (e ∷ from_on from es) (from_on from es))
    by_range true less found = one_more (omega (arith, less)) found (is_session e.1) refl
    by_range false less found = found

    by : (IsSome (session_in (call_on es id)) → FoundUpTo id (from_on from es)) → (h : Bool) → is_at (nat_cmp id) e.0 ≡ h →
        FoundUpTo id (cond (range_contains nat_cmp (Included from) Unbounded e.0) (e ∷ from_on from es) (from_on from es))
    by behind true at =
        let same = here id e.0 at in
        subst (λ (b : Bool). FoundUpTo id (cond b (e ∷ from_on from es) (from_on from es))) (sym (within from e.0 (subst (λ (n : ℕ). from ≤ n) same le)))
        (front (omega (arith, same)) (session_there e.1 ∙ (sym (ap (λ (x : Bool). is_some (session_in (cond x (Some e.1) (call_on es id)))) at) ∙ on)))
    by behind false at =
        let there : IsSome (session_in (call_on es id)) = sym (ap (λ (x : Bool). is_some (session_in (cond x (Some e.1) (call_on es id)))) at) ∙ on in
        by_range (range_contains nat_cmp (Included from) Unbounded e.0) (above e.0 es sorted.0 id (call_there (call_on es id) there)) (behind there)

next_each : (from : ℕ) (all es : OpenCallsView) → AllByRecursion (λ e. (from ≤ e.0) × (call_on all e.0 ≡ Some e.1)) es →
    IfSome (first_where is_session es) (λ k. (from ≤ k) × IsSome (session_in (call_on all k)))
next_each from all [] h = tt
next_each from all (e ∷ es) h = by (next_each from all es h.1) (is_session e.1) refl
  where
    by : IfSome (first_where is_session es) (λ k. (from ≤ k) × IsSome (session_in (call_on all k))) → (b : Bool) → is_session e.1 ≡ b →
        IfSome (cond b (Some e.0) (first_where is_session es)) (λ k. (from ≤ k) × IsSome (session_in (call_on all k)))
    by others true passes = (h.0.0, ap (λ (o : Option OpenCall). is_some (session_in o)) h.0.1 ∙ (sym (session_there e.1) ∙ passes))
    by others false fails = others

pub next_found : (from : ℕ) (all es : OpenCallsView) → All (λ e. (from ≤ e.0) × (call_on all e.0 ≡ Some e.1)) es →
    IfSome (first_where is_session es) (λ k. (from ≤ k) × IsSome (session_in (call_on all k)))
next_found from all es inside = next_each from all es (recursion_from_All (λ e. (from ≤ e.0) × (call_on all e.0 ≡ Some e.1)) es inside)

-- ---- what is answered of all calls

module _ (es now : OpenCallsView) (same : es ≡ now) where
  pub asked_found : (test : Option OpenCall → Bool) (r : Option ℕ) → r ≡ first_where (λ call. test (Some call)) es →
      All (λ e. call_on es e.0 ≡ Some e.1) es → IfSome r (λ k. test (call_on now k) ≡ true)
  asked_found test r first held =
      subst (λ (l : OpenCallsView). IfSome r (λ k. test (call_on l k) ≡ true)) same
      (subst (λ (o : Option ℕ). IfSome o (λ k. test (call_on es k) ≡ true)) (sym first) (found_there test es held))

  pub asked_none : (test : Option OpenCall → Bool) → test None ≡ false → (r : Option ℕ) → r ≡ first_where (λ call. test (Some call)) es →
      IfNone r ((id : ℕ) → test (call_on now id) ≡ false)
  asked_none test of_none None first = λ id.
      subst (λ (l : OpenCallsView). test (call_on l id) ≡ false) same (none_there test of_none es (sym first) id)
  asked_none test of_none (Some k) first = tt

  pub next_within : (from : ℕ) (r : Option ℕ) → r ≡ first_where is_session (from_on from es) →
      All (λ e. (from ≤ e.0) × (call_on es e.0 ≡ Some e.1)) (from_on from es) →
      IfSome r (λ k. (from ≤ k) × IsSome (session_in (call_on now k)))
  next_within from r first held =
      subst (λ (l : OpenCallsView). IfSome r (λ k. (from ≤ k) × IsSome (session_in (call_on l k)))) same
      (subst (λ (o : Option ℕ). IfSome o (λ k. (from ≤ k) × IsSome (session_in (call_on es k)))) (sym first) (next_found from es (from_on from es) held))

  pub next_is_first : (from : ℕ) (r : Option ℕ) → r ≡ first_where is_session (from_on from es) → IsStrictlySortedBy nat_cmp (keys_of es) →
      (id : ℕ) → from ≤ id → IsSome (session_in (call_on now id)) → (k : ℕ) × (r ≡ Some k) × (k ≤ id)
  next_is_first from r first sorted id le on =
      let found = next_least from es sorted id le (subst (λ (l : OpenCallsView). IsSome (session_in (call_on l id))) (sym same) on) in
      (found.0, first ∙ found.1, found.2)

  pub oldest_found : (pair : ℕ × ℕ) → Some pair ≡ oldest_of None es → All (λ e. call_on es e.0 ≡ Some e.1) es →
      IsSome (session_in (call_on now pair.0))
  oldest_found pair first held =
      let h : IsHeldBest es (Some pair) = subst (IsHeldBest es) (sym first) (oldest_is es held) in
      subst (λ (l : OpenCallsView). IsSome (session_in (call_on l pair.0))) same (ap is_some h.1)

  pub oldest_is_least : (r : Option (ℕ × ℕ)) → r ≡ oldest_of None es → All (λ e. call_on es e.0 ≡ Some e.1) es →
      (id session : ℕ) (fin : Bool) → session_in (call_on now id) ≡ Some (session, fin) →
      (k n : ℕ) × (b : Bool) × (stream_of_pair r ≡ Some k) × (session_in (call_on now k) ≡ Some (n, b)) × (n ≤ session)
  oldest_is_least r first held id session fin on =
      let least : IsNoYounger session (oldest_of None es) =
      oldest_least es None id session fin (subst (λ (l : OpenCallsView). session_in (call_on l id) ≡ Some (session, fin)) (sym same) on) in
      let p : ℕ × ℕ = least.0 in
      let h : IsHeldBest es (Some p) = subst (IsHeldBest es) least.1 (oldest_is es held) in
      (p.0, p.1, h.0, ap stream_of_pair (first ∙ least.1), subst (λ (l : OpenCallsView). session_in (call_on l p.0) ≡ Some (p.1, h.0)) same h.1, least.2)

-- whether one was found
pub some_found : (P : ℕ → Type 0) (r : Option ℕ) (b : Bool) → b ≡ is_some r → IfSome r P → b ≡ true → (k : ℕ) × P k
some_found P None b is h yes_found = absurd (cc (sym is ∙ yes_found))
some_found P (Some k) b is h yes_found = (k, h)

pub none_found : (Q : Type 0) (r : Option ℕ) (b : Bool) → b ≡ is_some r → IfNone r Q → b ≡ false → Q
none_found Q None b is h not_found = h
none_found Q (Some k) b is h not_found = absurd (cc (sym is ∙ not_found))
