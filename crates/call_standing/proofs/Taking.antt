-- Whether more may be taken for a stream.
use Rattle.std.proofs.Common.{◌≡◌, ℕ, Bool, true, false, ◌&&◌, List, Option, Some, None, refl, sym, ap, subst, ◌∙◌, inl, inr}
use Rattle.std.specs.Prelude.{is_some, not}
use Rattle.h2_exchange.specs.declared.role.Role.{Role}
use Rattle.h2_exchange.specs.declared.role.Role.TheVariants.{Client, Server}
use Rattle.h2_exchange.specs.Exchange.{sent}
use Rattle.h2_exchange.specs.Streams.{is_begun, is_ended_by, is_open, is_over}
use Rattle.http_connection.specs.ConnectionTrace.{ConnectionTrace, Refusal, is_alive}
use Rattle.grpc_stream.specs.CallTrace.{CallTrace, is_ended, is_taking, is_told_of}
use Rattle.kept_calls.specs.CallState.{CallState, call_on, ended}
use Rattle.call_hearing.specs.declared.pending.Pending.{Pending}
use Rattle.call_standing.specs.declared.fate.Fate.{Fate}
use Rattle.call_standing.specs.declared.fate.Fate.TheVariants.{Going, Refused, Starved, Dead}
use Rattle.call_standing.specs.Standing.{IsGoing, IsUnkept, StandsFor, StandsOn, State, bare}

closed : (a b c d : Bool) → b ≡ false → (a && b && c && d) ≡ false
closed true b c d e = ap (λ (x : Bool). x && c && d) e
closed false b c d e = refl

untold : (a b c d : Bool) → c ≡ false → (a && b && c && d) ≡ false
untold true true c d e = ap (λ (x : Bool). x && d) e
untold true false c d e = refl
untold false b c d e = refl

over : (a b c d : Bool) → d ≡ false → (a && b && c && d) ≡ false
over true true true d e = e
over true true false d e = refl
over true false c d e = refl
over false b c d e = refl

all_four : (a b c d : Bool) → a ≡ true → b ≡ true → c ≡ true → d ≡ true → (a && b && c && d) ≡ true
all_four a b c d p q r s = rw (p, q, r, s) refl

unbegun : (a b c : Bool) → a ≡ false → ((a && b) && c) ≡ false
unbegun true b c e = absurd cc
unbegun false b c e = refl

ended_all : (a b c : Bool) → b ≡ true → ((a && not b) && c) ≡ false
ended_all true true c e = refl
ended_all false b c e = refl
ended_all a false c e = absurd cc

module _ (t : CallTrace) (id : ℕ) where
  unkept : (role : Role) → t.connection_trace.role ≡ role → IsUnkept role (bare t) id → is_taking t id ≡ false
  unkept Server e h =
      untold (is_alive t.connection_trace) (is_open t.connection_trace.role t.connection_trace.frames id) (is_told_of t.connection_trace.role t.reported id) (not (is_ended t id))
      (ap (λ (r : Role). is_told_of r t.reported id) e ∙ h.untold)
  unkept Client e h =
      closed (is_alive t.connection_trace) (is_open t.connection_trace.role t.connection_trace.frames id) (is_told_of t.connection_trace.role t.reported id) (not (is_ended t id))
      (unbegun (is_begun t.connection_trace.role t.connection_trace.frames id) (not (is_over t.connection_trace.frames id)) (not (is_ended_by (sent t.connection_trace.frames) id))
      (ap (λ (r : Role). is_begun r t.connection_trace.frames id) e ∙ h.unbegun))

  none_taken : (pending : Pending) → StandsOn (bare t) pending id None → is_taking t id ≡ false
  none_taken pending (inl h) = unkept t.connection_trace.role refl h
  none_taken pending (inr h) =
      closed (is_alive t.connection_trace) (is_open t.connection_trace.role t.connection_trace.frames id) (is_told_of t.connection_trace.role t.reported id) (not (is_ended t id))
      (ended_all (is_begun t.connection_trace.role t.connection_trace.frames id) (is_over t.connection_trace.frames id) (not (is_ended_by (sent t.connection_trace.frames) id)) h.over)

  ended_taken : (pending : Pending) (c : CallState) → ended c.ending ≡ true → StandsOn (bare t) pending id (Some c) → is_taking t id ≡ false
  ended_taken pending c e (on, begun, h) =
      let is : is_ended t id ≡ true = subst (λ (k : ℕ). is_ended t k ≡ ended c.ending) on h.sends.ended_is ∙ e in
      over (is_alive t.connection_trace) (is_open t.connection_trace.role t.connection_trace.frames id) (is_told_of t.connection_trace.role t.reported id) (not (is_ended t id)) (ap not is)

  some_taken : (pending : Pending) (c : CallState) → t.connection_trace.refusal ≡ None → is_open t.connection_trace.role t.connection_trace.frames id ≡ true → ended c.ending ≡ false →
      StandsOn (bare t) pending id (Some c) → is_taking t id ≡ true
  some_taken pending c alive opened e (on, begun, h) =
      let is : is_ended t id ≡ false = subst (λ (k : ℕ). is_ended t k ≡ ended c.ending) on h.sends.ended_is ∙ e in
      let told : is_told_of t.connection_trace.role t.reported id ≡ true = subst (λ (k : ℕ). is_told_of t.connection_trace.role t.reported k ≡ true) on (h.told e) in
      all_four (is_alive t.connection_trace) (is_open t.connection_trace.role t.connection_trace.frames id) (is_told_of t.connection_trace.role t.reported id) (not (is_ended t id))
      (ap (λ (o : Option Refusal). not (is_some o)) alive) opened told (ap not is)

module _ {C : Type 0} (stands : C → ConnectionTrace → Type 0) (output : C → List ℕ) (conn : C) (s : State) where
  pub going : (fate : Fate) (t : CallTrace) → fate ≡ Going → StandsFor stands output fate conn s t → IsGoing stands output conn s t
  going Going t e h = h
  going Refused t e h = absurd cc
  going (Starved shown waiting) t e h = absurd cc
  going (Dead shown) t e h = absurd cc

  module _ (fate : Fate) (t : CallTrace) (e : fate ≡ Going) (h : StandsFor stands output fate conn s t) (id : ℕ) where
    stood : (o : Option CallState) → call_on id s.calls ≡ o → StandsOn (bare t) s.pending id o
    stood o is = subst (StandsOn (bare t) s.pending id) is ((going fate t e h).holds.each id)

    pub no_call : call_on id s.calls ≡ None → is_taking t id ≡ false
    no_call is = none_taken t id s.pending (stood None is)

    pub ended_call : (c : CallState) → call_on id s.calls ≡ Some c → true ≡ ended c.ending → is_taking t id ≡ false
    ended_call c is ends = ended_taken t id s.pending c (sym ends) (stood (Some c) is)

    pub open_call : (c : CallState) → call_on id s.calls ≡ Some c → false ≡ ended c.ending → (answer : Bool) →
        ((k : ConnectionTrace) → stands conn k → k.refusal ≡ None → answer ≡ is_open k.role k.frames id) → answer ≡ true → is_taking t id ≡ true
    open_call c is ends answer opens yes_open =
        let g = going fate t e h in
        some_taken t id s.pending c g.alive (sym (opens t.connection_trace g.connected g.alive) ∙ yes_open) (sym ends) (stood (Some c) is)
