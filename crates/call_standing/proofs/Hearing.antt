-- A refusal that the connection repeats.
use Rattle.std.proofs.Common.{◌≡◌, ◌⊎◌, inl, inr, ℕ, true, false, List, [], ◌∷◌, Option, None, refl, sym, ap, subst, ◌∙◌}
use Rattle.std.specs.Prelude.{not, is_some}
use Rattle.h2_exchange.specs.Stops.{Stop}
use Rattle.http_connection.specs.Answers as conn
use Rattle.http_connection.specs.ConnectionTrace.{ConnectionTrace, NoMemory, Refusal, Stopped}
use Rattle.grpc_stream.specs.declared.event.CallEvent.{CallEvent}
use Rattle.grpc_stream.specs.CallTrace.{CallTrace}
use Rattle.grpc_stream.specs.NextEvent.{NextEvent, RepeatsRefusal}
use Rattle.call_standing.specs.declared.fate.Fate.{Fate}
use Rattle.call_standing.specs.declared.fate.Fate.TheVariants.{Going, Refused, Starved, Dead}
use Rattle.call_standing.specs.Standing.{IsRefused, StandsFor, State}

module _ {C : Type 0} (stands : C → ConnectionTrace → Type 0) (output : C → List ℕ) where
  refused_of : (fate : Fate) (old : C) (s : State) (t : CallTrace) → fate ≡ Refused → StandsFor stands output fate old s t → IsRefused stands output old t
  refused_of Refused old s t e h = h
  refused_of Going old s t e h = absurd cc
  refused_of (Starved shown waiting) old s t e h = absurd cc
  refused_of (Dead shown) old s t e h = absurd cc

  module _ (old new : C) (fate : Fate) (s : State) (t : CallTrace) (e : fate ≡ Refused) (h : StandsFor stands output fate old s t) where
    abbrev Again : CallEvent → Type 0
    Again event = (u : CallTrace) × StandsFor stands output fate new s u × NextEvent t event u

    pub connected_still : stands old t.connection_trace
    connected_still = (refused_of fate old s t e h).connected

    pub not_alive : t.connection_trace.refusal ≡ None → ⊥
    not_alive none =
        let wrong : true ≡ false = sym (ap (λ (o : Option Refusal). not (is_some o)) none) ∙ (refused_of fate old s t e h).refused in
        absurd cc

    again : (event : CallEvent) (why : Refusal) (d : ConnectionTrace) → stands new d → conn.RepeatsRefusal t.connection_trace why d → (RepeatsRefusal t why t → NextEvent t event t) → Again event
    again event why d connected r wrap =
        let was = refused_of fate old s t e h in (
          t,
          subst (λ (f : Fate). StandsFor stands output f new s t) (sym e) (record { connected = subst (stands new) r.1 connected; refused = was.refused; rest = was.rest }),
          wrap (r.0, refl),
        )

    pub stop_again : (event : CallEvent) (stop : Stop) → ((d : ConnectionTrace) × stands new d × (conn.RepeatsRefusal t.connection_trace (Stopped stop) d ⊎ conn.Stops t.connection_trace stop d)) →
        (RepeatsRefusal t (Stopped stop) t → NextEvent t event t) → Again event
    stop_again event stop (d, connected, inl r) wrap = again event (Stopped stop) d connected r wrap
    stop_again event stop (d, connected, inr stops) wrap = absurd (not_alive stops.goes.alive)

    pub memory_again : (event : CallEvent) → ((d : ConnectionTrace) × stands new d × (conn.RepeatsRefusal t.connection_trace NoMemory d ⊎ conn.RunsOutOfMemory t.connection_trace d)) →
        (RepeatsRefusal t NoMemory t → NextEvent t event t) → Again event
    memory_again event (d, connected, inl r) wrap = again event NoMemory d connected r wrap
    memory_again event (d, connected, inr out) wrap = absurd (not_alive out.alive)

    pub never_again : (event : CallEvent) → t.connection_trace.refusal ≡ None → Again event
    never_again event alive = absurd (not_alive alive)
