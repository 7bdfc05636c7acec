-- What a connection sends as it gives events, and up to a refusal, may be sent, and ends no stream.
use Rattle.std.proofs.Common.{◌≡◌, ◌⊎◌, inl, inr, ℕ, List, [], ◌++◌, None, Some, refl, sym, ap, subst, ◌∙◌}
use Rattle.h2_exchange.specs.Exchange.{sent}
use Rattle.h2_exchange.specs.Stops.{Stop}
use Rattle.h2_exchange.specs.Streams.{is_ended_by}
use Rattle.http_connection.specs.Answers as conn
use Rattle.http_connection.specs.ConnectionTrace.{ConnectionTrace, IsSound, NoMemory}
use Rattle.http_connection.specs.Laws.{SendsIn}
use Rattle.grpc_stream.specs.CallTrace.{CallTrace}
use Rattle.grpc_stream.specs.NextEvent.{GivesCallEvent, GoesOn, NeedsMore, RunsOutOfMemory, Stops, goes, stays}
use Rattle.grpc_stream.proofs.Refused.{events_send, out_of_memory_sends, refusals_send}
use Rattle.server_turns.specs.Serving.{none_asked}
use Rattle.server_account.specs.Agreeing.{MayBeRest}
use Rattle.server_account.proofs.Replies.{replies_end_none}

abbrev pub Sends : List ℕ → ConnectionTrace → Type 0
Sends rest c = SendsIn none_asked rest c

-- it is sound there, and what it sent may be sent
pub record Stood (rest : List ℕ) (c : ConnectionTrace) : Type 0 where
  pub output : List ℕ
  pub sound : IsSound c output
  pub sends : Sends rest c

pub stood_on : (rest : List ℕ) (c e : ConnectionTrace) → GoesOn c e → Stood rest c → Stood rest e
stood_on rest c e (stays _) h = h
stood_on rest c e (goes _ d _ es later now sound more) h =
    stood_on rest d e more (record { output = later; sound = sound; sends = events_send none_asked rest c d es h.output later h.sound sound now h.sends })

module _ (t u : CallTrace) (output later : List ℕ) (sound : IsSound t.connection_trace output) (sends : (rest : List ℕ) → t.connection_trace.refusal ≡ None → Sends rest t.connection_trace) (then : IsSound u.connection_trace later) where
  stood : (c : ConnectionTrace) → t.connection_trace.refusal ≡ None → GoesOn t.connection_trace c → (rest : List ℕ) → Stood rest c
  stood c alive goes_on rest = stood_on rest t.connection_trace c goes_on (record { output = output; sound = sound; sends = sends rest alive })

  pub event_sends : {event : _} → GivesCallEvent t event u → (rest : List ℕ) → Sends rest u.connection_trace
  event_sends gives rest = (stood u.connection_trace gives.tells.alive gives.tells.goes_on rest).sends

  pub needs_sends : NeedsMore t u → (rest : List ℕ) → Sends rest u.connection_trace
  needs_sends needs rest =
      let at : Stood rest needs.before = stood needs.before needs.tells.alive needs.tells.goes_on rest in
      events_send none_asked rest needs.before u.connection_trace [] at.output later at.sound then needs.waits.goes at.sends

  pub stops_sends : (stop : Stop) → Stops t stop u → (rest : List ℕ) → MayBeRest u.connection_trace rest → Sends rest u.connection_trace
  stops_sends stop stops rest may =
      let at : Stood rest stops.before = stood stops.before stops.tells.alive stops.tells.goes_on rest in
      refusals_send none_asked rest stops.before u.connection_trace stop at.output later at.sound then stops.stops (may stop (ap (λ (c : ConnectionTrace). c.refusal) stops.stops.ends)) at.sends

  pub starves_sends : RunsOutOfMemory t u → (rest : List ℕ) → Sends rest u.connection_trace
  starves_sends out rest = by out.out
    where
      at : Stood rest out.before
      at = stood out.before out.tells.alive out.tells.goes_on rest

      by : conn.RunsOutOfMemory out.before u.connection_trace ⊎ (u.connection_trace ≡ record out.before { refusal = Some NoMemory }) → Sends rest u.connection_trace
      by (inl h) = out_of_memory_sends none_asked rest out.before u.connection_trace at.output later at.sound then h at.sends
      by (inr same) = subst (Sends rest) (sym same) at.sends

-- ---- streams

pub going_ends_none : (id : ℕ) (c e : ConnectionTrace) → GoesOn c e → is_ended_by (sent e.frames) id ≡ is_ended_by (sent c.frames) id
going_ends_none id c e (stays _) = refl
going_ends_none id c e (goes _ d _ es later now sound more) =
    going_ends_none id d e more ∙ ap (λ (x : ConnectionTrace). is_ended_by (sent x.frames) id) now.goes_on
    ∙ replies_end_none id c.role c.limits c.is_holding (c.heads ++ now.outcomes) c.frames now.more now.receives
