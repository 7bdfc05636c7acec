-- What a refusal of a call comes to at a server: it is shown as a drop where the call had begun, and else not at all.
use Rattle.std.proofs.Common.{◌≡◌, ◌⊎◌, ℕ, ◌==◌, ◌≤◌, Bool, true, false, List, [], ◌∷◌, ◌++◌, sum_by, Some, None, Err, refl, ap, subst, ◌∙◌}
use Rattle.std.specs.List.{flat_map, list_any}
use Rattle.std.proofs.lemmas.List.{append-nil}
use Rattle.grpc_framing.specs.CutterState.{CutterState}
use Rattle.grpc_framing.specs.NextMessage.{NextMessage}
use Rattle.grpc_framing.specs.declared.cutter.Cut.TheVariants as answer
use Rattle.grpc_heads.specs.CallEnd.{CallEnd, compressed, method_by, too_long, truncated}
use Rattle.grpc_heads.specs.Heads.{head_of}
use Rattle.hpack_tables.specs.declared.field.Field.{Field}
use Rattle.hpack_tables.specs.EntrySizes.{size_of}
use Rattle.h2_exchange.specs.declared.role.Role.{Role}
use Rattle.h2_exchange.specs.declared.role.Role.TheVariants.{Server}
use Rattle.h2_exchange.specs.Calls.{Declined, Dropped, is_begun_call}
use Rattle.h2_exchange.specs.Events.{Ended, Head}
use Rattle.http_connection.specs.ConnectionTrace.{ConnectionTrace, IsSound}
use Rattle.grpc_stream.specs.declared.event.CallEvent.TheVariants as says
use Rattle.grpc_stream.specs.CallTrace.{CallTrace, PeerEvent, Asked}
use Rattle.grpc_stream.specs.NextEvent as next
use Rattle.grpc_stream.specs.NextEvent.{GoesOn, asked_of, shown_events_of}
use Rattle.kept_calls.specs.declared.call.Ending.{Ending}
use Rattle.kept_calls.specs.declared.call.Receiving.TheVariants as was
use Rattle.kept_calls.specs.CallState.{CallState, began, closed_by, ended, is_sent, refused_by}
use Rattle.call_hearing.specs.declared.pending.Pending.{Pending}
use Rattle.call_hearing.specs.declared.pending.Pending.TheVariants.{Nothing, Cut}
use Rattle.call_hearing.specs.Listening.{Hears}
use Rattle.call_standing.specs.declared.fate.Fate.{Fate}
use Rattle.call_standing.specs.declared.fate.Fate.TheVariants.{Going}
use Rattle.call_standing.specs.Standing.{Holds, IsGoing, StandsFor, StandsOn, State, bare}
use Rattle.call_standing.proofs.Found.{IsChanged}
use Rattle.call_standing.proofs.Quiet.{gave}
use Rattle.call_standing.proofs.Rest.{rest_of}
use Rattle.call_standing.proofs.Told.{going_of, stands_of}
use Rattle.call_telling.specs.Giving.{HasGiven, told_more, untaken}
use Rattle.call_telling.proofs.Arms.{Comes, state_at}
use Rattle.call_telling.proofs.Declines.{compressed_refused, refused_head_hidden, refused_head_holds, shown_as_drop, too_long_refused, truncated_holds}
use Rattle.call_telling.proofs.Finished.{IsReady, declined_taken}
use Rattle.call_telling.proofs.Given.{comes_in, further, going_so, split_is}
use Rattle.call_telling.proofs.TakesIn.{with_peer}

-- the call was shown as begun
begun_shown : (role : Role) (t : CallTrace) (pending : Pending) (c : CallState) → role ≡ Server → Hears role t.connection_trace.given t.reported pending c was.Open →
    list_any (is_begun_call c.stream) (flat_map asked_of t.reported) ≡ true
begun_shown Server t pending c e h = h.shown
begun_shown other t pending c e h = absurd cc

module _ (t : CallTrace) (d : ConnectionTrace) (id : ℕ) (close : CallEnd) (alive : t.connection_trace.refusal ≡ None) (goes_on : GoesOn t.connection_trace d) where
  -- the refusal was told and is answered by its end
  abbrev pub declined_at : CallTrace
  declined_at = record t { connection_trace = d; reported = t.reported ++ Asked (Declined id close) ∷ []; taken = declined_taken t id close }

  reports : next.ReportsPeerEvents t (Asked (Declined id close) ∷ []) d declined_at
  reports = record {
    alive = alive;
    goes_on = goes_on;
    takes = next.one (record t { connection_trace = d }) declined_at (Asked (Declined id close)) [] (next.none declined_at);
  }

  pub shows_drop : list_any (is_begun_call id) (flat_map asked_of t.reported) ≡ true → next.GivesCallEvent t (says.Dropped id) declined_at
  shows_drop begun = record {
    hidden = [];
    last = Asked (Declined id close);
    shown = Asked (Dropped id);
    quiet = refl;
    visible = ap (λ (l : List PeerEvent). shown_events_of l (Asked (Declined id close))) (append-nil t.reported) ∙ shown_as_drop t.reported id close begun;
    tells = reports;
    event_is = refl;
  }

module _ {C : Type 0} (stands : C → ConnectionTrace → Type 0) (output : C → List ℕ) (law : (conn : C) (c : ConnectionTrace) → stands conn c → IsSound c (output conn)) (conn : C)
    (fate : Fate) (going : fate ≡ Going) (s : State) (t : CallTrace) (server : s.role ≡ Server) (ending : Ending) (ends : ended ending ≡ true) (unsent : is_sent ending ≡ false) where
  -- ---- an end inside a message

  module _ (fields : List Field) (fits : sum_by size_of fields ≤ 65536) where
    pub truncated_base : s.pending ≡ Nothing → (c : CallState) (cs : List CallState) → c.receiving ≡ was.Open → (c.cutter.held ≡ [] → ⊥) → IsChanged c.stream c (refused_by ending fields c) s.calls cs →
        (g : HasGiven stands conn s t (Ended c.stream)) → IsReady (bare (untaken t g.at)) c truncated ending fields → Comes stands output law conn fate (state_at s.role Nothing cs) t (Some (says.Dropped c.stream))
    truncated_base quiet c cs opened some is g ready =
        let stood : StandsOn (bare (untaken t g.at)) s.pending c.stream (Some c) = subst (StandsOn (bare (untaken t g.at)) s.pending c.stream) is.was (g.holds.each c.stream) in
        let shown = begun_shown g.at.role (bare (untaken t g.at)) s.pending c (g.holds.role_is ∙ server) (subst (Hears g.at.role t.connection_trace.given t.reported s.pending c) opened stood.2.hears) in
        let holds = truncated_holds (bare (untaken t g.at)) s cs c ending fields (further stands output law conn s t (Ended c.stream) g) (g.holds.role_is ∙ server)
        (split_is stands output law conn s t (Ended c.stream) g) quiet opened some ends unsent fits is ready g.holds in (
          declined_at t g.at c.stream truncated g.alive (gave t.connection_trace g.at (Ended c.stream ∷ []) (output conn) g.gives (law conn g.at g.connected)),
          stands_of stands output fate conn (state_at s.role Nothing cs) (declined_at t g.at c.stream truncated g.alive (gave t.connection_trace g.at (Ended c.stream ∷ []) (output conn) g.gives (law conn g.at g.connected))) going
              (going_so stands output law conn s t (Ended c.stream) g (state_at s.role Nothing cs) (Asked (Declined c.stream truncated) ∷ []) (declined_taken t c.stream truncated) holds),
          shows_drop t g.at c.stream truncated g.alive (gave t.connection_trace g.at (Ended c.stream ∷ []) (output conn) g.gives (law conn g.at g.connected)) shown,
        )

    -- ---- bytes that are no message

    module _ (c : CallState) (new : CutterState) (cs : List CallState) (pending : s.pending ≡ Cut c.stream) (opened : c.receiving ≡ was.Open)
        (is : IsChanged c.stream c (refused_by ending fields (with_peer c.receiving new c)) s.calls cs) (h : StandsFor stands output fate conn s t) where
      was_going : IsGoing stands output conn s t
      was_going = going_of stands output fate conn s t going h

      refused_so : (close : CallEnd) → Holds (state_at s.role Nothing cs) (told_more (bare t) (Asked (Declined c.stream close) ∷ []) (declined_taken (bare t) c.stream close)) →
          Comes stands output law conn fate (state_at s.role Nothing cs) t (Some (says.Dropped c.stream))
      refused_so close k =
          let stood : StandsOn (bare t) s.pending c.stream (Some c) = subst (StandsOn (bare t) s.pending c.stream) is.was (was_going.holds.each c.stream) in
          let shown = begun_shown t.connection_trace.role (bare t) s.pending c (was_going.holds.role_is ∙ server)
          (subst (Hears t.connection_trace.role t.connection_trace.given t.reported s.pending c) opened stood.2.hears) in (
            declined_at t t.connection_trace c.stream close was_going.alive (next.stays t.connection_trace),
            stands_of stands output fate conn (state_at s.role Nothing cs) (declined_at t t.connection_trace c.stream close was_going.alive (next.stays t.connection_trace)) going (record {
              connected = was_going.connected;
              alive = was_going.alive;
              holds = k;
              rest = rest_of (state_at s.role Nothing cs) (bare (declined_at t t.connection_trace c.stream close was_going.alive (next.stays t.connection_trace))) (law conn t.connection_trace was_going.connected).given k;
            }),
            shows_drop t t.connection_trace c.stream close was_going.alive (next.stays t.connection_trace) shown,
          )

      pub compressed_base : IsReady (bare t) c compressed ending fields → NextMessage c.cutter answer.Compressed new → Comes stands output law conn fate (state_at s.role Nothing cs) t (Some (says.Dropped c.stream))
      compressed_base ready next =
          refused_so compressed (compressed_refused (bare t) s cs c new ending fields (was_going.holds.role_is ∙ server) pending opened ends unsent fits is was_going.holds ready next)

      pub too_long_base : IsReady (bare t) c too_long ending fields → NextMessage c.cutter answer.TooLong new → Comes stands output law conn fate (state_at s.role Nothing cs) t (Some (says.Dropped c.stream))
      too_long_base ready next =
          refused_so too_long (too_long_refused (bare t) s cs c new ending fields (was_going.holds.role_is ∙ server) pending opened ends unsent fits is was_going.holds ready next)

  -- ---- a head that is refused

  pub refused_head_arm : s.pending ≡ Nothing → (id : ℕ) (fields block : List Field) (last : Bool) (close : CallEnd) → sum_by size_of block ≤ 65536 → method_by (head_of fields) ≡ Err close →
      (g : HasGiven stands conn s t (Head id fields last)) → IsReady (bare (untaken t g.at)) (began id was.Closed false) close ending block →
      Comes stands output law conn fate (state_at s.role Nothing (s.calls ++ closed_by ending block (began id was.Closed false) ∷ [])) t None
  refused_head_arm quiet id fields block last close fits is g ready =
      let f = further stands output law conn s t (Head id fields last) g in
      let split = split_is stands output law conn s t (Head id fields last) g in
      let comes = comes_in stands output law conn s t (Head id fields last) g in
      let on = gave t.connection_trace g.at (Head id fields last ∷ []) (output conn) g.gives (law conn g.at g.connected) in
      let holds = refused_head_holds (bare (untaken t g.at)) s id fields last f (g.holds.role_is ∙ server) split comes quiet g.holds close is ending block ends unsent fits ready in (
        declined_at t g.at id close g.alive on,
        stands_of stands output fate conn (state_at s.role Nothing (s.calls ++ closed_by ending block (began id was.Closed false) ∷ [])) (declined_at t g.at id close g.alive on) going
            (going_so stands output law conn s t (Head id fields last) g (state_at s.role Nothing (s.calls ++ closed_by ending block (began id was.Closed false) ∷ [])) (Asked (Declined id close) ∷ []) (declined_taken t id close) holds),
        record {
          hidden = Asked (Declined id close) ∷ [];
          quiet = refused_head_hidden (bare (untaken t g.at)) s id fields last f (g.holds.role_is ∙ server) split comes quiet g.holds close is ending block ends unsent fits ready;
          tells = reports t g.at id close g.alive on;
        },
      )
