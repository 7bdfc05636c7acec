-- What rounds of turns leave of all calls.
use Rattle.std.proofs.Common.{◌≡◌, ℕ, Bool, true, false, List, [], ◌∷◌, ◌++◌, map, refl, sym, ap, subst, ◌∙◌, append_assoc}
use Rattle.std.specs.Prelude.{if◌then◌else◌}
use Rattle.std.proofs.lemmas.Bool.{false≢true}
use Rattle.std.proofs.lemmas.List.{append-nil, map-append}
use Rattle.hpack_tables.specs.declared.field.Field.{Field}
use Rattle.h2_frames.specs.declared.frame.Frame.{Frame}
use Rattle.h2_exchange.specs.declared.role.Role.{Role}
use Rattle.h2_exchange.specs.Exchange.{Step, Sent}
use Rattle.h2_exchange.specs.Streams.{is_begun}
use Rattle.http_connection.specs.ConnectionTrace.{ConnectionTrace, wrote}
use Rattle.grpc_stream.specs.CallTrace.{CallTrace}
use Rattle.grpc_stream.specs.Sends.{AreCarried}
use Rattle.kept_calls.specs.CallState.{CallState}
use Rattle.call_hearing.specs.declared.pending.Pending.{Pending}
use Rattle.call_sending.specs.Moves.{IsDone, Turned}
use Rattle.call_sending.specs.Pumping as pump
use Rattle.call_sending.specs.Pumping.{PumpsCall, PumpsCalls, PumpsRound}
use Rattle.call_sending.specs.Spelling.{Sends}
use Rattle.call_sending.proofs.Done.{done_kept, turn_done}
use Rattle.call_sending.proofs.Moved.{carried_more}
use Rattle.call_sending.proofs.Turned.{ReadyIn, at_behind, call_turn, nothing, ready_behind, sends_behind}
use Rattle.call_sending.proofs.Turning.{wrote_more}
use Rattle.call_standing.specs.Standing.{Holds, State}
use Rattle.call_standing.proofs.Went.{sends_of, turned_holds}

-- frames are carried on open streams, and begin none
pub record Goes (c d : ConnectionTrace) : Type 0 where
  pub fs : List Frame
  pub lists : List (List Field)
  pub goes_on : d ≡ wrote fs lists c
  pub carried : AreCarried c.role c.frames fs
  pub begun_is : (k : ℕ) → is_begun c.role (c.frames ++ map Sent fs) k ≡ is_begun c.role c.frames k

pub goes_none : (c : ConnectionTrace) → Goes c c
goes_none c = record { fs = []; lists = []; goes_on = nothing c; carried = tt; begun_is = λ k. ap (λ (y : List Step). is_begun c.role y k) (append-nil c.frames) }

turn_goes : (t : CallTrace) (old new : CallState) (d : ConnectionTrace) → Turned t old new d → Goes t.connection_trace d
turn_goes t old new d p = record { fs = p.fs; lists = p.lists; goes_on = p.goes_on; carried = p.moves.carried; begun_is = p.moves.begun_is }

pub goes_more : (c d e : ConnectionTrace) → Goes c d → Goes d e → Goes c e
goes_more c d e p q0 =
    let q : Goes (wrote p.fs p.lists c) e = subst (λ (k : ConnectionTrace). Goes k e) p.goes_on q0 in
    let steps : (c.frames ++ map Sent p.fs) ++ map Sent q.fs ≡ c.frames ++ map Sent (p.fs ++ q.fs) =
    append_assoc c.frames (map Sent p.fs) (map Sent q.fs) ∙ ap (λ (y : List Step). c.frames ++ y) (sym (map-append Sent p.fs q.fs)) in
    record {
      fs = p.fs ++ q.fs;
      lists = p.lists ++ q.lists;
      goes_on = q.goes_on ∙ wrote_more c p.fs q.fs p.lists q.lists;
      carried = carried_more c.role c.frames p.fs q.fs p.carried q.carried;
      begun_is = λ k. ap (λ (y : List Step). is_begun c.role y k) (sym steps) ∙ q.begun_is k ∙ p.begun_is k;
    }

-- each of these calls is done
abbrev pub AreDone : ConnectionTrace → List CallState → Type 0
AreDone d [] = Unit {0}
AreDone d (c ∷ cs) = IsDone d c × AreDone d cs

done_behind : (c d : ConnectionTrace) (call : CallState) → Goes c d → IsDone c call → IsDone d call
done_behind c d call p h = subst (λ (k : ConnectionTrace). IsDone k call) (sym p.goes_on) (done_kept c p.fs p.lists call p.begun_is h)

abbrev pub kept : Role → Pending → List CallState → State
kept role pending calls = record { role = role; calls = calls; pending = pending }

-- what holds of the calls behind some of the turns
pub record Pumped (t : CallTrace) (role : Role) (pending : Pending) (done olds : List CallState) (g : Bool) (news : List CallState) (d : ConnectionTrace) : Type 0 where
  pub holds : Holds (kept role pending (done ++ news)) (at_behind t d)
  pub ready : ReadyIn d
  pub goes : Goes t.connection_trace d
  pub are_done : g ≡ false → AreDone d news

neither : (first later : Bool) → (if first then true else later) ≡ false → (first ≡ false) × (later ≡ false)
neither true later e = absurd (false≢true (sym e))
neither false later e = (refl, e)

round_holds : (t : CallTrace) (role : Role) (pending : Pending) (done olds : List CallState) (g : Bool) (news : List CallState) (c d : ConnectionTrace) → PumpsRound c olds g news d → c ≡ t.connection_trace →
    ReadyIn t.connection_trace → Holds (kept role pending (done ++ olds)) t → Pumped t role pending done olds g news d
round_holds t role pending done _ _ _ c _ (pump.none _) at ready h =
    subst (λ (k : ConnectionTrace). Pumped t role pending done [] false [] k) (sym at) (record { holds = h; ready = ready; goes = goes_none t.connection_trace; are_done = λ e. tt })
round_holds t role pending done _ _ _ c d (pump.more _ mid _ old new olds news first later turn rest) at ready h =
    let now : PumpsCall t.connection_trace old first new mid = subst (λ (k : ConnectionTrace). PumpsCall k old first new mid) at turn in
    let s : Sends t old = sends_of t role pending done olds old h in
    let turned = call_turn t old first new mid ready now s in
    let behind : Holds (kept role pending (done ++ new ∷ olds)) (at_behind t mid) = turned_holds t old new mid turned role pending done olds h in
    let split : (done ++ new ∷ []) ++ olds ≡ done ++ new ∷ olds = append_assoc done (new ∷ []) olds in
    let more = round_holds (at_behind t mid) role pending (done ++ new ∷ []) olds later news mid d rest refl (ready_behind t old new mid turned)
    (subst (λ (cs : List CallState). Holds (kept role pending cs) (at_behind t mid)) (sym split) behind) in
    record {
      holds = subst (λ (cs : List CallState). Holds (kept role pending cs) (at_behind t d)) (append_assoc done (new ∷ []) news) more.holds;
      ready = more.ready;
      goes = goes_more t.connection_trace mid d (turn_goes t old new mid turned) more.goes;
      are_done = λ e.
          let both = neither first later e in
          (done_behind mid d new more.goes (turn_done t old new mid (subst (λ (b : Bool). PumpsCall t.connection_trace old b new mid) both.0 now) s (sends_behind t old new mid turned)), more.are_done both.1);
    }

pub calls_hold : (t : CallTrace) (role : Role) (pending : Pending) (olds news : List CallState) (c d : ConnectionTrace) → PumpsCalls c olds news d → c ≡ t.connection_trace → ReadyIn t.connection_trace → Holds (kept role pending olds) t →
    Pumped t role pending [] olds false news d
calls_hold t role pending olds news c d (pump.last _ _ _ _ round) at ready h = round_holds t role pending [] olds false news c d round at ready h
calls_hold t role pending olds news c d (pump.round _ mid _ _ mids _ round rest) at ready h =
    let one = round_holds t role pending [] olds true mids c mid round at ready h in
    let more = calls_hold (at_behind t mid) role pending mids news mid d rest refl one.ready one.holds in
    record { holds = more.holds; ready = more.ready; goes = goes_more t.connection_trace mid d one.goes more.goes; are_done = more.are_done }
