-- What is told of the bytes that a call holds, for the calls as they are kept in a list; and what each step leaves to be told.
use Rattle.std.proofs.Common.{◌≡◌, ℕ, zero, suc, ◌+◌, ◌<◌, ◌≤◌, Bool, true, false, List, [], ◌∷◌, ◌++◌, length, sum_by, slice_index_or, slice_set, Some, None, refl, sym, ap, subst, ◌∙◌, arith, cond, ◌==◌}
use Rattle.std.specs.Prelude.{if◌then◌else◌, is_some, nat_lt}
use Rattle.std.proofs.lemmas.List.{append-nil, length-append, length-drop}
use Rattle.std.proofs.lemmas.List.Sums.{sum_by-append}
use Rattle.std.specs.List.{position, position_or_len}
use Rattle.std.proofs.lemmas.Bool.Decides.{nat_tests}
use Rattle.grpc_framing.proofs.Fronts.{front_at-len}
use Rattle.grpc_framing.specs.CutterState.{CutterState}
use Rattle.grpc_framing.specs.NextMessage.{NextMessage, fed}
use Rattle.grpc_framing.specs.declared.cutter.Cut.TheVariants as answer
use Rattle.h2_exchange.specs.declared.role.Role.{Role}
use Rattle.h2_exchange.specs.declared.role.Role.TheVariants.{Client, Server}
use Rattle.h2_exchange.specs.Calls as call
use Rattle.h2_exchange.specs.Calls.{Broken, Request}
use Rattle.http_connection.specs.ConnectionTrace.{ConnectionTrace, IsSound}
use Rattle.grpc_stream.specs.declared.event.CallEvent.{CallEvent}
use Rattle.grpc_stream.specs.declared.event.CallEvent.TheVariants as says
use Rattle.grpc_stream.specs.CallTrace as trace
use Rattle.grpc_stream.specs.CallTrace.{CallTrace, PeerEvent, Asked}
use Rattle.grpc_stream.specs.NextEvent.{GivesCallEvent, IsShownAs, answer_to, shown_events_of}
use Rattle.kept_calls.specs.declared.call.Call.{Call}
use Rattle.kept_calls.specs.declared.call.Receiving.TheVariants as was
use Rattle.kept_calls.specs.CallState.{CallState, call_on, state_of, states}
use Rattle.call_hearing.specs.declared.pending.Pending.TheVariants.{Nothing, Cut}
use Rattle.call_hearing.specs.Laws.{message_told}
use Rattle.call_standing.specs.declared.fate.Fate.{Fate}
use Rattle.call_standing.specs.declared.fate.Fate.TheVariants.{Going}
use Rattle.call_standing.specs.Standing.{Holds, IsGoing, StandsFor, State, bare}
use Rattle.call_standing.specs.Steps.{Steps}
use Rattle.call_standing.proofs.Found.{IsChanged}
use Rattle.call_standing.proofs.Told.{gives_one, going_of, stands_of, told}
use Rattle.call_telling.specs.Giving.{listens, told_more}
use Rattle.call_telling.proofs.Arms.{Comes, state_at}
use Rattle.call_telling.proofs.Cuts.{compressed_holds, drained_holds, message_holds, quiet_going, quiet_step, told_going, too_long_holds, unheard_holds}
use Rattle.call_telling.proofs.TakesIn.{with_peer}

module _ {C : Type 0} (stands : C → ConnectionTrace → Type 0) (output : C → List ℕ) (law : (conn : C) (c : ConnectionTrace) → stands conn c → IsSound c (output conn)) (conn : C)
    (fate : Fate) (going : fate ≡ Going) (s : State) (t : CallTrace) (h : StandsFor stands output fate conn s t) where
  is_going : IsGoing stands output conn s t
  is_going = going_of stands output fate conn s t going h

  quietly : (now : State) → Holds now (told_more (bare t) [] t.taken) → Comes stands output law conn fate now t None
  quietly now k = (t, stands_of stands output fate conn now t going (quiet_going stands output law conn s now t is_going k), quiet_step stands output law conn s now t is_going)

  shown_so : (p : PeerEvent) (event : CallEvent) (now : State) → Holds now (told_more (bare t) (p ∷ []) t.taken) → answer_to t p ≡ [] → shown_events_of t.reported p ≡ p ∷ [] → IsShownAs p event →
      ((u : CallTrace) → GivesCallEvent t event u → Steps t (Some event) u) → Comes stands output law conn fate now t (Some event)
  shown_so p event now k none visible is wrap = (
    told t p,
    stands_of stands output fate conn now (told t p) going (told_going stands output law conn s now t is_going p k),
    wrap (told t p) (gives_one t p event is_going.alive none visible is),
  )

  -- the call is heard no more
  pub unheard_cut : (id : ℕ) → s.pending ≡ Cut id → listens (call_on id s.calls) ≡ false → Comes stands output law conn fate (record s { pending = Nothing }) t None
  unheard_cut id pending none =
      quietly (record s { pending = Nothing })
      (subst (λ (l : List PeerEvent). Holds (record s { pending = Nothing }) (record (bare t) { reported = l })) (sym (append-nil t.reported)) (unheard_holds (bare t) s id pending none is_going.holds))

  module _ (c : CallState) (new : CutterState) (opened : c.receiving ≡ was.Open) (cs : List CallState) where
    drained_base : s.pending ≡ Cut c.stream → NextMessage c.cutter answer.NeedMore new → IsChanged c.stream c (with_peer c.receiving new c) s.calls cs →
        Comes stands output law conn fate (state_at s.role Nothing cs) t None
    drained_base pending next is = quietly (state_at s.role Nothing cs) (drained_holds (bare t) s cs c new pending opened is_going.holds next is)

    server_base : (m : List ℕ) → s.role ≡ Server → s.pending ≡ Cut c.stream → NextMessage c.cutter (answer.Message m) new → IsChanged c.stream c (with_peer c.receiving new c) s.calls cs →
        Comes stands output law conn fate (state_at s.role (Cut c.stream) cs) t (Some (says.Request c.stream m))
    server_base m server pending next is =
        shown_so (Asked (Request c.stream m)) (says.Request c.stream m) (state_at s.role (Cut c.stream) cs)
        (subst (λ (r : Role). Holds (state_at s.role (Cut c.stream) cs) (told_more (bare t) (message_told r c.stream m ∷ []) t.taken)) (is_going.holds.role_is ∙ server)
        (message_holds (bare t) s cs c new pending opened is_going.holds m next is)) refl refl (refl, refl) (λ u k. k)

    client_base : (m : List ℕ) → s.role ≡ Client → s.pending ≡ Cut c.stream → NextMessage c.cutter (answer.Message m) new → IsChanged c.stream c (with_peer c.receiving new c) s.calls cs →
        Comes stands output law conn fate (state_at s.role (Cut c.stream) cs) t (Some (says.Answered c.stream m))
    client_base m client pending next is =
        shown_so (trace.Answered (call.Answered c.stream m)) (says.Answered c.stream m) (state_at s.role (Cut c.stream) cs)
        (subst (λ (r : Role). Holds (state_at s.role (Cut c.stream) cs) (told_more (bare t) (message_told r c.stream m ∷ []) t.taken)) (is_going.holds.role_is ∙ client)
        (message_holds (bare t) s cs c new pending opened is_going.holds m next is)) refl refl (refl, refl) (λ u k. k)

    broken_so : (p : Holds (state_at s.role Nothing cs) (told_more (bare t) (trace.Answered (Broken c.stream) ∷ []) t.taken)) → Comes stands output law conn fate (state_at s.role Nothing cs) t (Some (says.Dropped c.stream))
    broken_so p = shown_so (trace.Answered (Broken c.stream)) (says.Dropped c.stream) (state_at s.role Nothing cs) p refl refl refl (λ u k. k)

    compressed_base : s.role ≡ Client → s.pending ≡ Cut c.stream → NextMessage c.cutter answer.Compressed new → IsChanged c.stream c (with_peer was.Closed new c) s.calls cs →
        Comes stands output law conn fate (state_at s.role Nothing cs) t (Some (says.Dropped c.stream))
    compressed_base client pending next is = broken_so (compressed_holds (bare t) s cs c new pending opened is_going.holds (is_going.holds.role_is ∙ client) is next)

    too_long_base : s.role ≡ Client → s.pending ≡ Cut c.stream → NextMessage c.cutter answer.TooLong new → IsChanged c.stream c (with_peer was.Closed new c) s.calls cs →
        Comes stands output law conn fate (state_at s.role Nothing cs) t (Some (says.Dropped c.stream))
    too_long_base client pending next is = broken_so (too_long_holds (bare t) s cs c new pending opened is_going.holds (is_going.holds.role_is ∙ client) is next)

    -- ---- the call that stands on a stream

    module _ (d : CallState) (id : ℕ) (on : c.stream ≡ id) (pending : s.pending ≡ Cut id) (is : IsChanged id c d s.calls cs) where
      here : s.pending ≡ Cut c.stream
      here = pending ∙ ap Cut (sym on)

      changed_here : (x : CallState) → d ≡ x → IsChanged c.stream c x s.calls cs
      changed_here x same = subst (λ (k : ℕ). IsChanged k c x s.calls cs) (sym on) (subst (λ (y : CallState). IsChanged id c y s.calls cs) same is)

      pub drained_arm : d ≡ with_peer c.receiving new c → NextMessage c.cutter answer.NeedMore new → Comes stands output law conn fate (state_at s.role Nothing cs) t None
      drained_arm same next = drained_base here next (changed_here (with_peer c.receiving new c) same)

      pub request_arm : (m : List ℕ) → s.role ≡ Server → d ≡ with_peer c.receiving new c → NextMessage c.cutter (answer.Message m) new →
          Comes stands output law conn fate (state_at s.role (Cut id) cs) t (Some (says.Request id m))
      request_arm m server same next =
          subst (λ (k : ℕ). Comes stands output law conn fate (state_at s.role (Cut k) cs) t (Some (says.Request k m))) on (server_base m server here next (changed_here (with_peer c.receiving new c) same))

      pub answered_arm : (m : List ℕ) → s.role ≡ Client → d ≡ with_peer c.receiving new c → NextMessage c.cutter (answer.Message m) new →
          Comes stands output law conn fate (state_at s.role (Cut id) cs) t (Some (says.Answered id m))
      answered_arm m client same next =
          subst (λ (k : ℕ). Comes stands output law conn fate (state_at s.role (Cut k) cs) t (Some (says.Answered k m))) on (client_base m client here next (changed_here (with_peer c.receiving new c) same))

      pub compressed_arm : s.role ≡ Client → d ≡ with_peer was.Closed new c → NextMessage c.cutter answer.Compressed new → Comes stands output law conn fate (state_at s.role Nothing cs) t (Some (says.Dropped id))
      compressed_arm client same next =
          subst (λ (k : ℕ). Comes stands output law conn fate (state_at s.role Nothing cs) t (Some (says.Dropped k))) on (compressed_base client here next (changed_here (with_peer was.Closed new c) same))

      pub too_long_arm : s.role ≡ Client → d ≡ with_peer was.Closed new c → NextMessage c.cutter answer.TooLong new → Comes stands output law conn fate (state_at s.role Nothing cs) t (Some (says.Dropped id))
      too_long_arm client same next =
          subst (λ (k : ℕ). Comes stands output law conn fate (state_at s.role Nothing cs) t (Some (says.Dropped k))) on (too_long_base client here next (changed_here (with_peer was.Closed new c) same))

-- ---- how much is left to be told

abbrev pub held_of : Call → ℕ
held_of c = length c.cutter.held

abbrev pub held_in : CallState → ℕ
held_in c = length c.cutter.held

first_of : (c : CallState) (cs : List CallState) → sum_by held_in (c ∷ cs) ≡ held_in c + sum_by held_in cs
first_of c cs =
    let alone : sum_by held_in (c ∷ []) ≡ 0 + held_in c = refl in
    omega (arith, alone, sum_by-append held_in (c ∷ []) cs)

-- one call is changed
held_set : (items : List Call) (at : ℕ) (call new : Call) → at < length items → call ≡ slice_index_or items at call →
    sum_by held_in (states (slice_set items at new)) + held_of call ≡ sum_by held_in (states items) + held_of new
held_set [] at call new inside is = absurd (omega (arith, inside))
held_set (x ∷ xs) zero call new inside is =
    let same : held_of call ≡ held_of x = ap held_of is in
    omega (arith, same, first_of (state_of new) (states xs), first_of (state_of x) (states xs))
held_set (x ∷ xs) (suc n) call new inside is =
    let rest = held_set xs n call new (omega (arith, inside)) is in
    omega (arith, rest, first_of (state_of x) (states (slice_set xs n new)), first_of (state_of x) (states xs))

pub placed : {X : Type 0} (p : X → Bool) (xs : List X) (at : ℕ) → position p xs ≡ Some at → at < length xs
placed p xs at e = by (nat_lt (position_or_len p xs) (length xs)) refl e
  where
    by : (b : Bool) → nat_lt (position_or_len p xs) (length xs) ≡ b → cond b (Some (position_or_len p xs)) None ≡ Some at → at < length xs
    by true h e = let same : position_or_len p xs ≡ at = cc in grind (arith, nat_tests)
    by false h e = absurd cc

pub held_at : (items : List Call) (id at : ℕ) (call new : Call) → position (λ (c : Call). c.stream == id) items ≡ Some at → call ≡ slice_index_or items at call →
    sum_by held_in (states (slice_set items at new)) + held_of call ≡ sum_by held_in (states items) + held_of new
held_at items id at call new p is = held_set items at call new (placed (λ (c : Call). c.stream == id) items at p) is

-- one call more holds nothing
pub held_more : (cs : List CallState) (c : CallState) → c.cutter.held ≡ [] → sum_by held_in (cs ++ c ∷ []) ≡ sum_by held_in cs
held_more cs c none =
    let alone : sum_by held_in (c ∷ []) ≡ 0 + held_in c = refl in
    let zero_held : held_in c ≡ 0 = ap length none in
    omega (arith, sum_by-append held_in cs (c ∷ []), alone, zero_held)

-- a message takes its bytes from what is held
pub fewer_held : (old new : CutterState) (m : List ℕ) → NextMessage old (answer.Message m) new → length new.held < length old.held
fewer_held old new m h =
    omega (arith, front_at-len old.limit old.held (length m) h.0, ap (λ (k : CutterState). length k.held) h.2, length-drop (5 + length m) old.held)

-- a piece adds at most its bytes
pub fed_most : (k : CutterState) (bytes : List ℕ) → length (fed k bytes).held ≤ length k.held + length bytes
fed_most k bytes = by (is_some k.refusal)
  where
    by : (b : Bool) → length (if b then k else record { limit = k.limit; held = k.held ++ bytes; refusal = k.refusal }).held ≤ length k.held + length bytes
    by true = omega arith
    by false = omega (arith, length-append k.held bytes)
