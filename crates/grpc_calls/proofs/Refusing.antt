-- What a refusal of a call comes to, for the calls as they are kept.
use Rattle.std.proofs.Common.{◌≡◌, ◌⊎◌, ℕ, ◌+◌, ◌*◌, ◌==◌, ◌≤◌, Bool, true, false, List, [], ◌∷◌, ◌++◌, length, sum_by, slice_index_or, slice_set, Option, Some, None, Result, Ok, Err, IfOk, refl, sym, ap, subst, ◌∙◌, inl, inr, arith, codes}
use Rattle.std.specs.Prelude.{if◌then◌else◌, not}
use Rattle.std.specs.List.{position}
use Rattle.std.proofs.lemmas.List.{get_or-set_same, set-get_or, set-set}
use Rattle.grpc_framing.specs.CutterState.{CutterState}
use Rattle.grpc_framing.specs.NextMessage.{NextMessage}
use Rattle.grpc_framing.specs.declared.cutter.Cut.TheVariants as answer
use Rattle.grpc_heads.specs.CallEnd.{CallEnd, Http, Status, compressed, method_by}
use Rattle.grpc_heads.specs.GrpcStatus.{GrpcStatus}
use Rattle.grpc_heads.specs.Heads.{call_of, first_value, head_of, is_grpc, is_present_but_not, is_text, is_timeout, method_of, served}
use Rattle.grpc_heads.specs.Written.{field, response_fields, trailer_fields}
use Rattle.grpc_heads.specs.declared.head.HeadRead.TheVariants as head
use Rattle.grpc_heads.specs.declared.head.Method.{Method}
use Rattle.hpack_tables.specs.EntrySizes.{size_of}
use Rattle.hpack_tables.specs.Malformed.{is_malformed_request}
use Rattle.hpack_tables.specs.declared.field.Field.{Field}
use Rattle.std.specs.Str.{bytes_eq}
use Rattle.schema_numbers.specs.Numbers.{Numbers}
use Rattle.h2_exchange.specs.declared.role.Role.{Role}
use Rattle.h2_exchange.specs.declared.role.Role.TheVariants.{Client, Server}
use Rattle.h2_exchange.specs.Events.{Ended, Head}
use Rattle.h2_exchange.specs.StreamParts.{Finish, Item}
use Rattle.http_connection.specs.ConnectionTrace.{ConnectionTrace, IsSound}
use Rattle.grpc_stream.specs.declared.event.CallEvent.{CallEvent}
use Rattle.grpc_stream.specs.declared.event.CallEvent.TheVariants as says
use Rattle.grpc_stream.specs.CallTrace.{CallTrace, took}
use Rattle.kept_calls.specs.declared.call.Call.{Call}
use Rattle.kept_calls.specs.declared.call.Ending.TheVariants as end
use Rattle.kept_calls.specs.declared.call.Receiving.TheVariants as was
use Rattle.kept_calls.specs.CallState.{CallState, began, call_on, close_unless, closed_by, ended, is_sent, refused_by, state_of, states, stopped}
use Rattle.kept_calls.specs.Endings.{http_code}
use Rattle.kept_calls.proofs.Short.{refusal_is_short}
use Rattle.call_sending.specs.Spelling.{Prepares}
use Rattle.call_sending.proofs.Taking.{queued_here}
use Rattle.call_hearing.specs.declared.pending.Pending.{Pending}
use Rattle.call_hearing.specs.declared.pending.Pending.TheVariants.{Nothing, Cut}
use Rattle.call_hearing.specs.Listening.{steps_of}
use Rattle.call_standing.specs.declared.fate.Fate.{Fate}
use Rattle.call_standing.specs.declared.fate.Fate.TheVariants.{Going}
use Rattle.call_standing.specs.Ends.{last_block, last_ending}
use Rattle.call_standing.specs.Standing.{StandsFor, State, bare}
use Rattle.call_standing.specs.Steps.{goes_down}
use Rattle.call_standing.proofs.Found.{IsChanged}
use Rattle.call_standing.proofs.Takes.{status_prepared}
use Rattle.call_standing.proofs.Told.{going_of}
use Rattle.call_standing.proofs.Trailing.{head_says}
use Rattle.call_telling.specs.Giving.{HasGiven, listens, untaken}
use Rattle.call_telling.proofs.Arms.{Comes, IsFound, found_at, gave_up_arm, gave_up_going, state_at}
use Rattle.call_telling.proofs.CutArms.{compressed_arm, held_at, held_in, placed, too_long_arm}
use Rattle.call_telling.proofs.Finished.{IsReady}
use Rattle.call_telling.proofs.RefusalArms.{compressed_base, refused_head_arm, too_long_base, truncated_base}
use Rattle.call_telling.proofs.TakesIn.{with_peer}
use Rattle.grpc_calls.specs.declared.calls.Calls.{Calls}
use Rattle.grpc_calls.specs.Object.{ahead_in, state_in}
use Rattle.grpc_calls.specs.Refusing.{DropsCall, GivesUp, IsWritten, SaysEnd, refused_as}

-- ---- a header block that stands alone

abbrev http_block : ℕ → List Field
http_block status = field (codes ":status") (http_code status) ∷ []

pub malformed_says : (n : Numbers) → SaysEnd n (Http 400) (http_block 400)
malformed_says n = record { says = refl; plain = refl }

pub failed_says : (n : Numbers) → SaysEnd n (Http 500) (http_block 500)
failed_says n = record { says = refl; plain = refl }

never_http : (method : Option Method) (compressed late : Bool) (status : ℕ) → served method compressed late ≡ head.Http status → ⊥
never_http None compressed late status e = cc
never_http (Some method) true late status e = cc
never_http (Some method) false true status e = cc
never_http (Some method) false false status e = cc

-- a head is refused with 405 or 415
pub refusal_says : (n : Numbers) (heads : List Field) (status : ℕ) → head_of heads ≡ head.Http status → SaysEnd n (Http status) (http_block status)
unfolding head_of
refusal_says n heads status e =
    by (is_malformed_request heads) (not (is_text (codes "POST") (first_value (codes ":method") heads))) (not (is_grpc (first_value (codes "content-type") heads))) e
  where
    is_405 : SaysEnd n (Http 405) (http_block 405)
    is_405 = record { says = refl; plain = refl }

    is_415 : SaysEnd n (Http 415) (http_block 415)
    is_415 = record { says = refl; plain = refl }

    by : (a b c : Bool) → (if a then head.Malformed else if b then head.Http 405 else if c then head.Http 415 else call_of heads) ≡ head.Http status → SaysEnd n (Http status) (http_block status)
    by true b c e = absurd cc
    by false true c e = let same : 405 ≡ status = cc in subst (λ (k : ℕ). SaysEnd n (Http k) (http_block k)) same is_405
    by false false true e = let same : 415 ≡ status = cc in subst (λ (k : ℕ). SaysEnd n (Http k) (http_block k)) same is_415
    by false false false e =
        absurd (never_http (method_of (first_value (codes ":path") heads)) (is_present_but_not (λ (value : List ℕ). bytes_eq value (codes "identity")) (first_value (codes "grpc-encoding") heads))
        (is_present_but_not is_timeout (first_value (codes "grpc-timeout") heads)) status e)

module _ {E : Type 0} (t : CallTrace) (n : Numbers) (numbers : t.numbers ≡ n) where
  pub http_said : (r : Result (List Field) E) (status : ℕ) → IfOk r (λ fields. fields ≡ field (codes ":status") (http_code status) ∷ []) → SaysEnd n (Http status) (http_block status) →
      IfOk r (SaysEnd t.numbers (Http status))
  http_said (Ok block) status same h = subst (λ (m : Numbers). SaysEnd m (Http status) block) (sym numbers) (subst (SaysEnd n (Http status)) (sym same) h)
  http_said (Err e) status same h = same

  pub status_said : (r : Result (List Field) E) (status : GrpcStatus) → IfOk r (λ fields. fields ≡ (if true then response_fields ++ trailer_fields n status else trailer_fields n status)) →
      IsWritten n status → IfOk r (SaysEnd t.numbers (Status status))
  status_said (Ok block) status same h =
      subst (λ (m : Numbers). SaysEnd m (Status status) block) (sym numbers) (subst (SaysEnd n (Status status)) (sym same) (record { says = head_says n status h.read; plain = h.sound }))
  status_said (Err e) status same h = same

-- ---- what is ready to be sent

alone_ready : (t : CallTrace) (id : ℕ) (close : CallEnd) (block : List Field) → t.connection_trace.role ≡ Server → SaysEnd t.numbers close block → IsReady t (began id was.Closed false) close end.Block block
alone_ready t id close block server h = λ unended suited empty first.
    subst (λ (r : Role). Prepares r (took id (Finish close) t) id end.Block block) (sym server) (
      queued_here t id (Finish close) ∙ ap (λ (items : List (Item CallEnd)). items ++ Finish close ∷ []) (empty refl) ∙ ap (λ (e : CallEnd). Finish e ∷ []) (sym h.says),
      h.plain,
    )

was_false : (b : Bool) → not b ≡ true → b ≡ false
was_false true e = absurd cc
was_false false e = refl

was_true : (b : Bool) → not b ≡ false → b ≡ true
was_true true e = refl
was_true false e = absurd cc

status_ready : (t : CallTrace) (c : CallState) (n : Numbers) (status : GrpcStatus) → IsWritten n status → t.numbers ≡ n →
    IsReady t c (Status status) (last_ending (not c.has_message)) (last_block (not c.has_message) n status)
status_ready t c n status h numbers = λ unended suited empty first.
    status_prepared n status h.read h.sound t c.stream numbers t.connection_trace.role (not c.has_message) unended (λ e. empty (was_false c.has_message e)) (λ e. first (was_true c.has_message e)) suited

ends : (b : Bool) → ended (last_ending b) ≡ true
ends true = refl
ends false = refl

unsent : (b : Bool) → is_sent (last_ending b) ≡ false
unsent true = refl
unsent false = refl

-- ---- a head that is refused

module _ {C : Type 0} (stands : C → ConnectionTrace → Type 0) (output : C → List ℕ) (law : (conn : C) (c : ConnectionTrace) → stands conn c → IsSound c (output conn)) where
  pub head_arm : (conn : C) (fate : Fate) → fate ≡ Going → (s : State) → s.pending ≡ Nothing → (t : CallTrace) → s.role ≡ Server → (id : ℕ) (heads block : List Field) (last : Bool) (close : CallEnd) →
      sum_by size_of block ≤ 65536 → method_by (head_of heads) ≡ Err close → SaysEnd t.numbers close block → HasGiven stands conn s t (Head id heads last) →
      Comes stands output law conn fate (state_at s.role s.pending (s.calls ++ closed_by end.Block block (began id was.Closed false) ∷ [])) t None
  head_arm conn fate going s quiet t server id heads block last close fits is says g =
      subst (λ (p : Pending). Comes stands output law conn fate (state_at s.role p (s.calls ++ closed_by end.Block block (began id was.Closed false) ∷ [])) t None) (sym quiet)
      (refused_head_arm stands output law conn fate going s t server end.Block refl refl quiet id heads block last close fits is g
      (alone_ready (bare (untaken t g.at)) id close block (g.holds.role_is ∙ server) says))

  -- ---- a call that is dropped

  -- of the calls as they are now
  now_so : (y : Calls C) (e : CallEvent) (conn : C) (fate : Fate) (role : Role) (pending : Pending) (cs : List CallState) (event : CallEvent) (t : CallTrace) →
      y.conn ≡ conn → y.fate ≡ fate → y.role ≡ role → y.pending ≡ pending → states y.calls.items ≡ cs → e ≡ event →
      Comes stands output law conn fate (state_at role pending cs) t (Some event) → Comes stands output law y.conn y.fate (state_in y) t (Some e)
  now_so y e conn fate role pending cs event t conn_is fate_is role_is pending_is calls_are event_is h =
      subst (λ (c : C). Comes stands output law c y.fate (state_at y.role y.pending (states y.calls.items)) t (Some e)) (sym conn_is)
      (subst (λ (f : Fate). Comes stands output law conn f (state_at y.role y.pending (states y.calls.items)) t (Some e)) (sym fate_is)
      (subst (λ (r : Role). Comes stands output law conn fate (state_at r y.pending (states y.calls.items)) t (Some e)) (sym role_is)
      (subst (λ (p : Pending). Comes stands output law conn fate (state_at role p (states y.calls.items)) t (Some e)) (sym pending_is)
      (subst (λ (l : List CallState). Comes stands output law conn fate (state_at role pending l) t (Some e)) (sym calls_are)
      (subst (λ (x : CallEvent). Comes stands output law conn fate (state_at role pending cs) t (Some x)) (sym event_is) h)))))

refused_keeps : (r : Role) (n : Numbers) (status : GrpcStatus) (c : CallState) → ((refused_as r n status c).stream ≡ c.stream) × ((refused_as r n status c).cutter ≡ c.cutter)
refused_keeps Client n status c = (refl, refl)
refused_keeps Server n status c = by (ended c.ending) (last_ending (not c.has_message)) (last_block (not c.has_message) n status)
  where
    by : (b : Bool) (ending : _) (fields : List Field) → ((close_unless b ending fields (stopped c)).stream ≡ c.stream) × ((close_unless b ending fields (stopped c)).cutter ≡ c.cutter)
    by true ending fields = (refl, refl)
    by false ending fields = (refl, refl)

short_of : (status : GrpcStatus) (code : ℕ) (text : List ℕ) (size : ℕ) → status ≡ record { code = code; message = text; reason = None } → length text ≡ size → size ≤ 64 → length status.message ≤ 64
short_of status code text size same is short = omega (arith, ap (λ (s : GrpcStatus). length s.message) same, is, short)

-- the call that stands at a place was heard, its cutter is another by now, and it is dropped or there is no memory
module _ {C : Type 0} (old new : Calls C) (n : Numbers) (status : GrpcStatus) (id at : ℕ) (e : CallEvent)
    (items : List Call) (call cut_call : Call) (cutter : CutterState) (p : position (λ (c : Call). c.stream == id) items ≡ Some at) (is : call ≡ slice_index_or items at call)
    (cut_is : state_of cut_call ≡ with_peer call.receiving cutter (state_of call)) (put : old.calls.items ≡ slice_set items at cut_call) where
  module _ (d : DropsCall n status id at old new e) where
    before_is : d.before ≡ cut_call
    before_is =
        d.stood ∙ ap (λ (l : List Call). slice_index_or l at d.before) put ∙ get_or-set_same items at cut_call d.before (placed (λ (c : Call). c.stream == id) items at p)

    left_is : state_of d.after ≡ refused_as old.role n status (with_peer call.receiving cutter (state_of call))
    left_is = d.left ∙ ap (λ (c : Call). refused_as old.role n status (state_of c)) before_is ∙ ap (refused_as old.role n status) cut_is

    items_are : new.calls.items ≡ slice_set items at d.after
    items_are = d.stands ∙ ap (λ (l : List Call). slice_set l at d.after) put ∙ set-set items at cut_call d.after

    keeps : ((state_of d.after).stream ≡ call.stream) × ((state_of d.after).cutter ≡ cutter)
    keeps =
        let k = refused_keeps old.role n status (with_peer call.receiving cutter (state_of call)) in
        (ap (λ (s : CallState). s.stream) left_is ∙ k.0, ap (λ (s : CallState). s.cutter) left_is ∙ k.1)

    left_as : (r : Role) → old.role ≡ r → state_of d.after ≡ refused_as r n status (with_peer call.receiving cutter (state_of call))
    left_as r e = left_is ∙ ap (λ (x : Role). refused_as x n status (with_peer call.receiving cutter (state_of call))) e

    dropped_ahead : (ahead : C → ℕ) → cutter.held ≡ call.cutter.held → ahead_in ahead new ≡ 16386 * ahead old.conn + sum_by held_in (states items)
    dropped_ahead ahead same =
        let calls = ap (λ (l : List Call). sum_by held_in (states l)) items_are in
        let held = held_at items id at call d.after p is in
        let left = ap (λ (k : CutterState). length k.held) keeps.1 in
        let none = ap length same in
        omega (arith, calls, held, left, none, ap (λ (c : C). 16386 * ahead c) d.conn_is, ap steps_of d.pending_is)

  -- what is left to be told
  pub turned_ahead : {output : C → List ℕ} (ahead : C → ℕ) → GivesUp output old new e ⊎ DropsCall n status id at old new e → goes_down (Some e) ≡ true → cutter.held ≡ call.cutter.held →
      ahead_in ahead new ≡ 16386 * ahead old.conn + sum_by held_in (states items)
  turned_ahead ahead (inl g) down same =
      let none : goes_down (Some says.NoMemory) ≡ true = subst (λ (x : CallEvent). goes_down (Some x) ≡ true) g.event_is down in
      absurd cc
  turned_ahead ahead (inr d) down same = dropped_ahead d ahead same

  module _ (stands : C → ConnectionTrace → Type 0) (output : C → List ℕ) (law : (conn : C) (c : ConnectionTrace) → stands conn c → IsSound c (output conn)) (t : CallTrace) (going : old.fate ≡ Going)
      (numbers : t.numbers ≡ n) (written : IsWritten n status) (heard : listens (call_on id (states items)) ≡ true) where
    abbrev Turns : Type 0
    Turns = GivesUp output old new e ⊎ DropsCall n status id at old new e

    there : IsFound items id at call
    there = found_at items id at call p is heard

    fits : length status.message ≤ 64 → sum_by size_of (last_block (not call.has_message) n status) ≤ 65536
    fits short = refusal_is_short n status (not call.has_message) (last_block (not call.has_message) n status) refl short

    module _ (d : DropsCall n status id at old new e) where
      changed : IsChanged id (state_of call) (state_of d.after) (states items) (states (slice_set items at d.after))
      changed = there.changes d.after (keeps d).0

      changed_there : old.role ≡ Server → IsChanged call.stream (state_of call) (refused_as Server n status (with_peer call.receiving cutter (state_of call))) (states items) (states (slice_set items at d.after))
      changed_there server =
          subst (λ (k : ℕ). IsChanged k (state_of call) (refused_as Server n status (with_peer call.receiving cutter (state_of call))) (states items) (states (slice_set items at d.after))) (sym there.on)
          (subst (λ (c : CallState). IsChanged id (state_of call) c (states items) (states (slice_set items at d.after))) (left_as d Server server) changed)

      said : Comes stands output law old.conn old.fate (state_at old.role Nothing (states (slice_set items at d.after))) t (Some (says.Dropped id)) →
          Comes stands output law new.conn new.fate (state_in new) t (Some e)
      said h =
          now_so stands output law new e old.conn old.fate old.role Nothing (states (slice_set items at d.after)) (says.Dropped id) t d.conn_is d.fate_is d.role_is d.pending_is
          (ap states (items_are d)) d.event_is h

    -- ---- bytes that are no message

    module _ (h : StandsFor stands output old.fate old.conn (state_at old.role old.pending (states items)) t) (cut : old.pending ≡ Cut id) where
      abbrev s : State
      s = state_at old.role old.pending (states items)

      gave_up : GivesUp output old new e → Comes stands output law new.conn new.fate (state_in new) t (Some e)
      gave_up g =
          gave_up_going stands output law old.conn new.conn g.conn_is new.fate g.fate_is e g.event_is s (state_in new) t (going_of stands output old.fate old.conn s t going h)

      cut_there : old.pending ≡ Cut call.stream
      cut_there = cut ∙ ap Cut (sym there.on)

      on_there : (cs : List CallState) → Comes stands output law old.conn old.fate (state_at old.role Nothing cs) t (Some (says.Dropped call.stream)) →
          Comes stands output law old.conn old.fate (state_at old.role Nothing cs) t (Some (says.Dropped id))
      on_there cs = subst (λ (k : ℕ). Comes stands output law old.conn old.fate (state_at old.role Nothing cs) t (Some (says.Dropped k))) there.on

      pub compressed_turns : Turns → status ≡ record { code = 12; message = codes "compression is not served"; reason = None } → NextMessage call.cutter answer.Compressed cutter →
          Comes stands output law new.conn new.fate (state_in new) t (Some e)
      compressed_turns (inl g) same next = gave_up g
      compressed_turns (inr d) same next = said d (by old.role refl)
        where
          by : (r : Role) → old.role ≡ r → Comes stands output law old.conn old.fate (state_at old.role Nothing (states (slice_set items at d.after))) t (Some (says.Dropped id))
          by Client client =
              compressed_arm stands output law old.conn old.fate going s t h (state_of call) cutter there.opened (states (slice_set items at d.after)) (state_of d.after) id there.on cut (changed d) client
              (left_as d Client client) next
          by Server server =
              let alone : Bool = not call.has_message in
              on_there (states (slice_set items at d.after))
              (compressed_base stands output law old.conn old.fate going s t server (last_ending alone) (ends alone) (unsent alone) (last_block alone n status)
              (fits (short_of status 12 (codes "compression is not served") 25 same refl (omega arith))) (state_of call) cutter (states (slice_set items at d.after)) cut_there there.opened (changed_there d server) h
              (subst (λ (x : CallEnd). IsReady (bare t) (state_of call) x (last_ending alone) (last_block alone n status)) (ap Status same) (status_ready (bare t) (state_of call) n status written numbers)) next)

      pub too_long_turns : Turns → status ≡ record { code = 8; message = codes "message longer than 4194304"; reason = None } → NextMessage call.cutter answer.TooLong cutter →
          Comes stands output law new.conn new.fate (state_in new) t (Some e)
      too_long_turns (inl g) same next = gave_up g
      too_long_turns (inr d) same next = said d (by old.role refl)
        where
          by : (r : Role) → old.role ≡ r → Comes stands output law old.conn old.fate (state_at old.role Nothing (states (slice_set items at d.after))) t (Some (says.Dropped id))
          by Client client =
              too_long_arm stands output law old.conn old.fate going s t h (state_of call) cutter there.opened (states (slice_set items at d.after)) (state_of d.after) id there.on cut (changed d) client
              (left_as d Client client) next
          by Server server =
              let alone : Bool = not call.has_message in
              on_there (states (slice_set items at d.after))
              (too_long_base stands output law old.conn old.fate going s t server (last_ending alone) (ends alone) (unsent alone) (last_block alone n status)
              (fits (short_of status 8 (codes "message longer than 4194304") 27 same refl (omega arith))) (state_of call) cutter (states (slice_set items at d.after)) cut_there there.opened (changed_there d server) h
              (subst (λ (x : CallEnd). IsReady (bare t) (state_of call) x (last_ending alone) (last_block alone n status)) (ap Status same) (status_ready (bare t) (state_of call) n status written numbers)) next)

    -- ---- an end inside a message

    module _ (quiet : old.pending ≡ Nothing) (server : old.role ≡ Server) (whole : cutter ≡ call.cutter) (some : call.cutter.held ≡ [] → ⊥) where
      abbrev quiet_state : State
      quiet_state = state_at old.role old.pending (states items)

      changed_only : (d : DropsCall n status id at old new e) →
          IsChanged id (state_of call) (refused_by (last_ending (not call.has_message)) (last_block (not call.has_message) n status) (state_of call)) (states items) (states (slice_set items at d.after))
      changed_only d =
          subst (λ (c : CallState). IsChanged id (state_of call) c (states items) (states (slice_set items at d.after)))
          (left_as d Server server ∙ ap (λ (k : CutterState). refused_as Server n status (with_peer call.receiving k (state_of call))) whole) (changed d)

      pub truncated_turns : Turns → status ≡ record { code = 3; message = codes "truncated message"; reason = None } → HasGiven stands old.conn quiet_state t (Ended id) →
          Comes stands output law new.conn new.fate (state_in new) t (Some e)
      truncated_turns (inl g) same given = gave_up_arm stands output law old.conn new.conn g.conn_is new.fate g.fate_is e g.event_is quiet_state (state_in new) t (Ended id) given
      truncated_turns (inr d) same given =
          let alone : Bool = not call.has_message in
          let cs : List CallState = states (slice_set items at d.after) in
          let refused : CallState = refused_by (last_ending alone) (last_block alone n status) (state_of call) in
          said d
          (subst (λ (k : ℕ). IsChanged k (state_of call) refused (states items) cs → HasGiven stands old.conn quiet_state t (Ended k) →
          Comes stands output law old.conn old.fate (state_at old.role Nothing cs) t (Some (says.Dropped k))) there.on
          (λ i h.
          truncated_base stands output law old.conn old.fate going quiet_state t server (last_ending alone) (ends alone) (unsent alone) (last_block alone n status)
          (fits (short_of status 3 (codes "truncated message") 17 same refl (omega arith))) quiet (state_of call) cs there.opened some i h
          (subst (λ (x : CallEnd). IsReady (bare (untaken t h.at)) (state_of call) x (last_ending alone) (last_block alone n status)) (ap Status same)
          (status_ready (bare (untaken t h.at)) (state_of call) n status written numbers))) (changed_only d) given)

-- a list is as it was where the same stands at a place
pub put_same : (items : List Call) (at : ℕ) (call : Call) → call ≡ slice_index_or items at call → items ≡ slice_set items at call
put_same items at call is = sym (ap (λ (c : Call). slice_set items at c) is ∙ set-get_or items at call)
