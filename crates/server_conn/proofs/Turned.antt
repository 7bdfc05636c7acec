-- A turn after which a connection goes on: what its parts came to.
use Rattle.std.proofs.Common.{◌≡◌, ◌⊎◌, ◌↔◌, ℕ, ◌+◌, ◌-◌, ◌^◌, ◌<◌, ◌≤◌, ◌==◌, ◌||◌, Bool, true, false, length, List, [], ◌∷◌, ◌++◌, None, refl, sym, ap, ◌∙◌, subst, append-nil, arith, length-append, map, sum_by}
use Rattle.std.specs.List.{flat_map}
use Rattle.std.proofs.lemmas.Grind.{flat_map-append}
use Rattle.std.proofs.lemmas.List.Sums.{sum_by-append}
use Rattle.rig_io.specs.Fault.{HasRisen}
use Rattle.rig_io.specs.Link as link
use Rattle.rig_io.specs.Link.{Piece}
use Rattle.h2_frames.specs.declared.frame.Frame.{Frame}
use Rattle.h2_frames.specs.Layout.{frame_text}
use Rattle.h2_frames.specs.Stream.{AreWhole}
use Rattle.h2_exchange.specs.declared.role.Role.{Role}
use Rattle.h2_exchange.specs.declared.role.Role.TheVariants.{Server}
use Rattle.h2_exchange.specs.Blocks.{open_block}
use Rattle.h2_exchange.specs.Exchange.{Step, Sent, received, sent, sent_text}
use Rattle.h2_exchange.specs.Order.{own_preface, peer_preface, received_bytes, sent_bytes}
use Rattle.h2_exchange.specs.Sending.{IsPrefix}
use Rattle.h2_exchange.proofs.Steps.{sent_more, received_more}
use Rattle.http_connection.specs.ConnectionTrace.{ConnectionTrace, dropped_more, held, wrote}
use Rattle.http_connection.proofs.Unheard.{none_received}
use Rattle.grpc_stream.specs.CallTrace.{CallTrace, changed}
use Rattle.table_lock.specs.Passes.{PassView}
use Rattle.table_model.specs.declared.command.Command.{Command}
use Rattle.table_model.specs.declared.command.Config.{Config}
use Rattle.table_model.specs.declared.reply.Reply.{Reply}
use Rattle.table_model.specs.Event.{Event}
use Rattle.call_answers.specs.declared.orders.Setting.{Setting}
use Rattle.call_orders.specs.Calls.{Action}
use Rattle.session_engine.specs.Queries.{OpenCallsView, call_on}
use Rattle.server_turns.specs.Past.{Past}
use Rattle.server_turns.specs.Serving.{Account, EndsWhole}
use Rattle.server_turns.specs.Turning.{Counts, During, moved}
use Rattle.server_account.specs.Agreeing.{account_of}
use Rattle.session_engine.specs.Queries.{is_asking}
use Rattle.server_conn.specs.Standing.{NoneWaits, Works, past_of}
use Rattle.server_conn.specs.Steps.{CollectsAll, Grows, Holds, IsNoMore, MUCH, Responds, Writes, got}
use Rattle.server_conn.specs.Turns.{TakesIn, TurnsOn}
use Rattle.server_conn.proofs.Turning.{got_bytes, got_sends_none, received_then}

-- ---- tests

pub or_right : (a b : Bool) → b ≡ true → (a || b) ≡ true
or_right true b e = refl
or_right false b e = e

pub or_known : (a b : Bool) → (a ≡ true → b ≡ true) → b ≡ (a || b)
or_known true b h = h refl
or_known false b h = refl

still_false : (now was : Bool) → (now ≡ true → was ≡ true) → was ≡ false → now ≡ false
still_false true was h e = sym (h refl) ∙ e
still_false false was h e = refl

pub by_contra : (b : Bool) → (b ≡ false → ⊥) → b ≡ true
by_contra true h = refl
by_contra false h = absurd (h refl)

pub choose : (A : Bool → Type 0) (r c w m : Bool) → m ≡ (r || c || w) → (r ≡ true → A true) → (c ≡ true → A true) → (w ≡ true → A true) →
    (r ≡ false → c ≡ false → w ≡ false → A false) → A m
choose A true c w m e f g k i = subst A (sym e) (f refl)
choose A false true w m e f g k i = subst A (sym e) (g refl)
choose A false false true m e f g k i = subst A (sym e) (k refl)
choose A false false false m e f g k i = subst A (sym e) (i refl refl refl)

-- ---- bytes

pub moved_is : (pieces : List Piece) → moved pieces ≡ length (flat_map link.received_bytes pieces) + length (flat_map link.sent_bytes pieces)
moved_is [] = refl
moved_is (x ∷ xs) =
    (let f = λ (p : Piece). length (link.received_bytes p) + length (link.sent_bytes p) in
    let split : moved (x ∷ xs) ≡ sum_by f (x ∷ []) + moved xs = sum_by-append f (x ∷ []) xs in
    let one : sum_by f (x ∷ []) ≡ 0 + (length (link.received_bytes x) + length (link.sent_bytes x)) = refl in
    let a : length (link.received_bytes x ++ flat_map link.received_bytes xs) ≡ length (link.received_bytes x) + length (flat_map link.received_bytes xs) =
    length-append (link.received_bytes x) (flat_map link.received_bytes xs) in
    let b : length (link.sent_bytes x ++ flat_map link.sent_bytes xs) ≡ length (link.sent_bytes x) + length (flat_map link.sent_bytes xs) =
    length-append (link.sent_bytes x) (flat_map link.sent_bytes xs) in
    let rest = moved_is xs in
    omega arith)

sent_then : (bytes : List ℕ) (put : List Piece) → flat_map link.sent_bytes (got bytes ++ put) ≡ flat_map link.sent_bytes put
sent_then bytes put = flat_map-append link.sent_bytes (got bytes) put ∙ ap (λ (l : List ℕ). l ++ flat_map link.sent_bytes put) (got_sends_none bytes)

pub received_got : (bytes : List ℕ) (put : List Piece) → flat_map link.received_bytes put ≡ [] → flat_map link.received_bytes (got bytes ++ put) ≡ bytes
received_got bytes put nothing = received_then (got bytes) put nothing ∙ got_bytes bytes

pub moved_in : (bytes out : List ℕ) (put : List Piece) → flat_map link.received_bytes put ≡ [] → flat_map link.sent_bytes put ≡ out →
    moved (got bytes ++ put) ≡ length bytes + length out
moved_in bytes out put nothing sent =
    moved_is (got bytes ++ put) ∙ (ap (λ (l : List ℕ). length l + length (flat_map link.sent_bytes (got bytes ++ put))) (received_got bytes put nothing)
    ∙ ap (λ (l : List ℕ). length bytes + length l) (sent_then bytes put ∙ sent))

-- what waits to be written grows with the frames that were sent
longer : (dropped a b : List ℕ) (x y : List Step) → IsPrefix x y → sent_text x ≡ dropped ++ a → sent_text y ≡ dropped ++ b → length a ≤ length b
longer dropped a b x y front was now =
    (let more : sent_text y ≡ sent_text x ++ sent_text front.0 =
    ap sent_text front.1 ∙ (ap (flat_map frame_text) (sent_more x front.0) ∙ flat_map-append frame_text (sent x) (sent front.0)) in
    let l : length (dropped ++ b) ≡ length ((dropped ++ a) ++ sent_text front.0) = ap length
    (sym now ∙ (more ∙ ap (λ (t : List ℕ). t ++ sent_text front.0) was)) in
    let p = length-append dropped b in
    let q = length-append (dropped ++ a) (sent_text front.0) in
    let r = length-append dropped a in
    omega arith)

module _ {K : Type 0} (uses : K → CallTrace → Type 0) (output : K → List ℕ) (s : Setting) where
  pub output_grows : (before calls : K) (open_before open_calls : OpenCallsView) (refused_before refused : ℕ) (t u : CallTrace) (was now : List Action)
      (pieces more : List Piece) (own own_now : List Event) → sent_bytes more ≡ sent_bytes pieces → Grows t u →
      Works uses output s before open_before refused_before t was pieces own → Works uses output s calls open_calls refused u now more own_now →
      length (output before) ≤ length (output calls)
  output_grows before calls open_before open_calls refused_before refused t u was now pieces more own own_now same grows w v =
      (let text : own_preface Server ++ sent_text t.connection_trace.frames ≡ t.connection_trace.dropped ++ output before =
      subst (λ (r : Role). own_preface r ++ sent_text t.connection_trace.frames ≡ t.connection_trace.dropped ++ output before) w.agrees.server.role
      w.agrees.server.sound.connection_trace.text in
      let text_now : own_preface Server ++ sent_text u.connection_trace.frames ≡ u.connection_trace.dropped ++ output calls =
      subst (λ (r : Role). own_preface r ++ sent_text u.connection_trace.frames ≡ u.connection_trace.dropped ++ output calls) v.agrees.server.role
      v.agrees.server.sound.connection_trace.text in
      let dropped : u.connection_trace.dropped ≡ t.connection_trace.dropped = v.agrees.told.dropped ∙ (same ∙ sym w.agrees.told.dropped) in
      longer t.connection_trace.dropped (output before) (output calls) t.connection_trace.frames u.connection_trace.frames grows.frames text
      (text_now ∙ ap (λ (d : List ℕ). d ++ output calls) dropped))

-- ---- what ends whole

pub whole_same : (s : Setting) (pieces more : List Piece) (own own_now : List Event) (t u : CallTrace) (out out_now rest : List ℕ) (was now : List Action)
    (is_ended : Bool) → received_bytes more ≡ received_bytes pieces → received u.connection_trace.frames ≡ received t.connection_trace.frames →
    EndsWhole s (past_of pieces own is_ended) (account_of t out rest was) → EndsWhole s (past_of more own_now is_ended) (account_of u out_now rest now)
whole_same s pieces more own own_now t u out out_now rest was now is_ended bytes frames h =
    subst (λ (bs : List ℕ). AreWhole (peer_preface Server) bs (received u.connection_trace.frames) ×
    (open_block (received u.connection_trace.frames) ≡ None)) (sym bytes)
    (subst (λ (fs : List Frame). AreWhole (peer_preface Server) (received_bytes pieces) fs × (open_block fs ≡ None)) (sym frames) h)

pub asks_no_more : (before now : OpenCallsView) → ((id : ℕ) → IsNoMore (call_on before id) (call_on now id)) →
    ((id : ℕ) → is_asking (call_on before id) ≡ false) → (id : ℕ) → is_asking (call_on now id) ≡ false
asks_no_more before now fewer none id = still_false (is_asking (call_on now id)) (is_asking (call_on before id)) (fewer id).0 (none id)

pub credit_unheard : (x : List Step) (fs : List Frame) → received (x ++ map Sent fs) ≡ received x
credit_unheard x fs = received_more x (map Sent fs) ∙ (ap (λ (l : List Frame). received x ++ l) (none_received fs) ∙ append-nil (received x))

-- the end, and what was told of it
pub end_told : (past_ended was is now : Bool) (from mid to : ℕ) → was ≡ past_ended → now ≡ is → to ≡ mid →
    ((is ≡ true → (was ≡ true) ⊎ HasRisen from mid) × ((was ≡ true) ⊎ (from < mid) → is ≡ true)) →
    (now ≡ true → (past_ended ≡ true) ⊎ HasRisen from to) × ((past_ended ≡ true) ⊎ (from < to) → now ≡ true)
end_told past_ended was is now from mid to e f k h =
    subst (λ (m : ℕ). (now ≡ true → (past_ended ≡ true) ⊎ HasRisen from m) × ((past_ended ≡ true) ⊎ (from < m) → now ≡ true)) (sym k)
    (subst (λ (b : Bool). (b ≡ true → (past_ended ≡ true) ⊎ HasRisen from mid) × ((past_ended ≡ true) ⊎ (from < mid) → b ≡ true)) (sym f)
    (subst (λ (b : Bool). (is ≡ true → (b ≡ true) ⊎ HasRisen from mid) × ((b ≡ true) ⊎ (from < mid) → is ≡ true)) e h))

-- What ends whole in front of a Collect does so behind the responses, and no call is asked more.
pub whole_behind : {K : Type 0} (uses : K → CallTrace → Type 0) (output : K → List ℕ) (s : Setting) (config : Config) (past : Past) (first : CallTrace)
    (p q r : PassView Command Reply Config) (heard collected calls : K) (open_heard open_collected open_calls : OpenCallsView)
    (refused_collected refused waiting : ℕ)
    (t : CallTrace) (actions : List Action) (pieces : List Piece) (own own_now : List Event) (rest : List ℕ) (moved : Bool) (is_ended now : Bool) →
    now ≡ is_ended →
    (k : CollectsAll uses output s config q r collected open_heard open_collected refused_collected t (past.pieces ++ pieces) (past.own ++ own) moved) →
    (m : Responds uses output s calls open_collected open_calls refused waiting k.goes.trace (past.pieces ++ pieces) (past.own ++ own_now) rest) →
    (is_ended ≡ true → EndsWhole s (past_of (past.pieces ++ pieces) (past.own ++ own) true) (account_of t (output heard) rest actions)
    × ((id : ℕ) → is_asking (call_on open_heard id) ≡ false)) →
    now ≡ true → EndsWhole s (past_of (past.pieces ++ pieces) (past.own ++ own_now) true) (account_of m.trace (output calls) rest m.actions)
    × ((id : ℕ) → is_asking (call_on open_calls id) ≡ false)
whole_behind uses output s config past first p q r heard collected calls open_heard open_collected open_calls refused_collected refused waiting t actions pieces
    own own_now rest moved is_ended now same k m whole ended =
    (let w = whole (sym same ∙ ended) in (
      whole_same s (past.pieces ++ pieces) (past.pieces ++ pieces) (past.own ++ own) (past.own ++ own_now) t m.trace (output heard) (output calls) rest actions
          m.actions true refl (m.received ∙ ap (λ (x : ConnectionTrace). received x.frames) k.connection) w.0,
      asks_no_more open_collected open_calls m.fewer (asks_no_more open_heard open_collected k.fewer w.1),
    ))

-- ---- the same, of a connection that has these parts

pub idle_at : (open_calls open_now : OpenCallsView) (is_left may_wait : Bool) (own : List Event) → open_now ≡ open_calls → may_wait ≡ is_left →
    (is_left ≡ false → NoneWaits open_calls own) → may_wait ≡ false → NoneWaits open_now own
idle_at open_calls open_now is_left may_wait own e f h g = subst (λ (o : OpenCallsView). NoneWaits o own) (sym e) (h (sym f ∙ g))

module _ {K : Type 0} (uses : K → CallTrace → Type 0) (output : K → List ℕ) (s : Setting) where
  abbrev pub takes_at : (config : Config) (p q : PassView Command Reply Config) (before calls : K) (open_calls : OpenCallsView) (refused : ℕ) (t : CallTrace)
      (pieces : List Piece) (own : List Event) (bytes : List ℕ) (was_ended is_ended moved : Bool) (reads mid now : ℕ) → now ≡ mid →
      TakesIn uses output s config p q before calls open_calls refused t pieces own bytes was_ended is_ended moved reads mid →
      TakesIn uses output s config p q before calls open_calls refused t pieces own bytes was_ended is_ended moved reads now
  takes_at config p q before calls open_calls refused t pieces own bytes was_ended is_ended moved reads mid now e h = record {
    heard = h.heard;
    moved = h.moved;
    still = h.still;
    why = subst (λ (n : ℕ). (0 < length bytes) ⊎ (is_ended ≡ true) ⊎ HasRisen reads n ⊎ (MUCH ≤ length (output before))) (sym e) h.why;
  }

  abbrev pub holds_at : (calls : K) (open_calls open_now : OpenCallsView) (refused refused_now : ℕ) (hold : Bool) (t : CallTrace) (actions : List Action)
      (pieces : List Piece) (own : List Event) (rest : List ℕ) → open_now ≡ open_calls → refused_now ≡ refused →
      Holds uses output s calls open_now refused_now hold t actions pieces own rest →
      Holds uses output s calls open_calls refused hold t actions pieces own rest
  holds_at calls open_calls open_now refused refused_now hold t actions pieces own rest e f h = record {
    credit = h.credit;
    carried = h.carried;
    works = subst (λ (n : ℕ). Works uses output s calls open_calls n (changed (λ c. held hold (wrote h.credit [] c)) t) actions pieces own) f
        (subst (λ (o : OpenCallsView). Works uses output s calls o refused_now (changed (λ c. held hold (wrote h.credit [] c)) t) actions pieces own)
        e h.works);
    settled = h.settled;
  }

  abbrev pub writes_at : (before calls : K) (open_calls open_now : OpenCallsView) (refused refused_now : ℕ) (t : CallTrace) (actions : List Action)
      (pieces put : List Piece) (own : List Event) (rest : List ℕ) (moved : Bool) (from mid to : ℕ) → open_now ≡ open_calls → refused_now ≡ refused →
      mid ≡ from →
      Writes uses output s before calls open_now refused_now t actions pieces put own rest moved mid to →
      Writes uses output s before calls open_calls refused t actions pieces put own rest moved from to
  writes_at before calls open_calls open_now refused refused_now t actions pieces put own rest moved from mid to e f k h = record {
    bytes = h.bytes;
    sent = h.sent;
    size = h.size;
    output_is = h.output_is;
    works = subst (λ (n : ℕ). Works uses output s calls open_calls n (changed (dropped_more h.bytes) t) actions (pieces ++ put) own) f
        (subst (λ (o : OpenCallsView). Works uses output s calls o refused_now (changed (dropped_more h.bytes) t) actions (pieces ++ put) own) e h.works);
    settled = h.settled;
    moved = h.moved;
    until = subst (λ (n : ℕ). (output calls ≡ []) ⊎ HasRisen n to) k h.until;
  }

  pub turns_at : (config : Config) (p q : PassView Command Reply Config) (calls : K) (open_calls open_now : OpenCallsView)
      (refused refused_now waiting waiting_now : ℕ)
      (is_ended ended_now : Bool) (past : Past) (before : Account) (turn : During) (moved : Bool) (from to : Counts) → open_now ≡ open_calls →
      refused_now ≡ refused → waiting_now ≡ waiting → ended_now ≡ is_ended →
      TurnsOn uses output s config p q calls open_calls refused waiting is_ended past before turn moved from to →
      TurnsOn uses output s config p q calls open_now refused_now waiting_now ended_now past before turn moved from to
  turns_at config p q calls open_calls open_now refused refused_now waiting waiting_now is_ended ended_now past before turn moved from to e f k l h =
      subst (λ (o : OpenCallsView). TurnsOn uses output s config p q calls o refused_now waiting_now ended_now past before turn moved from to) (sym e)
      (subst (λ (n : ℕ). TurnsOn uses output s config p q calls open_calls n waiting_now ended_now past before turn moved from to) (sym f)
      (subst (λ (n : ℕ). TurnsOn uses output s config p q calls open_calls refused n ended_now past before turn moved from to) (sym k)
      (subst (λ (b : Bool). TurnsOn uses output s config p q calls open_calls refused waiting b past before turn moved from to) (sym l) h)))
