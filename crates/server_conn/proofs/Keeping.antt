-- How a turn after which a connection goes on is answered, and that it keeps up.
use Rattle.std.proofs.Common.{◌≡◌, ◌⊎◌, ◌↔◌, ℕ, ◌+◌, ◌-◌, ◌^◌, ◌<◌, ◌≤◌, ◌==◌, ◌||◌, ◌&&◌, reverse, Bool, true, false, not, length, List, [], ◌∷◌, ◌++◌, Option, Some, None, is_some, inl, inr, refl, sym, ap, ◌∙◌, subst, append_assoc, append-nil, arith, eqb-true, length-append, map, nat_le}
use Rattle.std.specs.List.{flat_map, list_any}
use Rattle.std.proofs.lemmas.Bool.Decides.{nat_tests}
use Rattle.std.proofs.lemmas.Grind.{flat_map-append}
use Rattle.std.proofs.lemmas.List.Folds.{list_any-append}
use Rattle.std.proofs.lemmas.List.Sums.{sum_by-append}
use Rattle.rig_io.specs.Fault.{HasRisen}
use Rattle.rig_io.specs.Link as link
use Rattle.rig_io.specs.Link.{Piece}
use Rattle.h2_exchange.specs.declared.role.Role.{Role}
use Rattle.h2_exchange.specs.declared.role.Role.TheVariants.{Server}
use Rattle.h2_exchange.specs.Exchange.{Sent, sent}
use Rattle.h2_exchange.specs.Order.{received_bytes, sent_bytes}
use Rattle.h2_exchange.specs.Sending.{IsCredited}
use Rattle.h2_exchange.specs.Streams.{is_live, is_reset}
use Rattle.h2_exchange.specs.Windows.{may_send}
use Rattle.http_connection.specs.ConnectionTrace.{Refusal, dropped_more, held, is_alive, wrote}
use Rattle.http_connection.specs.Sends.{CarryCredit}
use Rattle.grpc_stream.specs.CallTrace.{CallTrace, changed, unsent_on, waiting_in}
use Rattle.table_lock.specs.Passes.{IsSound, PassView}
use Rattle.rib_core.specs.Recorded.{IsLawful}
use Rattle.table_model.specs.declared.command.Command.{Command}
use Rattle.table_model.specs.declared.command.Config.{Config}
use Rattle.table_model.specs.declared.reply.Reply.{Reply}
use Rattle.table_model.specs.Event.{Event}
use Rattle.table_model.specs.Sessions.{params_of, wants_results}
use Rattle.call_answers.specs.declared.orders.Setting.{Setting}
use Rattle.call_orders.specs.Calls.{Action, standing}
use Rattle.call_orders.specs.Orders.{staying}
use Rattle.session_engine.specs.Queries.{OpenCallsView, call_on, is_responding, session_in}
use Rattle.server_turns.specs.declared.outcome.TurnEnd.TheVariants.{Idle}
use Rattle.server_turns.specs.Making.{MadeLast}
use Rattle.server_turns.specs.Past.{Past, awaits_from, collects, is_progress, leaves_some}
use Rattle.server_turns.specs.Serving.{Account, EndsWhole, IsAnswered}
use Rattle.server_turns.specs.Turning.{unsent, Counts, During, GoesOn, IsAnswer, IsOwedCollect, IsProgress, KeepsUp, behind, moved, written}
use Rattle.server_account.specs.Agreeing.{IsSettled, account_of, none_left}
use Rattle.session_engine.specs.Queries.{is_asking}
use Rattle.server_conn.specs.declared.conn.Cause.{Cause}
use Rattle.server_conn.specs.Standing.{EndsBy, Goes, NoneWaits, Works, is_spent_by, past_of}
use Rattle.server_conn.specs.Steps.{CollectsAll, CollectsDue, Holds, MUCH, Responds, Writes, got}
use Rattle.server_conn.specs.Turns.{AreAnsweredIfIdle, TakesIn, TurnsLast, TurnsOn, answer_by}
use Rattle.server_conn.proofs.Accounts.{agreement_serves, one_waits, pumps_keep_up}
use Rattle.server_conn.proofs.Grown.{made_more, prefix_more, prefix_refl}
use Rattle.server_conn.proofs.Sessions.{In, open_stands, stays_open}
use Rattle.server_conn.proofs.Served.{is_none, none_open, none_waits, true_false}
use Rattle.server_conn.proofs.Turning.{SoFar, begins, gathers, got_sends_none, holds, last_quiet, none_of, puts, received_then, responds, size_got, size_then}
use Rattle.server_conn.proofs.Turned.{by_contra, choose, credit_unheard, moved_in, or_known, or_right, output_grows, received_got, whole_behind, whole_same}

second_of : (a b : Bool) → (a && b) ≡ true → b ≡ true
second_of true b e = e
second_of false b e = absurd (cc e)

-- what is found in a list is in it
found_in : (n : ℕ) (xs : List ℕ) → list_any (λ other. n == other) xs ≡ true → In n xs
found_in n [] e = absurd cc
found_in n (x ∷ xs) e = by (n == x) refl (found_in n xs) e
  where
    by : (b : Bool) → (n == x) ≡ b → (list_any (λ other. n == other) xs ≡ true → In n xs) → (b || list_any (λ other. n == other) xs) ≡ true →
        In n (x ∷ xs)
    by true same others f = inl (sym (eqb-true n x same))
    by false same others f = inr (others f)

module _ {K : Type 0} (uses : K → CallTrace → Type 0) (output : K → List ℕ) (s : Setting) (config : Config) (past : Past) (before : Account)
    (start : K) (open_start : OpenCallsView) (refused_start : ℕ) (was_ended : Bool)
    (h : Goes uses output s start open_start refused_start was_ended past before)
    (p q r : PassView Command Reply Config) (heard collected responded holding calls : K) (open_heard open_collected open_calls : OpenCallsView)
    (refused_heard refused_collected refused waiting : ℕ) (bytes : List ℕ) (put : List Piece) (is_ended has_read has_collected has_written : Bool)
    (reads reads_now writes writes_now ends ends_now : ℕ)
    (size : length bytes ≤ 16384) (nothing : flat_map link.received_bytes put ≡ []) (last : MadeLast p past.own) (sound : IsSound IsLawful config r)
    (end_is : (is_ended ≡ true → (past.is_ended ≡ true) ⊎ HasRisen ends ends_now) × ((past.is_ended ≡ true) ⊎ (ends < ends_now) → is_ended ≡ true))
    (k : TakesIn uses output s config p q start heard open_heard refused_heard h.trace past.pieces past.own bytes was_ended is_ended has_read reads reads_now)
    (whole : is_ended ≡ true → EndsWhole s (past_of (past.pieces ++ got bytes) (past.own ++ k.heard.goes.did) true)
    (account_of k.heard.goes.trace (output heard) k.heard.rest k.heard.goes.actions) × ((id : ℕ) → is_asking (call_on open_heard id) ≡ false))
    (m : CollectsAll uses output s config q r collected open_heard open_collected refused_collected k.heard.goes.trace (past.pieces ++ got bytes)
    (past.own ++ k.heard.goes.did) has_collected)
    (n : Responds uses output s responded open_collected open_calls refused waiting m.goes.trace (past.pieces ++ got bytes)
    (past.own ++ (k.heard.goes.did ++ m.goes.did)) k.heard.rest)
    (windows : is_ended ≡ true → waiting ≡ 0)
    (o : Holds uses output s holding open_calls refused (nat_le MUCH waiting) n.trace n.actions (past.pieces ++ got bytes)
    (past.own ++ (k.heard.goes.did ++ m.goes.did)) k.heard.rest)
    (w : Writes uses output s holding calls open_calls refused (changed (λ c. held (nat_le MUCH waiting) (wrote o.credit [] c)) n.trace) n.actions
    (past.pieces ++ got bytes) put (past.own ++ (k.heard.goes.did ++ m.goes.did)) k.heard.rest has_written writes writes_now)
    (was_left must is_left : Bool) (taken : must ≡ false → (has_read ≡ false) × (was_left ≡ false) × (open_heard ≡ open_start))
    (idle_start : was_left ≡ false → NoneWaits open_start past.own)
    (due : CollectsDue must is_left open_heard open_collected (past.own ++ k.heard.goes.did) m.goes.did) where
  abbrev first : CallTrace
  first = h.trace

  abbrev own : List Event
  own = k.heard.goes.did ++ m.goes.did

  abbrev held_trace : CallTrace
  held_trace = changed (λ c. held (nat_le MUCH waiting) (wrote o.credit [] c)) n.trace

  abbrev last_trace : CallTrace
  last_trace = changed (dropped_more w.bytes) held_trace

  abbrev turn : During
  turn = record { pieces = got bytes ++ put; own = own; is_ended = is_ended }

  abbrev after : Account
  after = account_of last_trace (output calls) k.heard.rest n.actions

  abbrev from : Counts
  from = record { reads = reads; writes = writes; ends = ends }

  abbrev to : Counts
  to = record { reads = reads_now; writes = writes_now; ends = ends_now }

  so_far_1 : SoFar uses output s config past first p q heard open_heard refused_heard k.heard.goes.trace k.heard.goes.actions (got bytes)
      k.heard.goes.did k.heard.rest
  so_far_1 = begins uses output s config past first p q start heard open_heard refused_heard bytes was_ended is_ended has_read reads reads_now k

  so_far_2 : SoFar uses output s config past first p r collected open_collected refused_collected m.goes.trace m.goes.actions (got bytes) own k.heard.rest
  so_far_2 = gathers uses output s config past first p q heard open_heard refused_heard k.heard.goes.trace k.heard.goes.actions (got bytes) k.heard.goes.did
      k.heard.rest so_far_1 r collected open_collected refused_collected has_collected m

  so_far_3 : SoFar uses output s config past first p r responded open_calls refused n.trace n.actions (got bytes) own k.heard.rest
  so_far_3 = responds uses output s config past first p r collected open_collected refused_collected m.goes.trace m.goes.actions (got bytes) own k.heard.rest
      so_far_2 responded open_calls refused waiting n

  so_far_4 : SoFar uses output s config past first p r holding open_calls refused held_trace n.actions (got bytes) own k.heard.rest
  so_far_4 = holds uses output s config past first p r responded open_calls refused n.trace n.actions (got bytes) own k.heard.rest so_far_3 holding open_calls
      refused (nat_le MUCH waiting) o

  so_far : SoFar uses output s config past first p r calls open_calls refused last_trace n.actions (got bytes ++ put) own k.heard.rest
  so_far = puts uses output s config past first p r holding open_calls refused held_trace n.actions (got bytes) own k.heard.rest so_far_4 calls open_calls
      refused put has_written writes writes_now w

  -- ---- it goes on

  ended_same : is_ended ≡ (past.is_ended || is_ended)
  ended_same = or_known past.is_ended is_ended (λ e. end_is.1 (inl e))

  whole_3 : is_ended ≡ true → EndsWhole s (past_of (past.pieces ++ got bytes) (past.own ++ own) true)
      (account_of n.trace (output responded) k.heard.rest n.actions)
      × ((id : ℕ) → is_asking (call_on open_calls id) ≡ false)
  whole_3 = whole_behind uses output s config past first p q r heard collected responded open_heard open_collected open_calls refused_collected refused waiting
      k.heard.goes.trace k.heard.goes.actions (got bytes) k.heard.goes.did own k.heard.rest has_collected is_ended is_ended refl m n whole

  pieces_same : received_bytes (past.pieces ++ (got bytes ++ put)) ≡ received_bytes (past.pieces ++ got bytes)
  pieces_same = ap received_bytes (sym (append_assoc past.pieces (got bytes) put)) ∙ received_then (past.pieces ++ got bytes) put nothing

  whole_5 : is_ended ≡ true → EndsWhole s (past_of (past.pieces ++ (got bytes ++ put)) (past.own ++ own) true) after
  whole_5 e = whole_same s (past.pieces ++ got bytes) (past.pieces ++ (got bytes ++ put)) (past.own ++ own) (past.own ++ own) n.trace last_trace
      (output responded)
      (output calls) k.heard.rest n.actions n.actions true pieces_same (credit_unheard n.trace.connection_trace.frames o.credit) (whole_3 e).0

  goes_now : Goes uses output s calls open_calls refused is_ended (behind turn past) after
  goes_now = record {
    trace = last_trace;
    works = so_far.works;
    account = refl;
    settled = so_far.settled;
    ended = ended_same;
    whole = λ e. (let e' = ended_same ∙ e in (
      whole_5 e',
      λ id. none_open s (call_on open_calls id) (standing s n.actions id).state ((whole_3 e').1 id) (so_far.works.agrees.handled.open_now.stands id),
    ));
    serves = agreement_serves s last_trace (output calls) k.heard.rest open_calls (behind turn past) n.actions so_far.works.agrees so_far.settled
        (λ e. (let e' = ended_same ∙ e in (
          whole_5 e',
          λ id. none_open s (call_on open_calls id) (standing s n.actions id).state ((whole_3 e').1 id) (so_far.works.agrees.handled.open_now.stands id),
        )));
  }

  goes_on_now : GoesOn past before after turn from to
  goes_on_now = subst (λ (a : Account). GoesOn past a after turn from to) (sym h.account) (record {
    limits = so_far.grows.limits;
    heads = so_far.grows.heads;
    frames = so_far.grows.frames;
    size = size_then (got bytes) put (size_got bytes size) nothing;
    given = end_is.0;
    told = end_is.1;
  })

  -- ---- its answer

  moved_now : moved (got bytes ++ put) ≡ length bytes + length w.bytes
  moved_now = moved_in bytes w.bytes put nothing w.sent

  by_reading : has_read ≡ true → IsProgress past turn
  by_reading e = by (k.moved.0 e)
    where
      by : (0 < length bytes) ⊎ ((was_ended ≡ false) × (is_ended ≡ true)) → IsProgress past turn
      by (inl some) = inl (let e = moved_now in omega arith)
      by (inr f) = inr (inl (sym h.ended ∙ f.0, f.1))

  by_collecting : has_collected ≡ true → IsProgress past turn
  by_collecting e = inr (inr (list_any-append is_progress k.heard.goes.did m.goes.did
      ∙ or_right (list_any is_progress k.heard.goes.did) (list_any is_progress m.goes.did) (sym m.moved ∙ e)))

  by_writing : has_written ≡ true → IsProgress past turn
  by_writing e = inl (let some = w.moved.0 e in let e' = moved_now in omega arith)

  nothing_read' : has_read ≡ false → bytes ≡ []
  nothing_read' e = none_of bytes has_read e (λ some. k.moved.1 (inl some))

  nothing_put : has_written ≡ false → w.bytes ≡ []
  nothing_put e = none_of w.bytes has_written e (λ some. w.moved.1 some)

  end_before : has_read ≡ false → is_ended ≡ true → was_ended ≡ true
  end_before e f = by_contra was_ended (λ g. true_false (sym (k.moved.1 (inr (g, f))) ∙ e))

  no_progress : has_read ≡ false → has_collected ≡ false → has_written ≡ false → IsProgress past turn → ⊥
  no_progress e f g (inl some) =
      (let a = moved_now in let b : length bytes ≡ 0 = ap length (nothing_read' e) in let c : length w.bytes ≡ 0 = ap length (nothing_put g) in
      absurd (omega arith))
  no_progress e f g (inr (inl x)) = true_false (sym (k.moved.1 (inr (h.ended ∙ x.0, x.1))) ∙ e)
  no_progress e f g (inr (inr x)) =
      true_false (sym x ∙ (ap (λ (es : List Event). list_any is_progress (es ++ m.goes.did)) (k.still e) ∙ (sym m.moved ∙ f)))

  -- ---- no session waits where that is known

  idle_still : must ≡ false → NoneWaits open_start past.own
  idle_still e = idle_start (taken e).1

  idle_heard : must ≡ false → NoneWaits open_heard (past.own ++ k.heard.goes.did)
  idle_heard e = subst (λ (o : OpenCallsView). NoneWaits o (past.own ++ k.heard.goes.did)) (sym (taken e).2)
      (subst (λ (es : List Event). NoneWaits open_start es) (sym (ap (λ (es : List Event). past.own ++ es) (k.still (taken e).0) ∙ append-nil past.own))
      (idle_still e))

  pub idle_now : is_left ≡ false → NoneWaits open_calls (past.own ++ own)
  idle_now e = λ id session is_finished at.
      (let x = due.idle idle_heard e id session is_finished ((n.fewer id).1 session is_finished at) in (
        x.0,
        ap (awaits_from false session) (sym (append_assoc past.own k.heard.goes.did m.goes.did)) ∙ x.1,
      ))

  either_way : {A : Type 0} → (must ≡ true → A) → (must ≡ false → A) → A
  either_way {A} f g = by must refl
    where
      by : (b : Bool) → must ≡ b → A
      by true e = f e
      by false e = g e

  -- one that stays with its client's side ended leaves results outstanding
  stays_left : (id session : ℕ) → session_in (call_on open_collected id) ≡ Some (session, true) → list_any leaves_some m.goes.did ≡ true
  stays_left id session at = either_way (λ e. due.stays e id session at)
      (λ e. true_false (idle_heard e id session true ((m.fewer id).1 session true at)).0)

  -- no byte waits to be written where the output is empty in the end and nothing was put
  quiet : has_written ≡ false → output calls ≡ [] → length (output holding) ≡ 0
  quiet g empty =
      (let a : length (output holding) ≡ length (w.bytes ++ output calls) = ap length w.output_is in let b = length-append w.bytes (output calls) in
      let c : length w.bytes ≡ 0 = ap length (nothing_put g) in let d : length (output calls) ≡ 0 = ap length empty in omega arith)

  responded_less : length (output responded) ≤ length (output holding)
  responded_less = output_grows uses output s responded holding open_calls open_calls refused refused n.trace held_trace n.actions n.actions
      (past.pieces ++ got bytes) (past.pieces ++ got bytes) (past.own ++ own) (past.own ++ own) refl (record {
        limits = refl;
        heads = prefix_refl n.trace.connection_trace.heads;
        frames = prefix_more n.trace.connection_trace.frames (map Sent o.credit);
      }) n.works o.works

  start_less : length (output start) ≤ length (output holding)
  start_less = output_grows uses output s start holding open_start open_calls refused_start refused first held_trace before.actions n.actions
      past.pieces (past.pieces ++ got bytes) past.own (past.own ++ own)
      (flat_map-append link.sent_bytes past.pieces (got bytes) ∙ (ap (λ (l : List ℕ). sent_bytes past.pieces ++ l) (got_sends_none bytes) ∙
      append-nil (sent_bytes past.pieces)))
      so_far_4.grows h.works o.works

  module _ (unserved : is_ended ≡ true → output calls ≡ [] → ((id : ℕ) → call_on open_calls id ≡ None) → ⊥) where
    outstanding : has_written ≡ false → is_ended ≡ true → output calls ≡ [] → list_any leaves_some m.goes.did ≡ true
    outstanding g ended empty = by_contra (list_any leaves_some m.goes.did) (λ none.
        unserved ended empty (λ id. is_none (call_on open_calls id) ((whole_3 ended).1 id) (no_responses n.enough id)
        (λ session at. true_false (sym (stays_left id session ((n.fewer id).1 session true at)) ∙ none))))
      where
        no_responses : ((id : ℕ) → is_responding (call_on open_calls id) ≡ false) ⊎ (MUCH ≤ waiting + length (output responded)) →
            (id : ℕ) → is_responding (call_on open_calls id) ≡ false
        no_responses (inl f) id = f id
        no_responses (inr much) id = absurd (let a = windows ended in let b = quiet g empty in let c = responded_less in omega arith)

    idle : has_read ≡ false → has_collected ≡ false → has_written ≡ false → IsAnswer past turn from to Idle
    idle e f g = (no_progress e f g, by k.why)
      where
        stuck : (output calls ≡ []) ⊎ HasRisen writes writes_now → (output calls ≡ [] → ⊥) →
            HasRisen reads reads_now ⊎ HasRisen writes writes_now ⊎ ((past.is_ended ≡ true) × (list_any leaves_some own ≡ true))
        stuck (inl empty) full = absurd (full empty)
        stuck (inr risen) full = inr (inl risen)

        over : is_ended ≡ true → (output calls ≡ []) ⊎ HasRisen writes writes_now →
            HasRisen reads reads_now ⊎ HasRisen writes writes_now ⊎ ((past.is_ended ≡ true) × (list_any leaves_some own ≡ true))
        over ended (inr risen) = inr (inl risen)
        over ended (inl empty) = inr (inr (
          sym h.ended ∙ end_before e ended,
          list_any-append leaves_some k.heard.goes.did m.goes.did
              ∙ or_right (list_any leaves_some k.heard.goes.did) (list_any leaves_some m.goes.did) (outstanding g ended empty),
        ))

        by : (0 < length bytes) ⊎ (is_ended ≡ true) ⊎ HasRisen reads reads_now ⊎ (MUCH ≤ length (output start)) →
            HasRisen reads reads_now ⊎ HasRisen writes writes_now ⊎ ((past.is_ended ≡ true) × (list_any leaves_some own ≡ true))
        by (inl some) = absurd (let b : length bytes ≡ 0 = ap length (nothing_read' e) in omega arith)
        by (inr (inl ended)) = over ended w.until
        by (inr (inr (inl risen))) = inl risen
        by (inr (inr (inr much))) = stuck w.until (λ empty. absurd (let a = quiet g empty in let c = start_less in omega arith))

    answered_so : (moved_so : Bool) → moved_so ≡ (has_read || has_collected || has_written) → IsAnswer past turn from to (answer_by moved_so)
    answered_so moved_so e = choose (λ b. IsAnswer past turn from to (answer_by b)) has_read has_collected has_written moved_so e by_reading
        by_collecting by_writing idle

  -- ---- it keeps up

  less_min : waiting ≤ waiting_in n.trace
  less_min = (let e = n.pumped.waits in omega arith)

  credits : (id : ℕ) → (is_reset (n.trace.connection_trace.frames ++ map Sent o.credit) id ≡ is_reset n.trace.connection_trace.frames id)
      × (is_live Server (n.trace.connection_trace.frames ++ map Sent o.credit) id ≡ is_live Server n.trace.connection_trace.frames id)
      × (may_send (n.trace.connection_trace.frames ++ map Sent o.credit) id ≡ may_send n.trace.connection_trace.frames id)
      × (IsAnswered s (behind turn past) (account_of n.trace (output responded) k.heard.rest n.actions) id →
      IsAnswered s (behind turn past) (account_of held_trace (output holding) k.heard.rest n.actions) id)
      × (waiting_in held_trace ≡ waiting_in n.trace)
  credits id = (pumps_keep_up s n.trace (output responded) (output holding) open_calls n.actions (past.pieces ++ got bytes) (past.own ++ own) none_left
      (behind turn past) k.heard.rest).credits (nat_le MUCH waiting) o.credit id o.carried

  waits_now : waiting ≤ unsent s after
  waits_now = (let a = (pumps_keep_up s last_trace (output calls) (output calls) open_calls n.actions (past.pieces ++ (got bytes ++ put))
      (past.own ++ own) none_left
      (behind turn past) k.heard.rest).waits so_far.works.agrees in
      let b : waiting_in last_trace ≡ waiting_in n.trace = (credits 0).4 in
      let c = less_min in omega arith)

  sent_3 : (id : ℕ) → is_responding (call_on open_calls id) ≡ false → is_reset after.frames id ≡ false →
      IsAnswered s (behind turn past) (account_of n.trace (output responded) k.heard.rest n.actions) id
      ⊎ ((is_live Server n.trace.connection_trace.frames id ≡ true) × (may_send n.trace.connection_trace.frames id ≡ 0) × (0 < unsent_on n.trace id))
  sent_3 id none unreset = (pumps_keep_up s n.pumped.before [] (output responded) open_calls n.actions (past.pieces ++ got bytes) (past.own ++ own) none_left
      (behind turn past) k.heard.rest).answered n.trace id n.works.agrees n.pumped.pumps n.pumped.alive
      (none_waits s (call_on open_calls id) (standing s n.actions id).state none (n.works.agrees.handled.open_now.stands id)) (sym (credits id).0 ∙ unreset)

  answered_now : (id : ℕ) → is_reset after.frames id ≡ false → IsAnswered s (behind turn past) after id
      ⊎ ((is_live Server after.frames id ≡ true) × (may_send after.frames id ≡ 0))
      ⊎ (1048576 ≤ written turn.pieces + length after.output + waiting)
  answered_now id unreset = by n.enough
    where
      on : IsAnswered s (behind turn past) (account_of n.trace (output responded) k.heard.rest n.actions) id
          ⊎ ((is_live Server n.trace.connection_trace.frames id ≡ true) × (may_send n.trace.connection_trace.frames id ≡ 0) × (0 < unsent_on n.trace id)) →
          IsAnswered s (behind turn past) after id ⊎ ((is_live Server after.frames id ≡ true) × (may_send after.frames id ≡ 0))
          ⊎ (1048576 ≤ written turn.pieces + length after.output + waiting)
      on (inl fine) = inl ((credits id).3 fine)
      on (inr full) = inr (inl ((credits id).1 ∙ full.0, (credits id).2 ∙ full.1))

      by : ((id : ℕ) → is_responding (call_on open_calls id) ≡ false) ⊎ (MUCH ≤ waiting + length (output responded)) →
          IsAnswered s (behind turn past) after id ⊎ ((is_live Server after.frames id ≡ true) × (may_send after.frames id ≡ 0))
          ⊎ (1048576 ≤ written turn.pieces + length after.output + waiting)
      by (inl none) = on (sent_3 id (none id) unreset)
      by (inr much) = inr (inr (
          let a = responded_less in
          let b : length (output holding) ≡ length (w.bytes ++ output calls) = ap length w.output_is in
          let c = length-append w.bytes (output calls) in
          let d : written (got bytes ++ put) ≡ written (got bytes) + written put = sum_by-append (λ (x : Piece). length (link.sent_bytes x)) (got bytes) put in
          let e : written put ≡ length w.bytes = w.size in
          omega arith))

  alive_3 : is_alive n.trace.connection_trace ≡ true
  alive_3 = ap (λ (x : Option Refusal). not (is_some x)) so_far_3.settled.alive

  credited_now : IsCredited Server after.limits after.frames ⊎ (1048576 ≤ waiting)
  credited_now = by (nat_le MUCH waiting) refl
    where
      by : (b : Bool) → nat_le MUCH waiting ≡ b → IsCredited Server after.limits after.frames ⊎ (1048576 ≤ waiting)
      by true e = inr (grind (arith, nat_tests))
      by false e = inl (subst (λ (x : Role). IsCredited x after.limits after.frames) n.works.agrees.server.role
          ((subst (λ (b : Bool). CarryCredit b n.trace.connection_trace o.credit) e o.carried).3 alive_3))

  collected_now : (session : ℕ) → IsOwedCollect s past before session → list_any (λ other. session == other) (staying (past.own ++ own)) ≡ true →
      list_any (collects session) own ≡ true
  collected_now session owed stays = either_way each none
    where
      x : (id : ℕ) × (f : Bool) × (session_in (call_on open_heard id) ≡ Some (session, f))
      x = (let y = stays_open s config r open_calls n.actions (past.own ++ own) sound (made_more config p r past.own own last so_far.made)
          so_far.works.agrees.handled.open_now so_far.works.agrees.handled.did session (found_in session (staying (past.own ++ own)) stays) in
          (y.0, y.1, (m.fewer y.0).1 session y.1 ((n.fewer y.0).1 session y.1 y.2)))

      each : must ≡ true → list_any (collects session) own ≡ true
      each e = list_any-append (collects session) k.heard.goes.did m.goes.did ∙ or_right (list_any (collects session) k.heard.goes.did)
          (list_any (collects session) m.goes.did) (due.all e x.0 session x.1 x.2)

      none : must ≡ false → list_any (collects session) own ≡ true
      none e = by owed
        where
          quiet : (x.1 ≡ false) × (awaits_from false session past.own ≡ false)
          quiet = idle_still e x.0 session x.1 (ap (λ (o : OpenCallsView). session_in (call_on o x.0)) (sym (taken e).2) ∙ x.2)

          by : IsOwedCollect s past before session → list_any (collects session) own ≡ true
          by (inl waits) = true_false (sym (second_of (wants_results (params_of (reverse past.own) session)) (awaits_from false session past.own) waits)
              ∙ quiet.1)
          by (inr (id, at)) = true_false (idle_still e id session true
              (open_stands s (call_on open_start id) session true (standing s before.actions id).state (h.works.agrees.handled.open_now.stands id) at)).0

  read_now : (0 < length (flat_map link.received_bytes turn.pieces)) ⊎ (turn.is_ended ≡ true) ⊎ HasRisen reads reads_now
      ⊎ (past.is_ended ≡ true) ⊎ (1048576 ≤ length before.output)
  read_now = by k.why
    where
      by : (0 < length bytes) ⊎ (is_ended ≡ true) ⊎ HasRisen reads reads_now ⊎ (MUCH ≤ length (output start)) →
          (0 < length (flat_map link.received_bytes turn.pieces)) ⊎ (turn.is_ended ≡ true) ⊎ HasRisen reads reads_now
          ⊎ (past.is_ended ≡ true) ⊎ (1048576 ≤ length before.output)
      by (inl some) = inl (subst (λ (l : List ℕ). 0 < length l) (sym (received_got bytes put nothing)) some)
      by (inr (inl ended)) = inr (inl ended)
      by (inr (inr (inl risen))) = inr (inr (inl risen))
      by (inr (inr (inr much))) = inr (inr (inr (inr (subst (λ (l : List ℕ). 1048576 ≤ length l) (sym (ap (λ (a : Account). a.output) h.account)) much))))

  keeps_up_now : KeepsUp s past (behind turn past) before after turn waiting from to
  keeps_up_now = record {
    waits = waits_now;
    answered = answered_now;
    credited = credited_now;
    written_is = w.until;
    collected = collected_now;
    read = read_now;
  }

  pub turns_on : (moved_so : Bool) → moved_so ≡ (has_read || has_collected || has_written) →
      (is_ended ≡ true → output calls ≡ [] → ((id : ℕ) → call_on open_calls id ≡ None) → ⊥) →
      TurnsOn uses output s config p r calls open_calls refused waiting is_ended past before turn moved_so from to
  turns_on moved_so e unserved = record {
    made = so_far.made;
    after = after;
    goes = goes_now;
    goes_on = goes_on_now;
    answer = answered_so unserved moved_so e;
    keeps_up = keeps_up_now;
  }

  -- ---- all may be served

  answered_if_idle : is_ended ≡ true → AreAnsweredIfIdle s open_calls (past_of (past.pieces ++ (got bytes ++ put)) (past.own ++ own) true) after
  answered_if_idle ended idle id unreset = by (sent_3 id (ap is_responding (idle id)) unreset)
    where
      by : IsAnswered s (behind turn past) (account_of n.trace (output responded) k.heard.rest n.actions) id
          ⊎ ((is_live Server n.trace.connection_trace.frames id ≡ true) × (may_send n.trace.connection_trace.frames id ≡ 0) × (0 < unsent_on n.trace id)) →
          IsAnswered s (behind turn past) after id
      by (inl fine) = (credits id).3 fine
      by (inr full) = absurd (let a = n.pumped.waits in let b = windows ended in
          let c : unsent_on n.trace id ≤ waiting_in n.trace = one_waits n.trace id
          (subst (λ (x : Role). is_live x n.trace.connection_trace.frames id ≡ true) (sym n.works.agrees.server.role) full.0) in
          let d = full.2 in
          omega arith)

  -- Behind it all may be served: the last check ends the turn so.
  abbrev EndsServed : OpenCallsView → ℕ → Bool → Cause → Type 0
  EndsServed open_now refused_now ended_now cause = (t : CallTrace) (actions : List Action) (pieces : List Piece) (made : List Event) (rest : List ℕ) →
      Works uses output s calls open_now refused_now t actions pieces made → IsSettled t rest →
      (ended_now ≡ true → EndsWhole s (past_of pieces made true) (account_of t (output calls) rest actions)) →
      (ended_now ≡ true → AreAnsweredIfIdle s open_now (past_of pieces made true) (account_of t (output calls) rest actions)) →
      EndsBy s t (output calls) open_now refused_now (past_of pieces made ended_now) cause

  served_so : (cause : Cause) → is_spent_by cause ≡ false → EndsServed open_calls refused is_ended cause →
      TurnsLast uses output s config p r first calls open_calls refused is_ended past turn cause from to
  served_so cause quiet ends = last_quiet uses output s config past first p r calls open_calls refused last_trace n.actions (got bytes ++ put) own k.heard.rest
      so_far is_ended from to (size_then (got bytes) put (size_got bytes size) nothing) end_is calls open_calls refused cause quiet
      (ends last_trace n.actions (past.pieces ++ (got bytes ++ put)) (past.own ++ own) k.heard.rest so_far.works so_far.settled whole_5 answered_if_idle)

  pub served_last : (open_now : OpenCallsView) (refused_now : ℕ) (ended_now : Bool) (cause : Cause) → open_now ≡ open_calls → refused_now ≡ refused →
      ended_now ≡ is_ended → is_spent_by cause ≡ false → EndsServed open_now refused_now ended_now cause →
      TurnsLast uses output s config p r first calls open_now refused_now ended_now past turn cause from to
  served_last open_now refused_now ended_now cause e f g quiet =
      subst (λ (o : OpenCallsView). EndsServed o refused_now ended_now cause →
      TurnsLast uses output s config p r first calls o refused_now ended_now past turn cause from to) (sym e)
      (subst (λ (c : ℕ). EndsServed open_calls c ended_now cause →
      TurnsLast uses output s config p r first calls open_calls c ended_now past turn cause from to) (sym f)
      (subst (λ (b : Bool). EndsServed open_calls refused b cause →
      TurnsLast uses output s config p r first calls open_calls refused b past turn cause from to) (sym g) (served_so cause quiet)))
