-- The events of an exchange whose stream errors are answered come in order.
use Rattle.std.proofs.Common.{◌≡◌, ℕ, ◌<◌, ◌^◌, Bool, ◌&&◌, true, false, List, [], ◌∷◌, ◌++◌, Option, Some, None, refl, sym, ap, subst, ◌∙◌, inl, inr, append_assoc}
use Rattle.std.specs.Prelude.{◌==◌, if◌then◌else◌, option_map, is_some}
use Rattle.std.specs.List.{list_any}
use Rattle.std.specs.Option.{option_or}
use Rattle.std.proofs.lemmas.List.{append-nil}
use Rattle.h2_frames.specs.declared.code.ErrorCode.{ErrorCode}
use Rattle.h2_frames.specs.declared.code.TheConstants.ErrorCode as code
use Rattle.h2_frames.specs.declared.frame.Frame.{Frame}
use Rattle.h2_frames.specs.Layout.{body_of}
use Rattle.h2_exchange.specs.declared.limits.H2Limits.{H2Limits}
use Rattle.h2_exchange.specs.declared.role.Role.{Role}
use Rattle.h2_exchange.specs.declared.role.Role.TheVariants.{Server}
use Rattle.h2_exchange.specs.Blocks.{Block, completed, block_with, open_block}
use Rattle.h2_exchange.specs.Content.{Outcome, stream_error, outcome_at, is_malformed}
use Rattle.h2_exchange.specs.Events.{Event, Reset, events_of, sound_events, events_by}
use Rattle.h2_exchange.specs.Exchange.{Step, Received, Sent, received, sent, collect, front_before, first_broken}
use Rattle.h2_exchange.specs.Frames.{stream_of, is_push_promise, is_rst_stream}
use Rattle.h2_exchange.specs.Laws.{CallsAreInPlace}
use Rattle.h2_exchange.specs.Rules.{shape_error, value_error, frame_error, breaks_start, breaks_block_on, breaks_number, breaks_length, breaks_padding, exceeds_connection, overfills_connection, raises_streams}
use Rattle.h2_exchange.specs.Sending.{ResetsErrors}
use Rattle.h2_exchange.specs.StreamErrors.{live_error, block_error, completed_error}
use Rattle.h2_exchange.specs.Stops.{Stop, Error, Calm, stop_at, stop_of, events, frame_stop, block_stop, content_stop, place_behind, has_many_resets}
use Rattle.h2_exchange.specs.declared.limits.CalmCause.TheVariants.{Resets}
use Rattle.h2_exchange.specs.Streams.{begins, is_begun, is_live, is_live_at, is_over, is_reset, is_ended_by, has_rst_stream, has_head, highest, of_client}
use Rattle.h2_exchange.proofs.CallOrder.{in_place}
use Rattle.h2_exchange.proofs.EventOrder.{Stands, IsReset, ResetNext, at_alive, at_begun, none_of, map_none, stands_received, type_is, rst_is, stream_is}
use Rattle.h2_exchange.proofs.FrameOrder.{Good, one, reset_admits, sound_good, completed_stream}
use Rattle.h2_exchange.proofs.Places.{AreInOrder, first_true, second_true, same_self, any_push}
use Rattle.h2_exchange.proofs.Staying.{events_go_on}
use Rattle.h2_exchange.proofs.Steps.{received_sent, sent_push, begun_push, over_stays}

third : {A : Type 0} (a b c : Bool) (v w y : A) (rules : List (Bool × A)) → first_broken ((a, v) ∷ (b, w) ∷ (c, y) ∷ rules) ≡ None → c ≡ false
third true b c v w y rules h = absurd cc
third false true c v w y rules h = absurd cc
third false false true v w y rules h = absurd cc
third false false false v w y rules h = refl

order_more : (es now later : List Event) → AreInOrder es now → AreInOrder (es ++ now) later → AreInOrder es (now ++ later)
order_more es [] later h k = subst (λ (l : List Event). AreInOrder l later) (append-nil es) k
order_more es (e ∷ now) later h k = (h.0, order_more (es ++ e ∷ []) now later h.1 (subst (λ (l : List Event). AreInOrder l later) (sym (append_assoc es (e ∷ []) now)) k))

pub same_sent : (g h : Frame) (x y : List Step) → Sent g ∷ x ≡ Sent h ∷ y → g ≡ h
same_sent g h x y e = cc

pub same_behind : (g h : Step) (x y : List Step) → g ∷ x ≡ h ∷ y → x ≡ y
same_behind g h x y e = cc

-- ---- a sent frame

pub rst_sent : (past : List Step) (g : Frame) (k : ℕ) → is_rst_stream g ≡ true → stream_of g ≡ k → is_over (past ++ Sent g ∷ []) k ≡ true
rst_sent past g k r s =
    first_true (is_reset (past ++ Sent g ∷ []) k) (is_ended_by (received (past ++ Sent g ∷ [])) k && is_ended_by (sent (past ++ Sent g ∷ [])) k)
    (second_true (has_rst_stream (received (past ++ Sent g ∷ [])) k) (has_rst_stream (sent (past ++ Sent g ∷ [])) k)
    (ap (λ (l : List Frame). has_rst_stream l k) (sent_push past g)
    ∙ any_push (λ h. is_rst_stream h && stream_of h == k) (sent past) g
    ∙ second_true (list_any (λ h. is_rst_stream h && stream_of h == k) (sent past)) (is_rst_stream g && stream_of g == k) (rw (r, s) (same_self k))))

stands_sent : (past : List Step) (g : Frame) (x : List Step) (es : List Event) → Stands past (Sent g ∷ x) es → Stands (past ++ Sent g ∷ []) x es
stands_sent past g x es old = record {
  heads = λ k t. ap (λ (l : List Frame). has_head l k) (received_sent past g) ∙ old.heads k t;
  sides = λ k t. ap (λ (l : List Frame). is_ended_by l k) (received_sent past g) ∙ old.sides k t;
  resets = λ k t. kept k (old.resets k t);
}
  where
    kept : (k : ℕ) → IsReset past (Sent g ∷ x) k → IsReset (past ++ Sent g ∷ []) x k
    kept k r = (
      begun_push Server past (Sent g) k ∙ first_true (is_begun Server past k) (begins Server k past (Sent g)) r.0,
      elim r.1 [
        | inl over ↦ inl (over_stays past (Sent g ∷ []) k over)
        | inr next ↦ inl (let same : g ≡ next.0 = same_sent g next.0 x next.1 next.2 in rst_sent past g k (ap is_rst_stream same ∙ next.3) (ap stream_of same ∙ next.4))
      ],
    )

module _ (limits : H2Limits) (heads : List Outcome) where
  -- ---- a received frame

  pub block_sound : (role : Role) (past : List Step) (f : Frame) → stop_at role limits heads past (Received f) ≡ None → breaks_block_on (option_map (λ d. d.stream) (open_block (received past))) f ≡ false
  block_sound role past f e =
      let stop = none_of (frame_stop role limits heads past f) (if has_many_resets role limits heads (past ++ Received f ∷ []) then Some (Calm Resets) else None) e in
      let mapped = none_of (option_map (λ why. Error why (place_behind role past)) (frame_error role past f)) (option_or (block_stop (block_with (open_block (received past)) f)) (content_stop limits (place_behind role past) (outcome_at heads past f))) stop.0 in
      let none = map_none (λ why. Error why (place_behind role past)) (frame_error role past f) mapped.0 in
      let shape = none_of (shape_error role (breaks_start past f) (option_map (λ d. d.stream) (open_block (received past))) (highest (of_client role past)) f)
      (option_or (value_error role f) (first_broken ((exceeds_connection past f, code.FLOW_CONTROL_ERROR) ∷ (overfills_connection past f, code.FLOW_CONTROL_ERROR) ∷ (raises_streams role past f, code.FLOW_CONTROL_ERROR) ∷ []))) none in
      third (breaks_start past f) (is_push_promise f) (breaks_block_on (option_map (λ d. d.stream) (open_block (received past))) f) code.PROTOCOL_ERROR code.PROTOCOL_ERROR code.PROTOCOL_ERROR
      ((breaks_number role (highest (of_client role past)) f, code.PROTOCOL_ERROR) ∷ (breaks_length (highest (of_client role past)) f, code.FRAME_SIZE_ERROR) ∷ (breaks_padding f, code.PROTOCOL_ERROR) ∷ []) shape.0

  -- a stream error is one of a stream that is live, or begun by the frame
  pub error_live : (role : Role) (past : List Step) (f : Frame) (why : ErrorCode) → stop_at role limits heads past (Received f) ≡ None → stream_error role limits heads past f ≡ Some why → is_live_at role past f (stream_of f) ≡ true
  error_live role past f why clear e = by (is_live role past (stream_of f)) refl e
    where
      in_block : (o : Option Block) → completed (received past) f ≡ o → completed_error role limits past f (is_malformed role past f (outcome_at heads past f)) o ≡ Some why → is_live_at role past f (stream_of f) ≡ true
      in_block None is h = absurd cc
      in_block (Some b) is h = live_block (is_live_at role past f b.stream) refl h
        where
          live_block : (t : Bool) → is_live_at role past f b.stream ≡ t → (if t then block_error role limits past b (is_malformed role past f (outcome_at heads past f)) else None) ≡ Some why → is_live_at role past f (stream_of f) ≡ true
          live_block true live k = subst (λ (i : ℕ). is_live_at role past f i ≡ true) (completed_stream (open_block (received past)) f b (block_sound role past f clear) is) live
          live_block false live k = absurd cc

      by : (t : Bool) → is_live role past (stream_of f) ≡ t → option_or (if t then live_error limits past f else None) (completed_error role limits past f (is_malformed role past f (outcome_at heads past f)) (completed (received past) f)) ≡ Some why → is_live_at role past f (stream_of f) ≡ true
      by true live h = first_true (is_live role past (stream_of f)) (begins role (stream_of f) past (Received f)) live
      by false live h = in_block (completed (received past) f) refl h

  module _ (whole : List Step) (answered : ResetsErrors Server limits heads whole) where
    pub reset_next : (past : List Step) (f : Frame) (x : List Step) (why : ErrorCode) → whole ≡ past ++ Received f ∷ x → stop_of Server limits heads (past ++ Received f ∷ []) ≡ None → stream_error Server limits heads past f ≡ Some why → ResetNext (stream_of f) x
    reset_next past f x why e clear is =
        let r = answered past x f why e clear is in
        let small : stream_of f < 2 ^ 31 = (body_of f).stream_in_range in
        (r.0, r.1, r.2, rst_is (stream_of f) why r.0 (type_is (stream_of f) why r.0 r.3), stream_is (stream_of f) why r.0 small r.3)

    received_good : (past : List Step) (f : Frame) (x : List Step) (es : List Event) (old : Stands past (Received f ∷ x) es) → whole ≡ past ++ Received f ∷ x → stop_of Server limits heads past ≡ None → stop_at Server limits heads past (Received f) ≡ None →
        Good limits heads past f x es old (events_of Server limits heads past (Received f))
    received_good past f x es old e going clear = by (stream_error Server limits heads past f) refl
      where
        by : (o : Option ErrorCode) → stream_error Server limits heads past f ≡ o → Good limits heads past f x es old (events_by (sound_events Server heads past f) (stream_of f) o)
        by None is = sound_good limits heads past f x es old is
        by (Some why) is =
            let live = error_live Server past f why clear is in
            one limits heads past f x es old (Reset (stream_of f) why) (reset_admits limits heads past f x es old (stream_of f) why (at_alive past f (stream_of f) live) (
              at_begun past f (stream_of f) live,
              inr (reset_next past f x why e (events_go_on Server limits heads past (Received f) going clear).0 is),
            ))

    step : (past x : List Step) (es : List Event) (s : Step) → whole ≡ past ++ s ∷ x → stop_of Server limits heads past ≡ None → stop_at Server limits heads past s ≡ None → Stands past (s ∷ x) es →
        ((more : List Event) → Stands (past ++ s ∷ []) x (es ++ more) → AreInOrder (es ++ more) (collect (events_of Server limits heads) (past ++ s ∷ []) (front_before (stop_at Server limits heads) (past ++ s ∷ []) x))) →
        AreInOrder es (events_of Server limits heads past s ++ collect (events_of Server limits heads) (past ++ s ∷ []) (front_before (stop_at Server limits heads) (past ++ s ∷ []) x))
    step past x es (Received f) e going clear old go =
        let good = received_good past f x es old e going clear in
        order_more es (events_of Server limits heads past (Received f)) (collect (events_of Server limits heads) (past ++ Received f ∷ []) (front_before (stop_at Server limits heads) (past ++ Received f ∷ []) x))
        good.0 (go (events_of Server limits heads past (Received f)) (stands_received past f x es (events_of Server limits heads past (Received f)) old good.1))
    step past x es (Sent g) e going clear old go =
        subst (λ (l : List Event). AreInOrder l (collect (events_of Server limits heads) (past ++ Sent g ∷ []) (front_before (stop_at Server limits heads) (past ++ Sent g ∷ []) x))) (append-nil es)
        (go [] (subst (Stands (past ++ Sent g ∷ []) x) (sym (append-nil es)) (stands_sent past g x es old)))

    walk : (past x : List Step) (es : List Event) → whole ≡ past ++ x → stop_of Server limits heads past ≡ None → Stands past x es →
        AreInOrder es (collect (events_of Server limits heads) past (front_before (stop_at Server limits heads) past x))
    walk past [] es e going old = tt
    walk past (s ∷ x) es e going old =
        by (stop_at Server limits heads past s) refl
        (λ is more new. walk (past ++ s ∷ []) x (es ++ more) (e ∙ sym (append_assoc past (s ∷ []) x)) (events_go_on Server limits heads past s going is).0 new)
      where
        by : (o : Option Stop) → stop_at Server limits heads past s ≡ o →
            (stop_at Server limits heads past s ≡ None → (more : List Event) → Stands (past ++ s ∷ []) x (es ++ more) → AreInOrder (es ++ more) (collect (events_of Server limits heads) (past ++ s ∷ []) (front_before (stop_at Server limits heads) (past ++ s ∷ []) x))) →
            AreInOrder es (collect (events_of Server limits heads) past (if is_some o then [] else s ∷ front_before (stop_at Server limits heads) (past ++ s ∷ []) x))
        by (Some stop) is go = tt
        by None is go = step past x es s e going is old (go is)

-- the events of an exchange come in order
pub events_come_in_order : (limits : H2Limits) (heads : List Outcome) (x : List Step) → ResetsErrors Server limits heads x → AreInOrder [] (events Server limits heads x)
events_come_in_order limits heads x answered =
    walk limits heads x answered [] x [] refl refl (record { heads = λ k t. absurd cc; sides = λ k t. absurd cc; resets = λ k t. absurd cc })

pub calls_are_in_place : {M E : Type 0} → CallsAreInPlace M E
calls_are_in_place limits heads x method_of compressed too_long truncated answered =
    in_place method_of compressed too_long truncated (events Server limits heads x) (events_come_in_order limits heads x answered)
