-- At a server the head of a stream comes first on it.
use Rattle.std.proofs.Common.{◌≡◌, inl, inr, ℕ, zero, suc, ◌<◌, Bool, ◌&&◌, ◌||◌, false, true, not, List, [], ◌∷◌, ◌++◌, length, refl, sym, ap, subst, ◌∙◌, arith, append_assoc, Option, Some, None, Ok, Err}
use Rattle.std.specs.Prelude.{if◌then◌else◌, ◌==◌, is_some, option_map, option_to_list, slice_get}
use Rattle.std.specs.List.{list_any}
use Rattle.std.specs.Option.{option_or}
use Rattle.std.proofs.lemmas.Bool.{eqb-true}
use Rattle.std.proofs.lemmas.List.{append-nil}
use Rattle.std.proofs.lemmas.List.Folds.{list_any-append}
use Rattle.h2_frames.specs.declared.code.ErrorCode.{ErrorCode}
use Rattle.h2_frames.specs.declared.frame.Frame.{Frame}
use Rattle.h2_frames.specs.declared.frame.Frame.TheVariants.{Content, Headers, Priority, RstStream, Settings, PushPromise, Ping, GoAway, WindowUpdate, Continuation, Unknown}
use Rattle.hpack_tables.specs.declared.fault.HpackFault.{HpackFault}
use Rattle.hpack_tables.specs.declared.fault.HpackFault.TheVariants as fault
use Rattle.hpack_tables.specs.declared.field.Field.{Field}
use Rattle.h2_exchange.specs.declared.limits.CalmCause.TheVariants.{Resets}
use Rattle.h2_exchange.specs.declared.limits.H2Limits.{H2Limits}
use Rattle.h2_exchange.specs.declared.role.Role.TheVariants.{Server}
use Rattle.h2_exchange.specs.Blocks.{Block, block_with, blocks, completed, completed_by, data_of, left_open, open_block}
use Rattle.h2_exchange.specs.Content.{Outcome, outcome_at, outcome_for, stream_error}
use Rattle.h2_exchange.specs.Events.{Event, Head, Data, Ended, Reset, GoneAway, block_events, data_events, events_by, events_of, read_events, sound_events, trailers_events}
use Rattle.h2_exchange.specs.Exchange.{Step, Received, Sent, collect, front_before, received}
use Rattle.h2_exchange.specs.Frames.{stream_of, is_continuation, is_data, is_goaway, is_headers, is_rst_stream, has_end_headers, has_end_stream, code_of, last_stream_of, goaway_code_of}
use Rattle.h2_exchange.specs.Outcomes.{AreEnough}
use Rattle.h2_exchange.specs.Rules.{breaks_block_on, frame_error}
use Rattle.h2_exchange.specs.Sending.{ResetsErrors}
use Rattle.h2_exchange.specs.Stops.{Calm, Error, Stop, block_stop, content_stop, events, frame_stop, has_many_resets, place_behind, stop_at, stop_of}
use Rattle.h2_exchange.specs.Streams.{begins, has_head, is_begun, is_live, is_live_at, is_over}
use Rattle.h2_exchange.proofs.Answered.{block_sound, reset_next, rst_sent, same_sent}
use Rattle.h2_exchange.proofs.EventOrder.{ResetNext, map_none, none_of}
use Rattle.h2_exchange.proofs.FrameOrder.{completed_stream}
use Rattle.h2_exchange.proofs.Heads.{all_none}
use Rattle.h2_exchange.proofs.Places.{and_parts, clash, first_true, not_true, one_of, same_self, second_true}
use Rattle.h2_exchange.proofs.Staying.{events_go_on}
use Rattle.h2_exchange.proofs.Steps.{begun_push, header_blocks_grow, over_stays, received_push, received_sent}
use Rattle.call_hearing.specs.Listening.{brings_on, heads_on}
use Rattle.call_hearing.proofs.Low.{fresh_head, new_of}

-- ---- kinds of frames

abbrev blocks_on : Frame → Bool
blocks_on f = is_headers f || is_continuation f

record Kind (f : Frame) : Type 0 where
  data_not : is_data f ≡ false
  rst_not : is_rst_stream f ≡ false
  away_not : is_goaway f ≡ false

kind_of : (f : Frame) → blocks_on f ≡ true → Kind f
kind_of (Headers h) e = record { data_not = refl; rst_not = refl; away_not = refl }
kind_of (Continuation h) e = record { data_not = refl; rst_not = refl; away_not = refl }
kind_of (Content h) e = absurd cc
kind_of (Priority h) e = absurd cc
kind_of (RstStream h) e = absurd cc
kind_of (Settings h) e = absurd cc
kind_of (PushPromise h) e = absurd cc
kind_of (Ping h) e = absurd cc
kind_of (GoAway h) e = absurd cc
kind_of (WindowUpdate h) e = absurd cc
kind_of (Unknown n h) e = absurd cc

no_block : (opened : Option Block) (f : Frame) → blocks_on f ≡ false → block_with opened f ≡ None
no_block None (Headers h) e = absurd cc
no_block None f e = refl
no_block (Some d) (Continuation h) e = absurd cc
no_block (Some d) f e = refl

if_none : (t : Bool) (o : Option Block) → o ≡ None → (if t then o else None) ≡ None
if_none true o e = e
if_none false o e = refl

record LeftOpen (opened : Option Block) (f : Frame) (k : ℕ) : Type 0 where
  b : Block
  is : left_open opened f ≡ Some b
  on : b.stream ≡ k

left_if : (t : Bool) (b : Block) (k : ℕ) → (if t then Some b else None) ≡ None → (if t then None else Some b) ≡ Some b
left_if true b k e = absurd cc
left_if false b k e = refl

in_block_stream : (c : Bool) (a b : ℕ) → not (c && a == b) ≡ false → b ≡ a
in_block_stream c a b e = sym (eqb-true a b (both c (a == b) e))
  where
    both : (c t : Bool) → not (c && t) ≡ false → t ≡ true
    both true true h = refl
    both true false h = absurd cc
    both false t h = absurd cc

-- a frame of a header block that completes none leaves it open
open_after : (opened : Option Block) (f : Frame) (k : ℕ) → breaks_block_on (option_map (λ d. d.stream) opened) f ≡ false → completed_by opened f ≡ None → stream_of f ≡ k → blocks_on f ≡ true →
    LeftOpen opened f k
open_after None (Headers h) k sound none on e =
    record { b = _; is = left_if (has_end_headers (Headers h)) (record { stream = stream_of (Headers h); last = _; text = _; frames = 1 }) k none; on = on }
open_after (Some d) (Continuation h) k sound none on e =
    record { b = _; is = left_if (has_end_headers (Continuation h)) (record { stream = d.stream; last = _; text = _; frames = _ }) k none; on = in_block_stream true (stream_of (Continuation h)) d.stream sound ∙ on }
open_after None (Continuation h) k sound none on e = absurd cc
open_after (Some d) (Headers h) k sound none on e = absurd cc
open_after opened (Content h) k sound none on e = absurd cc
open_after opened (Priority h) k sound none on e = absurd cc
open_after opened (RstStream h) k sound none on e = absurd cc
open_after opened (Settings h) k sound none on e = absurd cc
open_after opened (PushPromise h) k sound none on e = absurd cc
open_after opened (Ping h) k sound none on e = absurd cc
open_after opened (GoAway h) k sound none on e = absurd cc
open_after opened (WindowUpdate h) k sound none on e = absurd cc
open_after opened (Unknown n h) k sound none on e = absurd cc

-- ---- how a stream stands that was begun

data Stood (past behind : List Step) (es : List Event) (k : ℕ) : Type 0 where
  headed : list_any (heads_on k) es ≡ true → Stood past behind es k
  over : is_over past k ≡ true → Stood past behind es k
  resets : ResetNext k behind → Stood past behind es k
  in_block : (b : Block) → open_block (received past) ≡ Some b → b.stream ≡ k → has_head (received past) k ≡ false → Stood past behind es k

abbrev Ready : List Step → List Step → List Event → Type 0
Ready past behind es = (k : ℕ) → is_begun Server past k ≡ true → Stood past behind es k

-- each event that brings something comes behind a head
abbrev pub Follow : List Event → List Event → Type 0
Follow past [] = Unit {0}
Follow past (e ∷ es) = ((k : ℕ) → brings_on k e ≡ true → list_any (heads_on k) past ≡ true) × Follow (past ++ e ∷ []) es

follow_more : (es now later : List Event) → Follow es now → Follow (es ++ now) later → Follow es (now ++ later)
follow_more es [] later h k = subst (λ (l : List Event). Follow l later) (append-nil es) k
follow_more es (e ∷ now) later h k = (h.0, follow_more (es ++ e ∷ []) now later h.1 (subst (λ (l : List Event). Follow l later) (sym (append_assoc es (e ∷ []) now)) k))

heads_more : (k : ℕ) (es more : List Event) → list_any (heads_on k) es ≡ true → list_any (heads_on k) (es ++ more) ≡ true
heads_more k es more e = list_any-append (heads_on k) es more ∙ first_true (list_any (heads_on k) es) (list_any (heads_on k) more) e

heads_new : (k : ℕ) (es more : List Event) → list_any (heads_on k) more ≡ true → list_any (heads_on k) (es ++ more) ≡ true
heads_new k es more e = list_any-append (heads_on k) es more ∙ second_true (list_any (heads_on k) es) (list_any (heads_on k) more) e

not_sent : (f g : Frame) (x more : List Step) → Received f ∷ x ≡ Sent g ∷ more → ⊥
not_sent f g x more e = cc

in_range : {A : Type 0} (xs : List A) (i : ℕ) → i < length xs → slice_get xs i ≡ None → ⊥
in_range [] i h e = absurd (omega (arith, h))
in_range (x ∷ xs) zero h e = absurd cc
in_range (x ∷ xs) (suc i) h e = in_range xs i (omega (arith, h)) e

fault_stops : (limits : H2Limits) (place : ℕ) (f : HpackFault) → content_stop limits place (Some (Err f)) ≡ None → ⊥
fault_stops limits place fault.ListTooLong e = absurd cc
fault_stops limits place fault.BadIndex e = absurd cc
fault_stops limits place fault.BadInteger e = absurd cc
fault_stops limits place fault.BadString e = absurd cc
fault_stops limits place fault.LateSizeUpdate e = absurd cc
fault_stops limits place fault.SizeTooLarge e = absurd cc
fault_stops limits place fault.NoMemory e = absurd cc

both_none : (a b : Bool) → a ≡ false → (a || b) ≡ true → b ≡ true
both_none true b e f = absurd cc
both_none false b e f = f

not_live_over : (b o : Bool) → (b && not o) ≡ false → b ≡ true → o ≡ true
not_live_over true true e f = refl
not_live_over true false e f = absurd cc
not_live_over false o e f = absurd cc

module _ (limits : H2Limits) (heads : List Outcome) (whole : List Step) (answered : ResetsErrors Server limits heads whole) (known : AreEnough Server limits heads whole) where
  module _ (past : List Step) (f : Frame) (x : List Step) (es : List Event) (split : whole ≡ past ++ Received f ∷ x) (going : stop_of Server limits heads past ≡ None)
      (clear : stop_at Server limits heads past (Received f) ≡ None) (ready : Ready past (Received f ∷ x) es) where
    abbrev now : List Step
    now = past ++ Received f ∷ []

    begun_before : (k : ℕ) → is_begun Server now k ≡ true → (begins Server k past (Received f) ≡ true → ⊥) → is_begun Server past k ≡ true
    begun_before k e no_new =
        elim (one_of (is_begun Server past k) (begins Server k past (Received f)) (sym (begun_push Server past (Received f) k) ∙ e)) [
          | inl before ↦ before
          | inr new ↦ absurd (no_new new)
        ]

    abbrev NotInBlock : ℕ → Type 0
    NotInBlock k = (b : Block) → open_block (received past) ≡ Some b → b.stream ≡ k → has_head (received past) k ≡ false → ⊥

    not_going_on : (k : ℕ) → (is_continuation f && stream_of f == k) ≡ false → NotInBlock k
    not_going_on k off b opened on none =
        let sound : breaks_block_on (option_map (λ d. d.stream) (open_block (received past))) f ≡ false = block_sound limits heads Server past f clear in
        let here : not (is_continuation f && stream_of f == b.stream) ≡ false = sym (ap (λ (o : Option Block). breaks_block_on (option_map (λ d. d.stream) o) f) opened) ∙ sound in
        let there : not (is_continuation f && stream_of f == k) ≡ false = subst (λ (i : ℕ). not (is_continuation f && stream_of f == i) ≡ false) on here in
        let wrong : not false ≡ false = sym (ap not off) ∙ there in
        absurd cc

    with_head : (k : ℕ) → has_head (received past) k ≡ true → NotInBlock k
    with_head k h b opened on none = clash (has_head (received past) k) h none

    carry : (more : List Event) (k : ℕ) → NotInBlock k → Stood past (Received f ∷ x) es k → Stood now x (es ++ more) k
    carry more k out (headed h) = headed (heads_more k es more h)
    carry more k out (over h) = over (over_stays past (Received f ∷ []) k h)
    carry more k out (resets n) = absurd (not_sent f n.0 x n.1 n.2)
    carry more k out (in_block b opened on none) = absurd (out b opened on none)

    settled : (k : ℕ) → NotInBlock k → is_live Server past k ≡ true → list_any (heads_on k) es ≡ true
    settled k out live =
        let parts = and_parts (is_begun Server past k) (not (is_over past k)) live in
        by (ready k parts.0) (not_true (is_over past k) parts.1)
      where
        by : Stood past (Received f ∷ x) es k → is_over past k ≡ false → list_any (heads_on k) es ≡ true
        by (headed h) alive = h
        by (over h) alive = absurd (clash (is_over past k) h alive)
        by (resets n) alive = absurd (not_sent f n.0 x n.1 n.2)
        by (in_block b opened on none) alive = absurd (out b opened on none)

    abbrev Goes : List Event → Type 0
    Goes more = Follow es more × Ready now x (es ++ more)

    off_and : (a b : Bool) → b ≡ false → (a && b) ≡ false
    off_and true b e = e
    off_and false b e = refl

    -- no part of a header block
    other_frame : blocks_on f ≡ false → (more : List Event) → Ready now x (es ++ more)
    other_frame off more k begun =
        carry more k (not_going_on k (ap (λ (t : Bool). t && stream_of f == k) (second_off (is_headers f) (is_continuation f) off)))
        (ready k (begun_before k begun (λ new. clash (is_headers f) ((new_of past f k new).headers) (first_off (is_headers f) (is_continuation f) off))))
      where
        first_off : (a b : Bool) → (a || b) ≡ false → a ≡ false
        first_off true b e = absurd cc
        first_off false b e = refl

        second_off : (a b : Bool) → (a || b) ≡ false → b ≡ false
        second_off true b e = absurd cc
        second_off false b e = e

    -- another stream
    elsewhere : (more : List Event) (k : ℕ) → (stream_of f == k) ≡ false → is_begun Server now k ≡ true → Stood now x (es ++ more) k
    elsewhere more k off begun =
        carry more k (not_going_on k (off_and (is_continuation f) (stream_of f == k) off))
        (ready k (begun_before k begun (λ new. clash (stream_of f == k) ((new_of past f k new).here) off)))

    -- a stream error
    refused : (why : ErrorCode) → stream_error Server limits heads past f ≡ Some why → Goes (Reset (stream_of f) why ∷ [])
    refused why is = ((λ k e. absurd cc, tt), λ k begun. by k begun (stream_of f == k) refl)
      where
        by : (k : ℕ) → is_begun Server now k ≡ true → (t : Bool) → (stream_of f == k) ≡ t → Stood now x (es ++ Reset (stream_of f) why ∷ []) k
        by k begun false off = elsewhere (Reset (stream_of f) why ∷ []) k off begun
        by k begun true same =
            resets (subst (λ (i : ℕ). ResetNext i x) (eqb-true (stream_of f) k same)
            (reset_next limits heads whole answered past f x why split (events_go_on Server limits heads past (Received f) going clear).0 is))

    -- DATA
    data_goes : is_data f ≡ true → blocks_on f ≡ false → is_live Server past (stream_of f) ≡ true → Goes (data_events f)
    data_goes d off live = (by (has_end_stream f), other_frame off (data_events f))
      where
        out : NotInBlock (stream_of f)
        out = not_going_on (stream_of f) (ap (λ (t : Bool). t && stream_of f == stream_of f) (second (is_headers f) (is_continuation f) off))
          where
            second : (a b : Bool) → (a || b) ≡ false → b ≡ false
            second true b e = absurd cc
            second false b e = e

        first : (k : ℕ) → (stream_of f == k) ≡ true → list_any (heads_on k) es ≡ true
        first k same = subst (λ (i : ℕ). list_any (heads_on i) es ≡ true) (eqb-true (stream_of f) k same) (settled (stream_of f) out live)

        by : (t : Bool) → Follow es (Data (stream_of f) (data_of f) ∷ (if t then Ended (stream_of f) ∷ [] else []))
        by false = (first, tt)
        by true = (first, (λ k e. heads_more k es (Data (stream_of f) (data_of f) ∷ []) (first k e), tt))

    -- ---- a frame of a header block

    none_done : completed (received past) f ≡ None → (k : ℕ) → has_head (received now) k ≡ has_head (received past) k
    none_done none k =
        ap (λ (l : List Frame). has_head l k) (received_push past f)
        ∙ ap (list_any (λ b. b.stream == k)) (header_blocks_grow.blocks_push (received past) f ∙ ap (λ (o : Option Block). blocks (received past) ++ option_to_list o) none ∙ append-nil (blocks (received past)))

    left_goes : blocks_on f ≡ true → completed (received past) f ≡ None → Goes []
    left_goes on none = (tt, λ k begun. by k begun (stream_of f == k) (has_head (received past) k) refl refl)
      where
        by : (k : ℕ) → is_begun Server now k ≡ true → (t h : Bool) → (stream_of f == k) ≡ t → has_head (received past) k ≡ h → Stood now x (es ++ []) k
        by k begun false h off is = elsewhere [] k off begun
        by k begun true true same is =
            carry [] k (with_head k is) (ready k (begun_before k begun (λ new. clash (has_head (received past) k) is (fresh_head past f k new))))
        by k begun true false same is =
            let left = open_after (open_block (received past)) f k (block_sound limits heads Server past f clear) none (eqb-true (stream_of f) k same) on in
            in_block left.b (ap open_block (received_push past f) ∙ header_blocks_grow.open_push (received past) f ∙ left.is) left.on (none_done none k ∙ is)

    record IsRead (b : Block) : Type 0 where
      fields : List Field
      is : outcome_for heads (received past) (Some b) ≡ Some (Ok fields)

    read_by : (b : Block) → length (blocks (received past)) < length heads → content_stop limits (place_behind Server past) (outcome_for heads (received past) (Some b)) ≡ None →
        (o : Option Outcome) → slice_get heads (length (blocks (received past))) ≡ o → IsRead b
    read_by b enough content None is = absurd (in_range heads (length (blocks (received past))) enough is)
    read_by b enough content (Some (Ok fields)) is = record { fields = fields; is = is }
    read_by b enough content (Some (Err why)) is = absurd (fault_stops limits (place_behind Server past) why (sym (ap (content_stop limits (place_behind Server past)) is) ∙ content))

    read_done : (b : Block) → completed (received past) f ≡ Some b → IsRead b
    read_done b done =
        let parts = none_of (frame_stop Server limits heads past f) (if has_many_resets Server limits heads (past ++ Received f ∷ []) then Some (Calm Resets) else None) clear in
        let mapped = none_of (option_map (λ why. Error why (place_behind Server past)) (frame_error Server past f)) (option_or (block_stop (block_with (open_block (received past)) f)) (content_stop limits (place_behind Server past) (outcome_at heads past f))) parts.0 in
        let within = none_of (block_stop (block_with (open_block (received past)) f)) (content_stop limits (place_behind Server past) (outcome_at heads past f)) mapped.1 in
        read_by b
        (known past x f b split
        (all_none (stop_of Server limits heads past) (frame_error Server past f) (block_stop (block_with (open_block (received past)) f)) going
        (map_none (λ why. Error why (place_behind Server past)) (frame_error Server past f) mapped.0) within.0)
        done)
        (sym (ap (λ (o : Option Block). content_stop limits (place_behind Server past) (outcome_for heads (received past) o)) done) ∙ within.1)
        (slice_get heads (length (blocks (received past)))) refl

    at_live : (k : ℕ) → has_head (received past) k ≡ true → is_live_at Server past f k ≡ true → list_any (heads_on k) es ≡ true
    at_live k h live = elim (one_of (is_live Server past k) (begins Server k past (Received f)) live) [
      | inl before ↦ settled k (with_head k h) before
      | inr new ↦ absurd (clash (has_head (received past) k) h (fresh_head past f k new))
    ]

    done_goes : (b : Block) → completed (received past) f ≡ Some b → Goes (block_events Server heads past f (Some b))
    done_goes b done = by (is_live_at Server past f b.stream) refl
      where
        same : b.stream ≡ stream_of f
        same = completed_stream (open_block (received past)) f b (block_sound limits heads Server past f clear) done

        head_ready : (more : List Event) → list_any (heads_on b.stream) (es ++ more) ≡ true → Ready now x (es ++ more)
        head_ready more h k begun = there (stream_of f == k) refl
          where
            there : (t : Bool) → (stream_of f == k) ≡ t → Stood now x (es ++ more) k
            there false off = elsewhere more k off begun
            there true on = headed (subst (λ (i : ℕ). list_any (heads_on i) (es ++ more) ≡ true) (same ∙ eqb-true (stream_of f) k on) h)

        over_ready : is_live_at Server past f b.stream ≡ false → Ready now x (es ++ [])
        over_ready dead k begun = there (stream_of f == k) refl
          where
            there : (t : Bool) → (stream_of f == k) ≡ t → Stood now x (es ++ []) k
            there false off = elsewhere [] k off begun
            there true on =
                let is : b.stream ≡ k = same ∙ eqb-true (stream_of f) k on in
                let dead_k : is_live_at Server past f k ≡ false = subst (λ (i : ℕ). is_live_at Server past f i ≡ false) is dead in
                over (over_stays past (Received f ∷ []) k
                (not_live_over (is_begun Server past k) (is_over past k) (left_none (is_live Server past k) (begins Server k past (Received f)) dead_k)
                (begun_before k begun (λ new. clash (begins Server k past (Received f)) new (right_none (is_live Server past k) (begins Server k past (Received f)) dead_k)))))
              where
                left_none : (a c : Bool) → (a || c) ≡ false → a ≡ false
                left_none true c e = absurd cc
                left_none false c e = refl

                right_none : (a c : Bool) → (a || c) ≡ false → c ≡ false
                right_none true c e = absurd cc
                right_none false c e = e

        reads : (fields : List Field) → is_live_at Server past f b.stream ≡ true → (h : Bool) → has_head (received past) b.stream ≡ h →
            Goes (if h then trailers_events Server b.stream fields else Head b.stream fields b.last ∷ [])
        reads fields live true is =
            let first : list_any (heads_on b.stream) es ≡ true = at_live b.stream is live in (
              (λ k e. subst (λ (i : ℕ). list_any (heads_on i) es ≡ true) (eqb-true b.stream k e) first, tt),
              head_ready (Ended b.stream ∷ []) (heads_more b.stream es (Ended b.stream ∷ []) first),
            )
        reads fields live false is = (
          (λ k e. absurd cc, tt),
          head_ready (Head b.stream fields b.last ∷ []) (heads_new b.stream es (Head b.stream fields b.last ∷ []) (first_true (b.stream == b.stream) false (same_self b.stream))),
        )

        by : (t : Bool) → is_live_at Server past f b.stream ≡ t → Goes (if t then read_events Server past b (outcome_for heads (received past) (Some b)) else [])
        by false dead = (tt, over_ready dead)
        by true live =
            let read = read_done b done in
            subst (λ (o : Option Outcome). Goes (read_events Server past b o)) (sym read.is) (reads read.fields live (has_head (received past) b.stream) refl)

    block_goes : blocks_on f ≡ true → (o : Option Block) → completed (received past) f ≡ o → Goes (block_events Server heads past f o)
    block_goes on None is = left_goes on is
    block_goes on (Some b) is = done_goes b is

    abbrev chosen : Bool → Bool → Bool → List Event
    chosen d r g =
        if d then (if is_live Server past (stream_of f) then data_events f else [])
        else if r then (if is_live Server past (stream_of f) then Reset (stream_of f) (code_of f) ∷ [] else [])
        else if g then GoneAway (last_stream_of f) (goaway_code_of f) ∷ []
        else block_events Server heads past f (completed (received past) f)

    in_block_goes : blocks_on f ≡ true → Goes (sound_events Server heads past f)
    in_block_goes on =
        let kind = kind_of f on in
        subst (λ (d : Bool). Goes (chosen d (is_rst_stream f) (is_goaway f))) (sym kind.data_not)
        (subst (λ (r : Bool). Goes (chosen false r (is_goaway f))) (sym kind.rst_not)
        (subst (λ (g : Bool). Goes (chosen false false g)) (sym kind.away_not) (block_goes on (completed (received past) f) refl)))

    other_goes : blocks_on f ≡ false → Goes (sound_events Server heads past f)
    other_goes off = by (is_data f) (is_rst_stream f) (is_goaway f) (is_live Server past (stream_of f)) refl refl
      where
        no_done : completed (received past) f ≡ None
        no_done = if_none (has_end_headers f) (block_with (open_block (received past)) f) (no_block (open_block (received past)) f off)

        by : (d r g l : Bool) → is_data f ≡ d → is_live Server past (stream_of f) ≡ l →
            Goes (if d then (if l then data_events f else []) else if r then (if l then Reset (stream_of f) (code_of f) ∷ [] else []) else if g then GoneAway (last_stream_of f) (goaway_code_of f) ∷ [] else block_events Server heads past f (completed (received past) f))
        by true r g true d live = data_goes d off live
        by true r g false d live = (tt, other_frame off [])
        by false true g true d live = ((λ k e. absurd cc, tt), other_frame off (Reset (stream_of f) (code_of f) ∷ []))
        by false true g false d live = (tt, other_frame off [])
        by false false true l d live = ((λ k e. absurd cc, tt), other_frame off (GoneAway (last_stream_of f) (goaway_code_of f) ∷ []))
        by false false false l d live = subst (λ (o : Option Block). Goes (block_events Server heads past f o)) (sym no_done) (tt, other_frame off [])

    frame_goes : Goes (events_of Server limits heads past (Received f))
    frame_goes = by (stream_error Server limits heads past f) (blocks_on f) refl refl
      where
        by : (o : Option ErrorCode) (t : Bool) → stream_error Server limits heads past f ≡ o → blocks_on f ≡ t → Goes (events_by (sound_events Server heads past f) (stream_of f) o)
        by (Some why) t is on = refused why is
        by None true is on = in_block_goes on
        by None false is off = other_goes off

  -- ---- all frames

  sent_ready : (past : List Step) (g : Frame) (x : List Step) (es : List Event) → Ready past (Sent g ∷ x) es → Ready (past ++ Sent g ∷ []) x es
  sent_ready past g x es ready k begun = by (ready k (before (sym (begun_push Server past (Sent g) k) ∙ begun)))
    where
      before : (is_begun Server past k || false) ≡ true → is_begun Server past k ≡ true
      before e = elim (one_of (is_begun Server past k) false e) [
        | inl b ↦ b
        | inr n ↦ absurd cc
      ]

      by : Stood past (Sent g ∷ x) es k → Stood (past ++ Sent g ∷ []) x es k
      by (headed h) = headed h
      by (over h) = over (over_stays past (Sent g ∷ []) k h)
      by (resets n) = let same : g ≡ n.0 = same_sent g n.0 x n.1 n.2 in over (rst_sent past g k (ap is_rst_stream same ∙ n.3) (ap stream_of same ∙ n.4))
      by (in_block b opened on none) =
          in_block b (ap open_block (received_sent past g) ∙ opened) on (ap (λ (l : List Frame). has_head l k) (received_sent past g) ∙ none)

  abbrev given : List Step → List Step → List Event
  given past x = collect (events_of Server limits heads) past (front_before (stop_at Server limits heads) past x)

  step : (past x : List Step) (es : List Event) (s : Step) → whole ≡ past ++ s ∷ x → stop_of Server limits heads past ≡ None → stop_at Server limits heads past s ≡ None → Ready past (s ∷ x) es →
      ((more : List Event) → Ready (past ++ s ∷ []) x (es ++ more) → Follow (es ++ more) (given (past ++ s ∷ []) x)) →
      Follow es (events_of Server limits heads past s ++ given (past ++ s ∷ []) x)
  step past x es (Received f) e going clear ready go =
      let goes = frame_goes past f x es e going clear ready in
      follow_more es (events_of Server limits heads past (Received f)) (given (past ++ Received f ∷ []) x) goes.0 (go (events_of Server limits heads past (Received f)) goes.1)
  step past x es (Sent g) e going clear ready go =
      subst (λ (l : List Event). Follow l (given (past ++ Sent g ∷ []) x)) (append-nil es)
      (go [] (subst (Ready (past ++ Sent g ∷ []) x) (sym (append-nil es)) (sent_ready past g x es ready)))

  walk : (past x : List Step) (es : List Event) → whole ≡ past ++ x → stop_of Server limits heads past ≡ None → Ready past x es → Follow es (given past x)
  walk past [] es e going ready = tt
  walk past (s ∷ x) es e going ready =
      by (stop_at Server limits heads past s) refl
      (λ is more new. walk (past ++ s ∷ []) x (es ++ more) (e ∙ sym (append_assoc past (s ∷ []) x)) (events_go_on Server limits heads past s going is).0 new)
    where
      by : (o : Option Stop) → stop_at Server limits heads past s ≡ o →
          (stop_at Server limits heads past s ≡ None → (more : List Event) → Ready (past ++ s ∷ []) x (es ++ more) → Follow (es ++ more) (given (past ++ s ∷ []) x)) →
          Follow es (collect (events_of Server limits heads) past (if is_some o then [] else s ∷ front_before (stop_at Server limits heads) (past ++ s ∷ []) x))
      by (Some stop) is go = tt
      by None is go = step past x es s e going is ready (go is)

  pub heads_come_first : Follow [] (events Server limits heads whole)
  heads_come_first = walk [] whole [] refl refl (λ k begun. absurd cc)
