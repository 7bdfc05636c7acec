-- The events of each frame come in order behind those before it.
use Rattle.std.proofs.Common.{◌≡◌, ℕ, Bool, ◌&&◌, true, false, List, [], ◌∷◌, ◌++◌, Option, Some, None, Ok, Err, refl, sym, ap, subst, ◌∙◌, inl}
use Rattle.std.specs.Prelude.{not, ◌==◌, if◌then◌else◌, option_map, option_to_list}
use Rattle.std.specs.List.{list_any}
use Rattle.std.proofs.lemmas.Bool.{eqb-true}
use Rattle.h2_frames.specs.declared.code.ErrorCode.{ErrorCode}
use Rattle.h2_frames.specs.declared.code.TheConstants.ErrorCode as code
use Rattle.h2_frames.specs.declared.frame.Frame.{Frame}
use Rattle.h2_frames.specs.declared.frame.Frame.TheVariants.{Content, Headers, Priority, RstStream, Settings, PushPromise, Ping, GoAway, WindowUpdate, Continuation, Unknown}
use Rattle.hpack_tables.specs.declared.field.Field.{Field}
use Rattle.h2_exchange.specs.declared.limits.H2Limits.{H2Limits}
use Rattle.h2_exchange.specs.declared.role.Role.TheVariants.{Server}
use Rattle.h2_exchange.specs.Blocks.{Block, blocks, completed, completed_by, block_with, data_of}
use Rattle.h2_exchange.specs.Content.{Outcome, stream_error, outcome_for, outcome_at, is_malformed}
use Rattle.h2_exchange.specs.Events.{Event, Head, Data, Ended, Reset, GoneAway, sound_events, data_events, read_events, block_events}
use Rattle.h2_exchange.specs.Exchange.{Step, Received, received, sent, first_broken}
use Rattle.h2_exchange.specs.Frames.{stream_of, payload_length, is_data, is_priority, is_window_update, increment_of, is_rst_stream, is_goaway, has_end_stream, has_end_headers, code_of, last_stream_of, goaway_code_of}
use Rattle.h2_exchange.specs.Rules.{breaks_block_on}
use Rattle.h2_exchange.specs.StreamErrors.{live_error, overfills_stream, exceeds_stream, is_full, block_error, completed_error}
use Rattle.h2_exchange.specs.Streams.{begins, is_live, is_live_at, is_over, is_reset, is_ended_by, is_last_on, has_rst_stream, has_head}
use Rattle.h2_exchange.proofs.Places.{AreInOrder, first_true, second_true, same_self, any_push}
use Rattle.h2_exchange.proofs.EventOrder.{Stands, Admits, AllAdmitted, Alive, IsReset, may_of, after_data, live_alive, at_alive, at_begun, move, none_of}
use Rattle.h2_exchange.proofs.Steps.{received_push, header_blocks_grow}

fifth : {A : Type 0} (a b c d e : Bool) (v w x y z : A) → first_broken ((a, v) ∷ (b, w) ∷ (c, x) ∷ (d, y) ∷ (e, z) ∷ []) ≡ None → e ≡ false
fifth true b c d e v w x y z h = absurd cc
fifth false true c d e v w x y z h = absurd cc
fifth false false true d e v w x y z h = absurd cc
fifth false false false true e v w x y z h = absurd cc
fifth false false false false true v w x y z h = absurd cc
fifth false false false false false v w x y z h = refl

first_two : {A : Type 0} (a b : Bool) (v w : A) (rules : List (Bool × A)) → first_broken ((a, v) ∷ (b, w) ∷ rules) ≡ None → (a ≡ false) × (b ≡ false)
first_two true b v w rules h = absurd cc
first_two false true v w rules h = absurd cc
first_two false false v w rules h = (refl, refl)

right_false : (a b : Bool) → a ≡ true → (a && b) ≡ false → b ≡ false
right_false true b e f = f
right_false false b e f = absurd cc

must_be : (a b : Bool) → a ≡ true → (a && not b) ≡ false → b ≡ true
must_be true true e f = refl
must_be true false e f = absurd cc
must_be false b e f = absurd cc

-- ---- the stream of a completed block

abbrev stream_or : Option Block → ℕ
stream_or None = 0
stream_or (Some b) = b.stream

in_block : (c : Bool) (a b : ℕ) → not (c && a == b) ≡ false → b ≡ a
in_block c a b e = sym (eqb-true a b (both c (a == b) e))
  where
    both : (c t : Bool) → not (c && t) ≡ false → t ≡ true
    both true true h = refl
    both true false h = absurd cc
    both false t h = absurd cc

same_stream : (o : Option Block) (f : Frame) (b : Block) → breaks_block_on (option_map (λ d. d.stream) o) f ≡ false → block_with o f ≡ Some b → b.stream ≡ stream_of f
same_stream None (Headers h) b sound e = sym (ap stream_or e)
same_stream None (Content h) b sound e = absurd cc
same_stream None (Priority h) b sound e = absurd cc
same_stream None (RstStream h) b sound e = absurd cc
same_stream None (Settings h) b sound e = absurd cc
same_stream None (PushPromise h) b sound e = absurd cc
same_stream None (Ping h) b sound e = absurd cc
same_stream None (GoAway h) b sound e = absurd cc
same_stream None (WindowUpdate h) b sound e = absurd cc
same_stream None (Continuation h) b sound e = absurd cc
same_stream None (Unknown n h) b sound e = absurd cc
same_stream (Some d) (Continuation h) b sound e = sym (ap stream_or e) ∙ in_block true (stream_of (Continuation h)) d.stream sound
same_stream (Some d) (Headers h) b sound e = absurd cc
same_stream (Some d) (Content h) b sound e = absurd cc
same_stream (Some d) (Priority h) b sound e = absurd cc
same_stream (Some d) (RstStream h) b sound e = absurd cc
same_stream (Some d) (Settings h) b sound e = absurd cc
same_stream (Some d) (PushPromise h) b sound e = absurd cc
same_stream (Some d) (Ping h) b sound e = absurd cc
same_stream (Some d) (GoAway h) b sound e = absurd cc
same_stream (Some d) (WindowUpdate h) b sound e = absurd cc
same_stream (Some d) (Unknown n h) b sound e = absurd cc

pub completed_stream : (o : Option Block) (f : Frame) (b : Block) → breaks_block_on (option_map (λ d. d.stream) o) f ≡ false → completed_by o f ≡ Some b → b.stream ≡ stream_of f
completed_stream o f b sound e = by (has_end_headers f) e
  where
    by : (t : Bool) → (if t then block_with o f else None) ≡ Some b → b.stream ≡ stream_of f
    by true h = same_stream o f b sound h
    by false h = absurd cc

module _ (limits : H2Limits) (heads : List Outcome) (past : List Step) (f : Frame) (x : List Step) (es : List Event) (old : Stands past (Received f ∷ x) es) where
  abbrev pub Good : List Event → Type 0
  Good more = AreInOrder es more × AllAdmitted past f x more

  nothing : Good []
  nothing = (tt, tt)

  pub one : (e : Event) → Admits past f x e → Good (e ∷ [])
  one e h = ((may_of past f x es e old h, tt), (h, tt))

  -- ---- what the frame does to its stream

  block_heads : (b : Block) (k : ℕ) → completed (received past) f ≡ Some b → (b.stream == k) ≡ true → has_head (received past ++ f ∷ []) k ≡ true
  block_heads b k e is =
      ap (list_any (λ d. d.stream == k)) (header_blocks_grow.blocks_push (received past) f ∙ ap (λ (o : Option Block). blocks (received past) ++ option_to_list o) e)
      ∙ any_push (λ d. d.stream == k) (blocks (received past)) b
      ∙ second_true (list_any (λ d. d.stream == k) (blocks (received past))) (b.stream == k) is

  block_closes : (b : Block) (k : ℕ) → completed (received past) f ≡ Some b → is_last_on k b ≡ true → is_ended_by (received past ++ f ∷ []) k ≡ true
  block_closes b k e is =
      second_true (list_any (λ g. is_data g && has_end_stream g && stream_of g == k) (received past ++ f ∷ [])) (list_any (is_last_on k) (blocks (received past ++ f ∷ [])))
      (ap (list_any (is_last_on k)) (header_blocks_grow.blocks_push (received past) f ∙ ap (λ (o : Option Block). blocks (received past) ++ option_to_list o) e)
      ∙ any_push (is_last_on k) (blocks (received past)) b
      ∙ second_true (list_any (is_last_on k) (blocks (received past))) (is_last_on k b) is)

  data_closes : is_data f ≡ true → has_end_stream f ≡ true → is_ended_by (received past ++ f ∷ []) (stream_of f) ≡ true
  data_closes d t =
      first_true (list_any (λ g. is_data g && has_end_stream g && stream_of g == stream_of f) (received past ++ f ∷ [])) (list_any (is_last_on (stream_of f)) (blocks (received past ++ f ∷ [])))
      (any_push (λ g. is_data g && has_end_stream g && stream_of g == stream_of f) (received past) f
      ∙ second_true (list_any (λ g. is_data g && has_end_stream g && stream_of g == stream_of f) (received past)) (is_data f && has_end_stream f && stream_of f == stream_of f) (rw (d, t) (same_self (stream_of f))))

  rst_over : is_rst_stream f ≡ true → is_over (past ++ Received f ∷ []) (stream_of f) ≡ true
  rst_over r =
      first_true (is_reset (past ++ Received f ∷ []) (stream_of f)) (is_ended_by (received (past ++ Received f ∷ [])) (stream_of f) && is_ended_by (sent (past ++ Received f ∷ [])) (stream_of f))
      (first_true (has_rst_stream (received (past ++ Received f ∷ [])) (stream_of f)) (has_rst_stream (sent (past ++ Received f ∷ [])) (stream_of f))
      (ap (λ (l : List Frame). has_rst_stream l (stream_of f)) (received_push past f)
      ∙ any_push (λ g. is_rst_stream g && stream_of g == stream_of f) (received past) f
      ∙ second_true (list_any (λ g. is_rst_stream g && stream_of g == stream_of f) (received past)) (is_rst_stream f && stream_of f == stream_of f) (rw r (same_self (stream_of f)))))

  -- ---- each kind of event

  brought : (s : ℕ) (k : ℕ) → (s == k) ≡ true → is_ended_by (received past) s ≡ false → Alive past s → (is_ended_by (received past) k ≡ false) × Alive past k
  brought s k is none alive = move (λ (i : ℕ). (is_ended_by (received past) i ≡ false) × Alive past i) s k is (none, alive)

  data_admits : (s : ℕ) (bytes : List ℕ) → is_ended_by (received past) s ≡ false → Alive past s → Admits past f x (Data s bytes)
  data_admits s bytes none alive = record {
    once = λ k h. absurd cc;
    goes = λ k h. brought s k h none alive;
    lives = λ k h. absurd cc;
    head = λ k h. absurd cc;
    side = λ k h. absurd cc;
    reset = λ k h. absurd cc;
  }

  ended_admits : (s : ℕ) → is_ended_by (received past) s ≡ false → Alive past s → is_ended_by (received past ++ f ∷ []) s ≡ true → Admits past f x (Ended s)
  ended_admits s none alive now = record {
    once = λ k h. absurd cc;
    goes = λ k h. brought s k h none alive;
    lives = λ k h. absurd cc;
    head = λ k h. absurd cc;
    side = λ k h. move (λ (i : ℕ). is_ended_by (received past ++ f ∷ []) i ≡ true) s k h now;
    reset = λ k h. absurd cc;
  }

  pub reset_admits : (s : ℕ) (why : ErrorCode) → Alive past s → IsReset (past ++ Received f ∷ []) x s → Admits past f x (Reset s why)
  reset_admits s why alive now = record {
    once = λ k h. absurd cc;
    goes = λ k h. absurd cc;
    lives = λ k h. move (Alive past) s k h alive;
    head = λ k h. absurd cc;
    side = λ k h. absurd cc;
    reset = λ k h. move (IsReset (past ++ Received f ∷ []) x) s k h now;
  }

  head_admits : (b : Block) (fields : List Field) → completed (received past) f ≡ Some b → has_head (received past) b.stream ≡ false → Admits past f x (Head b.stream fields b.last)
  head_admits b fields e none = record {
    once = λ k h. move (λ (i : ℕ). has_head (received past) i ≡ false) b.stream k h none;
    goes = λ k h. absurd cc;
    lives = λ k h. absurd cc;
    head = λ k h. block_heads b k e h;
    side = λ k h. block_closes b k e h;
    reset = λ k h. absurd cc;
  }

  away_admits : (s : ℕ) (why : ErrorCode) → Admits past f x (GoneAway s why)
  away_admits s why = record {
    once = λ k h. absurd cc;
    goes = λ k h. absurd cc;
    lives = λ k h. absurd cc;
    head = λ k h. absurd cc;
    side = λ k h. absurd cc;
    reset = λ k h. absurd cc;
  }

  -- ---- each kind of frame

  not_ended : is_data f ≡ true → live_error limits past f ≡ None → is_ended_by (received past) (stream_of f) ≡ false
  not_ended d e =
      right_false (is_data f) (is_ended_by (received past) (stream_of f)) d
      (fifth (is_priority f && not (payload_length f == 5)) (is_window_update f && increment_of f == 0) (is_window_update f && overfills_stream past f) (is_data f && exceeds_stream limits past f) (is_data f && is_ended_by (received past) (stream_of f))
      code.FRAME_SIZE_ERROR code.PROTOCOL_ERROR code.FLOW_CONTROL_ERROR code.FLOW_CONTROL_ERROR code.STREAM_CLOSED e)

  data_good : is_data f ≡ true → is_live Server past (stream_of f) ≡ true → live_error limits past f ≡ None → Good (data_events f)
  data_good d live e = by (has_end_stream f) refl
    where
      bytes_admitted : Admits past f x (Data (stream_of f) (data_of f))
      bytes_admitted = data_admits (stream_of f) (data_of f) (not_ended d e) (live_alive past (stream_of f) live)

      by : (t : Bool) → has_end_stream f ≡ t → Good (Data (stream_of f) (data_of f) ∷ (if t then Ended (stream_of f) ∷ [] else []))
      by false is = one (Data (stream_of f) (data_of f)) bytes_admitted
      by true is =
          let end : Admits past f x (Ended (stream_of f)) = ended_admits (stream_of f) (not_ended d e) (live_alive past (stream_of f) live) (data_closes d is) in (
            (may_of past f x es (Data (stream_of f) (data_of f)) old bytes_admitted, (after_data past f x es (stream_of f) (data_of f) (Ended (stream_of f)) (may_of past f x es (Ended (stream_of f)) old end), tt)),
            (bytes_admitted, (end, tt)),
          )

  read_good : (b : Block) (u : Option Outcome) (h : Bool) → completed (received past) f ≡ Some b → is_live_at Server past f b.stream ≡ true → has_head (received past) b.stream ≡ h →
      (is_ended_by (received past) b.stream ≡ false) × ((has_head (received past) b.stream && not b.last) ≡ false) → Good (read_events Server past b u)
  read_good b None h e live is sound = nothing
  read_good b (Some (Err fault)) h e live is sound = nothing
  read_good b (Some (Ok fields)) true e live is sound =
      subst (λ (t : Bool). Good (if t then Ended b.stream ∷ [] else Head b.stream fields b.last ∷ [])) (sym is)
      (one (Ended b.stream) (ended_admits b.stream sound.0 (at_alive past f b.stream live)
      (block_closes b b.stream e (rw (must_be (has_head (received past) b.stream) b.last is sound.1) (same_self b.stream)))))
  read_good b (Some (Ok fields)) false e live is sound =
      subst (λ (t : Bool). Good (if t then Ended b.stream ∷ [] else Head b.stream fields b.last ∷ [])) (sym is) (one (Head b.stream fields b.last) (head_admits b fields e is))

  block_good : (malformed : Bool) (o : Option Block) → completed (received past) f ≡ o → completed_error Server limits past f malformed o ≡ None → Good (block_events Server heads past f o)
  block_good malformed None e sound = nothing
  block_good malformed (Some b) e sound = by (is_live_at Server past f b.stream) refl sound
    where
      by : (t : Bool) → is_live_at Server past f b.stream ≡ t → (if t then block_error Server limits past b malformed else None) ≡ None →
          Good (if t then read_events Server past b (outcome_for heads (received past) (Some b)) else [])
      by false is none = nothing
      by true is none =
          read_good b (outcome_for heads (received past) (Some b)) (has_head (received past) b.stream) e is refl
          (first_two (is_ended_by (received past) b.stream) (has_head (received past) b.stream && not b.last) code.STREAM_CLOSED code.PROTOCOL_ERROR
          ((malformed, code.PROTOCOL_ERROR) ∷ (not (has_head (received past) b.stream) && is_full Server limits past b.stream, code.REFUSED_STREAM) ∷ []) none)

  rst_good : is_rst_stream f ≡ true → is_live Server past (stream_of f) ≡ true → Good (Reset (stream_of f) (code_of f) ∷ [])
  rst_good r live =
      one (Reset (stream_of f) (code_of f)) (reset_admits (stream_of f) (code_of f) (live_alive past (stream_of f) live) (
        at_begun past f (stream_of f) (first_true (is_live Server past (stream_of f)) (begins Server (stream_of f) past (Received f)) live),
        inl (rst_over r),
      ))

  pub sound_good : stream_error Server limits heads past f ≡ None → Good (sound_events Server heads past f)
  sound_good none = by (is_data f) (is_rst_stream f) (is_goaway f) (is_live Server past (stream_of f)) refl refl refl refl
    where
      parts : ((if is_live Server past (stream_of f) then live_error limits past f else None) ≡ None) × (completed_error Server limits past f (is_malformed Server past f (outcome_at heads past f)) (completed (received past) f) ≡ None)
      parts = none_of (if is_live Server past (stream_of f) then live_error limits past f else None) (completed_error Server limits past f (is_malformed Server past f (outcome_at heads past f)) (completed (received past) f)) none

      live_none : is_live Server past (stream_of f) ≡ true → live_error limits past f ≡ None
      live_none is = sym (ap (λ (t : Bool). if t then live_error limits past f else None) is) ∙ parts.0

      by : (d r g l : Bool) → is_data f ≡ d → is_rst_stream f ≡ r → is_goaway f ≡ g → is_live Server past (stream_of f) ≡ l →
          Good (if d then (if l then data_events f else []) else if r then (if l then Reset (stream_of f) (code_of f) ∷ [] else []) else if g then GoneAway (last_stream_of f) (goaway_code_of f) ∷ [] else block_events Server heads past f (completed (received past) f))
      by true r g true is_d is_r is_g is_l = data_good is_d is_l (live_none is_l)
      by true r g false is_d is_r is_g is_l = nothing
      by false true g true is_d is_r is_g is_l = rst_good is_r is_l
      by false true g false is_d is_r is_g is_l = nothing
      by false false true l is_d is_r is_g is_l = one (GoneAway (last_stream_of f) (goaway_code_of f)) (away_admits (last_stream_of f) (goaway_code_of f))
      by false false false l is_d is_r is_g is_l = block_good (is_malformed Server past f (outcome_at heads past f)) (completed (received past) f) refl parts.1
