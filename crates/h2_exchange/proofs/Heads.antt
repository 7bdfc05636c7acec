-- What is known of header blocks that an exchange doesn't look at changes nothing in it.
use Rattle.std.proofs.Common.{◌≡◌, ℕ, zero, suc, ◌+◌, ◌<◌, ◌≤◌, Bool, ◌&&◌, not, true, false, List, [], ◌∷◌, ◌++◌, Option, Some, None, length, refl, sym, ap, subst, ◌∙◌, arith, append_assoc}
use Rattle.std.specs.Prelude.{is_some, nat_lt, option_map, option_to_list, slice_get, if◌then◌else◌}
use Rattle.std.specs.Option.{option_or}
use Rattle.std.proofs.lemmas.List.{length-append}
use Rattle.grpc_framing.specs.Framing.{messages_of}
use Rattle.h2_frames.specs.declared.code.ErrorCode.{ErrorCode}
use Rattle.h2_frames.specs.declared.frame.Frame.{Frame}
use Rattle.h2_exchange.specs.declared.limits.CalmCause.TheVariants.{Resets}
use Rattle.h2_exchange.specs.declared.limits.H2Limits.{H2Limits}
use Rattle.h2_exchange.specs.declared.role.Role.{Role}
use Rattle.h2_exchange.specs.declared.role.Role.TheVariants.{Client, Server}
use Rattle.h2_exchange.specs.Blocks.{Block, blocks, blocks_behind, block_with, open_behind, open_block, completed}
use Rattle.h2_exchange.specs.Content.{Outcome, outcome_for, outcome_at, is_malformed, stream_error}
use Rattle.h2_exchange.specs.Events.{Event, read_events, block_events, data_events, sound_events, events_by, events_of, all_events, bytes_on, Reset, GoneAway}
use Rattle.h2_exchange.specs.Exchange.{Step, Received, Sent, received, collect, front_before, first_given}
use Rattle.h2_exchange.specs.Frames.{stream_of, is_data, is_rst_stream, is_goaway, code_of, last_stream_of, goaway_code_of}
use Rattle.h2_exchange.specs.Laws.{LaterBlocksChangeNothing}
use Rattle.h2_exchange.specs.Outcomes.{AreEnough}
use Rattle.h2_exchange.specs.Rules.{frame_error}
use Rattle.h2_exchange.specs.Stops.{Stop, Error, Calm, block_stop, content_stop, frame_stop, place_behind, request_bytes, has_request, cuts_request, is_end, ends_call, count_steps, has_many_resets, received_stop, stop_at, before_stop, stop_of, events}
use Rattle.h2_exchange.specs.StreamErrors.{stream_error_of}
use Rattle.h2_exchange.specs.Streams.{is_begun, is_live, is_live_at}
use Rattle.h2_exchange.proofs.Looking.{collect_push, given_more}
use Rattle.h2_exchange.proofs.Staying.{events_go_on}
use Rattle.h2_exchange.proofs.Steps.{received_more, blocks_more, header_blocks_grow}

slice_get_front : {A : Type 0} (xs ys : List A) (i : ℕ) → i < length xs → slice_get (xs ++ ys) i ≡ slice_get xs i
slice_get_front [] ys i lt = absurd (omega (arith, lt))
slice_get_front (x ∷ xs) ys zero lt = refl
slice_get_front (x ∷ xs) ys (suc i) lt = slice_get_front xs ys i (omega (arith, lt))

-- ---- options

pub or_left : {A : Type 0} (a b : Option A) → option_or a b ≡ None → a ≡ None
or_left None b e = refl
or_left (Some v) b e = e

pub or_right : {A : Type 0} (a b : Option A) → option_or a b ≡ None → b ≡ None
or_right None b e = e
or_right (Some v) b e = absurd cc

pub map_none : {A B : Type 0} (g : A → B) (a : Option A) → option_map g a ≡ None → a ≡ None
map_none g None e = refl
map_none g (Some v) e = absurd cc

pub all_none : {A B C : Type 0} (a : Option A) (b : Option B) (c : Option C) → a ≡ None → b ≡ None → c ≡ None → (not (is_some a) && not (is_some b) && not (is_some c)) ≡ true
all_none a b c p q r = rw (p, q, r) refl

-- ---- two ways of looking that agree as far as a front is allowed

module _ {S A : Type 0} (allowed : List S → Type 0) (front : (a b : List S) → allowed (a ++ b) → allowed a) where
  collect_same : (g h : List S → S → List A) → ((past : List S) (s : S) → allowed (past ++ s ∷ []) → g past s ≡ h past s) →
      (past x : List S) → allowed (past ++ x) → collect g past x ≡ collect h past x
  collect_same g h each past [] k = refl
  collect_same g h each past (s ∷ x) k =
      let l : allowed ((past ++ s ∷ []) ++ x) = subst allowed (sym (append_assoc past (s ∷ []) x)) k in
      ap (λ (r : List A). r ++ collect g (past ++ s ∷ []) x) (each past s (front (past ++ s ∷ []) x l))
      ∙ ap (λ (r : List A). h past s ++ r) (collect_same g h each (past ++ s ∷ []) x l)

-- what stands before the first that gives something is a front, which gives nothing
module _ {S A : Type 0} (g : List S → S → Option A) where
  if_front : (b : Bool) (s : S) (x part rest : List S) → x ≡ part ++ rest → (more : List S) × (s ∷ x ≡ (if b then [] else s ∷ part) ++ more)
  if_front true s x part rest e = (s ∷ x, refl)
  if_front false s x part rest e = (rest, ap (λ (l : List S). s ∷ l) e)

  before_front : (past x : List S) → (more : List S) × (x ≡ front_before g past x ++ more)
  before_front past [] = ([], refl)
  before_front past (s ∷ x) = let r = before_front (past ++ s ∷ []) x in if_front (is_some (g past s)) s x (front_before g (past ++ s ∷ []) x) r.0 r.1

  clear_if : (past rest : List S) (s : S) (o : Option A) → g past s ≡ o → first_given g (past ++ s ∷ []) rest ≡ None → first_given g past (if is_some o then [] else s ∷ rest) ≡ None
  clear_if past rest s None e k = ap (λ (p : Option A). option_or p (first_given g (past ++ s ∷ []) rest)) e ∙ k
  clear_if past rest s (Some v) e k = refl

  before_clear : (past x : List S) → first_given g past (front_before g past x) ≡ None
  before_clear past [] = refl
  before_clear past (s ∷ x) = clear_if past (front_before g (past ++ s ∷ []) x) s (g past s) refl (before_clear (past ++ s ∷ []) x)

-- ---- further outcomes

module _ (role : Role) (limits : H2Limits) (heads more : List Outcome) where
  abbrev Enough : List Step → Type 0
  Enough x = AreEnough role limits heads x

  pub enough_front : (a b : List Step) → Enough (a ++ b) → Enough a
  enough_front a b k past behind f block e = k past (behind ++ b) f block (ap (λ (l : List Step). l ++ b) e ∙ append_assoc past (Received f ∷ behind) b)

  -- each block that is looked at has its outcome, and nothing stops
  abbrev Passed : List Step → Type 0
  Passed x = Enough x × (stop_of role limits heads x ≡ None)

  pub passed_front : (a b : List Step) → Passed (a ++ b) → Passed a
  passed_front a b p = (enough_front a b p.0, or_left (stop_of role limits heads a) (first_given (stop_at role limits heads) a b) (sym (given_more (stop_at role limits heads) [] a b) ∙ p.1))

  pub passed_step : (past : List Step) (s : Step) → Passed (past ++ s ∷ []) → received_stop role limits heads past s ≡ None
  passed_step past s p =
      let here : option_or (stop_at role limits heads past s) None ≡ None =
      or_right (stop_of role limits heads past) (option_or (stop_at role limits heads past s) None) (sym (given_more (stop_at role limits heads) [] past (s ∷ [])) ∙ p.1) in
      or_left (received_stop role limits heads past s) (if has_many_resets role limits heads (past ++ s ∷ []) then Some (Calm Resets) else None) (or_left (stop_at role limits heads past s) None here)

  outcome_by : (past : List Frame) (o : Option Block) → ((b : Block) → o ≡ Some b → length (blocks past) < length heads) → outcome_for (heads ++ more) past o ≡ outcome_for heads past o
  outcome_by past None k = refl
  outcome_by past (Some b) k = slice_get_front heads more (length (blocks past)) (k b refl)

  -- where nothing stopped before, and the frame stops nothing by itself
  module _ (past : List Step) (f : Frame) (k : Enough (past ++ Received f ∷ [])) (clear : stop_of role limits heads past ≡ None) where
    known : frame_error role past f ≡ None → block_stop (block_with (open_block (received past)) f) ≡ None → (b : Block) → completed (received past) f ≡ Some b → length (blocks (received past)) < length heads
    known p q b e = k past [] f b refl (all_none (stop_of role limits heads past) (frame_error role past f) (block_stop (block_with (open_block (received past)) f)) clear p q) e

    pub outcome_same : frame_error role past f ≡ None → block_stop (block_with (open_block (received past)) f) ≡ None → outcome_at (heads ++ more) past f ≡ outcome_at heads past f
    outcome_same p q = outcome_by (received past) (completed (received past) f) (known p q)

    stop_by : (p : Option Stop) (fe : Option ErrorCode) (bs : Option Stop) (o n : Option Outcome) → (fe ≡ None → bs ≡ None → n ≡ o) →
        option_or (option_map (λ why. Error why (place_behind role past)) fe) (option_or bs (content_stop limits (place_behind role past) n))
        ≡ option_or (option_map (λ why. Error why (place_behind role past)) fe) (option_or bs (content_stop limits (place_behind role past) o))
    stop_by p None None o n same = ap (content_stop limits (place_behind role past)) (same refl refl)
    stop_by p None (Some stop) o n same = refl
    stop_by p (Some why) bs o n same = refl

    pub frame_same : frame_stop role limits (heads ++ more) past f ≡ frame_stop role limits heads past f
    frame_same = stop_by None (frame_error role past f) (block_stop (block_with (open_block (received past)) f)) (outcome_at heads past f) (outcome_at (heads ++ more) past f) outcome_same

    module _ (goes : frame_stop role limits heads past f ≡ None) where
      pub no_error : frame_error role past f ≡ None
      no_error = map_none (λ why. Error why (place_behind role past)) (frame_error role past f)
          (or_left (option_map (λ why. Error why (place_behind role past)) (frame_error role past f)) (option_or (block_stop (block_with (open_block (received past)) f)) (content_stop limits (place_behind role past) (outcome_at heads past f))) goes)

      pub no_block : block_stop (block_with (open_block (received past)) f) ≡ None
      no_block = or_left (block_stop (block_with (open_block (received past)) f)) (content_stop limits (place_behind role past) (outcome_at heads past f))
          (or_right (option_map (λ why. Error why (place_behind role past)) (frame_error role past f)) (option_or (block_stop (block_with (open_block (received past)) f)) (content_stop limits (place_behind role past) (outcome_at heads past f))) goes)

      pub error_same : stream_error role limits (heads ++ more) past f ≡ stream_error role limits heads past f
      error_same = ap (λ (o : Option Outcome). stream_error_of role limits past f (is_malformed role past f o)) (outcome_same no_error no_block)

      block_events_same : (o : Option Block) → ((b : Block) → o ≡ Some b → length (blocks (received past)) < length heads) → block_events role (heads ++ more) past f o ≡ block_events role heads past f o
      block_events_same None k = refl
      block_events_same (Some b) k = ap (λ (r : Option Outcome). if is_live_at role past f b.stream then read_events role past b r else []) (outcome_by (received past) (Some b) k)

      sound_same : sound_events role (heads ++ more) past f ≡ sound_events role heads past f
      sound_same =
          ap (λ (es : List Event).
          if is_data f then (if is_live role past (stream_of f) then data_events f else [])
          else if is_rst_stream f then (if is_live role past (stream_of f) then Reset (stream_of f) (code_of f) ∷ [] else [])
          else if is_goaway f then GoneAway (last_stream_of f) (goaway_code_of f) ∷ []
          else es) (block_events_same (completed (received past) f) (known no_error no_block))

      received_events_same : events_of role limits (heads ++ more) past (Received f) ≡ events_of role limits heads past (Received f)
      received_events_same =
          ap (λ (es : List Event). events_by es (stream_of f) (stream_error role limits (heads ++ more) past f)) sound_same
          ∙ ap (events_by (sound_events role heads past f) (stream_of f)) error_same

  pub events_of_same : (past : List Step) (s : Step) → Passed (past ++ s ∷ []) → events_of role limits (heads ++ more) past s ≡ events_of role limits heads past s
  events_of_same past (Sent f) p = refl
  events_of_same past (Received f) p = received_events_same past f p.0 (passed_front past (Received f ∷ []) p).1 (passed_step past (Received f) p)

  pub all_same : (x : List Step) → Passed x → all_events role limits (heads ++ more) x ≡ all_events role limits heads x
  all_same x p = collect_same Passed passed_front (events_of role limits (heads ++ more)) (events_of role limits heads) events_of_same [] x p

-- ---- resets

module _ (limits : H2Limits) (heads more : List Outcome) where
  pub bytes_same : (role : Role) (past : List Step) (id : ℕ) → Passed role limits heads more past → request_bytes limits (heads ++ more) role past id ≡ request_bytes limits heads role past id
  bytes_same Server past id p = ap (bytes_on id) (all_same Server limits heads more past p)
  bytes_same Client past id p = refl

  pub ends_same : (role : Role) (past : List Step) (s : Step) → Enough role limits heads more (past ++ s ∷ []) → stop_of role limits heads past ≡ None → received_stop role limits heads past s ≡ None →
      ends_call limits (heads ++ more) role past s ≡ ends_call limits heads role past s
  ends_same Server past (Received f) k clear goes =
      ap (λ (o : Option ErrorCode). is_end (received past) f && is_live_at Server past f (stream_of f) && not (is_some o)) (error_same Server limits heads more past f k clear goes)
  ends_same Server past (Sent f) k clear goes = refl
  ends_same Client past (Received f) k clear goes = refl
  ends_same Client past (Sent f) k clear goes = refl

module _ (role : Role) (limits : H2Limits) (heads more : List Outcome) where
  abbrev Went : List Step → Type 0
  Went x = Passed role limits heads more x

  went_front : (a b : List Step) → Went (a ++ b) → Went a
  went_front = passed_front role limits heads more

  pub has_same : (past : List Step) (id : ℕ) → Went past → has_request role limits (heads ++ more) past id ≡ has_request role limits heads past id
  has_same past id p = ap (λ (bytes : List ℕ). nat_lt 0 (length (messages_of 4194304 bytes).messages)) (bytes_same limits heads more role past id p)

  pub cuts_same : (past : List Step) (s : Step) → Went past → cuts_request role limits (heads ++ more) past s ≡ cuts_request role limits heads past s
  cuts_same past (Received f) p = ap (λ (b : Bool). is_rst_stream f && is_live role past (stream_of f) && not b) (has_same past (stream_of f) p)
  cuts_same past (Sent f) p = ap (λ (b : Bool). is_rst_stream f && is_begun role past (stream_of f) && not b) (has_same past (stream_of f) p)

  abbrev marked : (List Step → Step → Bool) → List Step → Step → List Step
  marked p past s = if p past s then s ∷ [] else []

  count_same : (p q : List Step → Step → Bool) → ((past : List Step) (s : Step) → Went (past ++ s ∷ []) → p past s ≡ q past s) → (x : List Step) (s : Step) → Went x → p x s ≡ q x s →
      count_steps p (x ++ s ∷ []) ≡ count_steps q (x ++ s ∷ [])
  count_same p q each x s w now =
      ap length (
      collect_push (marked p) x s
      ∙ ap (λ (r : List Step). r ++ marked p x s) (collect_same Went went_front (marked p) (marked q) (λ past t l. ap (λ (b : Bool). if b then t ∷ [] else []) (each past t l)) [] x w)
      ∙ ap (λ (b : Bool). collect (marked q) [] x ++ (if b then s ∷ [] else [])) now
      ∙ sym (collect_push (marked q) x s))

  pub many_same : (x : List Step) (s : Step) → Enough role limits heads more (x ++ s ∷ []) → stop_of role limits heads x ≡ None → received_stop role limits heads x s ≡ None →
      has_many_resets role limits (heads ++ more) (x ++ s ∷ []) ≡ has_many_resets role limits heads (x ++ s ∷ [])
  many_same x s k clear goes =
      let w : Went x = (enough_front role limits heads more x (s ∷ []) k, clear) in
      ap (λ (n : ℕ). nat_lt (1000 + n) (count_steps (cuts_request role limits (heads ++ more)) (x ++ s ∷ [])))
      (count_same (ends_call limits (heads ++ more) role) (ends_call limits heads role)
      (λ past t l. ends_same limits heads more role past t l.0 (went_front past (t ∷ []) l).1 (passed_step role limits heads more past t l)) x s w (ends_same limits heads more role x s k clear goes))
      ∙ ap (nat_lt (1000 + count_steps (ends_call limits heads role) (x ++ s ∷ [])))
      (count_same (cuts_request role limits (heads ++ more)) (cuts_request role limits heads) (λ past t l. cuts_same past t (went_front past (t ∷ []) l)) x s w (cuts_same x s w))

  -- ---- stops

  pub received_same : (past : List Step) (s : Step) → Enough role limits heads more (past ++ s ∷ []) → stop_of role limits heads past ≡ None → received_stop role limits (heads ++ more) past s ≡ received_stop role limits heads past s
  received_same past (Sent f) k clear = refl
  received_same past (Received f) k clear = frame_same role limits heads more past f k clear

  stop_or : (o : Option Stop) (m n : Bool) → (o ≡ None → m ≡ n) → option_or o (if m then Some (Calm Resets) else None) ≡ option_or o (if n then Some (Calm Resets) else None)
  stop_or None m n same = ap (λ (b : Bool). if b then Some (Calm Resets) else None) (same refl)
  stop_or (Some stop) m n same = refl

  pub stop_same : (past : List Step) (s : Step) → Enough role limits heads more (past ++ s ∷ []) → stop_of role limits heads past ≡ None → stop_at role limits (heads ++ more) past s ≡ stop_at role limits heads past s
  stop_same past s k clear =
      ap (λ (o : Option Stop). option_or o (if has_many_resets role limits (heads ++ more) (past ++ s ∷ []) then Some (Calm Resets) else None)) (received_same past s k clear)
      ∙ stop_or (received_stop role limits heads past s) (has_many_resets role limits (heads ++ more) (past ++ s ∷ [])) (has_many_resets role limits heads (past ++ s ∷ [])) (many_same past s k clear)

  abbrev BothSame : Option Stop → Option Stop → List Step → List Step → Type 0
  BothSame n o b a = (n ≡ o) × (b ≡ a)

  split_same : (o later other : Option Stop) (s : Step) (b a : List Step) → (o ≡ None → BothSame later other b a) →
      BothSame (option_or o later) (option_or o other) (if is_some o then [] else s ∷ b) (if is_some o then [] else s ∷ a)
  split_same None later other s b a k = let r = k refl in (r.0, ap (λ (l : List Step). s ∷ l) r.1)
  split_same (Some stop) later other s b a k = (refl, refl)

  looked_same : (past x : List Step) → stop_of role limits heads past ≡ None → Enough role limits heads more (past ++ x) →
      BothSame (first_given (stop_at role limits (heads ++ more)) past x) (first_given (stop_at role limits heads) past x)
      (front_before (stop_at role limits (heads ++ more)) past x) (front_before (stop_at role limits heads) past x)
  looked_same past [] clear k = (refl, refl)
  looked_same past (s ∷ x) clear k =
      let l : Enough role limits heads more ((past ++ s ∷ []) ++ x) = subst (Enough role limits heads more) (sym (append_assoc past (s ∷ []) x)) k in
      let now : stop_at role limits (heads ++ more) past s ≡ stop_at role limits heads past s = stop_same past s (enough_front role limits heads more (past ++ s ∷ []) x l) clear in
      subst (λ (o : Option Stop). BothSame (option_or o (first_given (stop_at role limits (heads ++ more)) (past ++ s ∷ []) x)) (option_or (stop_at role limits heads past s) (first_given (stop_at role limits heads) (past ++ s ∷ []) x))
      (if is_some o then [] else s ∷ front_before (stop_at role limits (heads ++ more)) (past ++ s ∷ []) x) (if is_some (stop_at role limits heads past s) then [] else s ∷ front_before (stop_at role limits heads) (past ++ s ∷ []) x))
      (sym now)
      (split_same (stop_at role limits heads past s) (first_given (stop_at role limits (heads ++ more)) (past ++ s ∷ []) x) (first_given (stop_at role limits heads) (past ++ s ∷ []) x) s
      (front_before (stop_at role limits (heads ++ more)) (past ++ s ∷ []) x) (front_before (stop_at role limits heads) (past ++ s ∷ []) x)
      (λ none. looked_same (past ++ s ∷ []) x (events_go_on role limits heads past s clear none).0 l))

  pub going_went : (x : List Step) → Enough role limits heads more x → Went (before_stop role limits heads x)
  going_went x k =
      let r = before_front (stop_at role limits heads) [] x in
      (enough_front role limits heads more (before_stop role limits heads x) r.0 (subst (Enough role limits heads more) r.1 k), before_clear (stop_at role limits heads) [] x)

  heads_kept : (x : List Step) → Enough role limits heads more x → (stop_of role limits (heads ++ more) x ≡ stop_of role limits heads x) × (events role limits (heads ++ more) x ≡ events role limits heads x)
  heads_kept x k =
      let r = looked_same [] x refl k in
      (r.0, ap (all_events role limits (heads ++ more)) r.1 ∙ all_same role limits heads more (before_stop role limits heads x) (going_went x k))

-- ---- each completed block has its outcome

pub completed_fewer : (past behind : List Step) (f : Frame) (b : Block) → completed (received past) f ≡ Some b → length (blocks (received past)) < length (blocks (received (past ++ Received f ∷ behind)))
completed_fewer past behind f b e =
    let one : blocks (received past ++ f ∷ []) ≡ blocks (received past) ++ b ∷ [] = header_blocks_grow.blocks_push (received past) f ∙ ap (λ (o : Option Block). blocks (received past) ++ option_to_list o) e in
    let split : received (past ++ Received f ∷ behind) ≡ (received past ++ f ∷ []) ++ received behind = received_more past (Received f ∷ behind) ∙ sym (append_assoc (received past) (f ∷ []) (received behind)) in
    omega (
      arith,
      ap length one,
      length-append (blocks (received past)) (b ∷ []),
      ap (λ (fs : List Frame). length (blocks fs)) split,
      ap length (blocks_more None (received past ++ f ∷ []) (received behind)),
      length-append (blocks (received past ++ f ∷ [])) (blocks_behind (open_behind None (received past ++ f ∷ [])) (received behind)),
    )

pub all_enough : (role : Role) (limits : H2Limits) (heads : List Outcome) (x : List Step) → length (blocks (received x)) ≤ length heads → AreEnough role limits heads x
all_enough role limits heads x le past behind f b e looked done =
    omega (arith, le, completed_fewer past behind f b done, ap (λ (y : List Step). length (blocks (received y))) e)

pub later_blocks_change_nothing : LaterBlocksChangeNothing
later_blocks_change_nothing = record { looked_at = heads_kept; completed = all_enough }
