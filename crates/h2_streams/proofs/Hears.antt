-- A set stands for its exchange behind a received frame.
use Rattle.std.proofs.Common.{◌≡◌, ℕ, suc, ◌+◌, ◌-◌, ◌<◌, ◌≤◌, Bool, true, false, not, ◌&&◌, ◌||◌, List, [], ◌∷◌, ◌++◌, length, map, Option, Some, None, refl, sym, ap, ◌∙◌, arith, subst}
use Rattle.std.specs.Prelude.{option_map, is_some, nat_lt, ◌==◌, if◌then◌else◌}
use Rattle.std.specs.List.{flat_map}
use Rattle.std.specs.Option.{option_or}
use Rattle.std.proofs.lemmas.Bool.Decides.{nat_tests}
use Rattle.std.proofs.lemmas.List.{append-nil}
use Rattle.std.proofs.lemmas.List.Concat.{flat_map-append}
use Rattle.std.proofs.lemmas.List.Sums.{fold-append}
use Rattle.h2_frames.specs.declared.code.ErrorCode.{ErrorCode}
use Rattle.h2_frames.specs.declared.code.TheConstants.ErrorCode as code
use Rattle.h2_frames.specs.declared.frame.Frame.{Frame}
use Rattle.h2_frames.specs.declared.frame.Frame.TheVariants.{Content, Headers, Priority, RstStream, Settings, PushPromise, Ping, GoAway, WindowUpdate, Continuation, Unknown}
use Rattle.h2_frames.specs.declared.frame.FrameBody.{FrameBody}
use Rattle.h2_exchange.specs.declared.role.Role.{Role}
use Rattle.h2_exchange.specs.Blocks.{Block, block_with, left_open, open_block, completed}
use Rattle.h2_exchange.specs.Exchange.{Step, Received, Sent, received, sent, first_broken}
use Rattle.h2_exchange.specs.Frames.{stream_of, payload_of, is_data, is_headers, is_rst_stream, is_window_update, is_setting, is_priority, payload_length, has_end_stream, has_end_headers, increment_of, counted}
use Rattle.h2_exchange.specs.Rules.{is_client, setting_error, settings_error, value_error, breaks_block_on}
use Rattle.h2_exchange.specs.Streams.{of_client, highest, is_odd, begun, is_begun, is_over, is_live, is_reset, is_ended_by, has_head, live}
use Rattle.h2_exchange.specs.Windows.{settings_of, settings_in, setting, initial_window, granted_on, spent_on, spent}
use Rattle.h2_exchange.proofs.Steps.{received_push, received_sent, sent_received, sent_push, window_sums_grow, header_blocks_grow, begun_within}
use Rattle.h2_streams.specs.declared.live.StreamOutcome.TheVariants.{Over, Alive}
use Rattle.h2_streams.specs.declared.live.Stream.{Stream}
use Rattle.h2_streams.specs.ConnectionErrors.{live_error_in}
use Rattle.h2_streams.specs.Live.{with_outcome}
use Rattle.h2_streams.specs.Receiving as hear
use Rattle.h2_streams.specs.Set.{Set}
use Rattle.h2_streams.specs.Stands.{stream_at, StandsFor, IsUntouched, is_on}
use Rattle.h2_streams.proofs.Agrees.{pair, part_on, whole_on, open_agrees, ends_agree, whole_agrees, new_agrees, above, untouched, seen_agrees}
use Rattle.h2_streams.proofs.Begins.{covers, bounds}
use Rattle.h2_streams.proofs.Idle.{IsQuiet, is_quiet}
use Rattle.h2_streams.proofs.Judged.{streams_of}
use Rattle.h2_streams.proofs.Lists.{by_number, isnt, self_eq}
use Rattle.h2_streams.proofs.ReceivedFrames.{last_of, ends_by, begins_now, same_heard, other_same, this_heard, reset_heard, begun_list, highest_heard, live_other, live_this}
use Rattle.h2_streams.proofs.Resets as resets
use Rattle.h2_streams.proofs.Settled.{over_list, alive_list, unseen_list}
use Rattle.h2_streams.proofs.SentFrames.{or_false, nothing_new, highest_same, reset_sent, isnt_on}
use Rattle.h2_streams.proofs.Sound.{IsSound}

-- ---- settings

large : (a b c : Bool) (p q r : ErrorCode) → first_broken ((a, p) ∷ (b, q) ∷ (c, r) ∷ []) ≡ None → c ≡ false
large true b c p q r e = absurd cc
large false true c p q r e = absurd cc
large false false true p q r e = absurd cc
large false false false p q r e = refl

front_none : (a b : Option ErrorCode) → option_or a b ≡ None → (a ≡ None) × (b ≡ None)
front_none None b e = (refl, e)
front_none (Some v) b e = absurd cc

-- the settings of a frame that is no error leave a window below 2^31
small_window : (role : Role) (first : ℕ) (settings : List (ℕ × ℕ)) → first < 2147483648 → settings_error role settings ≡ None → setting 4 first settings < 2147483648
small_window role first [] lt e = lt
small_window role first (t ∷ settings) lt e =
    let both : (setting_error role t ≡ None) × (settings_error role settings ≡ None) = front_none (setting_error role t) (settings_error role settings) e in
    small_window role (if t.0 == 4 then t.1 else first) settings
    (one (t.0 == 4) t.1 (large (t.0 == 2 && (nat_lt 1 t.1 || is_client role && t.1 == 1)) (t.0 == 5 && (nat_lt t.1 16384 || nat_lt 16777215 t.1)) (t.0 == 4 && nat_lt 2147483647 t.1) code.PROTOCOL_ERROR code.PROTOCOL_ERROR code.FLOW_CONTROL_ERROR both.0)) both.1
  where
    one : (b : Bool) (n : ℕ) → (b && nat_lt 2147483647 n) ≡ false → (if b then n else first) < 2147483648
    one true n g = grind (arith, nat_tests)
    one false n g = lt

small_initial : (role : Role) (first : ℕ) (f : Frame) → first < 2147483648 → value_error role f ≡ None → setting 4 first (settings_in f) < 2147483648
small_initial role first f lt e = by (is_setting f) e
  where
    by : (t : Bool) → (if t then settings_error role (settings_of (payload_of f)) else first_broken ((is_window_update f && stream_of f == 0 && increment_of f == 0, code.PROTOCOL_ERROR) ∷ [])) ≡ None → setting 4 first (if t then settings_of (payload_of f) else []) < 2147483648
    by true e = small_window role first (settings_of (payload_of f)) lt e
    by false e = lt

-- ---- bits

not_empty : (fs : List Frame) (f : Frame) → true ≡ not (length (fs ++ f ∷ []) == 0)
not_empty [] f = refl
not_empty (g ∷ fs) f = ap not (sym (isnt 0 (suc (length (fs ++ f ∷ []))) (λ e. omega (arith, e))))

granted_zero : (w z : Bool) (n : ℕ) → ◌≡◌ {A = ℕ} (if z then (if w then n else 0) else 0) (if w && z then n else 0)
granted_zero true true n = refl
granted_zero true false n = refl
granted_zero false true n = refl
granted_zero false false n = refl

no_less : (m n : ℕ) → nat_lt m n ≡ false → n ≤ m
no_less m n e = grind (arith, nat_tests)

no_count : (f : Frame) → is_data f ≡ false → counted f ≡ 0
no_count (Content b) e = absurd cc
no_count (Headers b) e = refl
no_count (Priority b) e = refl
no_count (RstStream b) e = refl
no_count (Settings b) e = refl
no_count (PushPromise b) e = refl
no_count (Ping b) e = refl
no_count (GoAway b) e = refl
no_count (WindowUpdate b) e = refl
no_count (Continuation b) e = refl
no_count (Unknown other b) e = refl

fourth : (a b c d e : Bool) (p q r t u : ErrorCode) → first_broken ((a, p) ∷ (b, q) ∷ (c, r) ∷ (d, t) ∷ (e, u) ∷ []) ≡ None → d ≡ false
fourth true b c d e p q r t u h = absurd cc
fourth false true c d e p q r t u h = absurd cc
fourth false false true d e p q r t u h = absurd cc
fourth false false false true e p q r t u h = absurd cc
fourth false false false false e p q r t u h = refl

-- DATA that is no error of its stream fits its window
fits_stream : (s : Set) (f : Frame) (t : Stream) → live_error_in s f t ≡ None → counted f ≤ t.receive
fits_stream s f t e =
    by (is_data f) refl
    (fourth (is_priority f && not (payload_length f == 5)) (is_window_update f && increment_of f == 0) (is_window_update f && nat_lt 4294967295 (s.initial + t.room + increment_of f)) (is_data f && nat_lt t.receive (counted f)) (is_data f && t.is_closed_remote)
    code.FRAME_SIZE_ERROR code.PROTOCOL_ERROR code.FLOW_CONTROL_ERROR code.FLOW_CONTROL_ERROR code.STREAM_CLOSED e)
  where
    by : (d : Bool) → is_data f ≡ d → (is_data f && nat_lt t.receive (counted f)) ≡ false → counted f ≤ t.receive
    by true p g = no_less t.receive (counted f) (ap (λ (b : Bool). b && nat_lt t.receive (counted f)) (sym p) ∙ g)
    by false p g = omega (arith, no_count f p)

alive_by : (b r t h n q e : Bool) → (b && not (r || t && h)) ≡ true → ((b || n) && not ((r || q) || (t || e) && h)) ≡ not (q || (t || e) && h)
alive_by true true t h n q e g = absurd cc
alive_by true false t h n q e g = refl
alive_by false r t h n q e g = absurd cc

new_by : (b r t h q e : Bool) → r ≡ false → ((b || true) && not ((r || q) || (t || e) && h)) ≡ not (q || (t || e) && h)
new_by b true t h q e g = absurd cc
new_by true false t h q e g = refl
new_by false false t h q e g = refl

dead_by : (b r t h n q e : Bool) → n ≡ false → (b && not (r || t && h)) ≡ false → ((b || n) && not ((r || q) || (t || e) && h)) ≡ false
dead_by b r t h true q e m g = absurd cc
dead_by false r t h false q e m g = refl
dead_by true true t h false q e m g = refl
dead_by true false true true false true e m g = refl
dead_by true false true true false false e m g = refl
dead_by true false true false false q e m g = absurd cc
dead_by true false false h false q e m g = absurd cc

neither : (a b : Bool) → (a || b) ≡ false → (a ≡ false) × (b ≡ false)
neither true b e = absurd cc
neither false b e = (refl, e)

clash : (t : Bool) → t ≡ true → t ≡ false → ⊥
clash t e f = cc

front_true : (a b : Bool) → (a && b) ≡ true → a ≡ true
front_true true b e = refl
front_true false b e = absurd cc

not_on : (o : Option Block) (k id : ℕ) → ((b : Block) → o ≡ Some b → b.stream ≡ k) → (id ≡ k → ⊥) → is_on id o ≡ false
not_on None k id on g = refl
not_on (Some b) k id on g = isnt id b.stream (λ e. g (sym e ∙ on b refl))

open_on : (t : Bool) (o : Option Block) (k : ℕ) → ((b : Block) → o ≡ Some b → b.stream ≡ k) → (b : Block) → (if t then None else o) ≡ Some b → b.stream ≡ k
open_on true o k on b e = absurd cc
open_on false o k on b e = on b e

-- ---- the frame

module _ (s : Set) (x : List Step) (f : Frame) (h : StandsFor s x) (sound : IsSound s f) where
  abbrev k : ℕ
  k = stream_of f

  abbrev pub after : List Step
  after = x ++ Received f ∷ []

  abbrev lives : Bool
  lives = is_live s.role x k

  abbrev starts : Bool
  starts = begins_now s.role x f

  abbrev seen : Stream
  seen = stream_at s.limits x k

  rs : received after ≡ received x ++ f ∷ []
  rs = received_push x f

  -- ---- the frame's stream

  covered_here : (lives || starts) ≡ true → spent_on k (sent x) < 2147483648 + granted_on k (received x)
  covered_here e = by lives starts refl refl e
    where
      by : (l n : Bool) → lives ≡ l → starts ≡ n → (l || n) ≡ true → spent_on k (sent x) < 2147483648 + granted_on k (received x)
      by true n p q e = h.covered k p
      by false true p q e = covers (spent_on k (sent x)) (granted_on k (received x)) (ap (λ (t : Stream). t.room) (untouched s x f h sound q).as_new)
      by false false p q e = absurd cc

  within_here : (lives || starts) ≡ true → spent_on k (received x) ≤ s.limits.window + granted_on k (sent x)
  within_here e = by lives starts refl refl e
    where
      by : (l n : Bool) → lives ≡ l → starts ≡ n → (l || n) ≡ true → spent_on k (received x) ≤ s.limits.window + granted_on k (sent x)
      by true n p q e = h.within k p
      by false true p q e = bounds s.limits.window (spent_on k (received x)) (granted_on k (sent x)) s.limits.window_is_raised (ap (λ (t : Stream). t.receive) (untouched s x f h sound q).as_new)
      by false false p q e = absurd cc

  built : Bool → Bool → ℕ → ℕ → Stream
  built ended head room receive = record { id = k; is_closed_local = is_ended_by (sent x) k; is_closed_remote = ended; has_head = head; room = room; receive = receive }

  more_room : (granted used n : ℕ) → used < 2147483648 + granted → 2147483648 + granted - used + n ≡ 2147483648 + (granted + n) - used
  more_room granted used n lt = omega arith

  less_left : (whole used n : ℕ) → whole - used - n ≡ whole - (used + n)
  less_left whole used n = omega arith

  changed_agrees : (lives || starts) ≡ true → hear.changed_in s f seen ≡ stream_at s.limits after k
  unfolding built
  changed_agrees e =
      ap (λ (b : Bool). built (is_ended_by (received x) k || b) (has_head (received x) k || is_some (hear.completed_by s.block f)) (seen.room + hear.granted_by f) (seen.receive - counted f)) (ends_agree s x f h sound)
      ∙ ap (λ (b : Bool). built (is_ended_by (received x) k || ends_by (received x) f) (has_head (received x) k || b) (seen.room + hear.granted_by f) (seen.receive - counted f)) (whole_agrees s x f h sound)
      ∙ ap (λ (n : ℕ). built (is_ended_by (received x) k || ends_by (received x) f) (has_head (received x) k || is_some (completed (received x) f)) n (seen.receive - counted f)) (more_room (granted_on k (received x)) (spent_on k (sent x)) (hear.granted_by f) (covered_here e))
      ∙ ap (λ (n : ℕ). built (is_ended_by (received x) k || ends_by (received x) f) (has_head (received x) k || is_some (completed (received x) f)) (2147483648 + (granted_on k (received x) + hear.granted_by f) - spent_on k (sent x)) n) (less_left (s.limits.window + granted_on k (sent x)) (spent_on k (received x)) (counted f))
      ∙ sym (this_heard s.role s.limits x f (whole_on s x f h sound))

  live_after : (lives || starts) ≡ true → is_live s.role after k ≡ not (is_rst_stream f || (is_ended_by (received x) k || ends_by (received x) f) && is_ended_by (sent x) k)
  live_after e = live_this s.role s.limits x f (whole_on s x f h sound) ∙ by lives starts refl refl e
    where
      by : (l n : Bool) → lives ≡ l → starts ≡ n → (l || n) ≡ true → ((is_begun s.role x k || starts) && not ((is_reset x k || is_rst_stream f) || (is_ended_by (received x) k || ends_by (received x) f) && is_ended_by (sent x) k)) ≡ not (is_rst_stream f || (is_ended_by (received x) k || ends_by (received x) f) && is_ended_by (sent x) k)
      by true n p q e = alive_by (is_begun s.role x k) (is_reset x k) (is_ended_by (received x) k) (is_ended_by (sent x) k) starts (is_rst_stream f) (ends_by (received x) f) p
      by false true p q e =
          ap (λ (b : Bool). (is_begun s.role x k || b) && not ((is_reset x k || is_rst_stream f) || (is_ended_by (received x) k || ends_by (received x) f) && is_ended_by (sent x) k)) q
          ∙ new_by (is_begun s.role x k) (is_reset x k) (is_ended_by (received x) k) (is_ended_by (sent x) k) (is_rst_stream f) (ends_by (received x) f) (untouched s x f h sound q).no_reset
      by false false p q e = absurd cc

  dead_after : (lives || starts) ≡ false → is_live s.role after k ≡ false
  dead_after e =
      live_this s.role s.limits x f (whole_on s x f h sound)
      ∙ dead_by (is_begun s.role x k) (is_reset x k) (is_ended_by (received x) k) (is_ended_by (sent x) k) starts (is_rst_stream f) (ends_by (received x) f) (neither lives starts e).1 (neither lives starts e).0

  -- ---- the whole set

  live_was : (id : ℕ) → (id ≡ k → ⊥) → is_live s.role after id ≡ true → is_live s.role x id ≡ true
  live_was id g e = sym (live_other s.role s.limits x f (whole_on s x f h sound) id g) ∙ e

  fold_initial : setting 4 s.initial (settings_in f) ≡ initial_window (received x ++ f ∷ [])
  fold_initial =
      ap (λ (n : ℕ). setting 4 n (settings_in f)) h.initial_is
      ∙ sym (
      ap (setting 4 65535) (flat_map-append settings_in (received x) (f ∷ []) ∙ ap (λ (l : List (ℕ × ℕ)). flat_map settings_in (received x) ++ l) (append-nil (settings_in f)))
      ∙ fold-append (λ (value : ℕ) (t : ℕ × ℕ). if t.0 == 4 then t.1 else value) 65535 (flat_map settings_in (received x)) (settings_in f)
      )

  -- what is left to show of an exchange whose received frames end with this one
  pub record Behind (y : List Step) : Type 0 where
    pub hears : received y ≡ received x ++ f ∷ []
    pub grants : (id : ℕ) → granted_on id (sent y) ≡ granted_on id (sent x)
    pub spends : (id : ℕ) → spent_on id (sent y) ≡ spent_on id (sent x)
    pub spends_all : spent (sent y) ≡ spent (sent x)
    pub greatest : highest (of_client s.role y) ≡ highest (of_client s.role after)
    pub live_is : hear.live_behind s f ≡ map (stream_at s.limits y) (live s.role y)
    pub covered : (id : ℕ) → is_live s.role y id ≡ true → spent_on id (sent x) < 2147483648 + granted_on id (received x)
    pub within : (id : ℕ) → is_live s.role y id ≡ true → spent_on id (received x) + (if k == id then counted f else 0) ≤ s.limits.window + granted_on id (sent x)
    pub untouched : (id : ℕ) → (if starts then k else s.highest) < id → is_odd id ≡ true → IsUntouched s.limits y id

  pub stands_by : (y : List Step) → Behind y → StandsFor (hear.taken s f) y
  stands_by y t = record {
    live_is = t.live_is;
    highest_is =
        ap (λ (b : Bool). if b then k else s.highest) (new_agrees s x f h sound) ∙ ap (λ (n : ℕ). if starts then k else n) h.highest_is
        ∙ sym (highest_heard s.role s.limits x f (whole_on s x f h sound)) ∙ sym t.greatest;
    started_is = not_empty (received x) f ∙ ap (λ (fs : List Frame). not (length fs == 0)) (sym t.hears);
    block_is = open_agrees s x f h sound ∙ ap (option_map pair) (sym (header_blocks_grow.open_push (received x) f)) ∙ ap (λ (fs : List Frame). option_map pair (open_block fs)) (sym t.hears);
    initial_is = fold_initial ∙ ap initial_window (sym t.hears);
    send_is = omega (arith, h.send_is, t.spends_all, granted_zero (is_window_update f) (k == 0) (increment_of f), ap (granted_on 0) t.hears, window_sums_grow.granted_push 0 (received x) f);
    receive_is = omega (arith, h.receive_is, no_less s.receive (counted f) sound.within, ap spent t.hears, window_sums_grow.spent_push (received x) f, t.grants 0);
    initial_small = small_initial s.role s.initial f h.initial_small sound.value;
    covered = λ id e. omega (arith, t.covered id e, t.spends id, ap (granted_on id) t.hears, window_sums_grow.granted_push id (received x) f);
    within = λ id e. omega (arith, t.within id e, t.grants id, ap (spent_on id) t.hears, window_sums_grow.spent_on_push id (received x) f);
    untouched = λ id lt e. t.untouched id (subst (λ (b : Bool). (if b then k else s.highest) < id) (new_agrees s x f h sound) lt) e;
  }

  -- ---- a stream that may still begin

  block_other : (id : ℕ) → (id ≡ k → ⊥) → is_on id (open_block (received after)) ≡ false
  block_other id g =
      ap (λ (fs : List Frame). is_on id (open_block fs)) rs ∙ ap (is_on id) (header_blocks_grow.open_push (received x) f)
      ∙ not_on (left_open (open_block (received x)) f) k id (open_on (has_end_headers f) (block_with (open_block (received x)) f) k (part_on s x f h sound)) g

  low : (id : ℕ) → (if starts then k else s.highest) < id → s.highest < id
  low id lt = by starts refl lt
    where
      by : (n : Bool) → starts ≡ n → (if n then k else s.highest) < id → s.highest < id
      by true e lt = omega (arith, lt, above s x f h sound e, h.highest_is)
      by false e lt = lt

  untouched_other : (id : ℕ) → (id ≡ k → ⊥) → (if starts then k else s.highest) < id → is_odd id ≡ true → IsUntouched s.limits after id
  untouched_other id g lt e = record {
    as_new = other_same s.role s.limits x f (whole_on s x f h sound) id g ∙ (h.untouched id (low id lt) e).as_new;
    no_reset = reset_heard s.role s.limits x f (whole_on s x f h sound) id ∙ or_false (is_reset x id) (is_rst_stream f && k == id) (and_off (is_rst_stream f) (k == id) (isnt id k (λ i. g (sym i)))) ∙ (h.untouched id (low id lt) e).no_reset;
    no_block = block_other id g;
  }
    where
      and_off : (a b : Bool) → b ≡ false → (a && b) ≡ false
      and_off true b e = e
      and_off false b e = refl

  module _ (lt : (if starts then k else s.highest) < k) (odd : is_odd k ≡ true) where
    not_started : starts ≡ false
    not_started = by starts refl lt
      where
        by : (n : Bool) → starts ≡ n → (if n then k else s.highest) < k → n ≡ false
        by true e lt = absurd (omega (arith, lt))
        by false e lt = refl

    above_highest : nat_lt s.highest k ≡ true
    above_highest = less s.highest k (low k lt)
      where
        less : (m n : ℕ) → m < n → nat_lt m n ≡ true
        less m n e = grind (arith, nat_tests)

    was : IsUntouched s.limits x k
    was = h.untouched k (low k lt) odd

    quiet : IsQuiet (open_block (received x)) f
    quiet =
        is_quiet s.role s.highest (open_block (received x)) f sound.number
        (ap (λ (o : Option ℕ). breaks_block_on o f) (sym (ap (option_map (λ (p : ℕ × Bool). p.0)) h.block_is ∙ streams_of (open_block (received x)))) ∙ sound.block) above_highest odd
        (ap (λ (n : ℕ). not (is_client s.role) && (is_headers f && is_odd k && nat_lt n k)) h.highest_is ∙ not_started) was.no_block

    whole_none : completed (received x) f ≡ None
    whole_none = ap (λ (o : Option Block). if has_end_headers f then o else None) quiet.no_part ∙ same (has_end_headers f)
      where
        same : (t : Bool) → ◌≡◌ {A = Option Block} (if t then None else None) None
        same true = refl
        same false = refl

    open_none : left_open (open_block (received x)) f ≡ None
    open_none = ap (λ (o : Option Block). if has_end_headers f then None else o) quiet.no_part ∙ same (has_end_headers f)
      where
        same : (t : Bool) → ◌≡◌ {A = Option Block} (if t then None else None) None
        same true = refl
        same false = refl

    ends_none : ends_by (received x) f ≡ false
    ends_none = ap (λ (b : Bool). b && has_end_stream f || last_of (completed (received x) f)) quiet.no_data ∙ ap last_of whole_none

    untouched_here : IsUntouched s.limits after k
    untouched_here = record {
      as_new =
          this_heard s.role s.limits x f (whole_on s x f h sound)
          ∙ same_heard s.limits (sent x) k (is_ended_by (received x) k || ends_by (received x) f) (is_ended_by (received x) k) (has_head (received x) k || is_some (completed (received x) f)) (has_head (received x) k)
          (granted_on k (received x) + (if is_window_update f then increment_of f else 0)) (granted_on k (received x)) (spent_on k (received x) + counted f) (spent_on k (received x))
          (or_false (is_ended_by (received x) k) (ends_by (received x) f) ends_none) (or_false (has_head (received x) k) (is_some (completed (received x) f)) (ap is_some whole_none))
          (omega (arith, ap (λ (b : Bool). if b then increment_of f else 0) quiet.no_update)) (omega (arith, quiet.no_count))
          ∙ was.as_new;
      no_reset = reset_heard s.role s.limits x f (whole_on s x f h sound) k ∙ or_false (is_reset x k) (is_rst_stream f && k == k) (ap (λ (b : Bool). b && k == k) quiet.no_reset) ∙ was.no_reset;
      no_block = ap (λ (fs : List Frame). is_on k (open_block fs)) rs ∙ ap (is_on k) (header_blocks_grow.open_push (received x) f) ∙ ap (is_on k) open_none;
    }

  untouched_after : (id : ℕ) → (if starts then k else s.highest) < id → is_odd id ≡ true → IsUntouched s.limits after id
  untouched_after id lt e =
      by_number (λ id. (if starts then k else s.highest) < id → is_odd id ≡ true → IsUntouched s.limits after id) k id
      (λ g lt e. subst (λ (i : ℕ). IsUntouched s.limits after i) (sym g) (untouched_here (subst (λ (i : ℕ). (if starts then k else s.highest) < i) g lt) (ap is_odd (sym g) ∙ e)))
      (λ g lt e. untouched_other id g lt e) lt e

  -- ---- a frame that breaks no rule

  fate_is : (fault : Option ErrorCode) (b : Bool) → hear.fault_in s f ≡ fault → (lives || starts) ≡ b → hear.live_behind s f ≡ with_outcome starts k (hear.outcome_on s f fault (if b then Some seen else None)) s.live
  fate_is fault b e g =
      ap (λ (n : Bool). with_outcome n k (hear.outcome_on s f (hear.fault_in s f) (hear.seen_in s f)) s.live) (new_agrees s x f h sound)
      ∙ ap (λ (o : Option ErrorCode). with_outcome starts k (hear.outcome_on s f o (hear.seen_in s f)) s.live) e
      ∙ ap (λ (o : Option Stream). with_outcome starts k (hear.outcome_on s f fault o) s.live) (seen_agrees s x f h sound ∙ ap (λ (c : Bool). if c then Some seen else None) g)

  others_after : (id : ℕ) → (id ≡ k → ⊥) → (is_live s.role after id ≡ is_live s.role x id) × (stream_at s.limits after id ≡ stream_at s.limits x id)
  others_after id g = (live_other s.role s.limits x f (whole_on s x f h sound) id g, other_same s.role s.limits x f (whole_on s x f h sound) id g)

  list_after : hear.fault_in s f ≡ None → hear.live_behind s f ≡ map (stream_at s.limits after) (live s.role after)
  list_after sane = by (lives || starts) refl
    where
      begun_after : begun s.role after ≡ begun s.role x ++ (if starts then k ∷ [] else [])
      begun_after = begun_list s.role s.limits x f (whole_on s x f h sound)

      by_end : (lives || starts) ≡ true → (g : Bool) → (is_rst_stream f || (is_ended_by (received x) k || ends_by (received x) f) && is_ended_by (sent x) k) ≡ g →
          with_outcome starts k (if g then Over else Alive (hear.changed_in s f seen)) s.live ≡ map (stream_at s.limits after) (live s.role after)
      by_end e true g = over_list s x f h sound after begun_after others_after (live_after e ∙ ap not g)
      by_end e false g = alive_list s x f h sound after begun_after others_after (hear.changed_in s f seen) e (live_after e ∙ ap not g) (changed_agrees e)

      by : (b : Bool) → (lives || starts) ≡ b → hear.live_behind s f ≡ map (stream_at s.limits after) (live s.role after)
      by true e =
          fate_is None true sane e
          ∙ ap (λ (b : Bool). with_outcome starts k (if is_rst_stream f || (is_ended_by (received x) k || b) && is_ended_by (sent x) k then Over else Alive (hear.changed_in s f seen)) s.live) (ends_agree s x f h sound)
          ∙ by_end e (is_rst_stream f || (is_ended_by (received x) k || ends_by (received x) f) && is_ended_by (sent x) k) refl
      by false e = fate_is None false sane e ∙ unseen_list s x f h sound after begun_after others_after e (dead_after e)

  count_fits : hear.fault_in s f ≡ None → (lives || starts) ≡ true → spent_on k (received x) + counted f ≤ s.limits.window + granted_on k (sent x)
  count_fits sane e =
      omega (
        arith,
        within_here e,
        fits_stream s f seen (front_none (live_error_in s f seen) (hear.block_error_in s f seen (hear.completed_by s.block f)) (ap (hear.fault_on s f) (sym (seen_agrees s x f h sound ∙ ap (λ (c : Bool). if c then Some seen else None) e)) ∙ sane)).0,
      )

  unless_dead : is_live s.role after k ≡ true → (lives || starts) ≡ true
  unless_dead e = by (lives || starts) refl
    where
      by : (b : Bool) → (lives || starts) ≡ b → (lives || starts) ≡ true
      by true g = g
      by false g = absurd (clash (is_live s.role after k) e (dead_after g))

  pub heard : hear.fault_in s f ≡ None → StandsFor (hear.taken s f) after
  heard sane =
      stands_by after (
      record {
        hears = rs;
        grants = λ id. ap (granted_on id) (sent_received x f);
        spends = λ id. ap (spent_on id) (sent_received x f);
        spends_all = ap spent (sent_received x f);
        greatest = refl;
        live_is = list_after sane;
        covered = λ id e. by_number (λ id. is_live s.role after id ≡ true → spent_on id (sent x) < 2147483648 + granted_on id (received x)) k id
            (λ g e. subst (λ (i : ℕ). spent_on i (sent x) < 2147483648 + granted_on i (received x)) (sym g) (covered_here (unless_dead (ap (is_live s.role after) (sym g) ∙ e)))) (λ g e. h.covered id (live_was id g e)) e;
        within = λ id e. by_number (λ id. is_live s.role after id ≡ true → spent_on id (received x) + (if k == id then counted f else 0) ≤ s.limits.window + granted_on id (sent x)) k id
            (λ g e. subst (λ (i : ℕ). spent_on i (received x) + (if k == i then counted f else 0) ≤ s.limits.window + granted_on i (sent x)) (sym g) (omega (arith, count_fits sane (unless_dead (ap (is_live s.role after) (sym g) ∙ e)), ap (λ (b : Bool). if b then counted f else 0) (self_eq k))))
            (λ g e. omega (arith, h.within id (live_was id g e), ap (λ (b : Bool). if b then counted f else 0) (isnt id k (λ i. g (sym i))))) e;
        untouched = untouched_after;
      }
      )

  -- ---- a frame with a stream error, whose stream is then reset

  module _ (b : FrameBody) (on : b.stream ≡ k) where
    abbrev pub ended : List Step
    ended = after ++ Sent (RstStream b) ∷ []

    dead_now : is_live s.role ended k ≡ false
    dead_now = resets.now_dead s.role s.limits after b k on

    others_now : (id : ℕ) → (id ≡ k → ⊥) → (is_live s.role ended id ≡ is_live s.role x id) × (stream_at s.limits ended id ≡ stream_at s.limits x id)
    others_now id g = (resets.live_same s.role s.limits after b k id on g ∙ (others_after id g).0, resets.same_stream s.role s.limits after b id ∙ (others_after id g).1)

    hears_now : received ended ≡ received x ++ f ∷ []
    hears_now = received_sent after (RstStream b) ∙ rs

    sends_now : sent ended ≡ sent x ++ RstStream b ∷ []
    sends_now = sent_push after (RstStream b) ∙ ap (λ (fs : List Frame). fs ++ RstStream b ∷ []) (sent_received x f)

    no_grant : (id : ℕ) → granted_on id (sent ended) ≡ granted_on id (sent x)
    no_grant id = omega (arith, ap (granted_on id) sends_now, window_sums_grow.granted_push id (sent x) (RstStream b))

    no_spend : (id : ℕ) → spent_on id (sent ended) ≡ spent_on id (sent x)
    no_spend id = omega (arith, ap (spent_on id) sends_now, window_sums_grow.spent_on_push id (sent x) (RstStream b), Rattle.h2_streams.proofs.SentFrames.plus_if_zero (spent_on id (sent x)) (b.stream == id))

    low_here : (lives || starts) ≡ true → (if starts then k else s.highest) < k → ⊥
    low_here e lt = by lives starts refl refl e lt
      where
        by : (l n : Bool) → lives ≡ l → starts ≡ n → (l || n) ≡ true → (if n then k else s.highest) < k → ⊥
        by l true p q e lt = omega (arith, lt)
        by true false p q e lt = omega (arith, lt, h.highest_is, begun_within s.role x k (front_true (is_begun s.role x k) (not (is_over x k)) p))
        by false false p q e lt = absurd cc

    untouched_now : (lives || starts) ≡ true → (id : ℕ) → (if starts then k else s.highest) < id → is_odd id ≡ true → IsUntouched s.limits ended id
    untouched_now seen_here id lt e = record {
      as_new = resets.same_stream s.role s.limits after b id ∙ was.as_new;
      no_reset = reset_sent after (RstStream b) id ∙ or_false (is_reset after id) (b.stream == id) (isnt_on k b.stream id on off) ∙ was.no_reset;
      no_block = ap (λ (fs : List Frame). is_on id (open_block fs)) (received_sent after (RstStream b)) ∙ was.no_block;
    }
      where
        off : id ≡ k → ⊥
        off g = low_here seen_here (subst (λ (i : ℕ). (if starts then k else s.highest) < i) g lt)

        was : IsUntouched s.limits after id
        was = untouched_other id off lt e

    pub failed : (why : ErrorCode) → hear.fault_in s f ≡ Some why → StandsFor (hear.taken s f) ended
    failed why fault = by (lives || starts) refl
      where
        by : (t : Bool) → (lives || starts) ≡ t → StandsFor (hear.taken s f) ended
        by false e = absurd (nothing why (sym (ap (hear.fault_on s f) (seen_agrees s x f h sound ∙ ap (λ (c : Bool). if c then Some seen else None) e)) ∙ fault))
          where
            nothing : (w : ErrorCode) → None ≡ Some w → ⊥
            nothing w g = cc
        by true e =
            stands_by ended (
            record {
              hears = hears_now;
              grants = no_grant;
              spends = no_spend;
              spends_all = omega (arith, ap spent sends_now, window_sums_grow.spent_push (sent x) (RstStream b));
              greatest = highest_same s.role after (RstStream b) refl;
              live_is =
                  fate_is (Some why) true fault e
                  ∙ over_list s x f h sound ended (nothing_new s.role after (RstStream b) refl ∙ begun_list s.role s.limits x f (whole_on s x f h sound)) others_now dead_now;
              covered = λ id g. by_number (λ id. is_live s.role ended id ≡ true → spent_on id (sent x) < 2147483648 + granted_on id (received x)) k id
                  (λ i g. absurd (clash (is_live s.role ended id) g (ap (is_live s.role ended) i ∙ dead_now))) (λ i g. h.covered id (sym (others_now id i).0 ∙ g)) g;
              within = λ id g. by_number (λ id. is_live s.role ended id ≡ true → spent_on id (received x) + (if k == id then counted f else 0) ≤ s.limits.window + granted_on id (sent x)) k id
                  (λ i g. absurd (clash (is_live s.role ended id) g (ap (is_live s.role ended) i ∙ dead_now)))
                  (λ i g. omega (arith, h.within id (sym (others_now id i).0 ∙ g), ap (λ (t : Bool). if t then counted f else 0) (isnt id k (λ j. i (sym j))))) g;
              untouched = untouched_now e;
            }
            )
