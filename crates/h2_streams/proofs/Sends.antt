-- A set stands for its exchange behind DATA that is sent on an open stream.
use Rattle.std.proofs.Common.{◌≡◌, ℕ, ◌+◌, ◌-◌, ◌<◌, ◌≤◌, min, Bool, true, false, not, ◌&&◌, ◌||◌, List, [], ◌∷◌, ◌++◌, map, Option, Some, None, refl, sym, ap, ◌∙◌, arith, subst}
use Rattle.std.specs.Prelude.{filter, option_map, length, ◌==◌, if◌then◌else◌}
use Rattle.h2_frames.specs.declared.frame.Frame.{Frame}
use Rattle.h2_frames.specs.declared.frame.Frame.TheVariants.{Content}
use Rattle.h2_frames.specs.declared.frame.FrameBody.{FrameBody}
use Rattle.h2_exchange.specs.declared.limits.H2Limits.{H2Limits}
use Rattle.h2_exchange.specs.declared.role.Role.{Role}
use Rattle.h2_exchange.specs.Blocks.{Block, open_block}
use Rattle.h2_exchange.specs.Exchange.{Step, Sent, received, sent}
use Rattle.h2_exchange.specs.Frames.{has_end_stream}
use Rattle.h2_exchange.specs.Streams.{of_client, highest, begun, is_begun, is_live, is_open, is_over, is_reset, is_ended_by, live}
use Rattle.h2_exchange.specs.Windows.{initial_window, granted_on, spent_on, spent as all_spent}
use Rattle.h2_exchange.proofs.Steps.{received_sent, sent_push, window_sums_grow, begun_once, begun_within}
use Rattle.h2_streams.specs.declared.live.Stream.{Stream}
use Rattle.h2_streams.specs.Live.{replaced}
use Rattle.h2_streams.specs.Set.{Set, at, spent_at, spent, room_of}
use Rattle.h2_streams.specs.Stands.{stream_at, StandsFor, is_on}
use Rattle.h2_streams.proofs.Lists.{replaced_is, self_eq, by_number}
use Rattle.h2_streams.proofs.SentFrames.{made, data_is_no_block, or_false, nothing_new, begun_same, highest_same, stream_sent, reset_sent, live_by, isnt_on}
use Rattle.h2_streams.proofs.Standing.{at_is}

pub if_test : (t : Bool) (n m : ℕ) → t ≡ false → m + (if t then n else 0) ≡ m
if_test true n m e = absurd cc
if_test false n m e = omega arith

pub when_test : (t : Bool) (n m : ℕ) → t ≡ true → m + (if t then n else 0) ≡ m + n
when_test true n m e = refl
when_test false n m e = absurd cc

and_test : (e t : Bool) → t ≡ false → (e && t) ≡ false
and_test true t p = p
and_test false t p = refl

and_true : (e t : Bool) → t ≡ true → (e && t) ≡ e
and_true true t p = p
and_true false t p = refl

module _ (role : Role) (limits : H2Limits) (x : List Step) (b : FrameBody) (k : ℕ) (on : b.stream ≡ k) where
  abbrev pub after : List Step
  after = x ++ Sent (Content b) ∷ []

  -- another stream is as it was
  pub other_same : (id : ℕ) → (id ≡ k → ⊥) → stream_at limits after id ≡ stream_at limits x id
  other_same id f =
      let t : (b.stream == id) ≡ false = isnt_on k b.stream id on f in
      stream_sent limits x (Content b) id (is_ended_by (sent x) id) (spent_on id (sent x)) (granted_on id (sent x)) (data_is_no_block (open_block (sent x)) b)
      (or_false (is_ended_by (sent x) id) (has_end_stream (Content b) && b.stream == id) (and_test (has_end_stream (Content b)) (b.stream == id) t))
      (if_test (b.stream == id) (length b.payload) (spent_on id (sent x)) t) (omega arith)

  pub this_changed : stream_at limits after k ≡ made limits (received x) k (is_ended_by (sent x) k || has_end_stream (Content b)) (spent_on k (sent x) + length b.payload) (granted_on k (sent x))
  this_changed =
      let t : (b.stream == k) ≡ true = ap (λ (n : ℕ). n == k) on ∙ self_eq k in
      stream_sent limits x (Content b) k (is_ended_by (sent x) k || has_end_stream (Content b)) (spent_on k (sent x) + length b.payload) (granted_on k (sent x)) (data_is_no_block (open_block (sent x)) b)
      (ap (λ (e : Bool). is_ended_by (sent x) k || e) (and_true (has_end_stream (Content b)) (b.stream == k) t))
      (when_test (b.stream == k) (length b.payload) (spent_on k (sent x)) t) (omega arith)

  pub no_reset : (id : ℕ) → is_reset after id ≡ is_reset x id
  no_reset id = reset_sent x (Content b) id ∙ or_false (is_reset x id) false refl

  pub live_other : (id : ℕ) → (id ≡ k → ⊥) → is_live role after id ≡ is_live role x id
  live_other id f =
      live_by role x after id (is_begun role x id) (is_reset x id) (is_ended_by (received x) id) (is_ended_by (sent x) id) (begun_same role x (Content b) id refl)
      (no_reset id) (ap (λ (s : Stream). s.is_closed_remote) (other_same id f)) (ap (λ (s : Stream). s.is_closed_local) (other_same id f))

  pub live_this : is_live role after k ≡ (is_begun role x k && not (is_reset x k || is_ended_by (received x) k && (is_ended_by (sent x) k || has_end_stream (Content b))))
  live_this =
      live_by role x after k (is_begun role x k) (is_reset x k) (is_ended_by (received x) k) (is_ended_by (sent x) k || has_end_stream (Content b)) (begun_same role x (Content b) k refl)
      (no_reset k) (ap (λ (s : Stream). s.is_closed_remote) this_changed) (ap (λ (s : Stream). s.is_closed_local) this_changed)

  pub live_kept : has_end_stream (Content b) ≡ false → is_live role after k ≡ is_live role x k
  live_kept e = live_this ∙ ap (λ (h : Bool). is_begun role x k && not (is_reset x k || is_ended_by (received x) k && h)) (or_false (is_ended_by (sent x) k) (has_end_stream (Content b)) e)

  pub live_replaced : has_end_stream (Content b) ≡ false → map (stream_at limits after) (live role after) ≡ replaced k (stream_at limits after k) (map (stream_at limits x) (live role x))
  live_replaced e =
      ap (λ (ids : List ℕ). map (stream_at limits after) (filter (is_live role after) ids)) (nothing_new role x (Content b) refl)
      ∙ replaced_is (is_live role x) (is_live role after) (stream_at limits x) (stream_at limits after) (λ id. refl) k (λ id f. (live_other id f, other_same id f)) (live_kept e) (begun role x) (begun_once role x k)

  -- the stream less what was sent
  pub less_room : has_end_stream (Content b) ≡ false → (n : ℕ) → length b.payload ≡ n → stream_at limits after k ≡ record (stream_at limits x k) { room = (stream_at limits x k).room - n }
  less_room e n l =
      this_changed
      ∙ ap (λ (h : Bool). made limits (received x) k h (spent_on k (sent x) + length b.payload) (granted_on k (sent x))) (or_false (is_ended_by (sent x) k) (has_end_stream (Content b)) e)
      ∙ ap (roomy (is_ended_by (sent x) k)) (taken (2147483648 + granted_on k (received x)) (spent_on k (sent x)) (length b.payload) n l)
    where
      roomy : Bool → ℕ → Stream
      roomy h r = record { id = k; is_closed_local = h; is_closed_remote = is_ended_by (received x) k; has_head = Rattle.h2_exchange.specs.Streams.has_head (received x) k; room = r; receive = limits.window + granted_on k (sent x) - spent_on k (received x) }

      taken : (whole used m n : ℕ) → m ≡ n → whole - (used + m) ≡ whole - used - n
      taken whole used m n e = omega arith

pub front_true : (a b : Bool) → (a && b) ≡ true → a ≡ true
front_true true b e = refl
front_true false b e = absurd cc

pub back_true : (a b : Bool) → (a && not b) ≡ true → b ≡ false
back_true true true e = absurd cc
back_true true false e = refl
back_true false b e = absurd cc

pub spent_live : (s : Set) (k n : ℕ) (stream : Stream) → at k s ≡ Some stream → spent k n s ≡ record s { live = replaced k (record stream { room = stream.room - n }) s.live; send = s.send - n }
spent_live s k n stream e = ap (spent_at k n s) e

some_when : (b : Bool) (stream : Stream) → b ≡ true → (if b then Some stream else None) ≡ Some stream
some_when true stream e = refl
some_when false stream e = absurd cc

pub room_when : (s : Set) (stream : Stream) (n : ℕ) → stream.is_closed_local ≡ false → n ≤ room_of s (Some stream) → n ≤ min (s.initial + stream.room - 2147483648) s.send
room_when s stream n e h = by stream.is_closed_local e h
  where
    by : (b : Bool) → b ≡ false → n ≤ (if b then 0 else min (s.initial + stream.room - 2147483648) s.send) → n ≤ min (s.initial + stream.room - 2147483648) s.send
    by true e h = absurd cc
    by false e h = h

pub found_live : (s : Set) (x : List Step) (k : ℕ) → StandsFor s x → is_open s.role x k ≡ true → at k s ≡ Some (stream_at s.limits x k)
found_live s x k h open-here = at_is s x h k ∙ some_when (is_live s.role x k) (stream_at s.limits x k) (front_true (is_live s.role x k) (not (is_ended_by (sent x) k)) open-here)

pub sends : (s : Set) (x : List Step) (k n : ℕ) (b : FrameBody) → StandsFor s x → is_open s.role x k ≡ true → b.stream ≡ k → length b.payload ≡ n → has_end_stream (Content b) ≡ false → n ≤ room_of s (at k s) →
    StandsFor (spent k n s) (x ++ Sent (Content b) ∷ [])
sends s x k n b h open-here on long no-end fits =
    subst (λ (t : Set). StandsFor t (x ++ Sent (Content b) ∷ [])) (sym (spent_live s k n (stream_at s.limits x k) found)) (
    record {
      live_is =
          ap (replaced k (record (stream_at s.limits x k) { room = (stream_at s.limits x k).room - n })) h.live_is
          ∙ ap (λ (t : Stream). replaced k t (map (stream_at s.limits x) (live s.role x))) (sym (less_room s.role s.limits x b k on no-end n long))
          ∙ sym (live_replaced s.role s.limits x b k on no-end);
      highest_is = h.highest_is ∙ sym (highest_same s.role x (Content b) refl);
      started_is = h.started_is ∙ ap (λ (fs : List Frame). not (length fs == 0)) (sym rs);
      block_is = h.block_is ∙ ap (λ (fs : List Frame). option_map (λ (c : Block). (c.stream, c.last)) (open_block fs)) (sym rs);
      initial_is = h.initial_is ∙ ap initial_window (sym rs);
      send_is = omega (arith, h.send_is, room, ap all_spent ss, window_sums_grow.spent_push (sent x) (Content b), ap (granted_on 0) rs, long);
      receive_is = omega (arith, h.receive_is, ap (granted_on 0) ss, window_sums_grow.granted_push 0 (sent x) (Content b), ap all_spent rs);
      initial_small = h.initial_small;
      covered = covered;
      within = λ id e. omega (arith, h.within id (was_live id e), ap (spent_on id) rs, ap (granted_on id) ss, window_sums_grow.granted_push id (sent x) (Content b));
      untouched = λ id lt e. record {
        as_new = other_same s.role s.limits x b k on id (λ f. omega (arith, lt, low, h.highest_is, f)) ∙ (h.untouched id lt e).as_new;
        no_reset = reset_sent x (Content b) id ∙ or_false (is_reset x id) false refl ∙ (h.untouched id lt e).no_reset;
        no_block = ap (λ (fs : List Frame). is_on id (open_block fs)) rs ∙ (h.untouched id lt e).no_block;
      };
    }
    )
  where
    rs : received (x ++ Sent (Content b) ∷ []) ≡ received x
    rs = received_sent x (Content b)

    ss : sent (x ++ Sent (Content b) ∷ []) ≡ sent x ++ Content b ∷ []
    ss = sent_push x (Content b)

    found : at k s ≡ Some (stream_at s.limits x k)
    found = found_live s x k h open-here

    alive : is_live s.role x k ≡ true
    alive = front_true (is_live s.role x k) (not (is_ended_by (sent x) k)) open-here

    low : k ≤ highest (of_client s.role x)
    low = begun_within s.role x k (front_true (is_begun s.role x k) (not (is_over x k)) alive)

    room : n ≤ min (s.initial + (2147483648 + granted_on k (received x) - spent_on k (sent x)) - 2147483648) s.send
    room = room_when s (stream_at s.limits x k) n (back_true (is_live s.role x k) (is_ended_by (sent x) k) open-here) (subst (λ (o : Option Stream). n ≤ room_of s o) found fits)

    more : (id : ℕ) → spent_on id (sent (x ++ Sent (Content b) ∷ [])) ≡ spent_on id (sent x) + (if b.stream == id then length b.payload else 0)
    more id = ap (spent_on id) ss ∙ window_sums_grow.spent_on_push id (sent x) (Content b)

    covered : (id : ℕ) → is_live s.role (x ++ Sent (Content b) ∷ []) id ≡ true → spent_on id (sent (x ++ Sent (Content b) ∷ [])) < 2147483648 + granted_on id (received (x ++ Sent (Content b) ∷ []))
    covered id e =
        by_number (λ id. is_live s.role (x ++ Sent (Content b) ∷ []) id ≡ true → spent_on id (sent (x ++ Sent (Content b) ∷ [])) < 2147483648 + granted_on id (received (x ++ Sent (Content b) ∷ []))) k id
        (λ f g. subst (λ (i : ℕ). spent_on i (sent (x ++ Sent (Content b) ∷ [])) < 2147483648 + granted_on i (received (x ++ Sent (Content b) ∷ []))) (sym f) (omega (arith, room, h.covered k alive, h.initial_small, more k, when_test (b.stream == k) (length b.payload) (spent_on k (sent x)) (ap (λ (m : ℕ). m == k) on ∙ self_eq k), long, ap (granted_on k) rs)))
        (λ f g. omega (arith, h.covered id (sym (live_other s.role s.limits x b k on id f) ∙ g), more id, if_test (b.stream == id) (length b.payload) (spent_on id (sent x)) (isnt_on k b.stream id on f), ap (granted_on id) rs)) e

    was_live : (id : ℕ) → is_live s.role (x ++ Sent (Content b) ∷ []) id ≡ true → is_live s.role x id ≡ true
    was_live id e =
        by_number (λ id. is_live s.role (x ++ Sent (Content b) ∷ []) id ≡ true → is_live s.role x id ≡ true) k id (λ f g. ap (is_live s.role x) f ∙ alive) (λ f g. sym (live_other s.role s.limits x b k on id f) ∙ g) e
