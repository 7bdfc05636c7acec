-- A set stands for its exchange behind DATA that ends its side of an open stream.
use Rattle.std.proofs.Common.{◌≡◌, ℕ, ◌+◌, ◌-◌, ◌<◌, ◌≤◌, min, Bool, true, false, not, ◌&&◌, ◌||◌, List, [], ◌∷◌, ◌++◌, map, Option, Some, refl, sym, ap, ◌∙◌, arith, subst}
use Rattle.std.specs.Prelude.{filter, find, option_map, length, ◌==◌, if◌then◌else◌}
use Rattle.h2_frames.specs.declared.frame.Frame.{Frame}
use Rattle.h2_frames.specs.declared.frame.Frame.TheVariants.{Content}
use Rattle.h2_frames.specs.declared.frame.FrameBody.{FrameBody}
use Rattle.h2_exchange.specs.Blocks.{Block, open_block}
use Rattle.h2_exchange.specs.Exchange.{Step, Sent, received, sent}
use Rattle.h2_exchange.specs.Frames.{has_end_stream}
use Rattle.h2_exchange.specs.Streams.{of_client, highest, begun, is_begun, is_live, is_open, is_over, is_reset, is_ended_by, has_head, live}
use Rattle.h2_exchange.specs.Windows.{initial_window, granted_on, spent_on, spent as all_spent}
use Rattle.h2_exchange.proofs.Steps.{received_sent, sent_push, window_sums_grow, begun_once, begun_within}
use Rattle.h2_streams.specs.declared.live.Stream.{Stream}
use Rattle.h2_streams.specs.Live.{is_stream, replaced, without}
use Rattle.h2_streams.specs.Set.{Set, at, dropped, closed_local, finished, spent, room_of}
use Rattle.h2_streams.specs.Stands.{stream_at, StandsFor, is_on}
use Rattle.h2_streams.proofs.Lists.{replaced_is, without_is, self_eq, by_number}
use Rattle.h2_streams.proofs.SentFrames.{or_false, nothing_new, highest_same, reset_sent, isnt_on}
use Rattle.h2_streams.proofs.Sends.{if_test, when_test, front_true, back_true, room_when, spent_live, found_live, other_same, this_changed, live_other, live_this}

-- ---- a stream that was replaced

pub found_again : (k : ℕ) (new old : Stream) (xs : List Stream) → is_stream k new ≡ true → find (is_stream k) xs ≡ Some old → find (is_stream k) (replaced k new xs) ≡ Some new
found_again k new old [] e f = absurd cc
found_again k new old (s ∷ xs) e f = by (is_stream k s) (find (is_stream k) xs) refl (λ g. found_again k new old xs e g) refl f
  where
    by : (b : Bool) (later : Option Stream) → is_stream k s ≡ b → (find (is_stream k) xs ≡ Some old → find (is_stream k) (replaced k new xs) ≡ Some new) → find (is_stream k) xs ≡ later → (if b then Some s else later) ≡ Some old →
        find (is_stream k) (if is_stream k s then new ∷ xs else s ∷ replaced k new xs) ≡ Some new
    by true later t r l f = ap (λ (z : Bool). find (is_stream k) (if z then new ∷ xs else s ∷ replaced k new xs)) t ∙ ap (λ (z : Bool). if z then Some new else find (is_stream k) xs) e
    by false later t r l f = ap (λ (z : Bool). find (is_stream k) (if z then new ∷ xs else s ∷ replaced k new xs)) t ∙ ap (λ (z : Bool). if z then Some s else find (is_stream k) (replaced k new xs)) t ∙ r (l ∙ f)

replaced_again : (k : ℕ) (next new : Stream) (xs : List Stream) → is_stream k new ≡ true → replaced k next (replaced k new xs) ≡ replaced k next xs
replaced_again k next new [] e = refl
replaced_again k next new (s ∷ xs) e = by (is_stream k s) refl (replaced_again k next new xs e)
  where
    by : (b : Bool) → is_stream k s ≡ b → replaced k next (replaced k new xs) ≡ replaced k next xs → replaced k next (if is_stream k s then new ∷ xs else s ∷ replaced k new xs) ≡ (if is_stream k s then next ∷ xs else s ∷ replaced k next xs)
    by true t r =
        ap (λ (z : Bool). replaced k next (if z then new ∷ xs else s ∷ replaced k new xs)) t ∙ ap (λ (z : Bool). if z then next ∷ xs else new ∷ replaced k next xs) e
        ∙ sym (ap (λ (z : Bool). if z then next ∷ xs else s ∷ replaced k next xs) t)
    by false t r =
        ap (λ (z : Bool). replaced k next (if z then new ∷ xs else s ∷ replaced k new xs)) t ∙ ap (λ (z : Bool). if z then next ∷ replaced k new xs else s ∷ replaced k next (replaced k new xs)) t
        ∙ ap (λ (l : List Stream). s ∷ l) r ∙ sym (ap (λ (z : Bool). if z then next ∷ xs else s ∷ replaced k next xs) t)

left_out_again : (k : ℕ) (new : Stream) (xs : List Stream) → is_stream k new ≡ true → without k (replaced k new xs) ≡ without k xs
left_out_again k new [] e = refl
left_out_again k new (s ∷ xs) e = by (is_stream k s) refl (left_out_again k new xs e)
  where
    by : (b : Bool) → is_stream k s ≡ b → without k (replaced k new xs) ≡ without k xs → without k (if is_stream k s then new ∷ xs else s ∷ replaced k new xs) ≡ (if not (is_stream k s) then s ∷ without k xs else without k xs)
    by true t r =
        ap (λ (z : Bool). without k (if z then new ∷ xs else s ∷ replaced k new xs)) t ∙ ap (λ (z : Bool). if not z then new ∷ without k xs else without k xs) e
        ∙ sym (ap (λ (z : Bool). if not z then s ∷ without k xs else without k xs) t)
    by false t r =
        ap (λ (z : Bool). without k (if z then new ∷ xs else s ∷ replaced k new xs)) t ∙ ap (λ (z : Bool). if not z then s ∷ without k (replaced k new xs) else without k (replaced k new xs)) t
        ∙ ap (λ (l : List Stream). s ∷ l) r ∙ sym (ap (λ (z : Bool). if not z then s ∷ without k xs else without k xs) t)

-- ---- the end of a side

dead_when : (b r h : Bool) → (b && not (r || true && (h || true))) ≡ false
dead_when true true h = refl
dead_when true false true = refl
dead_when true false false = refl
dead_when false r h = refl

pub or_true : (a d : Bool) → d ≡ true → (a || d) ≡ true
or_true true d e = refl
or_true false d e = e

alive_when : (b r h g : Bool) → (b && not (r || false && h)) ≡ (b && not (r || false && g))
alive_when b r h g = refl

pub ends_with_data : (s : Set) (x : List Step) (k : ℕ) (b : FrameBody) → StandsFor s x → is_open s.role x k ≡ true → b.stream ≡ k → length b.payload ≤ room_of s (at k s) → has_end_stream (Content b) ≡ true →
    StandsFor (finished k (spent k (length b.payload) s)) (x ++ Sent (Content b) ∷ [])
ends_with_data s x k b h open-here on fits end = by (is_ended_by (received x) k) refl
  where
    n : ℕ
    n = length b.payload

    after : List Step
    after = x ++ Sent (Content b) ∷ []

    old : Stream
    old = stream_at s.limits x k

    less : Stream
    less = record old { room = old.room - n }

    rs : received after ≡ received x
    rs = received_sent x (Content b)

    ss : sent after ≡ sent x ++ Content b ∷ []
    ss = sent_push x (Content b)

    found : at k s ≡ Some old
    found = found_live s x k h open-here

    is_k : is_stream k less ≡ true
    is_k = self_eq k

    ended : Stream
    ended = record less { is_closed_local = true }

    left : List Stream → Set
    left list = record s { live = list; send = s.send - n }

    again : at k (left (replaced k less s.live)) ≡ Some less
    again = found_again k less old s.live is_k found

    choice : (t : Bool) → less.is_closed_remote ≡ t → closed_local k (left (replaced k less s.live)) (Some less) ≡ left (if t then without k (replaced k less s.live) else replaced k ended (replaced k less s.live))
    choice true e = ap (λ (z : Bool). if z then dropped k (left (replaced k less s.live)) else left (replaced k ended (replaced k less s.live))) e
    choice false e = ap (λ (z : Bool). if z then dropped k (left (replaced k less s.live)) else left (replaced k ended (replaced k less s.live))) e

    finished_is : (t : Bool) → is_ended_by (received x) k ≡ t → finished k (spent k n s) ≡ left (if t then without k (replaced k less s.live) else replaced k ended (replaced k less s.live))
    finished_is t e = ap (finished k) (spent_live s k n old found) ∙ ap (closed_local k (left (replaced k less s.live))) again ∙ choice t e

    alive : is_live s.role x k ≡ true
    alive = front_true (is_live s.role x k) (not (is_ended_by (sent x) k)) open-here

    low : k ≤ highest (of_client s.role x)
    low = begun_within s.role x k (front_true (is_begun s.role x k) (not (is_over x k)) alive)

    room : n ≤ min (s.initial + (2147483648 + granted_on k (received x) - spent_on k (sent x)) - 2147483648) s.send
    room = room_when s old n (back_true (is_live s.role x k) (is_ended_by (sent x) k) open-here) (subst (λ (o : Option Stream). n ≤ room_of s o) found fits)

    more : (id : ℕ) → spent_on id (sent after) ≡ spent_on id (sent x) + (if b.stream == id then length b.payload else 0)
    more id = ap (spent_on id) ss ∙ window_sums_grow.spent_on_push id (sent x) (Content b)

    covered : (id : ℕ) → is_live s.role after id ≡ true → spent_on id (sent after) < 2147483648 + granted_on id (received after)
    covered id e =
        by_number (λ id. is_live s.role after id ≡ true → spent_on id (sent after) < 2147483648 + granted_on id (received after)) k id
        (λ f g. subst (λ (i : ℕ). spent_on i (sent after) < 2147483648 + granted_on i (received after)) (sym f) (omega (arith, room, h.covered k alive, h.initial_small, more k, when_test (b.stream == k) (length b.payload) (spent_on k (sent x)) (ap (λ (m : ℕ). m == k) on ∙ self_eq k), ap (granted_on k) rs)))
        (λ f g. omega (arith, h.covered id (sym (live_other s.role s.limits x b k on id f) ∙ g), more id, if_test (b.stream == id) (length b.payload) (spent_on id (sent x)) (isnt_on k b.stream id on f), ap (granted_on id) rs)) e

    was_live : (id : ℕ) → is_live s.role after id ≡ true → is_live s.role x id ≡ true
    was_live id e =
        by_number (λ id. is_live s.role after id ≡ true → is_live s.role x id ≡ true) k id (λ f g. ap (is_live s.role x) f ∙ alive) (λ f g. sym (live_other s.role s.limits x b k on id f) ∙ g) e

    stands_by : (list : List Stream) → list ≡ map (stream_at s.limits after) (live s.role after) → StandsFor (left list) after
    stands_by list list_is = record {
      live_is = list_is;
      highest_is = h.highest_is ∙ sym (highest_same s.role x (Content b) refl);
      started_is = h.started_is ∙ ap (λ (fs : List Frame). not (length fs == 0)) (sym rs);
      block_is = h.block_is ∙ ap (λ (fs : List Frame). option_map (λ (c : Block). (c.stream, c.last)) (open_block fs)) (sym rs);
      initial_is = h.initial_is ∙ ap initial_window (sym rs);
      send_is = omega (arith, h.send_is, room, ap all_spent ss, window_sums_grow.spent_push (sent x) (Content b), ap (granted_on 0) rs);
      receive_is = omega (arith, h.receive_is, ap (granted_on 0) ss, window_sums_grow.granted_push 0 (sent x) (Content b), ap all_spent rs);
      initial_small = h.initial_small;
      covered = covered;
      within = λ id e. omega (arith, h.within id (was_live id e), ap (spent_on id) rs, ap (granted_on id) ss, window_sums_grow.granted_push id (sent x) (Content b));
      untouched = λ id lt e. record {
        as_new = other_same s.role s.limits x b k on id (λ f. omega (arith, lt, low, h.highest_is, f)) ∙ (h.untouched id lt e).as_new;
        no_reset = reset_sent x (Content b) id ∙ or_false (is_reset x id) false refl ∙ (h.untouched id lt e).no_reset;
        no_block = ap (λ (fs : List Frame). is_on id (open_block fs)) rs ∙ (h.untouched id lt e).no_block;
      };
    }

    begun_list : map (stream_at s.limits after) (live s.role after) ≡ map (stream_at s.limits after) (filter (is_live s.role after) (begun s.role x))
    begun_list = ap (λ (ids : List ℕ). map (stream_at s.limits after) (filter (is_live s.role after) ids)) (nothing_new s.role x (Content b) refl)

    -- the other side had ended it: the stream is over
    is_gone : is_ended_by (received x) k ≡ true → without k (replaced k less s.live) ≡ map (stream_at s.limits after) (live s.role after)
    is_gone e =
        left_out_again k less s.live is_k ∙ ap (without k) h.live_is
        ∙ sym (without_is (is_live s.role x) (is_live s.role after) (stream_at s.limits x) (stream_at s.limits after) (λ id. refl) k (λ id f. (live_other s.role s.limits x b k on id f, other_same s.role s.limits x b k on id f))
        (live_this s.role s.limits x b k on ∙ ap (λ (z : Bool). is_begun s.role x k && not (is_reset x k || z && (is_ended_by (sent x) k || has_end_stream (Content b)))) e ∙ ap (λ (z : Bool). is_begun s.role x k && not (is_reset x k || true && (is_ended_by (sent x) k || z))) end ∙ dead_when (is_begun s.role x k) (is_reset x k) (is_ended_by (sent x) k)) (begun s.role x))
        ∙ sym begun_list

    -- the stream is half closed
    still_live : is_ended_by (received x) k ≡ false → is_live s.role after k ≡ is_live s.role x k
    still_live e =
        live_this s.role s.limits x b k on
        ∙ ap (λ (z : Bool). is_begun s.role x k && not (is_reset x k || z && (is_ended_by (sent x) k || has_end_stream (Content b)))) e
        ∙ ap (λ (z : Bool). is_begun s.role x k && not (is_reset x k || z && is_ended_by (sent x) k)) (sym e)

    roomy : Bool → ℕ → Stream
    roomy e r = record { id = k; is_closed_local = e; is_closed_remote = is_ended_by (received x) k; has_head = has_head (received x) k; room = r; receive = s.limits.window + granted_on k (sent x) - spent_on k (received x) }

    taken : (whole used m : ℕ) → whole - (used + m) ≡ whole - used - m
    taken whole used m = omega arith

    ended_is : stream_at s.limits after k ≡ ended
    ended_is =
        this_changed s.role s.limits x b k on
        ∙ ap (λ (e : Bool). roomy e (2147483648 + granted_on k (received x) - (spent_on k (sent x) + n))) (or_true (is_ended_by (sent x) k) (has_end_stream (Content b)) end)
        ∙ ap (roomy true) (taken (2147483648 + granted_on k (received x)) (spent_on k (sent x)) n)

    is_half : is_ended_by (received x) k ≡ false → replaced k ended (replaced k less s.live) ≡ map (stream_at s.limits after) (live s.role after)
    is_half e =
        replaced_again k ended less s.live is_k ∙ ap (replaced k ended) h.live_is ∙ ap (λ (t : Stream). replaced k t (map (stream_at s.limits x) (live s.role x))) (sym ended_is)
        ∙ sym (replaced_is (is_live s.role x) (is_live s.role after) (stream_at s.limits x) (stream_at s.limits after) (λ id. refl) k (λ id f. (live_other s.role s.limits x b k on id f, other_same s.role s.limits x b k on id f)) (still_live e) (begun s.role x) (begun_once s.role x k))
        ∙ sym begun_list

    by : (t : Bool) → is_ended_by (received x) k ≡ t → StandsFor (finished k (spent k n s)) after
    by true e = subst (λ (t : Set). StandsFor t after) (sym (finished_is true e)) (stands_by (without k (replaced k less s.live)) (is_gone e))
    by false e = subst (λ (t : Set). StandsFor t after) (sym (finished_is false e)) (stands_by (replaced k ended (replaced k less s.live)) (is_half e))
