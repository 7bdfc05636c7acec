-- A set stands for its exchange behind a WINDOW_UPDATE that is sent.
use Rattle.std.proofs.Common.{◌≡◌, ℕ, ◌+◌, ◌-◌, ◌≤◌, Bool, true, false, not, ◌&&◌, ◌||◌, List, [], ◌∷◌, ◌++◌, map, Option, Some, None, refl, sym, ap, ◌∙◌, arith, subst}
use Rattle.std.specs.Prelude.{filter, nat_lt, option_map, length, ◌==◌, if◌then◌else◌}
use Rattle.std.specs.List.{list_any}
use Rattle.h2_frames.specs.declared.frame.Frame.{Frame}
use Rattle.h2_frames.specs.declared.frame.Frame.TheVariants.{WindowUpdate}
use Rattle.h2_frames.specs.declared.frame.FrameBody.{FrameBody}
use Rattle.h2_exchange.specs.declared.limits.H2Limits.{H2Limits}
use Rattle.h2_exchange.specs.declared.role.Role.{Role}
use Rattle.h2_exchange.specs.Blocks.{Block, block_with, open_block}
use Rattle.h2_exchange.specs.declared.role.Role.TheVariants.{Client, Server}
use Rattle.h2_exchange.specs.Exchange.{Step, Received, Sent, received, sent, some_step}
use Rattle.h2_exchange.specs.Frames.{stream_of, is_headers, increment_of}
use Rattle.h2_exchange.specs.Streams.{of_client, highest, is_odd, begins, begun, is_begun, is_live, is_over, is_reset, is_ended_by, has_head, live}
use Rattle.h2_exchange.specs.Windows.{initial_window, granted_on, spent_on, spent}
use Rattle.h2_exchange.proofs.Steps.{received_sent, sent_push, window_sums_grow, begun_once, begun_within, begun_has}
use Rattle.h2_streams.specs.declared.live.Stream.{Stream}
use Rattle.h2_streams.specs.Live.{replaced}
use Rattle.h2_streams.specs.Set.{Set, at, credited, credited_at, credited_on}
use Rattle.h2_streams.specs.Stands.{stream_at, StandsFor, is_on}
use Rattle.h2_streams.proofs.Lists.{replaced_is, untouched_is, eqb_is, self_eq, by_number}
use Rattle.h2_streams.proofs.SentFrames.{made, or_false, plus_if_zero, nothing_new, begun_same, highest_same, stream_sent, reset_sent, live_by, isnt_on}
use Rattle.h2_streams.proofs.Sends.{if_test, when_test, front_true}
use Rattle.h2_streams.proofs.Standing.{at_is}

no_block : (o : Option Block) (b : FrameBody) → block_with o (WindowUpdate b) ≡ None
no_block None b = refl
no_block (Some block) b = refl

module _ (role : Role) (limits : H2Limits) (x : List Step) (b : FrameBody) (k : ℕ) (on : b.stream ≡ k) where
  abbrev pub after : List Step
  after = x ++ Sent (WindowUpdate b) ∷ []

  pub other_same : (id : ℕ) → (id ≡ k → ⊥) → stream_at limits after id ≡ stream_at limits x id
  other_same id f =
      stream_sent limits x (WindowUpdate b) id (is_ended_by (sent x) id) (spent_on id (sent x)) (granted_on id (sent x)) (no_block (open_block (sent x)) b) (or_false (is_ended_by (sent x) id) false refl)
      (plus_if_zero (spent_on id (sent x)) (b.stream == id)) (if_test (b.stream == id) (increment_of (WindowUpdate b)) (granted_on id (sent x)) (isnt_on k b.stream id on f))

  pub this_changed : stream_at limits after k ≡ made limits (received x) k (is_ended_by (sent x) k) (spent_on k (sent x)) (granted_on k (sent x) + increment_of (WindowUpdate b))
  this_changed =
      stream_sent limits x (WindowUpdate b) k (is_ended_by (sent x) k) (spent_on k (sent x)) (granted_on k (sent x) + increment_of (WindowUpdate b)) (no_block (open_block (sent x)) b) (or_false (is_ended_by (sent x) k) false refl)
      (plus_if_zero (spent_on k (sent x)) (b.stream == k)) (when_test (b.stream == k) (increment_of (WindowUpdate b)) (granted_on k (sent x)) (ap (λ (n : ℕ). n == k) on ∙ self_eq k))

  pub no_reset : (id : ℕ) → is_reset after id ≡ is_reset x id
  no_reset id = reset_sent x (WindowUpdate b) id ∙ or_false (is_reset x id) false refl

  here : (id : ℕ) → is_ended_by (sent after) id ≡ is_ended_by (sent x) id
  here id = by_number (λ id. is_ended_by (sent after) id ≡ is_ended_by (sent x) id) k id (λ f. ap (is_ended_by (sent after)) f ∙ ap (λ (s : Stream). s.is_closed_local) this_changed ∙ ap (is_ended_by (sent x)) (sym f)) (λ f. ap (λ (s : Stream). s.is_closed_local) (other_same id f))

  pub live_same : (id : ℕ) → is_live role after id ≡ is_live role x id
  live_same id =
      live_by role x after id (is_begun role x id) (is_reset x id) (is_ended_by (received x) id) (is_ended_by (sent x) id) (begun_same role x (WindowUpdate b) id refl) (no_reset id) (ap (λ (fs : List Frame). is_ended_by fs id) (received_sent x (WindowUpdate b))) (here id)

  pub live_replaced : map (stream_at limits after) (live role after) ≡ replaced k (stream_at limits after k) (map (stream_at limits x) (live role x))
  live_replaced =
      ap (λ (ids : List ℕ). map (stream_at limits after) (filter (is_live role after) ids)) (nothing_new role x (WindowUpdate b) refl)
      ∙ replaced_is (is_live role x) (is_live role after) (stream_at limits x) (stream_at limits after) (λ id. refl) k (λ id f. (live_same id, other_same id f)) (live_same k) (begun role x) (begun_once role x k)

  -- the stream with what was granted
  pub more_room : (n : ℕ) → increment_of (WindowUpdate b) ≡ n → spent_on k (received x) ≤ limits.window + granted_on k (sent x) → stream_at limits after k ≡ record (stream_at limits x k) { receive = (stream_at limits x k).receive + n }
  more_room n e le = this_changed ∙ ap roomy (granted limits.window (granted_on k (sent x)) (spent_on k (received x)) (increment_of (WindowUpdate b)) n e le)
    where
      roomy : ℕ → Stream
      roomy r = record { id = k; is_closed_local = is_ended_by (sent x) k; is_closed_remote = is_ended_by (received x) k; has_head = has_head (received x) k; room = 2147483648 + granted_on k (received x) - spent_on k (sent x); receive = r }

      granted : (w g u m n : ℕ) → m ≡ n → u ≤ w + g → w + (g + m) - u ≡ w + g - u + n
      granted w g u m n e le = omega arith

-- ---- a stream has no id of 0

odd_of : (h o lt : Bool) (n id : ℕ) → is_odd n ≡ o → ((h && o && lt && n == id) || false) ≡ true → is_odd id ≡ true
odd_of true true true n id p e = ap is_odd (sym (eqb_is n id (sym (or_false (n == id) false refl) ∙ e))) ∙ p
odd_of true true false n id p e = absurd cc
odd_of true false lt n id p e = absurd cc
odd_of false o lt n id p e = absurd cc

begins_odd : (role : Role) (past : List Step) (s : Step) (id : ℕ) → begins role id past s ≡ true → is_odd id ≡ true
begins_odd Server past (Received f) id e = odd_of (is_headers f) (is_odd (stream_of f)) (nat_lt (highest (received past)) (stream_of f)) (stream_of f) id refl e
begins_odd Server past (Sent f) id e = absurd cc
begins_odd Client past (Received f) id e = absurd cc
begins_odd Client past (Sent f) id e = odd_of (is_headers f) (is_odd (stream_of f)) (nat_lt (highest (sent past)) (stream_of f)) (stream_of f) id refl e

or_either : (P : Type 0) (a b : Bool) → (a ≡ true → P) → (b ≡ true → P) → (a || b) ≡ true → P
or_either P true b p q e = p refl
or_either P false b p q e = q e

begun_odd : (role : Role) (past x : List Step) (id : ℕ) → some_step (begins role id) past x ≡ true → is_odd id ≡ true
begun_odd role past [] id e = absurd cc
begun_odd role past (s ∷ x) id e = or_either (is_odd id ≡ true) (begins role id past s) (some_step (begins role id) (past ++ s ∷ []) x) (begins_odd role past s id) (begun_odd role (past ++ s ∷ []) x id) e

pub odd_not_zero : (id : ℕ) → is_odd id ≡ true → id ≡ 0 → ⊥
odd_not_zero id o e = zero_clash (sym (ap is_odd e) ∙ o)
  where
    zero_clash : is_odd 0 ≡ true → ⊥
    zero_clash z = cc

begun_not_zero : (role : Role) (x : List Step) (id : ℕ) → is_begun role x id ≡ true → id ≡ 0 → ⊥
begun_not_zero role x id b e = odd_not_zero id (begun_odd role [] x id b) e

no_zero : (role : Role) (x : List Step) → list_any (λ id. id == 0) (begun role x) ≡ false
no_zero role x = begun_has role x 0 ∙ is_false (is_begun role x 0) (λ e. begun_not_zero role x 0 e refl)
  where
    is_false : (t : Bool) → (t ≡ true → ⊥) → t ≡ false
    is_false true f = absurd (f refl)
    is_false false f = refl

some_when : (b : Bool) (stream : Stream) → b ≡ true → (if b then Some stream else None) ≡ Some stream
some_when true stream e = refl
some_when false stream e = absurd cc

pub credits_stream : (s : Set) (x : List Step) (k n : ℕ) (b : FrameBody) → StandsFor s x → is_live s.role x k ≡ true → b.stream ≡ k → increment_of (WindowUpdate b) ≡ n → StandsFor (credited_on k n s) (x ++ Sent (WindowUpdate b) ∷ [])
credits_stream s x k n b h alive on inc =
    subst (λ (t : Set). StandsFor t after_all) (sym (ap (credited_at k n s) found)) (
    record {
      live_is =
          ap (replaced k (record (stream_at s.limits x k) { receive = (stream_at s.limits x k).receive + n })) h.live_is
          ∙ ap (λ (t : Stream). replaced k t (map (stream_at s.limits x) (live s.role x))) (sym (more_room s.role s.limits x b k on n inc (h.within k alive)))
          ∙ sym (live_replaced s.role s.limits x b k on);
      highest_is = h.highest_is ∙ sym (highest_same s.role x (WindowUpdate b) refl);
      started_is = h.started_is ∙ ap (λ (fs : List Frame). not (length fs == 0)) (sym rs);
      block_is = h.block_is ∙ ap (λ (fs : List Frame). option_map (λ (c : Block). (c.stream, c.last)) (open_block fs)) (sym rs);
      initial_is = h.initial_is ∙ ap initial_window (sym rs);
      send_is = omega (arith, h.send_is, ap spent ss, window_sums_grow.spent_push (sent x) (WindowUpdate b), ap (granted_on 0) rs);
      receive_is = omega (arith, h.receive_is, ap (granted_on 0) ss, window_sums_grow.granted_push 0 (sent x) (WindowUpdate b), if_test (b.stream == 0) (increment_of (WindowUpdate b)) (granted_on 0 (sent x)) (isnt_on k b.stream 0 on (λ f. not_zero f)), ap spent rs);
      initial_small = h.initial_small;
      covered = λ id e. omega (arith, h.covered id (sym (live_same s.role s.limits x b k on id) ∙ e), ap (spent_on id) ss, window_sums_grow.spent_on_push id (sent x) (WindowUpdate b), plus_if_zero (spent_on id (sent x)) (b.stream == id), ap (granted_on id) rs);
      within = λ id e. omega (arith, h.within id (sym (live_same s.role s.limits x b k on id) ∙ e), ap (spent_on id) rs, ap (granted_on id) ss, window_sums_grow.granted_push id (sent x) (WindowUpdate b));
      untouched = λ id lt e. record {
        as_new = other_same s.role s.limits x b k on id (λ f. omega (arith, lt, low, h.highest_is, f)) ∙ (h.untouched id lt e).as_new;
        no_reset = no_reset s.role s.limits x b k on id ∙ (h.untouched id lt e).no_reset;
        no_block = ap (λ (fs : List Frame). is_on id (open_block fs)) rs ∙ (h.untouched id lt e).no_block;
      };
    }
    )
  where
    after_all : List Step
    after_all = x ++ Sent (WindowUpdate b) ∷ []

    rs : received after_all ≡ received x
    rs = received_sent x (WindowUpdate b)

    ss : sent after_all ≡ sent x ++ WindowUpdate b ∷ []
    ss = sent_push x (WindowUpdate b)

    found : at k s ≡ Some (stream_at s.limits x k)
    found = at_is s x h k ∙ some_when (is_live s.role x k) (stream_at s.limits x k) alive

    low : k ≤ highest (of_client s.role x)
    low = begun_within s.role x k (front_true (is_begun s.role x k) (not (is_over x k)) alive)

    not_zero : (0 ≡ k) → ⊥
    not_zero e = begun_not_zero s.role x k (front_true (is_begun s.role x k) (not (is_over x k)) alive) (sym e)

pub credits_all : (s : Set) (x : List Step) (n : ℕ) (b : FrameBody) → StandsFor s x → b.stream ≡ 0 → increment_of (WindowUpdate b) ≡ n → StandsFor (credited n s) (x ++ Sent (WindowUpdate b) ∷ [])
credits_all s x n b h on inc =
    record {
      live_is =
          h.live_is
          ∙ sym (
          ap (λ (ids : List ℕ). map (stream_at s.limits after_all) (filter (is_live s.role after_all) ids)) (nothing_new s.role x (WindowUpdate b) refl)
          ∙ untouched_is (is_live s.role x) (is_live s.role after_all) (stream_at s.limits x) (stream_at s.limits after_all) (λ id. refl) 0 (λ id f. (live_same s.role s.limits x b 0 on id, other_same s.role s.limits x b 0 on id f)) (begun s.role x) (no_zero s.role x)
          );
      highest_is = h.highest_is ∙ sym (highest_same s.role x (WindowUpdate b) refl);
      started_is = h.started_is ∙ ap (λ (fs : List Frame). not (length fs == 0)) (sym rs);
      block_is = h.block_is ∙ ap (λ (fs : List Frame). option_map (λ (c : Block). (c.stream, c.last)) (open_block fs)) (sym rs);
      initial_is = h.initial_is ∙ ap initial_window (sym rs);
      send_is = omega (arith, h.send_is, ap spent ss, window_sums_grow.spent_push (sent x) (WindowUpdate b), ap (granted_on 0) rs);
      receive_is = omega (arith, h.receive_is, inc, ap (granted_on 0) ss, window_sums_grow.granted_push 0 (sent x) (WindowUpdate b), when_test (b.stream == 0) (increment_of (WindowUpdate b)) (granted_on 0 (sent x)) (ap (λ (m : ℕ). m == 0) on), ap spent rs);
      initial_small = h.initial_small;
      covered = λ id e. omega (arith, h.covered id (sym (live_same s.role s.limits x b 0 on id) ∙ e), ap (spent_on id) ss, window_sums_grow.spent_on_push id (sent x) (WindowUpdate b), plus_if_zero (spent_on id (sent x)) (b.stream == id), ap (granted_on id) rs);
      within = λ id e. omega (arith, h.within id (sym (live_same s.role s.limits x b 0 on id) ∙ e), ap (spent_on id) rs, ap (granted_on id) ss, window_sums_grow.granted_push id (sent x) (WindowUpdate b));
      untouched = λ id lt e. record {
        as_new = other_same s.role s.limits x b 0 on id (odd_not_zero id e) ∙ (h.untouched id lt e).as_new;
        no_reset = no_reset s.role s.limits x b 0 on id ∙ (h.untouched id lt e).no_reset;
        no_block = ap (λ (fs : List Frame). is_on id (open_block fs)) rs ∙ (h.untouched id lt e).no_block;
      };
    }
  where
    after_all : List Step
    after_all = x ++ Sent (WindowUpdate b) ∷ []

    rs : received after_all ≡ received x
    rs = received_sent x (WindowUpdate b)

    ss : sent after_all ≡ sent x ++ WindowUpdate b ∷ []
    ss = sent_push x (WindowUpdate b)
