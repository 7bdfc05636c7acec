-- A set stands for its exchange behind an RST_STREAM that is sent on a stream that was begun.
use Rattle.std.proofs.Common.{◌≡◌, ℕ, ◌+◌, ◌<◌, ◌≤◌, Bool, true, false, not, ◌&&◌, ◌||◌, List, [], ◌∷◌, ◌++◌, map, refl, sym, ap, ◌∙◌, arith}
use Rattle.std.specs.Prelude.{filter, option_map, length, ◌==◌}
use Rattle.h2_frames.specs.declared.frame.Frame.{Frame}
use Rattle.h2_frames.specs.declared.frame.Frame.TheVariants.{RstStream}
use Rattle.h2_frames.specs.declared.frame.FrameBody.{FrameBody}
use Rattle.h2_exchange.specs.declared.limits.H2Limits.{H2Limits}
use Rattle.h2_exchange.specs.declared.role.Role.{Role}
use Rattle.h2_exchange.specs.Blocks.{Block, open_block}
use Rattle.h2_exchange.specs.Exchange.{Step, Sent, received, sent}
use Rattle.h2_exchange.specs.Streams.{of_client, highest, begun, is_begun, is_live, is_reset, is_ended_by, live}
use Rattle.h2_exchange.specs.Windows.{initial_window, granted_on, spent_on, spent}
use Rattle.h2_exchange.proofs.Steps.{received_sent, sent_push, window_sums_grow, begun_within}
use Rattle.h2_streams.specs.Live.{without}
use Rattle.h2_streams.specs.Set.{Set, dropped}
use Rattle.h2_streams.specs.Stands.{stream_at, StandsFor, is_on}
use Rattle.h2_streams.proofs.Lists.{without_is, self_eq, by_number}
use Rattle.h2_streams.proofs.SentFrames.{reset_is_no_block, or_false, plus_if_zero, nothing_new, begun_same, highest_same, stream_sent, reset_sent, live_by, dead_by_reset, isnt_on}

module _ (role : Role) (limits : H2Limits) (x : List Step) (b : FrameBody) where
  abbrev pub after : List Step
  after = x ++ Sent (RstStream b) ∷ []

  pub same_stream : (id : ℕ) → stream_at limits after id ≡ stream_at limits x id
  same_stream id =
      stream_sent limits x (RstStream b) id (is_ended_by (sent x) id) (spent_on id (sent x)) (granted_on id (sent x)) (reset_is_no_block (open_block (sent x)) b)
      (or_false (is_ended_by (sent x) id) false refl) (plus_if_zero (spent_on id (sent x)) (b.stream == id)) (omega arith)

  here_same : (id : ℕ) → is_ended_by (sent after) id ≡ is_ended_by (sent x) id
  here_same id = ap (λ (s : Rattle.h2_streams.specs.declared.live.Stream.Stream). s.is_closed_local) (same_stream id)

  there_same : (id : ℕ) → is_ended_by (received after) id ≡ is_ended_by (received x) id
  there_same id = ap (λ (s : Rattle.h2_streams.specs.declared.live.Stream.Stream). s.is_closed_remote) (same_stream id)

  pub live_same : (k id : ℕ) → b.stream ≡ k → (id ≡ k → ⊥) → is_live role after id ≡ is_live role x id
  live_same k id e f =
      live_by role x after id (is_begun role x id) (is_reset x id) (is_ended_by (received x) id) (is_ended_by (sent x) id) (begun_same role x (RstStream b) id refl)
      (reset_sent x (RstStream b) id ∙ or_false (is_reset x id) (b.stream == id) (isnt_on k b.stream id e f)) (there_same id) (here_same id)

  pub now_dead : (k : ℕ) → b.stream ≡ k → is_live role after k ≡ false
  now_dead k e =
      live_by role x after k (is_begun role x k) (is_reset x k || true) (is_ended_by (received x) k) (is_ended_by (sent x) k) (begun_same role x (RstStream b) k refl)
      (reset_sent x (RstStream b) k ∙ ap (λ (t : Bool). is_reset x k || t) (ap (λ (n : ℕ). n == k) e ∙ self_eq k)) (there_same k) (here_same k)
      ∙ dead_by_reset (is_begun role x k) (is_reset x k) (is_ended_by (received x) k && is_ended_by (sent x) k)

  live_list : (k : ℕ) → b.stream ≡ k → map (stream_at limits after) (live role after) ≡ without k (map (stream_at limits x) (live role x))
  live_list k e =
      ap (λ (ids : List ℕ). map (stream_at limits after) (filter (is_live role after) ids)) (nothing_new role x (RstStream b) refl)
      ∙ without_is (is_live role x) (is_live role after) (stream_at limits x) (stream_at limits after) (λ id. refl) k (λ id f. (live_same k id e f, same_stream id)) (now_dead k e) (begun role x)

clash : (t : Bool) → t ≡ true → t ≡ false → ⊥
clash t e f = cc

pub resets : (s : Set) (x : List Step) (k : ℕ) (b : FrameBody) → StandsFor s x → is_begun s.role x k ≡ true → b.stream ≡ k → StandsFor (dropped k s) (x ++ Sent (RstStream b) ∷ [])
resets s x k b h old on =
    let rs = received_sent x (RstStream b) in
    let ss = sent_push x (RstStream b) in
    let low : k ≤ highest (of_client s.role x) = begun_within s.role x k old in
    record {
      live_is = ap (without k) h.live_is ∙ sym (live_list s.role s.limits x b k on);
      highest_is = h.highest_is ∙ sym (highest_same s.role x (RstStream b) refl);
      started_is = h.started_is ∙ ap (λ (fs : List Frame). not (length fs == 0)) (sym rs);
      block_is = h.block_is ∙ ap (λ (fs : List Frame). option_map (λ (c : Block). (c.stream, c.last)) (open_block fs)) (sym rs);
      initial_is = h.initial_is ∙ ap initial_window (sym rs);
      send_is = omega (arith, h.send_is, ap spent ss, window_sums_grow.spent_push (sent x) (RstStream b), ap (granted_on 0) rs);
      receive_is = omega (arith, h.receive_is, ap (granted_on 0) ss, window_sums_grow.granted_push 0 (sent x) (RstStream b), ap spent rs);
      initial_small = h.initial_small;
      covered = λ id e. covered id e;
      within = λ id e. omega (
        arith,
        h.within id (was_live id e),
        ap (spent_on id) rs,
        ap (granted_on id) ss,
        window_sums_grow.granted_push id (sent x) (RstStream b),
      );
      untouched = λ id lt e. record {
        as_new = same_stream s.role s.limits x b id ∙ (h.untouched id lt e).as_new;
        no_reset = reset_sent x (RstStream b) id ∙ or_false (is_reset x id) (b.stream == id) (isnt_on k b.stream id on (λ f. omega (arith, lt, low, h.highest_is, f))) ∙ (h.untouched id lt e).no_reset;
        no_block = ap (λ (fs : List Frame). is_on id (open_block fs)) rs ∙ (h.untouched id lt e).no_block;
      };
    }
  where
    covered : (id : ℕ) → is_live s.role (x ++ Sent (RstStream b) ∷ []) id ≡ true → spent_on id (sent (x ++ Sent (RstStream b) ∷ [])) < 2147483648 + granted_on id (received (x ++ Sent (RstStream b) ∷ []))
    covered id e =
        by_number (λ id. is_live s.role (x ++ Sent (RstStream b) ∷ []) id ≡ true → spent_on id (sent (x ++ Sent (RstStream b) ∷ [])) < 2147483648 + granted_on id (received (x ++ Sent (RstStream b) ∷ []))) k id
        (λ f g. absurd (clash (is_live s.role (x ++ Sent (RstStream b) ∷ []) id) g (ap (is_live s.role (x ++ Sent (RstStream b) ∷ [])) f ∙ now_dead s.role s.limits x b k on)))
        (λ f g. omega (
          arith,
          h.covered id (sym (live_same s.role s.limits x b k id on f) ∙ g),
          ap (spent_on id) (sent_push x (RstStream b)),
          window_sums_grow.spent_on_push id (sent x) (RstStream b),
          plus_if_zero (spent_on id (sent x)) (b.stream == id),
          ap (granted_on id) (received_sent x (RstStream b)),
        )) e

    was_live : (id : ℕ) → is_live s.role (x ++ Sent (RstStream b) ∷ []) id ≡ true → is_live s.role x id ≡ true
    was_live id e =
        by_number (λ id. is_live s.role (x ++ Sent (RstStream b) ∷ []) id ≡ true → is_live s.role x id ≡ true) k id
        (λ f g. absurd (clash (is_live s.role (x ++ Sent (RstStream b) ∷ []) id) g (ap (is_live s.role (x ++ Sent (RstStream b) ∷ [])) f ∙ now_dead s.role s.limits x b k on)))
        (λ f g. sym (live_same s.role s.limits x b k id on f) ∙ g) e
