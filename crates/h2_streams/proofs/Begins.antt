-- A set stands for its exchange behind HEADERS that a client sends to begin a stream.
use Rattle.std.proofs.Common.{◌≡◌, ◌⊎◌, ℕ, ◌+◌, ◌-◌, ◌^◌, ◌<◌, ◌≤◌, max, inl, inr, Bool, true, false, not, ◌&&◌, ◌||◌, List, [], ◌∷◌, ◌++◌, map, Option, Some, None, refl, sym, ap, ◌∙◌, arith, subst}
use Rattle.h2_frames.specs.Layout.{body_of}
use Rattle.h2_exchange.specs.declared.fault.SendFault.{SendFault}
use Rattle.h2_exchange.specs.declared.fault.SendFault.TheVariants.{IdsSpent}
use Rattle.std.specs.Prelude.{Result, Ok, Err, IfOk, filter, fold, option_map, option_to_list, nat_lt, length, ◌==◌, if◌then◌else◌}
use Rattle.std.specs.List.{list_any}
use Rattle.std.proofs.lemmas.Bool.Decides.{nat_tests}
use Rattle.std.proofs.lemmas.List.Folds.{list_any-append}
use Rattle.h2_frames.specs.declared.frame.Frame.{Frame}
use Rattle.h2_frames.specs.declared.frame.Frame.TheVariants.{Headers}
use Rattle.h2_frames.specs.declared.frame.FrameBody.{FrameBody}
use Rattle.h2_exchange.specs.declared.limits.H2Limits.{H2Limits}
use Rattle.h2_exchange.specs.declared.role.Role.{Role}
use Rattle.h2_exchange.specs.declared.role.Role.TheVariants.{Client}
use Rattle.h2_exchange.specs.Blocks.{Block, open_block, completed_by, completed, blocks}
use Rattle.h2_exchange.specs.Exchange.{Step, Sent, received, sent}
use Rattle.h2_exchange.specs.Frames.{stream_of, is_data, is_headers, has_end_stream, has_end_headers}
use Rattle.h2_exchange.specs.Streams.{of_client, highest, is_odd, is_new, begins, begun, is_begun, is_live, is_reset, is_ended_by, is_last_on, live}
use Rattle.h2_exchange.specs.Windows.{initial_window, granted_on, spent_on, spent}
use Rattle.h2_exchange.proofs.Steps.{received_sent, sent_push, window_sums_grow, header_blocks_grow, begun_push, begun_within, begun_has, begun_list_push, highest_push}
use Rattle.h2_streams.specs.declared.live.Stream.{Stream}
use Rattle.h2_streams.specs.Set.{Set, begun as begun_set, new_stream, next_id}
use Rattle.h2_streams.specs.Stands.{stream_by, stream_at, StandsFor, IsUntouched, is_on}
use Rattle.h2_streams.proofs.Lists.{added_is, self_eq, by_number}
use Rattle.h2_streams.proofs.SentFrames.{same_made, or_false, plus_if_zero, reset_sent, live_by, isnt_on}

-- ---- the greatest id is 0 or odd

abbrev ZeroOrOdd : ℕ → Type 0
ZeroOrOdd m = (m ≡ 0) ⊎ (is_odd m ≡ true)

abbrev raise : ℕ → Frame → ℕ
raise most f = if is_headers f && is_odd (stream_of f) then max most (stream_of f) else most

kept_odd : (h o : Bool) (m n : ℕ) → is_odd n ≡ o → ZeroOrOdd m → ZeroOrOdd (if h && o then max m n else m)
kept_odd true true m n e z = either z
  where
    either : ZeroOrOdd m → ZeroOrOdd (max m n)
    either (inl z) = inr (grind (arith, nat_tests))
    either (inr z) = inr (grind (arith, nat_tests))
kept_odd true false m n e z = z
kept_odd false o m n e z = z

odd_from : (m : ℕ) (fs : List Frame) → ZeroOrOdd m → ZeroOrOdd (fold raise m fs)
odd_from m [] z = z
odd_from m (f ∷ fs) z = odd_from (raise m f) fs (kept_odd (is_headers f) (is_odd (stream_of f)) m (stream_of f) refl z)

pub highest_odd : (fs : List Frame) → ZeroOrOdd (highest fs)
highest_odd fs = odd_from 0 fs (inl refl)

next_odd : (m k : ℕ) → ZeroOrOdd m → k ≡ next_id m → (m < k) × (is_odd k ≡ true)
next_odd m k (inl z) e = (grind (arith, nat_tests), grind (arith, nat_tests))
next_odd m k (inr z) e = (grind (arith, nat_tests), grind (arith, nat_tests))

-- ---- HEADERS that end nothing

no_last : (o : Option Block) (b : FrameBody) (id : ℕ) → has_end_stream (Headers b) ≡ false → list_any (is_last_on id) (option_to_list (completed_by o (Headers b))) ≡ false
no_last None b id e = by (has_end_headers (Headers b)) (has_end_stream (Headers b)) e
  where
    by : (c l : Bool) → l ≡ false → list_any (is_last_on id) (option_to_list (if c then Some (record { stream = b.stream; last = l; text = Rattle.h2_exchange.specs.Blocks.fragment_of (Headers b); frames = 1 }) else None)) ≡ false
    by true true e = absurd cc
    by true false e = refl
    by false l e = refl
no_last (Some block) b id e = by (has_end_headers (Headers b))
  where
    by : (c : Bool) → list_any (is_last_on id) (option_to_list (if c then None else None)) ≡ false
    by true = refl
    by false = refl

pub or_falses : (a d b c : Bool) → d ≡ a → c ≡ false → (d || (b || c)) ≡ (a || b)
or_falses true d b c e f = cc
or_falses false d true c e f = cc
or_falses false d false c e f = cc

ended_head : (fs : List Frame) (b : FrameBody) (id : ℕ) → has_end_stream (Headers b) ≡ false → is_ended_by (fs ++ Headers b ∷ []) id ≡ is_ended_by fs id
ended_head fs b id e =
    ap (λ (bs : List Block). list_any (λ g. is_data g && has_end_stream g && stream_of g == id) (fs ++ Headers b ∷ []) || list_any (is_last_on id) bs) (header_blocks_grow.blocks_push fs (Headers b))
    ∙ ap (λ (t : Bool). list_any (λ g. is_data g && has_end_stream g && stream_of g == id) (fs ++ Headers b ∷ []) || t) (list_any-append (is_last_on id) (blocks fs) (option_to_list (completed fs (Headers b))))
    ∙ or_falses (list_any (λ g. is_data g && has_end_stream g && stream_of g == id) fs) (list_any (λ g. is_data g && has_end_stream g && stream_of g == id) (fs ++ Headers b ∷ [])) (list_any (is_last_on id) (blocks fs)) (list_any (is_last_on id) (option_to_list (completed fs (Headers b))))
    (list_any-append (λ g. is_data g && has_end_stream g && stream_of g == id) fs (Headers b ∷ []) ∙ or_false (list_any (λ g. is_data g && has_end_stream g && stream_of g == id) fs) false refl) (no_last (open_block fs) b id e)

module _ (limits : H2Limits) (x : List Step) (b : FrameBody) (k : ℕ) (on : b.stream ≡ k) (no-end : has_end_stream (Headers b) ≡ false) where
  abbrev pub after : List Step
  after = x ++ Sent (Headers b) ∷ []

  pub same_stream : (id : ℕ) → stream_at limits after id ≡ stream_at limits x id
  same_stream id =
      ap (λ (rs : List Frame). stream_by limits rs (sent after) id) (received_sent x (Headers b))
      ∙ ap (λ (ss : List Frame). stream_by limits (received x) ss id) (sent_push x (Headers b))
      ∙ same_made limits (received x) id (is_ended_by (sent x ++ Headers b ∷ []) id) (is_ended_by (sent x) id) (spent_on id (sent x ++ Headers b ∷ [])) (spent_on id (sent x)) (granted_on id (sent x ++ Headers b ∷ [])) (granted_on id (sent x))
      (ended_head (sent x) b id no-end) (window_sums_grow.spent_on_push id (sent x) (Headers b) ∙ plus_if_zero (spent_on id (sent x)) (b.stream == id)) (window_sums_grow.granted_push id (sent x) (Headers b) ∙ zero_more (granted_on id (sent x)))
    where
      zero_more : (n : ℕ) → n + 0 ≡ n
      zero_more n = omega arith

  pub no_reset : (id : ℕ) → is_reset after id ≡ is_reset x id
  no_reset id = reset_sent x (Headers b) id ∙ or_false (is_reset x id) false refl

  module _ (odd : is_odd k ≡ true) (above : highest (sent x) < k) where
    new_test : (o t : Bool) (n : ℕ) → is_odd n ≡ o → o ≡ true → highest (sent x) < n → (true && o && nat_lt (highest (sent x)) n) ≡ true
    new_test true t n p q lt = grind (arith, nat_tests)
    new_test false t n p q lt = absurd cc

    pub is_new_here : is_new (sent x) (Headers b) ≡ true
    is_new_here = new_test (is_odd b.stream) true b.stream refl (ap is_odd on ∙ odd) (subst (λ (n : ℕ). highest (sent x) < n) (sym on) above)

    pub begun_here : begun Client after ≡ begun Client x ++ k ∷ []
    begun_here =
        begun_list_push Client x (Sent (Headers b))
        ∙ ap (λ (t : Bool). begun Client x ++ ((if t then b.stream ∷ [] else []) ++ [])) is_new_here
        ∙ ap (λ (n : ℕ). begun Client x ++ n ∷ []) on

    begins_is : (id : ℕ) → begins Client id x (Sent (Headers b)) ≡ (b.stream == id)
    begins_is id = ap (λ (t : Bool). t && b.stream == id || false) is_new_here ∙ or_false (b.stream == id) false refl

    pub highest_here : highest (sent after) ≡ k
    highest_here =
        ap highest (sent_push x (Headers b)) ∙ highest_push (sent x) (Headers b)
        ∙ ap (λ (t : Bool). if t then max (highest (sent x)) b.stream else highest (sent x)) (ap is_odd on ∙ odd)
        ∙ largest (highest (sent x)) b.stream k on above
      where
        largest : (m n k : ℕ) → n ≡ k → m < k → max m n ≡ k
        largest m n k e lt = omega arith

    pub live_other : (id : ℕ) → (id ≡ k → ⊥) → is_live Client after id ≡ is_live Client x id
    live_other id f =
        live_by Client x after id (is_begun Client x id) (is_reset x id) (is_ended_by (received x) id) (is_ended_by (sent x) id)
        (begun_push Client x (Sent (Headers b)) id ∙ or_false (is_begun Client x id) (begins Client id x (Sent (Headers b))) (begins_is id ∙ isnt_on k b.stream id on f))
        (no_reset id) (ap (λ (s : Stream). s.is_closed_remote) (same_stream id)) (ap (λ (s : Stream). s.is_closed_local) (same_stream id))

    or_is_true : (a c : Bool) → c ≡ true → (a || c) ≡ true
    or_is_true true c e = refl
    or_is_true false c e = e

    pub live_new : IsUntouched limits x k → is_live Client after k ≡ true
    live_new u =
        live_by Client x after k true false false false
        (begun_push Client x (Sent (Headers b)) k ∙ or_is_true (is_begun Client x k) (begins Client k x (Sent (Headers b))) (begins_is k ∙ ap (λ (n : ℕ). n == k) on ∙ self_eq k))
        (no_reset k ∙ u.no_reset) (ap (λ (s : Stream). s.is_closed_remote) (same_stream k ∙ u.as_new)) (ap (λ (s : Stream). s.is_closed_local) (same_stream k ∙ u.as_new))

    is_false : (t : Bool) → (t ≡ true → ⊥) → t ≡ false
    is_false true f = absurd (f refl)
    is_false false f = refl

    pub not_begun : list_any (λ id. id == k) (begun Client x) ≡ false
    not_begun = begun_has Client x k ∙ is_false (is_begun Client x k) (λ e. omega (arith, begun_within Client x k e, above))

    pub live_added : IsUntouched limits x k → map (stream_at limits after) (live Client after) ≡ map (stream_at limits x) (live Client x) ++ new_stream limits k ∷ []
    live_added u =
        ap (λ (ids : List ℕ). map (stream_at limits after) (filter (is_live Client after) ids)) begun_here
        ∙ added_is (is_live Client x) (is_live Client after) (stream_at limits x) (stream_at limits after) (λ id. refl) k (λ id f. (live_other id f, same_stream id)) (live_new u) (begun Client x) not_begun
        ∙ ap (λ (s : Stream). map (stream_at limits x) (live Client x) ++ s ∷ []) (same_stream k ∙ u.as_new)

pub covers : (used granted : ℕ) → 2147483648 + granted - used ≡ 2147483648 → used < 2147483648 + granted
covers used granted e = omega arith

pub bounds : (window used granted : ℕ) → 65536 ≤ window → window + granted - used ≡ window → used ≤ window + granted
bounds window used granted w e = omega arith

pub begins_stream : (s : Set) (x : List Step) (k : ℕ) (b : FrameBody) → StandsFor s x → s.role ≡ Client → k ≡ next_id s.highest → b.stream ≡ k → has_end_stream (Headers b) ≡ false → StandsFor (begun_set k s) (x ++ Sent (Headers b) ∷ [])
begins_stream s x k b h client next on no-end =
    record {
      live_is =
          ap (λ (l : List Stream). l ++ new_stream s.limits k ∷ []) (h.live_is ∙ ap (λ (r : Role). map (stream_at s.limits x) (live r x)) client)
          ∙ sym (live_added s.limits x b k on no-end odd above untouched_k) ∙ ap (λ (r : Role). map (stream_at s.limits after) (live r after)) (sym client);
      highest_is = sym (ap (λ (r : Role). highest (of_client r after)) client ∙ highest_here s.limits x b k on no-end odd above);
      started_is = h.started_is ∙ ap (λ (fs : List Frame). not (length fs == 0)) (sym rs);
      block_is = h.block_is ∙ ap (λ (fs : List Frame). option_map (λ (c : Block). (c.stream, c.last)) (open_block fs)) (sym rs);
      initial_is = h.initial_is ∙ ap initial_window (sym rs);
      send_is = omega (arith, h.send_is, ap spent ss, window_sums_grow.spent_push (sent x) (Headers b), ap (granted_on 0) rs);
      receive_is = omega (arith, h.receive_is, ap (granted_on 0) ss, window_sums_grow.granted_push 0 (sent x) (Headers b), ap spent rs);
      initial_small = h.initial_small;
      covered = covered;
      within = within;
      untouched = λ id lt e. record {
        as_new = same_stream s.limits x b k on no-end id ∙ (h.untouched id (omega (arith, lt, low)) e).as_new;
        no_reset = no_reset s.limits x b k on no-end id ∙ (h.untouched id (omega (arith, lt, low)) e).no_reset;
        no_block = ap (λ (fs : List Frame). is_on id (open_block fs)) rs ∙ (h.untouched id (omega (arith, lt, low)) e).no_block;
      };
    }
  where
    after : List Step
    after = x ++ Sent (Headers b) ∷ []

    rs : received after ≡ received x
    rs = received_sent x (Headers b)

    ss : sent after ≡ sent x ++ Headers b ∷ []
    ss = sent_push x (Headers b)

    highest_is : s.highest ≡ highest (sent x)
    highest_is = h.highest_is ∙ ap (λ (r : Role). highest (of_client r x)) client

    facts : (s.highest < k) × (is_odd k ≡ true)
    facts = next_odd s.highest k (subst ZeroOrOdd (sym highest_is) (highest_odd (sent x))) next

    low : s.highest < k
    low = facts.0

    odd : is_odd k ≡ true
    odd = facts.1

    above : highest (sent x) < k
    above = subst (λ (n : ℕ). n < k) highest_is low

    untouched_k : IsUntouched s.limits x k
    untouched_k = h.untouched k low odd

    same_counts : (id : ℕ) → spent_on id (sent x) < 2147483648 + granted_on id (received x) → spent_on id (sent after) < 2147483648 + granted_on id (received after)
    same_counts id lt = omega (arith, lt, ap (spent_on id) ss, window_sums_grow.spent_on_push id (sent x) (Headers b), plus_if_zero (spent_on id (sent x)) (b.stream == id), ap (granted_on id) rs)

    covered : (id : ℕ) → is_live s.role after id ≡ true → spent_on id (sent after) < 2147483648 + granted_on id (received after)
    covered id e =
        by_number (λ id. is_live s.role after id ≡ true → spent_on id (sent after) < 2147483648 + granted_on id (received after)) k id
        (λ f g. subst (λ (i : ℕ). spent_on i (sent after) < 2147483648 + granted_on i (received after)) (sym f) (same_counts k (covers (spent_on k (sent x)) (granted_on k (received x)) (ap (λ (t : Stream). t.room) untouched_k.as_new))))
        (λ f g. same_counts id (h.covered id (ap (λ (r : Role). is_live r x id) client ∙ sym (live_other s.limits x b k on no-end odd above id f) ∙ ap (λ (r : Role). is_live r after id) (sym client) ∙ g))) e

    same_bounds : (id : ℕ) → spent_on id (received x) ≤ s.limits.window + granted_on id (sent x) → spent_on id (received after) ≤ s.limits.window + granted_on id (sent after)
    same_bounds id le = omega (arith, le, ap (spent_on id) rs, ap (granted_on id) ss, window_sums_grow.granted_push id (sent x) (Headers b))

    within : (id : ℕ) → is_live s.role after id ≡ true → spent_on id (received after) ≤ s.limits.window + granted_on id (sent after)
    within id e =
        by_number (λ id. is_live s.role after id ≡ true → spent_on id (received after) ≤ s.limits.window + granted_on id (sent after)) k id
        (λ f g. subst (λ (i : ℕ). spent_on i (received after) ≤ s.limits.window + granted_on i (sent after)) (sym f) (same_bounds k (bounds s.limits.window (spent_on k (received x)) (granted_on k (sent x)) s.limits.window_is_raised (ap (λ (t : Stream). t.receive) untouched_k.as_new))))
        (λ f g. same_bounds id (h.within id (ap (λ (r : Role). is_live r x id) client ∙ sym (live_other s.limits x b k on no-end odd above id f) ∙ ap (λ (r : Role). is_live r after id) (sym client) ∙ g))) e

-- no id is left only where the greatest one is the last
pub ids_spent : (s : Set) (x : List Step) → StandsFor s x → s.role ≡ Client → 2147483645 < s.highest → s.highest < 2147483648 → highest (sent x) ≡ 2147483647
ids_spent s x h client late within = by (highest_odd (sent x)) (h.highest_is ∙ ap (λ (r : Role). highest (of_client r x)) client)
  where
    by : ZeroOrOdd (highest (sent x)) → s.highest ≡ highest (sent x) → highest (sent x) ≡ 2147483647
    by (inl z) e = omega arith
    by (inr z) e = last (highest (sent x)) z (omega arith) (omega arith)
      where
        last : (n : ℕ) → is_odd n ≡ true → 2147483645 < n → n < 2147483648 → n ≡ 2147483647
        last n o p q = grind (arith, nat_tests)

-- ---- what `begin` says

small_from : (m : ℕ) (fs : List Frame) → m < 2147483648 → fold raise m fs < 2147483648
small_from m [] lt = lt
small_from m (f ∷ fs) lt = small_from (raise m f) fs (raised_small (is_headers f && is_odd (stream_of f)) m (stream_of f) lt (body_of f).stream_in_range)
  where
    raised_small : (t : Bool) (m n : ℕ) → m < 2147483648 → n < 2 ^ 31 → (if t then max m n else m) < 2147483648
    raised_small true m n p q = omega arith
    raised_small false m n p q = p

pub spent_says : (s : Set) (result : Result ℕ SendFault) → (result ≡ Err IdsSpent → 2147483645 < s.highest) → s.role ≡ Client → result ≡ Err IdsSpent → (x : List Step) → StandsFor s x → highest (sent x) ≡ 2147483647
spent_says s result late client e x h =
    ids_spent s x h client (late e) (subst (λ (n : ℕ). n < 2147483648) (sym (h.highest_is ∙ ap (λ (r : Role). highest (of_client r x)) client)) (small_from 0 (sent x) (omega arith)))

pub stands_says : (old new : Set) (result : Result ℕ SendFault) → IfOk result (λ id. (id ≡ next_id old.highest) × (new ≡ begun_set id old)) → old.role ≡ Client →
    IfOk result (λ id. (x : List Step) (b : FrameBody) → StandsFor old x → b.stream ≡ id → has_end_stream (Headers b) ≡ false → StandsFor new (x ++ Sent (Headers b) ∷ []))
stands_says old new (Ok id) e client = λ x b h on no-end. subst (λ (s : Set). StandsFor s (x ++ Sent (Headers b) ∷ [])) (sym e.1) (begins_stream old x id b h client e.0 on no-end)
stands_says old new (Err fault) e client = e
