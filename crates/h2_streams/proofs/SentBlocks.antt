-- A set stands for its exchange behind a sent frame of a header block.
use Rattle.std.proofs.Common.{◌≡◌, ◌⊎◌, inl, inr, ℕ, ◌+◌, ◌≤◌, max, Bool, true, false, not, ◌&&◌, ◌||◌, List, [], ◌∷◌, ◌++◌, map, Option, Some, None, refl, sym, ap, ◌∙◌, arith, subst}
use Rattle.std.specs.Prelude.{filter, option_map, option_to_list, length, nat_lt, ◌==◌, if◌then◌else◌}
use Rattle.std.specs.List.{list_any}
use Rattle.std.proofs.lemmas.Bool.Decides.{nat_tests}
use Rattle.std.proofs.lemmas.List.{append-nil}
use Rattle.std.proofs.lemmas.List.Folds.{list_any-append}
use Rattle.h2_frames.specs.declared.frame.Frame.{Frame}
use Rattle.h2_frames.specs.declared.frame.Frame.TheVariants.{Content, Headers, Priority, RstStream, Settings, PushPromise, Ping, GoAway, WindowUpdate, Continuation, Unknown}
use Rattle.h2_exchange.specs.declared.limits.H2Limits.{H2Limits}
use Rattle.h2_exchange.specs.declared.role.Role.{Role}
use Rattle.h2_exchange.specs.declared.role.Role.TheVariants.{Client, Server}
use Rattle.h2_exchange.specs.Blocks.{Block, open_block, completed, blocks}
use Rattle.h2_exchange.specs.Exchange.{Step, Sent, received, sent}
use Rattle.h2_exchange.specs.Frames.{stream_of, is_data, is_headers, is_continuation, is_rst_stream, is_window_update, has_end_stream, increment_of, counted}
use Rattle.h2_exchange.specs.Streams.{of_client, highest, is_odd, is_new, begins, begun, is_begun, is_over, is_live, is_open, is_reset, is_ended_by, is_last_on, live}
use Rattle.h2_exchange.specs.Windows.{initial_window, granted_on, spent_on, spent}
use Rattle.h2_exchange.proofs.Looking.{or_nothing}
use Rattle.h2_exchange.proofs.Steps.{received_sent, sent_push, window_sums_grow, header_blocks_grow, begun_push, begun_list_push, begun_once, begun_within, highest_push}
use Rattle.h2_streams.specs.declared.live.Stream.{Stream}
use Rattle.h2_streams.specs.Laws.{BeginsNothing, HeaderFramesChangeNothing}
use Rattle.h2_streams.specs.Live.{replaced, without}
use Rattle.h2_streams.specs.Set.{Set, dropped, closed_local, finished}
use Rattle.h2_streams.specs.Stands.{stream_by, stream_at, StandsFor, is_on}
use Rattle.h2_streams.proofs.Begins.{or_falses}
use Rattle.h2_streams.proofs.Ends.{or_true}
use Rattle.h2_streams.proofs.Lists.{replaced_is, without_is, self_eq, isnt, by_number}
use Rattle.h2_streams.proofs.Quiet.{stays_standing}
use Rattle.h2_streams.proofs.ReceivedFrames.{StandsOn, last_of, ended_heard}
use Rattle.h2_streams.proofs.Sends.{front_true, found_live}
use Rattle.h2_streams.proofs.SentFrames.{made, same_made, or_false, reset_sent, live_by}

pub record IsPart (f : Frame) : Type 0 where
  pub no_data : is_data f ≡ false
  pub no_reset : is_rst_stream f ≡ false
  pub no_update : is_window_update f ≡ false
  pub no_count : counted f ≡ 0

part_of : (f : Frame) → (is_headers f || is_continuation f) ≡ true → IsPart f
part_of (Headers b) e = record { no_data = refl; no_reset = refl; no_update = refl; no_count = refl }
part_of (Continuation b) e = record { no_data = refl; no_reset = refl; no_update = refl; no_count = refl }
part_of (Content b) e = absurd cc
part_of (Priority b) e = absurd cc
part_of (RstStream b) e = absurd cc
part_of (Settings b) e = absurd cc
part_of (PushPromise b) e = absurd cc
part_of (Ping b) e = absurd cc
part_of (GoAway b) e = absurd cc
part_of (WindowUpdate b) e = absurd cc
part_of (Unknown other b) e = absurd cc

ends_nothing : (o : Option Block) (id : ℕ) → last_of o ≡ false → list_any (is_last_on id) (option_to_list o) ≡ false
ends_nothing None id e = refl
ends_nothing (Some b) id e = or_nothing (b.last && b.stream == id) ∙ ap (λ (t : Bool). t && b.stream == id) e

and_off : (a b : Bool) → a ≡ false → (a && b) ≡ false
and_off true b e = absurd cc
and_off false b e = refl

-- ---- a frame that begins nothing

third_off : (a b c : Bool) → c ≡ false → (a && b && c) ≡ false
third_off true true c e = e
third_off true false c e = refl
third_off false b c e = refl

not_above : (m n : ℕ) → n ≤ m → nat_lt m n ≡ false
not_above m n le = grind (arith, nat_tests)

max_stays : (t : Bool) (m n : ℕ) → (t ≡ true → n ≤ m) → (if t then max m n else m) ≡ m
max_stays true m n le = omega (arith, le refl)
max_stays false m n le = refl

clients_low : (x : List Step) (f : Frame) → BeginsNothing Client x f → is_headers f ≡ true → stream_of f ≤ highest (sent x)
clients_low x f old e = by (old e)
  where
    by : (Client ≡ Server) ⊎ (is_begun Client x (stream_of f) ≡ true) → stream_of f ≤ highest (sent x)
    by (inl server) = absurd cc
    by (inr begun) = begun_within Client x (stream_of f) begun

nothing_begins : (x : List Step) (f : Frame) → BeginsNothing Client x f → is_new (sent x) f ≡ false
nothing_begins x f old = by (is_headers f) refl
  where
    by : (t : Bool) → is_headers f ≡ t → (t && is_odd (stream_of f) && nat_lt (highest (sent x)) (stream_of f)) ≡ false
    by true e = third_off true (is_odd (stream_of f)) (nat_lt (highest (sent x)) (stream_of f)) (not_above (highest (sent x)) (stream_of f) (clients_low x f old e))
    by false e = refl

one_begun : (role : Role) (x : List Step) (f : Frame) (id : ℕ) → BeginsNothing role x f → is_begun role (x ++ Sent f ∷ []) id ≡ is_begun role x id
one_begun Server x f id old = begun_push Server x (Sent f) id ∙ or_false (is_begun Server x id) false refl
one_begun Client x f id old =
    begun_push Client x (Sent f) id
    ∙ or_false (is_begun Client x id) (begins Client id x (Sent f)) (ap (λ (t : Bool). t && stream_of f == id || false) (nothing_begins x f old))

all_begun : (role : Role) (x : List Step) (f : Frame) → BeginsNothing role x f → begun role (x ++ Sent f ∷ []) ≡ begun role x
all_begun Server x f old = begun_list_push Server x (Sent f) ∙ append-nil (begun Server x)
all_begun Client x f old =
    begun_list_push Client x (Sent f) ∙ ap (λ (t : Bool). begun Client x ++ ((if t then stream_of f ∷ [] else []) ++ [])) (nothing_begins x f old)
    ∙ append-nil (begun Client x)

same_greatest : (role : Role) (x : List Step) (f : Frame) → BeginsNothing role x f → highest (of_client role (x ++ Sent f ∷ [])) ≡ highest (of_client role x)
same_greatest Server x f old = ap highest (received_sent x f)
same_greatest Client x f old =
    ap highest (sent_push x f) ∙ highest_push (sent x) f
    ∙ max_stays (is_headers f && is_odd (stream_of f)) (highest (sent x)) (stream_of f) (λ e. clients_low x f old (front_true (is_headers f) (is_odd (stream_of f)) e))

module _ (role : Role) (limits : H2Limits) (x : List Step) (f : Frame) (part : IsPart f) (old : BeginsNothing role x f) where
  abbrev after : List Step
  after = x ++ Sent f ∷ []

  begun_one : (id : ℕ) → is_begun role after id ≡ is_begun role x id
  begun_one id = one_begun role x f id old

  begun_all : begun role after ≡ begun role x
  begun_all = all_begun role x f old

  greatest : highest (of_client role after) ≡ highest (of_client role x)
  greatest = same_greatest role x f old

  resets : (id : ℕ) → is_reset after id ≡ is_reset x id
  resets id = reset_sent x f id ∙ or_false (is_reset x id) (is_rst_stream f && stream_of f == id) (and_off (is_rst_stream f) (stream_of f == id) part.no_reset)

  no_spend : (id : ℕ) → spent_on id (sent x ++ f ∷ []) ≡ spent_on id (sent x)
  no_spend id = window_sums_grow.spent_on_push id (sent x) f ∙ zero (stream_of f == id) (counted f) (spent_on id (sent x)) part.no_count
    where
      zero : (t : Bool) (n m : ℕ) → n ≡ 0 → m + (if t then n else 0) ≡ m
      zero true n m e = omega (arith, e)
      zero false n m e = omega arith

  no_grant : (id : ℕ) → granted_on id (sent x ++ f ∷ []) ≡ granted_on id (sent x)
  no_grant id = window_sums_grow.granted_push id (sent x) f ∙ zero (is_window_update f) (stream_of f == id) (increment_of f) (granted_on id (sent x)) part.no_update
    where
      zero : (a t : Bool) (n m : ℕ) → a ≡ false → m + (if a && t then n else 0) ≡ m
      zero true t n m e = absurd cc
      zero false t n m e = omega arith

  stream_after : (id : ℕ) (ended : Bool) → is_ended_by (sent x ++ f ∷ []) id ≡ ended → stream_at limits after id ≡ made limits (received x) id ended (spent_on id (sent x)) (granted_on id (sent x))
  stream_after id ended e =
      ap (λ (fs : List Frame). stream_by limits fs (sent after) id) (received_sent x f) ∙ ap (λ (fs : List Frame). stream_by limits (received x) fs id) (sent_push x f)
      ∙ same_made limits (received x) id (is_ended_by (sent x ++ f ∷ []) id) ended (spent_on id (sent x ++ f ∷ [])) (spent_on id (sent x)) (granted_on id (sent x ++ f ∷ [])) (granted_on id (sent x)) e (no_spend id) (no_grant id)

  data_test : ℕ → Frame → Bool
  data_test id g = is_data g && has_end_stream g && stream_of g == id

  not_ended : (id : ℕ) → last_of (completed (sent x) f) ≡ false → is_ended_by (sent x ++ f ∷ []) id ≡ is_ended_by (sent x) id
  unfolding data_test
  not_ended id e =
      ap (λ (bs : List Block). list_any (data_test id) (sent x ++ f ∷ []) || list_any (is_last_on id) bs) (header_blocks_grow.blocks_push (sent x) f)
      ∙ ap (λ (t : Bool). list_any (data_test id) (sent x ++ f ∷ []) || t) (list_any-append (is_last_on id) (blocks (sent x)) (option_to_list (completed (sent x) f)))
      ∙ or_falses (list_any (data_test id) (sent x)) (list_any (data_test id) (sent x ++ f ∷ [])) (list_any (is_last_on id) (blocks (sent x))) (list_any (is_last_on id) (option_to_list (completed (sent x) f)))
      (list_any-append (data_test id) (sent x) (f ∷ []) ∙ or_false (list_any (data_test id) (sent x)) (data_test id f || false) (or_nothing (data_test id f) ∙ ap (λ (t : Bool). t && has_end_stream f && stream_of f == id) part.no_data))
      (ends_nothing (completed (sent x) f) id e)

  is_ended : (id : ℕ) → StandsOn (open_block (sent x)) f → last_of (completed (sent x) f) ≡ true → is_ended_by (sent x ++ f ∷ []) id ≡ (is_ended_by (sent x) id || stream_of f == id)
  is_ended id on e =
      ended_heard (sent x) f id on
      ∙ ap (λ (t : Bool). is_ended_by (sent x) id || (t && has_end_stream f || last_of (completed (sent x) f)) && stream_of f == id) part.no_data
      ∙ ap (λ (t : Bool). is_ended_by (sent x) id || t && stream_of f == id) e

-- ---- a frame that ends no stream

pub header_frames_change_nothing : HeaderFramesChangeNothing
header_frames_change_nothing s x f part old quiet h =
    stays_standing s x f h (
    record {
      streams = λ id. stream_after s.role s.limits x f (part_of f part) old id (is_ended_by (sent x) id) (not_ended s.role s.limits x f (part_of f part) old id no_end);
      resets = resets s.role s.limits x f (part_of f part) old;
      begun_one = begun_one s.role s.limits x f (part_of f part) old;
      begun_all = begun_all s.role s.limits x f (part_of f part) old;
      greatest = greatest s.role s.limits x f (part_of f part) old;
      update = (part_of f part).no_update;
      empty = (part_of f part).no_count;
    }
    )
  where
    last_by : (o : Option Block) → ((b : Block) → o ≡ Some b → b.last ≡ false) → last_of o ≡ false
    last_by None k = refl
    last_by (Some b) k = k b refl

    no_end : last_of (completed (sent x) f) ≡ false
    no_end = last_by (completed (sent x) f) quiet

-- ---- a frame that ends its stream

module _ (s : Set) (x : List Step) (f : Frame) (h : StandsFor s x) (open_here : is_open s.role x (stream_of f) ≡ true) (part : IsPart f) (old : BeginsNothing s.role x f)
    (on : StandsOn (open_block (sent x)) f) (ends : last_of (completed (sent x) f) ≡ true) where
  abbrev k : ℕ
  k = stream_of f

  abbrev over : List Step
  over = x ++ Sent f ∷ []

  abbrev was : Stream
  was = stream_at s.limits x k

  rs : received over ≡ received x
  rs = received_sent x f

  ss : sent over ≡ sent x ++ f ∷ []
  ss = sent_push x f

  ended_at : (id : ℕ) → is_ended_by (sent x ++ f ∷ []) id ≡ (is_ended_by (sent x) id || k == id)
  ended_at id = is_ended s.role s.limits x f part old id on ends

  ended_other : (id : ℕ) → (id ≡ k → ⊥) → is_ended_by (sent x ++ f ∷ []) id ≡ is_ended_by (sent x) id
  ended_other id g = ended_at id ∙ or_false (is_ended_by (sent x) id) (k == id) (isnt id k (λ i. g (sym i)))

  ended_here_now : is_ended_by (sent x ++ f ∷ []) k ≡ true
  ended_here_now = ended_at k ∙ or_true (is_ended_by (sent x) k) (k == k) (self_eq k)

  other_same : (id : ℕ) → (id ≡ k → ⊥) → stream_at s.limits over id ≡ stream_at s.limits x id
  other_same id g = stream_after s.role s.limits x f part old id (is_ended_by (sent x) id) (ended_other id g)

  ended_is : stream_at s.limits over k ≡ record was { is_closed_local = true }
  ended_is = stream_after s.role s.limits x f part old k true ended_here_now

  live_other : (id : ℕ) → (id ≡ k → ⊥) → is_live s.role over id ≡ is_live s.role x id
  live_other id g =
      live_by s.role x over id (is_begun s.role x id) (is_reset x id) (is_ended_by (received x) id) (is_ended_by (sent x) id) (begun_one s.role s.limits x f part old id) (resets s.role s.limits x f part old id)
      (ap (λ (fs : List Frame). is_ended_by fs id) rs) (ap (λ (fs : List Frame). is_ended_by fs id) ss ∙ ended_other id g)

  live_this : is_live s.role over k ≡ (is_begun s.role x k && not (is_reset x k || is_ended_by (received x) k && true))
  live_this =
      live_by s.role x over k (is_begun s.role x k) (is_reset x k) (is_ended_by (received x) k) true (begun_one s.role s.limits x f part old k) (resets s.role s.limits x f part old k)
      (ap (λ (fs : List Frame). is_ended_by fs k) rs) (ap (λ (fs : List Frame). is_ended_by fs k) ss ∙ ended_here_now)

  others : (id : ℕ) → (id ≡ k → ⊥) → (is_live s.role over id ≡ is_live s.role x id) × (stream_at s.limits over id ≡ stream_at s.limits x id)
  others id g = (live_other id g, other_same id g)

  alive : is_live s.role x k ≡ true
  alive = front_true (is_live s.role x k) (not (is_ended_by (sent x) k)) open_here

  low : k ≤ highest (of_client s.role x)
  low = begun_within s.role x k (front_true (is_begun s.role x k) (not (is_over x k)) alive)

  was_live : (id : ℕ) → is_live s.role over id ≡ true → is_live s.role x id ≡ true
  was_live id e = by_number (λ id. is_live s.role over id ≡ true → is_live s.role x id ≡ true) k id (λ g i. ap (is_live s.role x) g ∙ alive) (λ g i. sym (live_other id g) ∙ i) e

  left : List Stream → Set
  left list = record s { live = list }

  stands_by : (list : List Stream) → list ≡ map (stream_at s.limits over) (live s.role over) → StandsFor (left list) over
  unfolding left
  stands_by list list_is = record {
    live_is = list_is;
    highest_is = h.highest_is ∙ sym (greatest s.role s.limits x f part old);
    started_is = h.started_is ∙ ap (λ (fs : List Frame). not (length fs == 0)) (sym rs);
    block_is = h.block_is ∙ ap (λ (fs : List Frame). option_map (λ (c : Block). (c.stream, c.last)) (open_block fs)) (sym rs);
    initial_is = h.initial_is ∙ ap initial_window (sym rs);
    send_is = omega (arith, h.send_is, ap spent ss, window_sums_grow.spent_push (sent x) f, part.no_count, ap (granted_on 0) rs);
    receive_is = omega (arith, h.receive_is, ap (granted_on 0) ss, no_grant s.role s.limits x f part old 0, ap spent rs);
    initial_small = h.initial_small;
    covered = λ id e. omega (arith, h.covered id (was_live id e), ap (spent_on id) ss, no_spend s.role s.limits x f part old id, ap (granted_on id) rs);
    within = λ id e. omega (arith, h.within id (was_live id e), ap (spent_on id) rs, ap (granted_on id) ss, no_grant s.role s.limits x f part old id);
    untouched = λ id lt e. record {
      as_new = other_same id (λ g. omega (arith, lt, low, h.highest_is, g)) ∙ (h.untouched id lt e).as_new;
      no_reset = resets s.role s.limits x f part old id ∙ (h.untouched id lt e).no_reset;
      no_block = ap (λ (fs : List Frame). is_on id (open_block fs)) rs ∙ (h.untouched id lt e).no_block;
    };
  }

  begun_list : map (stream_at s.limits over) (live s.role over) ≡ map (stream_at s.limits over) (filter (is_live s.role over) (begun s.role x))
  begun_list = ap (λ (ids : List ℕ). map (stream_at s.limits over) (filter (is_live s.role over) ids)) (begun_all s.role s.limits x f part old)

  is_gone : is_ended_by (received x) k ≡ true → without k s.live ≡ map (stream_at s.limits over) (live s.role over)
  is_gone e =
      ap (without k) h.live_is
      ∙ sym (without_is (is_live s.role x) (is_live s.role over) (stream_at s.limits x) (stream_at s.limits over) (λ id. refl) k others
      (live_this ∙ ap (λ (t : Bool). is_begun s.role x k && not (is_reset x k || t && true)) e ∙ dead (is_begun s.role x k) (is_reset x k)) (begun s.role x))
      ∙ sym begun_list
    where
      dead : (b r : Bool) → (b && not (r || true && true)) ≡ false
      dead true true = refl
      dead true false = refl
      dead false r = refl

  is_half : is_ended_by (received x) k ≡ false → replaced k (record was { is_closed_local = true }) s.live ≡ map (stream_at s.limits over) (live s.role over)
  is_half e =
      ap (replaced k (record was { is_closed_local = true })) h.live_is ∙ ap (λ (t : Stream). replaced k t (map (stream_at s.limits x) (live s.role x))) (sym ended_is)
      ∙ sym (replaced_is (is_live s.role x) (is_live s.role over) (stream_at s.limits x) (stream_at s.limits over) (λ id. refl) k others
      (live_this ∙ ap (λ (t : Bool). is_begun s.role x k && not (is_reset x k || t && true)) e ∙ ap (λ (t : Bool). is_begun s.role x k && not (is_reset x k || t && is_ended_by (sent x) k)) (sym e)) (begun s.role x) (begun_once s.role x k))
      ∙ sym begun_list

  finished_is : (t : Bool) → is_ended_by (received x) k ≡ t → finished k s ≡ left (if t then without k s.live else replaced k (record was { is_closed_local = true }) s.live)
  unfolding left
  finished_is t e = ap (closed_local k s) (found_live s x k h open_here) ∙ ap (λ (z : Bool). if z then dropped k s else left (replaced k (record was { is_closed_local = true }) s.live)) e ∙ by t
    where
      by : (z : Bool) → (if z then dropped k s else left (replaced k (record was { is_closed_local = true }) s.live)) ≡ left (if z then without k s.live else replaced k (record was { is_closed_local = true }) s.live)
      by true = refl
      by false = refl

  pub ends_with_block : StandsFor (finished k s) over
  ends_with_block = by (is_ended_by (received x) k) refl
    where
      by : (t : Bool) → is_ended_by (received x) k ≡ t → StandsFor (finished k s) over
      by true e = subst (λ (t : Set). StandsFor t over) (sym (finished_is true e)) (stands_by (without k s.live) (is_gone e))
      by false e = subst (λ (t : Set). StandsFor t over) (sym (finished_is false e)) (stands_by (replaced k (record was { is_closed_local = true }) s.live) (is_half e))

-- a completed header block that ends its side
pub finishes : (s : Set) (x : List Step) (f : Frame) (k : ℕ) (b : Block) → StandsFor s x → is_open s.role x k ≡ true → (is_headers f || is_continuation f) ≡ true →
    stream_of f ≡ k → completed (sent x) f ≡ Some b → b.stream ≡ k → b.last ≡ true → StandsFor (finished k s) (x ++ Sent f ∷ [])
finishes s x f k b h open_here part on whole same last =
    subst (λ (n : ℕ). StandsFor (finished n s) (x ++ Sent f ∷ [])) on (
    ends_with_block s x f h (ap (is_open s.role x) on ∙ open_here) (part_of f part) (λ e. inr begun_here) (λ c e. ap (λ (d : Block). d.stream) (some_is c b (sym e ∙ whole)) ∙ same ∙ sym on) (ap last_of whole ∙ last)
    )
  where
    some_is : (c d : Block) → Some c ≡ Some d → c ≡ d
    some_is c d e = cc

    begun_here : is_begun s.role x (stream_of f) ≡ true
    begun_here = front_true (is_begun s.role x (stream_of f)) (not (is_over x (stream_of f))) (front_true (is_live s.role x (stream_of f)) (not (is_ended_by (sent x) (stream_of f))) (ap (is_open s.role x) on ∙ open_here))
