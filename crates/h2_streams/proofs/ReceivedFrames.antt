-- What one more received frame changes of a stream.
use Rattle.std.proofs.Common.{◌≡◌, ℕ, ◌+◌, ◌-◌, max, Bool, true, false, not, ◌&&◌, ◌||◌, List, [], ◌∷◌, ◌++◌, Option, Some, None, refl, sym, ap, ◌∙◌, arith}
use Rattle.std.specs.Prelude.{option_map, option_to_list, is_some, nat_lt, ◌==◌, if◌then◌else◌}
use Rattle.std.specs.List.{list_any}
use Rattle.std.proofs.lemmas.Bool.Decides.{nat_tests}
use Rattle.std.proofs.lemmas.List.{append-nil}
use Rattle.std.proofs.lemmas.List.Folds.{list_any-append}
use Rattle.h2_frames.specs.declared.frame.Frame.{Frame}
use Rattle.h2_frames.specs.declared.frame.Frame.TheVariants.{Content, Headers, Priority, RstStream, Settings, PushPromise, Ping, GoAway, WindowUpdate, Continuation, Unknown}
use Rattle.h2_exchange.specs.declared.limits.H2Limits.{H2Limits}
use Rattle.h2_exchange.specs.declared.role.Role.{Role}
use Rattle.h2_exchange.specs.declared.role.Role.TheVariants.{Client, Server}
use Rattle.h2_exchange.specs.Blocks.{Block, block_with, completed_by, open_block, completed, blocks}
use Rattle.h2_exchange.specs.Exchange.{Step, Received, received, sent}
use Rattle.h2_exchange.specs.Frames.{stream_of, is_data, is_headers, is_rst_stream, is_window_update, has_end_stream, has_end_headers, increment_of, counted}
use Rattle.h2_exchange.specs.Rules.{is_client, breaks_block_on}
use Rattle.h2_exchange.specs.Streams.{of_client, highest, is_odd, is_new, begins, begun, is_begun, is_live, is_reset, is_ended_by, is_last_on, has_rst_stream, has_head}
use Rattle.h2_exchange.specs.Windows.{granted_on, spent_on}
use Rattle.h2_exchange.proofs.Looking.{or_nothing}
use Rattle.h2_exchange.proofs.Steps.{received_push, sent_received, header_blocks_grow, window_sums_grow, begun_push, begun_list_push, highest_push}
use Rattle.h2_streams.specs.declared.live.Stream.{Stream}
use Rattle.h2_streams.specs.Stands.{stream_by, stream_at}
use Rattle.h2_streams.proofs.Lists.{eqb_is, self_eq, isnt}
use Rattle.h2_streams.proofs.SentFrames.{or_false, reset_push, live_by}

-- ---- a frame stands on the stream of its header block

some_is : (a b : Block) → Some a ≡ Some b → a ≡ b
some_is a b e = cc

abbrev pub StandsOn : Option Block → Frame → Type 0
StandsOn opened f = (b : Block) → completed_by opened f ≡ Some b → b.stream ≡ stream_of f

abbrev pub PartIsOn : Option Block → Frame → Type 0
PartIsOn opened f = (b : Block) → block_with opened f ≡ Some b → b.stream ≡ stream_of f

pub part_is_on : (o : Option Block) (f : Frame) → breaks_block_on (option_map (λ (b : Block). b.stream) o) f ≡ false → PartIsOn o f
part_is_on None (Headers b) e c g = ap (λ (d : Block). d.stream) (sym (some_is _ c g))
part_is_on None (Content b) e c g = absurd cc
part_is_on None (Priority b) e c g = absurd cc
part_is_on None (RstStream b) e c g = absurd cc
part_is_on None (Settings b) e c g = absurd cc
part_is_on None (PushPromise b) e c g = absurd cc
part_is_on None (Ping b) e c g = absurd cc
part_is_on None (GoAway b) e c g = absurd cc
part_is_on None (WindowUpdate b) e c g = absurd cc
part_is_on None (Continuation b) e c g = absurd cc
part_is_on None (Unknown other b) e c g = absurd cc
part_is_on (Some block) (Continuation b) e c g = ap (λ (d : Block). d.stream) (sym (some_is _ c g)) ∙ sym (by (b.stream == block.stream) refl e)
  where
    by : (t : Bool) → (b.stream == block.stream) ≡ t → not t ≡ false → b.stream ≡ block.stream
    by true h i = eqb_is b.stream block.stream h
    by false h i = absurd cc
part_is_on (Some block) (Headers b) e c g = absurd cc
part_is_on (Some block) (Content b) e c g = absurd cc
part_is_on (Some block) (Priority b) e c g = absurd cc
part_is_on (Some block) (RstStream b) e c g = absurd cc
part_is_on (Some block) (Settings b) e c g = absurd cc
part_is_on (Some block) (PushPromise b) e c g = absurd cc
part_is_on (Some block) (Ping b) e c g = absurd cc
part_is_on (Some block) (GoAway b) e c g = absurd cc
part_is_on (Some block) (WindowUpdate b) e c g = absurd cc
part_is_on (Some block) (Unknown other b) e c g = absurd cc

pub whole_is_on : (o : Option Block) (f : Frame) → PartIsOn o f → StandsOn o f
whole_is_on o f on b e = on b (when_some (has_end_headers f) (block_with o f) b e)
  where
    when_some : (t : Bool) (p : Option Block) (b : Block) → (if t then p else None) ≡ Some b → p ≡ Some b
    when_some true p b e = e
    when_some false p b e = absurd cc

-- ---- what a frame ends

abbrev pub last_of : Option Block → Bool
last_of None = false
last_of (Some b) = b.last

-- the frame ends its side of its stream
abbrev pub ends_by : List Frame → Frame → Bool
ends_by fs f = is_data f && has_end_stream f || last_of (completed fs f)

regroup : (a b d e l t : Bool) → ((a || ((d && e && t) || false)) || (b || (l && t))) ≡ ((a || b) || ((d && e || l) && t))
regroup true b d e l t = refl
regroup false true true true l true = refl
regroup false true true true l false = refl
regroup false true true false l t = refl
regroup false true false e l t = refl
regroup false false true true l true = refl
regroup false false true true true false = refl
regroup false false true true false false = refl
regroup false false true false l t = refl
regroup false false false e l t = refl

last_on : (o : Option Block) (k id : ℕ) → ((b : Block) → o ≡ Some b → b.stream ≡ k) → list_any (is_last_on id) (option_to_list o) ≡ (last_of o && k == id)
last_on None k id on = refl
last_on (Some b) k id on = or_nothing (b.last && b.stream == id) ∙ ap (λ (n : ℕ). b.last && n == id) (on b refl)

pub ended_heard : (fs : List Frame) (f : Frame) (id : ℕ) → StandsOn (open_block fs) f → is_ended_by (fs ++ f ∷ []) id ≡ (is_ended_by fs id || ends_by fs f && stream_of f == id)
ended_heard fs f id on =
    ap (λ (bs : List Block). list_any (λ g. is_data g && has_end_stream g && stream_of g == id) (fs ++ f ∷ []) || list_any (is_last_on id) bs) (header_blocks_grow.blocks_push fs f)
    ∙ ap (λ (t : Bool). t || list_any (is_last_on id) (blocks fs ++ option_to_list (completed fs f))) (list_any-append (λ g. is_data g && has_end_stream g && stream_of g == id) fs (f ∷ []))
    ∙ ap (λ (t : Bool). list_any (λ g. is_data g && has_end_stream g && stream_of g == id) fs || (is_data f && has_end_stream f && stream_of f == id || false) || t)
    (list_any-append (is_last_on id) (blocks fs) (option_to_list (completed fs f)) ∙ ap (λ (t : Bool). list_any (is_last_on id) (blocks fs) || t) (last_on (completed fs f) (stream_of f) id on))
    ∙ regroup (list_any (λ g. is_data g && has_end_stream g && stream_of g == id) fs) (list_any (is_last_on id) (blocks fs)) (is_data f) (has_end_stream f) (last_of (completed fs f)) (stream_of f == id)

head_on : (o : Option Block) (k id : ℕ) → ((b : Block) → o ≡ Some b → b.stream ≡ k) → list_any (λ b. b.stream == id) (option_to_list o) ≡ (is_some o && k == id)
head_on None k id on = refl
head_on (Some b) k id on = or_nothing (b.stream == id) ∙ ap (λ (n : ℕ). n == id) (on b refl)

pub head_heard : (fs : List Frame) (f : Frame) (id : ℕ) → StandsOn (open_block fs) f → has_head (fs ++ f ∷ []) id ≡ (has_head fs id || is_some (completed fs f) && stream_of f == id)
head_heard fs f id on =
    ap (list_any (λ b. b.stream == id)) (header_blocks_grow.blocks_push fs f) ∙ list_any-append (λ b. b.stream == id) (blocks fs) (option_to_list (completed fs f))
    ∙ ap (λ (t : Bool). has_head fs id || t) (head_on (completed fs f) (stream_of f) id on)

-- ---- a stream, by what was received on it

abbrev pub heard_as : H2Limits → List Frame → ℕ → Bool → Bool → ℕ → ℕ → Stream
heard_as limits ss id ended head given used = record {
  id = id;
  is_closed_local = is_ended_by ss id;
  is_closed_remote = ended;
  has_head = head;
  room = 2147483648 + given - spent_on id ss;
  receive = limits.window + granted_on id ss - used;
}

pub same_heard : (limits : H2Limits) (ss : List Frame) (id : ℕ) (e d h i : Bool) (g v u w : ℕ) → e ≡ d → h ≡ i → g ≡ v → u ≡ w → heard_as limits ss id e h g u ≡ heard_as limits ss id d i v w
same_heard limits ss id e d h i g v u w p q r t =
    ap (λ (z : Bool). heard_as limits ss id z h g u) p ∙ ap (λ (z : Bool). heard_as limits ss id d z g u) q ∙ ap (λ (z : ℕ). heard_as limits ss id d i z u) r ∙ ap (λ (z : ℕ). heard_as limits ss id d i v z) t

and_false : (e t : Bool) → t ≡ false → (e && t) ≡ false
and_false true t p = p
and_false false t p = refl

and_true : (e t : Bool) → t ≡ true → (e && t) ≡ e
and_true true t p = p
and_true false t p = refl

no_more : (w t : Bool) (n m : ℕ) → t ≡ false → m + (if w && t then n else 0) ≡ m
no_more true t n m e = omega (arith, ap (λ (b : Bool). if b then n else 0) e)
no_more false t n m e = omega arith

some_more : (w t : Bool) (n m : ℕ) → t ≡ true → m + (if w && t then n else 0) ≡ m + (if w then n else 0)
some_more true t n m e = ap (λ (b : Bool). m + (if b then n else 0)) e
some_more false t n m e = refl

swapped : (a r b : Bool) → ((a || r) || b) ≡ ((a || b) || r)
swapped true r b = refl
swapped false true true = refl
swapped false true false = refl
swapped false false true = refl
swapped false false false = refl

-- the frame begins a stream
abbrev pub begins_now : Role → List Step → Frame → Bool
begins_now role x f = not (is_client role) && is_new (of_client role x) f

module _ (role : Role) (limits : H2Limits) (x : List Step) (f : Frame) (on : StandsOn (open_block (received x)) f) where
  abbrev k : ℕ
  k = stream_of f

  abbrev pub after : List Step
  after = x ++ Received f ∷ []

  stream_heard : (id : ℕ) (ended head : Bool) (given used : ℕ) → (is_ended_by (received x) id || ends_by (received x) f && k == id) ≡ ended → (has_head (received x) id || is_some (completed (received x) f) && k == id) ≡ head →
      granted_on id (received x) + (if is_window_update f && k == id then increment_of f else 0) ≡ given → spent_on id (received x) + (if k == id then counted f else 0) ≡ used → stream_at limits after id ≡ heard_as limits (sent x) id ended head given used
  stream_heard id ended head given used p q r t =
      ap (λ (ss : List Frame). stream_by limits (received after) ss id) (sent_received x f) ∙ ap (λ (rs : List Frame). stream_by limits rs (sent x) id) (received_push x f)
      ∙ same_heard limits (sent x) id (is_ended_by (received x ++ f ∷ []) id) ended (has_head (received x ++ f ∷ []) id) head (granted_on id (received x ++ f ∷ [])) given (spent_on id (received x ++ f ∷ [])) used
      (ended_heard (received x) f id on ∙ p) (head_heard (received x) f id on ∙ q) (window_sums_grow.granted_push id (received x) f ∙ r) (window_sums_grow.spent_on_push id (received x) f ∙ t)

  pub other_same : (id : ℕ) → (id ≡ k → ⊥) → stream_at limits after id ≡ stream_at limits x id
  other_same id g =
      let t : (k == id) ≡ false = isnt id k (λ h. g (sym h)) in
      stream_heard id (is_ended_by (received x) id) (has_head (received x) id) (granted_on id (received x)) (spent_on id (received x))
      (or_false (is_ended_by (received x) id) (ends_by (received x) f && k == id) (and_false (ends_by (received x) f) (k == id) t))
      (or_false (has_head (received x) id) (is_some (completed (received x) f) && k == id) (and_false (is_some (completed (received x) f)) (k == id) t))
      (no_more (is_window_update f) (k == id) (increment_of f) (granted_on id (received x)) t)
      (no_more true (k == id) (counted f) (spent_on id (received x)) t)

  pub this_heard : stream_at limits after k ≡ heard_as limits (sent x) k (is_ended_by (received x) k || ends_by (received x) f) (has_head (received x) k || is_some (completed (received x) f)) (granted_on k (received x) + (if is_window_update f then increment_of f else 0)) (spent_on k (received x) + counted f)
  this_heard =
      let t : (k == k) ≡ true = self_eq k in
      stream_heard k (is_ended_by (received x) k || ends_by (received x) f) (has_head (received x) k || is_some (completed (received x) f)) (granted_on k (received x) + (if is_window_update f then increment_of f else 0)) (spent_on k (received x) + counted f)
      (ap (λ (b : Bool). is_ended_by (received x) k || b) (and_true (ends_by (received x) f) (k == k) t))
      (ap (λ (b : Bool). has_head (received x) k || b) (and_true (is_some (completed (received x) f)) (k == k) t))
      (some_more (is_window_update f) (k == k) (increment_of f) (granted_on k (received x)) t)
      (some_more true (k == k) (counted f) (spent_on k (received x)) t)

  pub reset_heard : (id : ℕ) → is_reset after id ≡ (is_reset x id || is_rst_stream f && k == id)
  reset_heard id =
      ap (λ (ss : List Frame). has_rst_stream (received after) id || has_rst_stream ss id) (sent_received x f)
      ∙ ap (λ (rs : List Frame). has_rst_stream rs id || has_rst_stream (sent x) id) (received_push x f)
      ∙ ap (λ (b : Bool). b || has_rst_stream (sent x) id) (reset_push (received x) f id)
      ∙ swapped (has_rst_stream (received x) id) (is_rst_stream f && k == id) (has_rst_stream (sent x) id)

  here_same : (id : ℕ) → is_ended_by (sent after) id ≡ is_ended_by (sent x) id
  here_same id = ap (λ (ss : List Frame). is_ended_by ss id) (sent_received x f)

  there_heard : (id : ℕ) → is_ended_by (received after) id ≡ (is_ended_by (received x) id || ends_by (received x) f && k == id)
  there_heard id = ap (λ (rs : List Frame). is_ended_by rs id) (received_push x f) ∙ ended_heard (received x) f id on

  -- ---- what begins

  begins_heard : (id : ℕ) → begins role id x (Received f) ≡ (begins_now role x f && k == id)
  begins_heard id = by role
    where
      by : (r : Role) → begins r id x (Received f) ≡ (begins_now r x f && k == id)
      by Server = or_nothing (is_new (received x) f && k == id)
      by Client = refl

  pub begun_heard : (id : ℕ) → is_begun role after id ≡ (is_begun role x id || begins_now role x f && k == id)
  begun_heard id = begun_push role x (Received f) id ∙ ap (λ (b : Bool). is_begun role x id || b) (begins_heard id)

  pub begun_list : begun role after ≡ begun role x ++ (if begins_now role x f then k ∷ [] else [])
  begun_list = by role
    where
      by : (r : Role) → begun r after ≡ begun r x ++ (if begins_now r x f then k ∷ [] else [])
      by Server = begun_list_push Server x (Received f) ∙ ap (λ (l : List ℕ). begun Server x ++ l) (append-nil (if is_new (received x) f then k ∷ [] else []))
      by Client = begun_list_push Client x (Received f)

  greatest : (h o : Bool) (m n : ℕ) → (if h && o then max m n else m) ≡ (if h && o && nat_lt m n then n else m)
  greatest true true m n = by (nat_lt m n) refl
    where
      by : (t : Bool) → nat_lt m n ≡ t → max m n ≡ (if t then n else m)
      by true e = grind (arith, nat_tests)
      by false e = grind (arith, nat_tests)
  greatest true false m n = refl
  greatest false o m n = refl

  pub highest_heard : highest (of_client role after) ≡ (if begins_now role x f then k else highest (of_client role x))
  highest_heard = by role
    where
      by : (r : Role) → highest (of_client r after) ≡ (if begins_now r x f then k else highest (of_client r x))
      by Server = ap highest (received_push x f) ∙ highest_push (received x) f ∙ greatest (is_headers f) (is_odd k) (highest (received x)) k
      by Client = ap highest (sent_received x f)

  -- ---- what lives

  pub live_other : (id : ℕ) → (id ≡ k → ⊥) → is_live role after id ≡ is_live role x id
  live_other id g =
      let t : (k == id) ≡ false = isnt id k (λ h. g (sym h)) in
      live_by role x after id (is_begun role x id) (is_reset x id) (is_ended_by (received x) id) (is_ended_by (sent x) id)
      (begun_heard id ∙ or_false (is_begun role x id) (begins_now role x f && k == id) (and_false (begins_now role x f) (k == id) t))
      (reset_heard id ∙ or_false (is_reset x id) (is_rst_stream f && k == id) (and_false (is_rst_stream f) (k == id) t))
      (there_heard id ∙ or_false (is_ended_by (received x) id) (ends_by (received x) f && k == id) (and_false (ends_by (received x) f) (k == id) t))
      (here_same id)

  pub live_this : is_live role after k ≡ ((is_begun role x k || begins_now role x f) && not ((is_reset x k || is_rst_stream f) || (is_ended_by (received x) k || ends_by (received x) f) && is_ended_by (sent x) k))
  live_this =
      let t : (k == k) ≡ true = self_eq k in
      live_by role x after k (is_begun role x k || begins_now role x f) (is_reset x k || is_rst_stream f) (is_ended_by (received x) k || ends_by (received x) f) (is_ended_by (sent x) k)
      (begun_heard k ∙ ap (λ (b : Bool). is_begun role x k || b) (and_true (begins_now role x f) (k == k) t))
      (reset_heard k ∙ ap (λ (b : Bool). is_reset x k || b) (and_true (is_rst_stream f) (k == k) t))
      (there_heard k ∙ ap (λ (b : Bool). is_ended_by (received x) k || b) (and_true (ends_by (received x) f) (k == k) t))
      (here_same k)
