-- What one more sent frame changes of a stream.
use Rattle.std.proofs.Common.{◌≡◌, ℕ, ◌+◌, ◌-◌, max, Bool, true, false, not, ◌&&◌, ◌||◌, List, [], ◌∷◌, ◌++◌, Option, Some, None, refl, sym, ap, ◌∙◌, arith}
use Rattle.std.specs.Prelude.{option_to_list, nat_lt, ◌==◌, if◌then◌else◌}
use Rattle.std.specs.List.{list_any}
use Rattle.std.proofs.lemmas.List.{append-nil}
use Rattle.std.proofs.lemmas.List.Folds.{list_any-append}
use Rattle.h2_frames.specs.declared.frame.Frame.{Frame}
use Rattle.h2_frames.specs.declared.frame.Frame.TheVariants.{Content, RstStream}
use Rattle.h2_frames.specs.declared.frame.FrameBody.{FrameBody}
use Rattle.h2_exchange.specs.declared.limits.H2Limits.{H2Limits}
use Rattle.h2_exchange.specs.declared.role.Role.{Role}
use Rattle.h2_exchange.specs.declared.role.Role.TheVariants.{Client, Server}
use Rattle.h2_exchange.specs.Blocks.{Block, block_with, open_block, blocks}
use Rattle.h2_exchange.specs.Exchange.{Step, Sent, received, sent}
use Rattle.h2_exchange.specs.Frames.{stream_of, is_data, is_headers, is_rst_stream, is_window_update, has_end_stream, has_end_headers, increment_of, counted}
use Rattle.h2_exchange.specs.Streams.{of_client, highest, is_odd, begins, begun, is_begun, is_live, is_over, is_reset, is_ended_by, is_last_on, has_rst_stream, has_head}
use Rattle.h2_exchange.specs.Windows.{granted_on, spent_on}
use Rattle.h2_exchange.proofs.Looking.{or_nothing}
use Rattle.h2_exchange.proofs.Steps.{received_sent, sent_push, header_blocks_grow, window_sums_grow, begun_push, begun_list_push, highest_push}
use Rattle.h2_streams.specs.declared.live.Stream.{Stream}
use Rattle.h2_streams.specs.Stands.{stream_by, stream_at}
use Rattle.h2_streams.proofs.Lists.{isnt}

-- ---- a frame that belongs to no header block

if_none : {A : Type 0} (c : Bool) (o : Option A) → o ≡ None → (if c then o else None) ≡ None
if_none true o e = e
if_none false o e = refl

pub data_is_no_block : (o : Option Block) (b : FrameBody) → block_with o (Content b) ≡ None
data_is_no_block None b = refl
data_is_no_block (Some block) b = refl

pub reset_is_no_block : (o : Option Block) (b : FrameBody) → block_with o (RstStream b) ≡ None
reset_is_no_block None b = refl
reset_is_no_block (Some block) b = refl

pub blocks_same : (fs : List Frame) (f : Frame) → block_with (open_block fs) f ≡ None → blocks (fs ++ f ∷ []) ≡ blocks fs
blocks_same fs f e =
    header_blocks_grow.blocks_push fs f
    ∙ ap (λ (o : Option Block). blocks fs ++ option_to_list o) (if_none (has_end_headers f) (block_with (open_block fs) f) e)
    ∙ append-nil (blocks fs)

turned : (a b d : Bool) → ((a || (d || false)) || b) ≡ ((a || b) || d)
turned true b d = refl
turned false true true = refl
turned false false true = refl
turned false true false = refl
turned false false false = refl

pub ended_push : (fs : List Frame) (f : Frame) (id : ℕ) → block_with (open_block fs) f ≡ None → is_ended_by (fs ++ f ∷ []) id ≡ (is_ended_by fs id || is_data f && has_end_stream f && stream_of f == id)
ended_push fs f id e =
    ap (λ (bs : List Block). list_any (λ g. is_data g && has_end_stream g && stream_of g == id) (fs ++ f ∷ []) || list_any (is_last_on id) bs) (blocks_same fs f e)
    ∙ ap (λ (a : Bool). a || list_any (is_last_on id) (blocks fs)) (list_any-append (λ g. is_data g && has_end_stream g && stream_of g == id) fs (f ∷ []))
    ∙ turned (list_any (λ g. is_data g && has_end_stream g && stream_of g == id) fs) (list_any (is_last_on id) (blocks fs)) (is_data f && has_end_stream f && stream_of f == id)

pub reset_push : (fs : List Frame) (f : Frame) (id : ℕ) → has_rst_stream (fs ++ f ∷ []) id ≡ (has_rst_stream fs id || is_rst_stream f && stream_of f == id)
reset_push fs f id = list_any-append (λ g. is_rst_stream g && stream_of g == id) fs (f ∷ []) ∙ ap (λ (b : Bool). has_rst_stream fs id || b) (or_nothing (is_rst_stream f && stream_of f == id))

pub rsts_or : (a b c : Bool) → (a || (b || c)) ≡ ((a || b) || c)
rsts_or true b c = refl
rsts_or false b c = refl

-- ---- a stream, by what was sent on it

abbrev pub made : H2Limits → List Frame → ℕ → Bool → ℕ → ℕ → Stream
made limits rs id ended used given = record {
  id = id;
  is_closed_local = ended;
  is_closed_remote = is_ended_by rs id;
  has_head = has_head rs id;
  room = 2147483648 + granted_on id rs - used;
  receive = limits.window + given - spent_on id rs;
}

pub same_made : (limits : H2Limits) (rs : List Frame) (id : ℕ) (e d : Bool) (u v g h : ℕ) → e ≡ d → u ≡ v → g ≡ h → made limits rs id e u g ≡ made limits rs id d v h
same_made limits rs id e d u v g h p q r =
    ap (λ (z : Bool). made limits rs id z u g) p ∙ ap (λ (z : ℕ). made limits rs id d z g) q ∙ ap (λ (z : ℕ). made limits rs id d v z) r

pub if_zero : (b : Bool) → ◌≡◌ {A = ℕ} (if b then 0 else 0) 0
if_zero true = refl
if_zero false = refl

pub plus_if_zero : (n : ℕ) (b : Bool) → n + (if b then 0 else 0) ≡ n
plus_if_zero n b = omega (arith, if_zero b)

pub or_false : (a d : Bool) → d ≡ false → (a || d) ≡ a
or_false a d e = ap (λ (x : Bool). a || x) e ∙ or_nothing a

-- ---- what a step leaves

pub nothing_new : (role : Role) (x : List Step) (f : Frame) → is_headers f ≡ false → begun role (x ++ Sent f ∷ []) ≡ begun role x
nothing_new Server x f e = begun_list_push Server x (Sent f) ∙ append-nil (begun Server x)
nothing_new Client x f e =
    begun_list_push Client x (Sent f)
    ∙ ap (λ (h : Bool). begun Client x ++ ((if h && is_odd (stream_of f) && nat_lt (highest (sent x)) (stream_of f) then stream_of f ∷ [] else []) ++ [])) e
    ∙ append-nil (begun Client x)

pub none_begins : (role : Role) (x : List Step) (f : Frame) (id : ℕ) → is_headers f ≡ false → begins role id x (Sent f) ≡ false
none_begins Server x f id e = refl
none_begins Client x f id e = ap (λ (h : Bool). (h && is_odd (stream_of f) && nat_lt (highest (sent x)) (stream_of f)) && stream_of f == id || false) e

pub begun_same : (role : Role) (x : List Step) (f : Frame) (id : ℕ) → is_headers f ≡ false → is_begun role (x ++ Sent f ∷ []) id ≡ is_begun role x id
begun_same role x f id e = begun_push role x (Sent f) id ∙ or_false (is_begun role x id) (begins role id x (Sent f)) (none_begins role x f id e)

pub highest_same : (role : Role) (x : List Step) (f : Frame) → is_headers f ≡ false → highest (of_client role (x ++ Sent f ∷ [])) ≡ highest (of_client role x)
highest_same Server x f e = ap highest (received_sent x f)
highest_same Client x f e =
    ap highest (sent_push x f) ∙ highest_push (sent x) f
    ∙ ap (λ (h : Bool). if h && is_odd (stream_of f) then max (highest (sent x)) (stream_of f) else highest (sent x)) e

-- the stream behind one more sent frame that belongs to no header block
pub stream_sent : (limits : H2Limits) (x : List Step) (f : Frame) (id : ℕ) (ended : Bool) (used given : ℕ) → block_with (open_block (sent x)) f ≡ None →
    (is_ended_by (sent x) id || is_data f && has_end_stream f && stream_of f == id) ≡ ended →
    spent_on id (sent x) + (if stream_of f == id then counted f else 0) ≡ used →
    granted_on id (sent x) + (if is_window_update f && stream_of f == id then increment_of f else 0) ≡ given →
    stream_at limits (x ++ Sent f ∷ []) id ≡ made limits (received x) id ended used given
stream_sent limits x f id ended used given e p q r =
    ap (λ (rs : List Frame). stream_by limits rs (sent (x ++ Sent f ∷ [])) id) (received_sent x f)
    ∙ ap (λ (ss : List Frame). stream_by limits (received x) ss id) (sent_push x f)
    ∙ same_made limits (received x) id (is_ended_by (sent x ++ f ∷ []) id) ended (spent_on id (sent x ++ f ∷ [])) used (granted_on id (sent x ++ f ∷ [])) given
    (ended_push (sent x) f id e ∙ p) (window_sums_grow.spent_on_push id (sent x) f ∙ q) (window_sums_grow.granted_push id (sent x) f ∙ r)

pub reset_sent : (x : List Step) (f : Frame) (id : ℕ) → is_reset (x ++ Sent f ∷ []) id ≡ (is_reset x id || is_rst_stream f && stream_of f == id)
reset_sent x f id =
    ap (λ (rs : List Frame). has_rst_stream rs id || has_rst_stream (sent (x ++ Sent f ∷ [])) id) (received_sent x f)
    ∙ ap (λ (ss : List Frame). has_rst_stream (received x) id || has_rst_stream ss id) (sent_push x f)
    ∙ ap (λ (b : Bool). has_rst_stream (received x) id || b) (reset_push (sent x) f id)
    ∙ rsts_or (has_rst_stream (received x) id) (has_rst_stream (sent x) id) (is_rst_stream f && stream_of f == id)

-- whether a stream is live, by its parts
pub live_by : (role : Role) (x y : List Step) (id : ℕ) (b r t h : Bool) → is_begun role y id ≡ b → is_reset y id ≡ r → is_ended_by (received y) id ≡ t → is_ended_by (sent y) id ≡ h → is_live role y id ≡ (b && not (r || t && h))
live_by role x y id b r t h p q u v =
    ap (λ (z : Bool). z && not (is_over y id)) p ∙ ap (λ (z : Bool). b && not (z || is_ended_by (received y) id && is_ended_by (sent y) id)) q
    ∙ ap (λ (z : Bool). b && not (r || z && is_ended_by (sent y) id)) u ∙ ap (λ (z : Bool). b && not (r || t && z)) v

pub dead_by_reset : (b r o : Bool) → (b && not ((r || true) || o)) ≡ false
dead_by_reset true true o = refl
dead_by_reset true false o = refl
dead_by_reset false r o = refl

-- the test of another stream
pub isnt_on : (k n id : ℕ) → n ≡ k → (id ≡ k → ⊥) → (n == id) ≡ false
isnt_on k n id e f = isnt id n (λ g. f (sym g ∙ e))
