-- A header block that a side begins is completed, where its frames stand in their places and none is left open.
use Rattle.std.proofs.Common.{◌≡◌, ℕ, ◌+◌, Bool, ◌||◌, ◌&&◌, false, true, List, [], ◌∷◌, ◌++◌, Option, Some, None, refl, sym, ap, subst, ◌∙◌, append_assoc}
use Rattle.std.specs.Prelude.{if◌then◌else◌, option_to_list, option_map, ◌==◌}
use Rattle.std.specs.List.{list_any}
use Rattle.std.proofs.lemmas.List.Folds.{list_any-append}
use Rattle.h2_frames.specs.declared.frame.Frame.{Frame}
use Rattle.h2_frames.specs.declared.frame.Frame.TheVariants.{Content, Headers, Priority, RstStream, Settings, PushPromise, Ping, GoAway, WindowUpdate, Continuation, Unknown}
use Rattle.h2_exchange.specs.declared.role.Role.TheVariants.{Client}
use Rattle.h2_exchange.specs.Blocks.{Block, open_behind, open_block, blocks_behind, left_open, completed_by}
use Rattle.h2_exchange.specs.Exchange.{Step, Received, Sent, sent, some_step}
use Rattle.h2_exchange.specs.Frames.{stream_of, is_headers, has_end_headers}
use Rattle.h2_exchange.specs.Rules.{breaks_block_on}
use Rattle.h2_exchange.specs.Streams.{is_odd, begins, is_begun, has_head}
use Rattle.h2_exchange.proofs.Steps.{header_blocks_grow, sent_push, sent_received}
use Rattle.http_connection.specs.ConnectionTrace.{ArePlaced}

abbrev place_of : Option Block → Option ℕ
place_of o = option_map (λ b. b.stream) o

-- each of these frames stands where it may, behind this open block
abbrev StandWell : Option Block → List Frame → Type 0
StandWell o [] = Unit {0}
StandWell o (f ∷ fs) = (breaks_block_on (place_of o) f ≡ false) × StandWell (left_open o f) fs

well_from : (all past x : List Step) → ArePlaced all → all ≡ past ++ x → StandWell (open_block (sent past)) (sent x)
well_from all past [] h e = tt
well_from all past (Received f ∷ x) h e =
    subst (λ (fs : List Frame). StandWell (open_block fs) (sent x)) (sent_received past f) (well_from all (past ++ Received f ∷ []) x h (e ∙ sym (append_assoc past (Received f ∷ []) x)))
well_from all past (Sent f ∷ x) h e = (
  (h past x f e).block,
  subst (λ (o : Option Block). StandWell o (sent x)) (ap open_block (sent_push past f) ∙ header_blocks_grow.open_push (sent past) f) (well_from all (past ++ Sent f ∷ []) x h (e ∙ sym (append_assoc past (Sent f ∷ []) x))),
)

abbrev on : ℕ → Block → Bool
on id b = b.stream == id

or_first : (a b : Bool) → a ≡ true → (a || b) ≡ true
or_first true b e = refl
or_first false b e = absurd cc

or_later : (a b : Bool) → b ≡ true → (a || b) ≡ true
or_later true b e = refl
or_later false b e = e

-- a block that goes on to this one is completed by its last frame, or later
goes_on : (id : ℕ) (t : Bool) (b : Block) (fs : List Frame) → (b.stream == id) ≡ true → open_behind (if t then None else Some b) fs ≡ None → StandWell (if t then None else Some b) fs →
    (StandWell (Some b) fs → open_behind (Some b) fs ≡ None → list_any (on id) (blocks_behind (Some b) fs) ≡ true) →
    list_any (on id) (option_to_list (if t then Some b else None) ++ blocks_behind (if t then None else Some b) fs) ≡ true
goes_on id true b fs is closed well later = or_first (b.stream == id) (list_any (on id) (blocks_behind None fs)) is
goes_on id false b fs is closed well later = later well closed

completes : (id : ℕ) (o : Block) (fs : List Frame) → (o.stream == id) ≡ true → StandWell (Some o) fs → open_behind (Some o) fs ≡ None → list_any (on id) (blocks_behind (Some o) fs) ≡ true
completes id o [] is well closed = absurd cc
completes id o (Continuation b ∷ fs) is (place, well) closed =
    goes_on id (has_end_headers (Continuation b)) (record { stream = o.stream; last = o.last; text = o.text ++ b.payload; frames = o.frames + 1 }) fs is closed well
    (λ w k. completes id (record { stream = o.stream; last = o.last; text = o.text ++ b.payload; frames = o.frames + 1 }) fs is w k)
completes id o (Content b ∷ fs) is (place, well) closed = absurd cc
completes id o (Headers b ∷ fs) is (place, well) closed = absurd cc
completes id o (Priority b ∷ fs) is (place, well) closed = absurd cc
completes id o (RstStream b ∷ fs) is (place, well) closed = absurd cc
completes id o (Settings b ∷ fs) is (place, well) closed = absurd cc
completes id o (PushPromise b ∷ fs) is (place, well) closed = absurd cc
completes id o (Ping b ∷ fs) is (place, well) closed = absurd cc
completes id o (GoAway b ∷ fs) is (place, well) closed = absurd cc
completes id o (WindowUpdate b ∷ fs) is (place, well) closed = absurd cc
completes id o (Unknown number b ∷ fs) is (place, well) closed = absurd cc

abbrev heads_on : ℕ → Frame → Bool
heads_on id f = is_headers f && stream_of f == id

-- where HEADERS of a stream stand, its block is completed
stands : (id : ℕ) (o : Option Block) (fs : List Frame) → StandWell o fs → open_behind o fs ≡ None → list_any (heads_on id) fs ≡ true → list_any (on id) (blocks_behind o fs) ≡ true
stands id o [] well closed e = absurd cc
stands id o (f ∷ fs) (place, well) closed e = by (heads_on id f) (list_any (heads_on id) fs) refl (λ later. behind (stands id (left_open o f) fs well closed later)) e
  where
    behind : list_any (on id) (blocks_behind (left_open o f) fs) ≡ true → list_any (on id) (blocks_behind o (f ∷ fs)) ≡ true
    behind h = list_any-append (on id) (option_to_list (completed_by o f)) (blocks_behind (left_open o f) fs) ∙ or_later (list_any (on id) (option_to_list (completed_by o f))) (list_any (on id) (blocks_behind (left_open o f) fs)) h

    now : (o : Option Block) (f : Frame) → breaks_block_on (place_of o) f ≡ false → StandWell (left_open o f) fs → open_behind (left_open o f) fs ≡ None → heads_on id f ≡ true → list_any (on id) (blocks_behind o (f ∷ fs)) ≡ true
    now None (Headers b) place well closed is =
        goes_on id (has_end_headers (Headers b)) _ fs is closed well (λ w k. completes id _ fs is w k)
    now (Some o) (Headers b) place well closed is = absurd cc
    now o (Content b) place well closed is = absurd cc
    now o (Priority b) place well closed is = absurd cc
    now o (RstStream b) place well closed is = absurd cc
    now o (Settings b) place well closed is = absurd cc
    now o (PushPromise b) place well closed is = absurd cc
    now o (Ping b) place well closed is = absurd cc
    now o (GoAway b) place well closed is = absurd cc
    now o (WindowUpdate b) place well closed is = absurd cc
    now o (Continuation b) place well closed is = absurd cc
    now o (Unknown number b) place well closed is = absurd cc

    by : (a b : Bool) → heads_on id f ≡ a → (b ≡ true → list_any (on id) (blocks_behind o (f ∷ fs)) ≡ true) → (a || b) ≡ true → list_any (on id) (blocks_behind o (f ∷ fs)) ≡ true
    by true b is later e = now o f place well closed is
    by false b is later e = later e

new_heads : (h odd high here : Bool) → ((h && odd && high && here) || false) ≡ true → (h && here) ≡ true
new_heads true true true here e = by here e
  where
    by : (t : Bool) → (t || false) ≡ true → t ≡ true
    by true e = refl
    by false e = absurd cc
new_heads true true false here e = absurd cc
new_heads true false high here e = absurd cc
new_heads false odd high here e = absurd cc

or_either : (a b c : Bool) → (a ≡ true → c ≡ true) → (a || b) ≡ true → (c || b) ≡ true
or_either true b c h e = or_first c b (h refl)
or_either false b c h e = or_later c b e

begins_heads : (id : ℕ) (past x : List Step) → some_step (begins Client id) past x ≡ true → list_any (heads_on id) (sent x) ≡ true
begins_heads id past [] e = absurd cc
begins_heads id past (Received f ∷ x) e = begins_heads id (past ++ Received f ∷ []) x e
begins_heads id past (Sent f ∷ x) e =
    by (begins Client id past (Sent f)) (some_step (begins Client id) (past ++ Sent f ∷ []) x)
    (new_heads (is_headers f) (is_odd (stream_of f)) _ (stream_of f == id))
    (begins_heads id (past ++ Sent f ∷ []) x) e
  where
    by : (a b : Bool) → (a ≡ true → heads_on id f ≡ true) → (b ≡ true → list_any (heads_on id) (sent x) ≡ true) → (a || b) ≡ true → list_any (heads_on id) (f ∷ sent x) ≡ true
    by true b now later e = or_first (heads_on id f) (list_any (heads_on id) (sent x)) (now refl)
    by false b now later e = or_later (heads_on id f) (list_any (heads_on id) (sent x)) (later e)

-- a stream that a client began has its head
pub head_stands : (x : List Step) (id : ℕ) → ArePlaced x → open_block (sent x) ≡ None → is_begun Client x id ≡ true → has_head (sent x) id ≡ true
head_stands x id placed closed begun = stands id None (sent x) (well_from x [] x placed refl) closed (begins_heads id [] x begun)
