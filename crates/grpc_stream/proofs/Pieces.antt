-- How many bytes of data the frames of a side bring on a stream, and whether they end it.
use Rattle.std.proofs.Common.{◌≡◌, ℕ, zero, suc, ◌+◌, ◌<◌, ◌≤◌, Bool, ◌||◌, ◌&&◌, false, true, List, [], ◌∷◌, ◌++◌, length, Option, Some, None, map, refl, sym, ap, ◌∙◌, arith, append_assoc, sum_by}
use Rattle.std.specs.Prelude.{if◌then◌else◌, option_to_list, ◌==◌, Ok}
use Rattle.std.specs.List.{list_any, slice_get}
use Rattle.std.proofs.lemmas.List.{length-append}
use Rattle.std.proofs.lemmas.List.Folds.{list_any-append}
use Rattle.std.proofs.lemmas.List.Sums.{sum_by-append}
use Rattle.h2_frames.specs.declared.code.ErrorCode.{ErrorCode}
use Rattle.h2_frames.specs.declared.frame.Frame.{Frame}
use Rattle.h2_frames.specs.declared.frame.Frame.TheVariants.{Content, Headers, Priority, RstStream, Settings, PushPromise, Ping, GoAway, WindowUpdate, Continuation, Unknown}
use Rattle.h2_frames.specs.declared.frame.FrameBody.{FrameBody}
use Rattle.hpack_tables.specs.declared.field.Field.{Field}
use Rattle.h2_exchange.specs.Blocks.{Block, block_with, open_block, blocks, blocks_behind, left_open, completed, completed_by, unpadded}
use Rattle.h2_exchange.specs.Content.{ReadOver}
use Rattle.h2_exchange.specs.Exchange.{Step, Received, Sent, sent, collect}
use Rattle.h2_exchange.specs.Frames.{stream_of, is_data, has_padding, has_end_stream, has_end_headers, counted}
use Rattle.h2_exchange.specs.Requests.{IsRequest, IsRequestBody}
use Rattle.h2_exchange.specs.StreamParts.{Part, Fields, Piece, Stopped, StreamEnd, Trailers, IsOver, IsBody, IsResponse, read_part, block_part, part_of, parts}
use Rattle.h2_exchange.specs.Streams.{is_last_on, is_ended_by}
use Rattle.h2_exchange.specs.Windows.{spent_on}
use Rattle.h2_exchange.proofs.Steps.{header_blocks_grow}

abbrev pub size_in : Part → ℕ
size_in (Fields fields last) = 0
size_in (Piece bytes last) = length bytes
size_in (Stopped why) = 0

abbrev pub ends_in : Part → Bool
ends_in (Fields fields last) = last
ends_in (Piece bytes last) = last
ends_in (Stopped why) = false

one_more : (p : Part) (ps : List Part) → sum_by size_in (p ∷ ps) ≡ size_in p + sum_by size_in ps
one_more p ps =
    let alone : sum_by size_in (p ∷ []) ≡ 0 + size_in p = refl in
    omega (arith, alone, sum_by-append size_in (p ∷ []) ps)

-- ---- the bytes of a response and of a request

over_size : (ps : List Part) → IsOver ps → sum_by size_in ps ≡ 0
over_size [] h = refl
over_size (Stopped why ∷ []) h = refl
over_size (Stopped why ∷ p ∷ ps) h = absurd h
over_size (Fields fields last ∷ ps) h = absurd h
over_size (Piece bytes last ∷ ps) h = absurd h

body_size : (ps : List Part) (bytes : List ℕ) (close : StreamEnd) → IsBody ps bytes close → length bytes ≡ sum_by size_in ps
body_size [] bytes close (none, end) = ap length none
body_size (Piece piece false ∷ ps) bytes close (more, all, h) = omega (arith, one_more (Piece piece false) ps, ap length all, length-append piece more, body_size ps more close h)
body_size (Piece piece true ∷ ps) bytes close h = absurd h
body_size (Fields fields true ∷ ps) bytes close (none, end, sound, over) = omega (arith, one_more (Fields fields true) ps, ap length none, over_size ps over)
body_size (Fields fields false ∷ ps) bytes close h = absurd h
body_size (Stopped why ∷ []) bytes close (none, end) = ap length none
body_size (Stopped why ∷ p ∷ ps) bytes close h = absurd h

pub response_size : (head : List Field) (ps : List Part) (bytes : List ℕ) (close : StreamEnd) → IsResponse head ps bytes close → length bytes ≡ sum_by size_in ps
response_size head [] bytes close (none, end) = ap length none
response_size head (Stopped why ∷ []) bytes close (none, end) = ap length none
response_size head (Stopped why ∷ p ∷ ps) bytes close h = absurd h
response_size head (Piece piece last ∷ ps) bytes close h = absurd h
response_size head (Fields fields true ∷ ps) bytes close (none, end, sound, over) = omega (arith, one_more (Fields fields true) ps, ap length none, over_size ps over)
response_size head (Fields fields false ∷ []) bytes close (same, body) = body_size [] bytes close body
response_size head (Fields fields false ∷ Fields trailers true ∷ ps) bytes close h = absurd h
response_size head (Fields fields false ∷ Fields trailers false ∷ ps) bytes close (same, body) = absurd body
response_size head (Fields fields false ∷ Piece piece last ∷ ps) bytes close (same, body) = body_size (Piece piece last ∷ ps) bytes close body
response_size head (Fields fields false ∷ Stopped why ∷ ps) bytes close (same, body) = body_size (Stopped why ∷ ps) bytes close body

request_body_size : (ps : List Part) (bytes : List ℕ) (ended : Bool) → IsRequestBody ps bytes ended → length bytes ≡ sum_by size_in ps
request_body_size [] bytes ended (none, end) = ap length none
request_body_size (Piece piece false ∷ ps) bytes ended (more, all, h) = omega (arith, one_more (Piece piece false) ps, ap length all, length-append piece more, request_body_size ps more ended h)
request_body_size (Piece piece true ∷ ps) bytes ended (all, end, over) = omega (arith, one_more (Piece piece true) ps, ap length all, over_size ps over)
request_body_size (Fields fields last ∷ ps) bytes ended h = absurd h
request_body_size (Stopped why ∷ []) bytes ended (none, end) = ap length none
request_body_size (Stopped why ∷ p ∷ ps) bytes ended h = absurd h

pub request_size : (head : List Field) (ps : List Part) (bytes : List ℕ) (ended : Bool) → IsRequest head ps bytes ended → length bytes ≡ sum_by size_in ps
request_size head [] bytes ended (none, end) = ap length none
request_size head (Fields fields true ∷ ps) bytes ended (same, none, end, over) = omega (arith, one_more (Fields fields true) ps, ap length none, over_size ps over)
request_size head (Fields fields false ∷ ps) bytes ended (same, body) = request_body_size ps bytes ended body
request_size head (Piece piece last ∷ ps) bytes ended h = absurd h
request_size head (Stopped why ∷ ps) bytes ended h = absurd h

-- ---- their ends

body_end : (ps : List Part) (bytes : List ℕ) (close : StreamEnd) → IsBody ps bytes close → list_any ends_in ps ≡ true → (fields : List Field) × (close ≡ Trailers fields)
body_end [] bytes close h e = absurd cc
body_end (Piece piece false ∷ ps) bytes close (more, all, h) e = body_end ps more close h e
body_end (Piece piece true ∷ ps) bytes close h e = absurd h
body_end (Fields fields true ∷ ps) bytes close (none, end, sound, over) e = (fields, end)
body_end (Fields fields false ∷ ps) bytes close h e = absurd h
body_end (Stopped why ∷ []) bytes close h e = absurd cc
body_end (Stopped why ∷ p ∷ ps) bytes close h e = absurd h

pub response_end : (head : List Field) (ps : List Part) (bytes : List ℕ) (close : StreamEnd) → IsResponse head ps bytes close → list_any ends_in ps ≡ true → (fields : List Field) × (close ≡ Trailers fields)
response_end head [] bytes close h e = absurd cc
response_end head (Stopped why ∷ []) bytes close h e = absurd cc
response_end head (Stopped why ∷ p ∷ ps) bytes close h e = absurd h
response_end head (Piece piece last ∷ ps) bytes close h e = absurd h
response_end head (Fields fields true ∷ ps) bytes close (none, end, sound, over) e = (fields, end)
response_end head (Fields fields false ∷ []) bytes close (same, body) e = absurd cc
response_end head (Fields fields false ∷ Fields trailers true ∷ ps) bytes close h e = absurd h
response_end head (Fields fields false ∷ Fields trailers false ∷ ps) bytes close (same, body) e = absurd body
response_end head (Fields fields false ∷ Piece piece last ∷ ps) bytes close (same, body) e = body_end (Piece piece last ∷ ps) bytes close body e
response_end head (Fields fields false ∷ Stopped why ∷ ps) bytes close (same, body) e = body_end (Stopped why ∷ ps) bytes close body e

request_body_end : (ps : List Part) (bytes : List ℕ) (ended : Bool) → IsRequestBody ps bytes ended → list_any ends_in ps ≡ true → ended ≡ true
request_body_end [] bytes ended h e = absurd cc
request_body_end (Piece piece false ∷ ps) bytes ended (more, all, h) e = request_body_end ps more ended h e
request_body_end (Piece piece true ∷ ps) bytes ended (all, end, over) e = end
request_body_end (Fields fields last ∷ ps) bytes ended h e = absurd h
request_body_end (Stopped why ∷ []) bytes ended h e = absurd cc
request_body_end (Stopped why ∷ p ∷ ps) bytes ended h e = absurd h

pub request_end : (head : List Field) (ps : List Part) (bytes : List ℕ) (ended : Bool) → IsRequest head ps bytes ended → list_any ends_in ps ≡ true → ended ≡ true
request_end head [] bytes ended h e = absurd cc
request_end head (Fields fields true ∷ ps) bytes ended (same, none, end, over) e = end
request_end head (Fields fields false ∷ ps) bytes ended (same, body) e = request_body_end ps bytes ended body e
request_end head (Piece piece last ∷ ps) bytes ended h e = absurd h
request_end head (Stopped why ∷ ps) bytes ended h e = absurd h

-- ---- the bytes that frames bring

read_size : (last : Bool) (o : Option (List Field)) → sum_by size_in (read_part last o) ≡ 0
read_size last None = refl
read_size last (Some fields) = refl

block_size : (id : ℕ) (heads : List (List Field)) (past : List Frame) (o : Option Block) → sum_by size_in (block_part id heads past o) ≡ 0
block_size id heads past None = refl
block_size id heads past (Some b) = by (b.stream == id) (read_part b.last (slice_get heads (length (blocks past)))) (read_size b.last (slice_get heads (length (blocks past))))
  where
    by : (t : Bool) (ps : List Part) → sum_by size_in ps ≡ 0 → sum_by size_in (if t then ps else []) ≡ 0
    by true ps h = h
    by false ps h = refl

of_data : (t padded last : Bool) (payload : List ℕ) (others : List Part) → padded ≡ false → sum_by size_in others ≡ 0 →
    sum_by size_in (if t then Piece (unpadded padded payload) last ∷ [] else others) ≡ (if t then length payload else 0)
of_data t true last payload others none h = absurd cc
of_data true false last payload others none h = omega arith
of_data false false last payload others none h = h

of_reset : (t : Bool) (why : ErrorCode) (others : List Part) → sum_by size_in others ≡ 0 → sum_by size_in (if t then Stopped why ∷ [] else others) ≡ (if t then 0 else 0)
of_reset true why others h = refl
of_reset false why others h = h

of_other : (t : Bool) (others : List Part) → sum_by size_in others ≡ 0 → sum_by size_in others ≡ (if t then 0 else 0)
of_other true others h = h
of_other false others h = h

module _ (id : ℕ) (heads : List (List Field)) where
  left : (past : List Frame) (f : Frame) → sum_by size_in (block_part id heads past (completed past f)) ≡ 0
  left past f = block_size id heads past (completed past f)

  frame_size : (past : List Frame) (f : Frame) → ((b : FrameBody) → f ≡ Content b → has_padding (Content b) ≡ false) → sum_by size_in (part_of id heads past f) ≡ (if stream_of f == id then counted f else 0)
  frame_size past (Content b) h = of_data (b.stream == id) (has_padding (Content b)) (has_end_stream (Content b)) b.payload (block_part id heads past (completed past (Content b))) (h b refl) (left past (Content b))
  frame_size past (RstStream b) h = of_reset (b.stream == id) _ (block_part id heads past (completed past (RstStream b))) (left past (RstStream b))
  frame_size past (Headers b) h = of_other (b.stream == id) (block_part id heads past (completed past (Headers b))) (left past (Headers b))
  frame_size past (Priority b) h = of_other (b.stream == id) (block_part id heads past (completed past (Priority b))) (left past (Priority b))
  frame_size past (Settings b) h = of_other (b.stream == id) (block_part id heads past (completed past (Settings b))) (left past (Settings b))
  frame_size past (PushPromise b) h = of_other (b.stream == id) (block_part id heads past (completed past (PushPromise b))) (left past (PushPromise b))
  frame_size past (Ping b) h = of_other (b.stream == id) (block_part id heads past (completed past (Ping b))) (left past (Ping b))
  frame_size past (GoAway b) h = of_other (b.stream == id) (block_part id heads past (completed past (GoAway b))) (left past (GoAway b))
  frame_size past (WindowUpdate b) h = of_other (b.stream == id) (block_part id heads past (completed past (WindowUpdate b))) (left past (WindowUpdate b))
  frame_size past (Continuation b) h = of_other (b.stream == id) (block_part id heads past (completed past (Continuation b))) (left past (Continuation b))
  frame_size past (Unknown number b) h = of_other (b.stream == id) (block_part id heads past (completed past (Unknown number b))) (left past (Unknown number b))

  -- no sent DATA is padded
  abbrev AreUnpadded : List Step → Type 0
  AreUnpadded x = (past behind : List Step) (b : FrameBody) → x ≡ past ++ Sent (Content b) ∷ behind → has_padding (Content b) ≡ false

  sizes_from : (all past x : List Step) (early : List Frame) → AreUnpadded all → all ≡ past ++ x → sum_by size_in (collect (part_of id heads) early (sent x)) ≡ spent_on id (sent x)
  sizes_from all past [] early h e = refl
  sizes_from all past (Received f ∷ x) early h e = sizes_from all (past ++ Received f ∷ []) x early h (e ∙ sym (append_assoc past (Received f ∷ []) x))
  sizes_from all past (Sent f ∷ x) early h e =
      let now : sum_by size_in (collect (part_of id heads) early (sent (Sent f ∷ x))) ≡ sum_by size_in (part_of id heads early f ++ collect (part_of id heads) (early ++ f ∷ []) (sent x)) = refl in
      let alone : spent_on id (f ∷ []) ≡ 0 + (if stream_of f == id then counted f else 0) = refl in
      let counts : spent_on id (sent (Sent f ∷ x)) ≡ spent_on id (f ∷ []) + spent_on id (sent x) = sum_by-append (λ (g : Frame). if stream_of g == id then counted g else 0) (f ∷ []) (sent x) in
      omega (
        arith,
        now,
        alone,
        counts,
        sum_by-append size_in (part_of id heads early f) (collect (part_of id heads) (early ++ f ∷ []) (sent x)),
        frame_size early f (λ b same. h past x b (e ∙ ap (λ (g : Frame). past ++ Sent g ∷ x) same)),
        sizes_from all (past ++ Sent f ∷ []) x (early ++ f ∷ []) h (e ∙ sym (append_assoc past (Sent f ∷ []) x)),
      )

  -- the parts of a stream have the bytes that its DATA counts
  pub parts_size : (x : List Step) → AreUnpadded x → sum_by size_in (parts id heads (sent x)) ≡ spent_on id (sent x)
  parts_size x h = sizes_from x [] x [] h refl

  -- ---- the ends that frames bring

  abbrev ends_data : Frame → Bool
  ends_data f = is_data f && has_end_stream f && stream_of f == id

  within : (xs : List (List Field)) (k : ℕ) → k < length xs → (fields : List Field) × (slice_get xs k ≡ Some fields)
  within [] k lt = absurd (omega (arith, lt))
  within (x ∷ xs) zero lt = (x, refl)
  within (x ∷ xs) (suc k) lt = within xs k (omega (arith, lt))

  block_ends : (past : List Frame) (o : Option Block) → length (blocks past) + length (option_to_list o) ≤ length heads → list_any (is_last_on id) (option_to_list o) ≡ true → list_any ends_in (block_part id heads past o) ≡ true
  block_ends past None le e = absurd cc
  block_ends past (Some b) le e =
      let got = within heads (length (blocks past)) (omega (arith, le)) in
      by b.last (b.stream == id) (slice_get heads (length (blocks past))) got.0 got.1 e
    where
      by : (last here : Bool) (o : Option (List Field)) (fields : List Field) → o ≡ Some fields → ((last && here) || false) ≡ true → list_any ends_in (if here then read_part last o else []) ≡ true
      by true true (Some got) fields same e = refl
      by true true None fields same e = absurd cc
      by true false o fields same e = absurd cc
      by false here o fields same e = absurd cc

  -- a frame that is part of no block completes none
  none_by : (o : Option Block) (f : Frame) → block_with None f ≡ None → ((b : Block) → block_with (Some b) f ≡ None) → completed_by o f ≡ None
  none_by None f h k = by (has_end_headers f) (block_with None f) h
    where
      by : (t : Bool) (o : Option Block) → o ≡ None → (if t then o else None) ≡ None
      by true o h = h
      by false o h = refl
  none_by (Some b) f h k = by (has_end_headers f) (block_with (Some b) f) (k b)
    where
      by : (t : Bool) (o : Option Block) → o ≡ None → (if t then o else None) ≡ None
      by true o h = h
      by false o h = refl

  nothing : (o : Option Block) → o ≡ None → {A : Type 0} → list_any (is_last_on id) (option_to_list o) ≡ true → A
  nothing None h e = absurd cc
  nothing (Some b) h e = absurd cc

  data_ends : (t last any : Bool) (bytes : List ℕ) (others : List Part) → (any ≡ true → ⊥) → (((last && t)) || any) ≡ true → list_any ends_in (if t then Piece bytes last ∷ [] else others) ≡ true
  data_ends true true any bytes others none e = refl
  data_ends true false true bytes others none e = absurd (none refl)
  data_ends true false false bytes others none e = absurd cc
  data_ends false true true bytes others none e = absurd (none refl)
  data_ends false true false bytes others none e = absurd cc
  data_ends false false true bytes others none e = absurd (none refl)
  data_ends false false false bytes others none e = absurd cc

  frame_ends : (past : List Frame) (f : Frame) → length (blocks past) + length (option_to_list (completed past f)) ≤ length heads → (ends_data f || list_any (is_last_on id) (option_to_list (completed past f))) ≡ true →
      list_any ends_in (part_of id heads past f) ≡ true
  frame_ends past (Content b) le e =
      data_ends (b.stream == id) (has_end_stream (Content b)) (list_any (is_last_on id) (option_to_list (completed past (Content b)))) _ (block_part id heads past (completed past (Content b)))
      (λ k. nothing (completed past (Content b)) (none_by (open_block past) (Content b) refl (λ o. refl)) k) e
  frame_ends past (Headers b) le e = block_ends past (completed past (Headers b)) le e
  frame_ends past (Continuation b) le e = block_ends past (completed past (Continuation b)) le e
  frame_ends past (RstStream b) le e = nothing (completed past (RstStream b)) (none_by (open_block past) (RstStream b) refl (λ o. refl)) e
  frame_ends past (Priority b) le e = nothing (completed past (Priority b)) (none_by (open_block past) (Priority b) refl (λ o. refl)) e
  frame_ends past (Settings b) le e = nothing (completed past (Settings b)) (none_by (open_block past) (Settings b) refl (λ o. refl)) e
  frame_ends past (PushPromise b) le e = nothing (completed past (PushPromise b)) (none_by (open_block past) (PushPromise b) refl (λ o. refl)) e
  frame_ends past (Ping b) le e = nothing (completed past (Ping b)) (none_by (open_block past) (Ping b) refl (λ o. refl)) e
  frame_ends past (GoAway b) le e = nothing (completed past (GoAway b)) (none_by (open_block past) (GoAway b) refl (λ o. refl)) e
  frame_ends past (WindowUpdate b) le e = nothing (completed past (WindowUpdate b)) (none_by (open_block past) (WindowUpdate b) refl (λ o. refl)) e
  frame_ends past (Unknown number b) le e = nothing (completed past (Unknown number b)) (none_by (open_block past) (Unknown number b) refl (λ o. refl)) e

  -- one of four tests, paired otherwise
  paired : (P : Type 0) (a b c d e : Bool) → e ≡ (c || d) → ((a || b) || e) ≡ true → ((a || c) ≡ true → P) → ((b || d) ≡ true → P) → P
  paired P true b c d e s h p q = p refl
  paired P false true c d e s h p q = q refl
  paired P false false true d e s h p q = p refl
  paired P false false false true e s h p q = q refl
  paired P false false false false true s h p q = absurd cc
  paired P false false false false false s h p q = absurd cc

  or_left : (a b c : Bool) → c ≡ (a || b) → a ≡ true → c ≡ true
  or_left true b c s h = s
  or_left false b c s h = absurd cc

  or_right : (a b c : Bool) → c ≡ (a || b) → b ≡ true → c ≡ true
  or_right true b c s h = s
  or_right false b c s h = s ∙ h

  ends_from : (early fs : List Frame) → length (blocks early) + length (blocks_behind (open_block early) fs) ≤ length heads →
      (list_any ends_data fs || list_any (is_last_on id) (blocks_behind (open_block early) fs)) ≡ true → list_any ends_in (collect (part_of id heads) early fs) ≡ true
  ends_from early [] le e = absurd cc
  ends_from early (f ∷ fs) le e =
      let here : List Block = option_to_list (completed early f) in
      let behind : List Block = blocks_behind (left_open (open_block early) f) fs in
      let opened : open_block (early ++ f ∷ []) ≡ left_open (open_block early) f = header_blocks_grow.open_push early f in
      let grown : blocks (early ++ f ∷ []) ≡ blocks early ++ here = header_blocks_grow.blocks_push early f in
      let same : blocks_behind (open_block (early ++ f ∷ [])) fs ≡ behind = ap (λ (o : Option Block). blocks_behind o fs) opened in
      let joined = list_any-append ends_in (part_of id heads early f) (collect (part_of id heads) (early ++ f ∷ []) fs) in
      paired (list_any ends_in (collect (part_of id heads) early (f ∷ fs)) ≡ true) (ends_data f) (list_any ends_data fs) (list_any (is_last_on id) here) (list_any (is_last_on id) behind) _ (list_any-append (is_last_on id) here behind) e
      (λ now. or_left _ _ _ joined (frame_ends early f (omega (arith, le, length-append here behind)) now))
      (λ later. or_right _ _ _ joined (ends_from (early ++ f ∷ []) fs (omega (arith, le, length-append here behind, ap length grown, length-append (blocks early) here, ap length same)) (ap (λ (bs : List Block). list_any ends_data fs || list_any (is_last_on id) bs) same ∙ later)))

  -- where frames end a stream, and their blocks are read, an end stands among its parts
  pub parts_end : (fs : List Frame) → length (blocks fs) ≤ length heads → is_ended_by fs id ≡ true → list_any ends_in (parts id heads fs) ≡ true
  parts_end fs le e = ends_from [] fs (omega (arith, le)) e

read_all : (entries : List Field) (max : ℕ) (bs : List Block) (heads : List (List Field)) → ReadOver entries max bs (map Ok heads) → length bs ≡ length heads
read_all entries max [] [] h = refl
read_all entries max [] (fields ∷ heads) h = absurd h
read_all entries max (b ∷ bs) [] h = absurd h
read_all entries max (b ∷ bs) (fields ∷ heads) (after, block, same, others) = ap suc (read_all after.entries after.max bs heads others)

-- as many lists of fields as blocks
pub as_many : (fs : List Frame) (heads : List (List Field)) → ReadOver [] 4096 (blocks fs) (map Ok heads) → length (blocks fs) ≤ length heads
as_many fs heads h = omega (arith, read_all [] 4096 (blocks fs) heads h)
