-- Frames on one stream, one after another: what each adds to the exchange.
use Rattle.std.proofs.Common.{◌≡◌, ℕ, zero, suc, ◌+◌, ◌<◌, ◌≤◌, ◌==◌, Bool, true, false, ◌&&◌, ◌||◌, List, [], ◌∷◌, ◌++◌, length, replicate, Option, Some, None, map, refl, sym, ap, subst, ◌∙◌, append_assoc, arith}
use Rattle.std.proofs.lemmas.Bool.Decides.{nat_tests}
use Rattle.std.specs.Prelude.{not, nat_lt, bit_and, option_to_list, if◌then◌else◌}
use Rattle.std.specs.List.{All, list_any, slice_get}
use Rattle.std.proofs.lemmas.List.{append-nil, length-append}
use Rattle.std.proofs.lemmas.List.Elements.{All-head, All-tail}
use Rattle.std.proofs.lemmas.List.Folds.{list_any-append}
use Rattle.hpack_tables.specs.declared.field.Field.{Field}
use Rattle.h2_frames.specs.declared.frame.Frame.{Frame}
use Rattle.h2_frames.specs.declared.frame.Frame.TheVariants.{Content, Headers, Continuation}
use Rattle.h2_frames.specs.declared.frame.FrameBody.{FrameBody}
use Rattle.h2_frames.specs.Layout.{body_of}
use Rattle.h2_exchange.specs.declared.role.Role.{Role}
use Rattle.h2_exchange.specs.declared.role.Role.TheVariants.{Client, Server}
use Rattle.h2_exchange.specs.Blocks.{Block, block_with, blocks, blocks_behind, completed, completed_by, data_of, fragment_of, left_open, open_block, unpadded}
use Rattle.h2_exchange.specs.Exchange.{Step, Sent, collect, received, sent}
use Rattle.h2_exchange.specs.Frames.{code_of, counted, has_end_headers, has_end_stream, has_padding, is_data, is_headers, is_rst_stream, stream_of}
use Rattle.h2_exchange.specs.StreamParts.{Part, Fields, Piece, Stopped, block_part, part_of, parts, read_part}
use Rattle.h2_exchange.specs.Streams.{begins, begun, has_rst_stream, highest, is_begun, is_ended_by, is_last_on, is_new, is_odd, is_open}
use Rattle.h2_exchange.specs.Windows.{spent_on}
use Rattle.h2_exchange.proofs.Looking.{collect_push, or_nothing}
use Rattle.h2_exchange.proofs.Places.{and_parts}
use Rattle.h2_exchange.proofs.Steps.{begun_list_push, begun_push, begun_within, header_blocks_grow, received_sent, sent_push, window_sums_grow}
use Rattle.http_connection.specs.Sends.{BodyIs, CarryBlock, block_flags, last_flag}
use Rattle.grpc_stream.specs.Sends.{AreCarried, IsCarried}
use Rattle.call_sending.specs.Moves.{IsReady, Moves}

-- ---- parts do not ask for header blocks that are still to come

get_front : {A : Type 0} (xs ys : List A) (k : ℕ) → k < length xs → slice_get (xs ++ ys) k ≡ slice_get xs k
get_front [] ys k h = absurd (omega (arith, h))
get_front (x ∷ xs) ys zero h = refl
get_front (x ∷ xs) ys (suc k) h = get_front xs ys k (omega (arith, h))

pub get_next : {A : Type 0} (xs : List A) (y : A) (ys : List A) (k : ℕ) → k ≡ length xs → slice_get (xs ++ y ∷ ys) k ≡ Some y
get_next [] y ys zero h = refl
get_next [] y ys (suc k) h = absurd (omega (arith, h))
get_next (x ∷ xs) y ys zero h = absurd (omega (arith, h))
get_next (x ∷ xs) y ys (suc k) h = get_next xs y ys k (omega (arith, h))

module _ (k : ℕ) (w more : List (List Field)) where
  block_front : (past : List Frame) (o : Option Block) → length (blocks past) + length (option_to_list o) ≤ length w → block_part k (w ++ more) past o ≡ block_part k w past o
  block_front past None le = refl
  block_front past (Some b) le = ap (λ (o : Option (List Field)). if b.stream == k then read_part b.last o else []) (get_front w more (length (blocks past)) (omega (arith, le)))

  front_from : (early fs : List Frame) → length (blocks early) + length (blocks_behind (open_block early) fs) ≤ length w → collect (part_of k (w ++ more)) early fs ≡ collect (part_of k w) early fs
  front_from early [] le = refl
  front_from early (f ∷ fs) le =
      let here : List Block = option_to_list (completed early f) in
      let behind : List Block = blocks_behind (left_open (open_block early) f) fs in
      let opened : open_block (early ++ f ∷ []) ≡ left_open (open_block early) f = header_blocks_grow.open_push early f in
      let grown : blocks (early ++ f ∷ []) ≡ blocks early ++ here = header_blocks_grow.blocks_push early f in
      let same : blocks_behind (open_block (early ++ f ∷ [])) fs ≡ behind = ap (λ (o : Option Block). blocks_behind o fs) opened in
      let now : part_of k (w ++ more) early f ≡ part_of k w early f = ap (λ (ps : List Part). if is_data f && stream_of f == k then Piece (data_of f) (has_end_stream f) ∷ [] else if is_rst_stream f && stream_of f == k then Stopped (code_of f) ∷ [] else ps)
      (block_front early (completed early f) (omega (arith, le, length-append here behind))) in
      ap (λ (ps : List Part). ps ++ collect (part_of k (w ++ more)) (early ++ f ∷ []) fs) now
      ∙ ap (λ (ps : List Part). part_of k w early f ++ ps)
      (front_from (early ++ f ∷ []) fs (omega (arith, le, length-append here behind, ap length grown, length-append (blocks early) here, ap length same)))

  pub parts_front : (fs : List Frame) → length (blocks fs) ≤ length w → parts k (w ++ more) fs ≡ parts k w fs
  parts_front fs le = front_from [] fs (omega (arith, le))

-- ---- a frame on a stream that was begun begins none

low_not_new : (h o : Bool) (m n : ℕ) → n ≤ m → (h && o && nat_lt m n) ≡ false
low_not_new true true m n le = grind (arith, nat_tests)
low_not_new true false m n le = refl
low_not_new false o m n le = refl

not_new : (x : List Step) (f : Frame) (id : ℕ) → stream_of f ≡ id → is_begun Client x id ≡ true → is_new (sent x) f ≡ false
not_new x f id on begun =
    let within : id ≤ highest (sent x) = begun_within Client x id begun in
    low_not_new (is_headers f) (is_odd (stream_of f)) (highest (sent x)) (stream_of f) (omega (arith, within, on))

begins_none : (role : Role) (x : List Step) (f : Frame) (id k : ℕ) → stream_of f ≡ id → is_begun role x id ≡ true → begins role k x (Sent f) ≡ false
begins_none Server x f id k on begun = refl
begins_none Client x f id k on begun = ap (λ (b : Bool). (b && stream_of f == k) || false) (not_new x f id on begun)

pub begun_on : (role : Role) (x : List Step) (f : Frame) (id k : ℕ) → stream_of f ≡ id → is_begun role x id ≡ true → is_begun role (x ++ Sent f ∷ []) k ≡ is_begun role x k
begun_on role x f id k on begun = begun_push role x (Sent f) k ∙ ap (λ (b : Bool). is_begun role x k || b) (begins_none role x f id k on begun) ∙ or_nothing (is_begun role x k)

pub list_on : (role : Role) (x : List Step) (f : Frame) (id : ℕ) → stream_of f ≡ id → is_begun role x id ≡ true → begun role (x ++ Sent f ∷ []) ≡ begun role x
list_on Server x f id on is = begun_list_push Server x (Sent f) ∙ append-nil (begun Server x)
list_on Client x f id on is =
    begun_list_push Client x (Sent f) ∙ ap (λ (b : Bool). begun Client x ++ ((if b then stream_of f ∷ [] else []) ++ [])) (not_new x f id on is) ∙ append-nil (begun Client x)

-- ---- what one more frame ends

paired : (a b c d : Bool) → ((a || c) || (b || d)) ≡ ((a || b) || (c || d))
paired true b c d = refl
paired false true true d = refl
paired false true false d = refl
paired false false c d = refl

abbrev pub ends_data : ℕ → Frame → Bool
ends_data k f = is_data f && has_end_stream f && stream_of f == k

pub ended_from : (fs : List Frame) (f : Frame) (k : ℕ) (here last : Bool) → list_any (ends_data k) (f ∷ []) ≡ here → list_any (is_last_on k) (option_to_list (completed fs f)) ≡ last →
    is_ended_by (fs ++ f ∷ []) k ≡ (is_ended_by fs k || (here || last))
ended_from fs f k here last now done =
    ap (λ (a : Bool). a || list_any (is_last_on k) (blocks (fs ++ f ∷ []))) (list_any-append (ends_data k) fs (f ∷ []) ∙ ap (λ (a : Bool). list_any (ends_data k) fs || a) now)
    ∙ ap (λ (a : Bool). (list_any (ends_data k) fs || here) || a)
    (ap (list_any (is_last_on k)) (header_blocks_grow.blocks_push fs f) ∙ list_any-append (is_last_on k) (blocks fs) (option_to_list (completed fs f)) ∙ ap (λ (a : Bool). list_any (is_last_on k) (blocks fs) || a) done)
    ∙ paired (list_any (ends_data k) fs) (list_any (is_last_on k) (blocks fs)) here last

-- ---- one frame of a stream

abbrev open_by : Bool → Bool → Bool → Bool → Bool → Bool → Bool
open_by begun received_reset sent_reset received_end sent_end ended = (begun && not ((received_reset || sent_reset) || received_end && sent_end)) && not ended

open_same : (role : Role) (x : List Step) (f : Frame) (id : ℕ) → is_begun role (x ++ Sent f ∷ []) id ≡ is_begun role x id → is_rst_stream f ≡ false → is_ended_by (sent (x ++ Sent f ∷ [])) id ≡ is_ended_by (sent x) id →
    is_open role (x ++ Sent f ∷ []) id ≡ is_open role x id
open_same role x f id begins_as plain ended =
    let reset : has_rst_stream (sent (x ++ Sent f ∷ [])) id ≡ has_rst_stream (sent x) id =
    ap (λ (fs : List Frame). has_rst_stream fs id) (sent_push x f) ∙ list_any-append (λ (g : Frame). is_rst_stream g && stream_of g == id) (sent x) (f ∷ [])
    ∙ ap (λ (b : Bool). has_rst_stream (sent x) id || ((b && stream_of f == id) || false)) plain ∙ or_nothing (has_rst_stream (sent x) id) in
    ap (λ (b : Bool). open_by b (has_rst_stream (received (x ++ Sent f ∷ [])) id) (has_rst_stream (sent (x ++ Sent f ∷ [])) id) (is_ended_by (received (x ++ Sent f ∷ [])) id) (is_ended_by (sent (x ++ Sent f ∷ [])) id) (is_ended_by (sent (x ++ Sent f ∷ [])) id)) begins_as
    ∙ ap (λ (fs : List Frame). open_by (is_begun role x id) (has_rst_stream fs id) (has_rst_stream (sent (x ++ Sent f ∷ [])) id) (is_ended_by fs id) (is_ended_by (sent (x ++ Sent f ∷ [])) id) (is_ended_by (sent (x ++ Sent f ∷ [])) id)) (received_sent x f)
    ∙ ap (λ (b : Bool). open_by (is_begun role x id) (has_rst_stream (received x) id) b (is_ended_by (received x) id) (is_ended_by (sent (x ++ Sent f ∷ [])) id) (is_ended_by (sent (x ++ Sent f ∷ [])) id)) reset
    ∙ ap (λ (b : Bool). open_by (is_begun role x id) (has_rst_stream (received x) id) (has_rst_stream (sent x) id) (is_ended_by (received x) id) b b) ended

pub begun_open : (role : Role) (x : List Step) (id : ℕ) → is_open role x id ≡ true → is_begun role x id ≡ true
begun_open role x id o = (and_parts _ _ (and_parts _ _ o).0).0

-- What frames add behind these steps, which lead to others.
pub record Adds (role : Role) (x y : List Step) (w : List (List Field)) (id : ℕ) (ps : List Part) (n : ℕ) (ends : Bool) : Type 0 where
  pub parts_are : (k : ℕ) → parts k w (sent y) ≡ parts k w (sent x) ++ (if id == k then ps else [])
  pub spent_is : (k : ℕ) → spent_on k (sent y) ≡ spent_on k (sent x) + (if id == k then n else 0)
  pub ended_is : (k : ℕ) → is_ended_by (sent y) k ≡ (is_ended_by (sent x) k || (ends && id == k))
  pub begun_is : (k : ℕ) → is_begun role y k ≡ is_begun role x k
  pub list_is : begun role y ≡ begun role x

-- frames of a header block that isn't completed yet
abbrev pub is_block : Frame → Bool
is_block (Headers b) = true
is_block (Continuation b) = true
is_block other = false

part_of_block : (k : ℕ) (w : List (List Field)) (past : List Frame) (f : Frame) → is_block f ≡ true → part_of k w past f ≡ block_part k w past (completed past f)
part_of_block k w past (Headers b) is = refl
part_of_block k w past (Continuation b) is = refl
part_of_block k w past other is = absurd cc

nothing_counted : (f : Frame) (t : Bool) → is_block f ≡ true → (if t then counted f else 0) ≡ 0
nothing_counted (Headers b) true is = refl
nothing_counted (Headers b) false is = refl
nothing_counted (Continuation b) true is = refl
nothing_counted (Continuation b) false is = refl
nothing_counted other t is = absurd cc

no_data : (k : ℕ) (f : Frame) → is_block f ≡ true → list_any (ends_data k) (f ∷ []) ≡ false
no_data k (Headers b) is = refl
no_data k (Continuation b) is = refl
no_data k other is = absurd cc

no_reset : (f : Frame) → is_block f ≡ true → is_rst_stream f ≡ false
no_reset (Headers b) is = refl
no_reset (Continuation b) is = refl
no_reset other is = absurd cc

pub none_if : (t : Bool) → ◌≡◌ {A = ℕ} (if t then 0 else 0) 0
none_if true = refl
none_if false = refl

pub empty_if : (t : Bool) → ◌≡◌ {A = List Part} (if t then [] else []) []
empty_if true = refl
empty_if false = refl

-- a frame of a header block, whatever stream it begins
module _ (x : List Step) (w : List (List Field)) (f : Frame) (is : is_block f ≡ true) (o : Option Block) (done : completed (sent x) f ≡ o) (k : ℕ) where
  pub block_parts : parts k w (sent (x ++ Sent f ∷ [])) ≡ parts k w (sent x) ++ block_part k w (sent x) o
  block_parts =
      ap (parts k w) (sent_push x f) ∙ collect_push (part_of k w) (sent x) f
      ∙ ap (λ (qs : List Part). parts k w (sent x) ++ qs) (part_of_block k w (sent x) f is ∙ ap (block_part k w (sent x)) done)

  pub block_spent : spent_on k (sent (x ++ Sent f ∷ [])) ≡ spent_on k (sent x)
  block_spent = omega (arith, ap (spent_on k) (sent_push x f), window_sums_grow.spent_on_push k (sent x) f, nothing_counted f (stream_of f == k) is)

  pub block_ended : is_ended_by (sent (x ++ Sent f ∷ [])) k ≡ (is_ended_by (sent x) k || list_any (is_last_on k) (option_to_list o))
  block_ended =
      ap (λ (fs : List Frame). is_ended_by fs k) (sent_push x f)
      ∙ ended_from (sent x) f k false (list_any (is_last_on k) (option_to_list o)) (no_data k f is) (ap (λ (d : Option Block). list_any (is_last_on k) (option_to_list d)) done)

module _ (role : Role) (x : List Step) (w : List (List Field)) (id : ℕ) (f : Frame) (on : stream_of f ≡ id) (begun : is_begun role x id ≡ true) (is : is_block f ≡ true) where
  -- it completes no block, or one of this stream
  block_adds : (o : Option Block) → completed (sent x) f ≡ o → (ps : List Part) (ends : Bool) → ((k : ℕ) → block_part k w (sent x) o ≡ (if id == k then ps else [])) →
      ((k : ℕ) → list_any (is_last_on k) (option_to_list o) ≡ (ends && id == k)) → Adds role x (x ++ Sent f ∷ []) w id ps 0 ends
  block_adds o done ps ends part last = record {
    parts_are = λ k. block_parts x w f is o done k ∙ ap (λ (qs : List Part). parts k w (sent x) ++ qs) (part k);
    spent_is = λ k. omega (arith, block_spent x w f is o done k, none_if (id == k));
    ended_is = λ k. block_ended x w f is o done k ∙ ap (λ (b : Bool). is_ended_by (sent x) k || b) (last k);
    begun_is = λ k. begun_on role x f id k on begun;
    list_is = list_on role x f id on begun;
  }

adds_more : (role : Role) (x y z : List Step) (w : List (List Field)) (id : ℕ) (ps : List Part) (n : ℕ) (ends : Bool) → Adds role x y w id [] 0 false → Adds role y z w id ps n ends → Adds role x z w id ps n ends
adds_more role x y z w id ps n ends p q = record {
  parts_are = λ k. q.parts_are k ∙ ap (λ (qs : List Part). qs ++ (if id == k then ps else [])) (p.parts_are k ∙ ap (λ (qs : List Part). parts k w (sent x) ++ qs) (empty_if (id == k)) ∙ append-nil (parts k w (sent x)));
  spent_is = λ k. omega (arith, q.spent_is k, p.spent_is k, none_if (id == k));
  ended_is = λ k. q.ended_is k ∙ ap (λ (b : Bool). b || (ends && id == k)) (p.ended_is k ∙ or_nothing (is_ended_by (sent x) k));
  begun_is = λ k. q.begun_is k ∙ p.begun_is k;
  list_is = q.list_is ∙ p.list_is;
}

-- ---- a header block

-- its frames, which complete it
pub record Completes (role : Role) (x : List Step) (w : List (List Field)) (id : ℕ) (last : Bool) (fs : List Frame) : Type 0 where
  pub carried : is_open role x id ≡ true → AreCarried role x fs
  pub adds : Adds role x (x ++ map Sent fs) w id (read_part last (slice_get w (length (blocks (sent x))))) 0 last
  pub opened : open_block (sent (x ++ map Sent fs)) ≡ None
  pub count : length (blocks (sent (x ++ map Sent fs))) ≡ suc (length (blocks (sent x)))

abbrev pub going : ℕ → Bool → List ℕ → ℕ → Block
going id last text n = record { stream = id; last = last; text = text; frames = n }

pub flag_is : (f : Frame) (n : ℕ) (t : Bool) → (body_of f).flags ≡ n → not (bit_and n 4 == 0) ≡ t → has_end_headers f ≡ t
flag_is f n t same e = ap (λ (m : ℕ). not (bit_and m 4 == 0)) same ∙ e

pub last_is : (f : Frame) (n : ℕ) (t : Bool) → (body_of f).flags ≡ n → not (bit_and n 1 == 0) ≡ t → has_end_stream f ≡ t
last_is f n t same e = ap (λ (m : ℕ). not (bit_and m 1 == 0)) same ∙ e

pub alone_ends : (last : Bool) → not (bit_and (last_flag last + 4) 4 == 0) ≡ true
alone_ends true = refl
alone_ends false = refl

pub alone_last : (last : Bool) → not (bit_and (last_flag last + 4) 1 == 0) ≡ last
alone_last true = refl
alone_last false = refl

pub first_goes : (last : Bool) → not (bit_and (last_flag last) 4 == 0) ≡ false
first_goes true = refl
first_goes false = refl

pub first_last : (last : Bool) → not (bit_and (last_flag last) 1 == 0) ≡ last
first_last true = refl
first_last false = refl

pub done_by : (o p : Option Block) (f : Frame) → block_with o f ≡ p → has_end_headers f ≡ true → completed_by o f ≡ p
done_by o p f with_it ends = ap (λ (t : Bool). if t then block_with o f else None) ends ∙ with_it

pub left_by : (o p : Option Block) (f : Frame) → block_with o f ≡ p → has_end_headers f ≡ false → left_open o f ≡ p
left_by o p f with_it ends = ap (λ (t : Bool). if t then None else block_with o f) ends ∙ with_it

pub none_done : (o : Option Block) (f : Frame) → has_end_headers f ≡ false → completed_by o f ≡ None
none_done o f ends = ap (λ (t : Bool). if t then block_with o f else None) ends

pub none_left : (o : Option Block) (f : Frame) → has_end_headers f ≡ true → left_open o f ≡ None
none_left o f ends = ap (λ (t : Bool). if t then None else block_with o f) ends

abbrev pub head_of : ℕ → List ℕ → ℕ
head_of d [] = d
head_of d (n ∷ ns) = n

abbrev pub tail_of : List ℕ → List ℕ
tail_of [] = []
tail_of (n ∷ ns) = ns

module _ (role : Role) (w : List (List Field)) (id : ℕ) (last : Bool) where
  -- the frame that completes the block
  last_frame : (x : List Step) (f : Frame) (text : List ℕ) (n : ℕ) → stream_of f ≡ id → is_block f ≡ true → is_begun role x id ≡ true → (is_open role x id ≡ true → IsCarried role x f) → has_end_headers f ≡ true →
      block_with (open_block (sent x)) f ≡ Some (going id last text n) → Completes role x w id last (f ∷ [])
  last_frame x f text n on is begun carries ends behind =
      let done : completed (sent x) f ≡ Some (going id last text n) = done_by (open_block (sent x)) _ f behind ends in
      record {
        carried = λ o. (carries o, tt);
        adds = block_adds role x w id f on begun is (Some (going id last text n)) done (read_part last (slice_get w (length (blocks (sent x))))) last (λ k. refl) (λ k. or_nothing (last && id == k));
        opened = ap open_block (sent_push x f) ∙ header_blocks_grow.open_push (sent x) f ∙ none_left (open_block (sent x)) f ends;
        count =
            let grown = ap (λ (fs : List Frame). length (blocks fs)) (sent_push x f) in
            let pushed = ap length (header_blocks_grow.blocks_push (sent x) f) in
            let one = ap (λ (d : Option Block). length (option_to_list d)) done in
            omega (arith, grown, pushed, length-append (blocks (sent x)) (option_to_list (completed (sent x) f)), one);
      }

  -- a frame that another one of the block follows
  next_frame : (x : List Step) (f : Frame) (fs : List Frame) → stream_of f ≡ id → is_block f ≡ true → is_begun role x id ≡ true → (is_open role x id ≡ true → IsCarried role x f) → has_end_headers f ≡ false →
      (is_begun role (x ++ Sent f ∷ []) id ≡ true → open_block (sent (x ++ Sent f ∷ [])) ≡ block_with (open_block (sent x)) f → Completes role (x ++ Sent f ∷ []) w id last fs) → Completes role x w id last (f ∷ fs)
  next_frame x f fs on is begun carries ends later =
      let done : completed (sent x) f ≡ None = none_done (open_block (sent x)) f ends in
      let one = block_adds role x w id f on begun is None done [] false (λ k. sym (empty_if (id == k))) (λ k. refl) in
      let still : is_begun role (x ++ Sent f ∷ []) id ≡ true = one.begun_is id ∙ begun in
      let left : open_block (sent (x ++ Sent f ∷ [])) ≡ block_with (open_block (sent x)) f =
      ap open_block (sent_push x f) ∙ header_blocks_grow.open_push (sent x) f ∙ left_by (open_block (sent x)) _ f refl ends in
      let rest = later still left in
      let split : (x ++ Sent f ∷ []) ++ map Sent fs ≡ x ++ Sent f ∷ map Sent fs = append_assoc x (Sent f ∷ []) (map Sent fs) in
      let as_many : blocks (sent (x ++ Sent f ∷ [])) ≡ blocks (sent x) =
      ap blocks (sent_push x f) ∙ header_blocks_grow.blocks_push (sent x) f ∙ ap (λ (d : Option Block). blocks (sent x) ++ option_to_list d) done ∙ append-nil (blocks (sent x)) in
      record {
        carried = λ o. (carries o, rest.carried (open_same role x f id (one.begun_is id) (no_reset f is) (one.ended_is id ∙ or_nothing (is_ended_by (sent x) id)) ∙ o));
        adds = subst (λ (bs : List Block). Adds role x (x ++ Sent f ∷ map Sent fs) w id (read_part last (slice_get w (length bs))) 0 last) as_many
            (subst (λ (y : List Step). Adds role x y w id (read_part last (slice_get w (length (blocks (sent (x ++ Sent f ∷ [])))))) 0 last) split
            (adds_more role x (x ++ Sent f ∷ []) ((x ++ Sent f ∷ []) ++ map Sent fs) w id _ 0 last one rest.adds));
        opened = subst (λ (y : List Step). open_block (sent y) ≡ None) split rest.opened;
        count = subst (λ (y : List Step). length (blocks (sent y)) ≡ suc (length (blocks (sent x)))) split (rest.count ∙ ap (λ (bs : List Block). suc (length bs)) as_many);
      }

  -- CONTINUATION frames, the last of which completes the block
  pub others_complete : (c : FrameBody) (cs : List FrameBody) (x : List Step) (text : List ℕ) (n : ℕ) → open_block (sent x) ≡ Some (going id last text n) → is_begun role x id ≡ true →
      map (λ (b : FrameBody). b.flags) (c ∷ cs) ≡ replicate (length cs) 0 ++ 4 ∷ [] → All (λ (b : FrameBody). b.stream ≡ id) (c ∷ cs) → Completes role x w id last (map Continuation (c ∷ cs))
  others_complete c [] x text n opened begun flags streams =
      let on : c.stream ≡ id = All-head (λ (b : FrameBody). b.stream ≡ id) c [] streams in
      last_frame x (Continuation c) (text ++ c.payload) (n + 1) on refl begun (λ o. ap (is_open role x) on ∙ o) (flag_is (Continuation c) 4 true (ap (head_of 0) flags) refl) (ap (λ (b : Option Block). block_with b (Continuation c)) opened)
  others_complete c (d ∷ ds) x text n opened begun flags streams =
      let on : c.stream ≡ id = All-head (λ (b : FrameBody). b.stream ≡ id) c (d ∷ ds) streams in
      next_frame x (Continuation c) (map Continuation (d ∷ ds)) on refl begun (λ o. ap (is_open role x) on ∙ o) (flag_is (Continuation c) 0 false (ap (head_of 0) flags) refl)
      (λ still left. others_complete d ds (x ++ Sent (Continuation c) ∷ []) (text ++ c.payload) (n + 1) (left ∙ ap (λ (b : Option Block). block_with b (Continuation c)) opened) still (ap tail_of flags)
      (All-tail (λ (b : FrameBody). b.stream ≡ id) c (d ∷ ds) streams))

  completes : (first : FrameBody) (others : List FrameBody) (x : List Step) → open_block (sent x) ≡ None → is_begun role x id ≡ true →
      map (λ (b : FrameBody). b.flags) (first ∷ others) ≡ block_flags last (length others) → All (λ (b : FrameBody). b.stream ≡ id) (first ∷ others) → Completes role x w id last (Headers first ∷ map Continuation others)
  completes first [] x opened begun flags streams =
      let on : first.stream ≡ id = All-head (λ (b : FrameBody). b.stream ≡ id) first [] streams in
      let are : first.flags ≡ last_flag last + 4 = ap (head_of 0) flags in
      last_frame x (Headers first) (fragment_of (Headers first)) 1 on refl begun (λ o. ap (is_open role x) on ∙ o) (flag_is (Headers first) (last_flag last + 4) true are (alone_ends last))
      (ap (λ (b : Option Block). block_with b (Headers first)) opened
      ∙ ap (λ (s : ℕ). Some (going s (has_end_stream (Headers first)) (fragment_of (Headers first)) 1)) on ∙ ap (λ (b : Bool). Some (going id b (fragment_of (Headers first)) 1)) (last_is (Headers first) (last_flag last + 4) last are (alone_last last)))
  completes first (c ∷ cs) x opened begun flags streams =
      let on : first.stream ≡ id = All-head (λ (b : FrameBody). b.stream ≡ id) first (c ∷ cs) streams in
      let are : first.flags ≡ last_flag last = ap (head_of 0) flags in
      next_frame x (Headers first) (map Continuation (c ∷ cs)) on refl begun (λ o. ap (is_open role x) on ∙ o) (flag_is (Headers first) (last_flag last) false are (first_goes last))
      (λ still left. others_complete c cs (x ++ Sent (Headers first) ∷ []) (fragment_of (Headers first)) 1
      (left ∙ ap (λ (b : Option Block). block_with b (Headers first)) opened
      ∙ ap (λ (s : ℕ). Some (going s (has_end_stream (Headers first)) (fragment_of (Headers first)) 1)) on ∙ ap (λ (b : Bool). Some (going id b (fragment_of (Headers first)) 1)) (last_is (Headers first) (last_flag last) last are (first_last last)))
      still (ap tail_of flags) (All-tail (λ (b : FrameBody). b.stream ≡ id) first (c ∷ cs) streams))

moved : (role : Role) (x : List Step) (w : List (List Field)) (id : ℕ) (last : Bool) (fields : List Field) (fs : List Frame) → IsReady x w → is_open role x id ≡ true → Completes role x (w ++ fields ∷ []) id last fs → Moves role x w id (Fields fields last ∷ []) 0 last fs (fields ∷ [])
moved role x w id last fields fs ready o h =
    let got : slice_get (w ++ fields ∷ []) (length (blocks (sent x))) ≡ Some fields = get_next w fields [] (length (blocks (sent x))) ready.0 in
    record {
      carried = h.carried o;
      parts_are = λ k.
          h.adds.parts_are k
          ∙ ap (λ (o : Option (List Field)). parts k (w ++ fields ∷ []) (sent x) ++ (if id == k then read_part last o else [])) got
          ∙ ap (λ (ps : List Part). ps ++ (if id == k then Fields fields last ∷ [] else [])) (parts_front k w (fields ∷ []) (sent x) (omega (arith, ready.0)));
      spent_is = h.adds.spent_is;
      ended_is = h.adds.ended_is;
      begun_is = h.adds.begun_is;
      list_is = h.adds.list_is;
      ready = (omega (arith, h.count, ready.0, length-append w (fields ∷ [])), h.opened);
    }

pub block_moves : (role : Role) (x : List Step) (w : List (List Field)) (id : ℕ) (last : Bool) (fields : List Field) (fs : List Frame) → IsReady x w → is_open role x id ≡ true → CarryBlock id last fs →
    Moves role x w id (Fields fields last ∷ []) 0 last fs (fields ∷ [])
block_moves role x w id last fields fs ready o h =
    moved role x w id last fields fs ready o
    (subst (Completes role x (w ++ fields ∷ []) id last) (sym h.frames_are) (completes role (w ++ fields ∷ []) id last h.first h.others x ready.1 (begun_open role x id o) h.flags_are h.streams_are))

-- ---- DATA

no_pad : (last : Bool) → not (bit_and (last_flag last) 8 == 0) ≡ false
no_pad true = refl
no_pad false = refl

module _ (role : Role) (x : List Step) (w : List (List Field)) (id : ℕ) (payload : List ℕ) (last : Bool) (b : FrameBody) (ready : IsReady x w) (o : is_open role x id ≡ true) (is : BodyIs b (last_flag last) id payload) where
  whole : has_padding (Content b) ≡ false
  whole = ap (λ (m : ℕ). not (bit_and m 8 == 0)) is.flags_are ∙ no_pad last

  ends_it : has_end_stream (Content b) ≡ last
  ends_it = last_is (Content b) (last_flag last) last is.flags_are (first_last last)

  no_block : completed (sent x) (Content b) ≡ None
  no_block = ap (λ (p : Option Block). completed_by p (Content b)) ready.1 ∙ either (has_end_headers (Content b))
    where
      either : (t : Bool) → ◌≡◌ {A = Option Block} (if t then None else None) None
      either true = refl
      either false = refl

  still_none : left_open (open_block (sent x)) (Content b) ≡ None
  still_none = ap (λ (p : Option Block). left_open p (Content b)) ready.1 ∙ either (has_end_headers (Content b))
    where
      either : (t : Bool) → ◌≡◌ {A = Option Block} (if t then None else None) None
      either true = refl
      either false = refl

  same_blocks : blocks (sent (x ++ Sent (Content b) ∷ [])) ≡ blocks (sent x)
  same_blocks = ap blocks (sent_push x (Content b)) ∙ header_blocks_grow.blocks_push (sent x) (Content b) ∙ ap (λ (d : Option Block). blocks (sent x) ++ option_to_list d) no_block ∙ append-nil (blocks (sent x))

  piece_part : (k : ℕ) → part_of k w (sent x) (Content b) ≡ (if id == k then Piece payload last ∷ [] else [])
  piece_part k =
      ap (λ (s : ℕ). if s == k then Piece (unpadded (has_padding (Content b)) b.payload) (has_end_stream (Content b)) ∷ [] else block_part k w (sent x) (completed (sent x) (Content b))) is.stream_is
      ∙ ap (λ (p : Bool). if id == k then Piece (unpadded p b.payload) (has_end_stream (Content b)) ∷ [] else block_part k w (sent x) (completed (sent x) (Content b))) whole
      ∙ ap (λ (bytes : List ℕ). if id == k then Piece bytes (has_end_stream (Content b)) ∷ [] else block_part k w (sent x) (completed (sent x) (Content b))) is.payload_is
      ∙ ap (λ (e : Bool). if id == k then Piece payload e ∷ [] else block_part k w (sent x) (completed (sent x) (Content b))) ends_it
      ∙ ap (λ (d : Option Block). if id == k then Piece payload last ∷ [] else block_part k w (sent x) d) no_block

  pub data_moves : Moves role x w id (Piece payload last ∷ []) (length payload) last (Content b ∷ []) []
  data_moves = record {
    carried = ((ap (is_open role x) is.stream_is ∙ o, whole), tt);
    parts_are = λ k.
        ap (λ (l : List (List Field)). parts k l (sent (x ++ Sent (Content b) ∷ []))) (append-nil w)
        ∙ ap (parts k w) (sent_push x (Content b)) ∙ collect_push (part_of k w) (sent x) (Content b) ∙ ap (λ (ps : List Part). parts k w (sent x) ++ ps) (piece_part k);
    spent_is = λ k.
        ap (spent_on k) (sent_push x (Content b)) ∙ window_sums_grow.spent_on_push k (sent x) (Content b)
        ∙ ap (λ (s : ℕ). spent_on k (sent x) + (if s == k then length b.payload else 0)) is.stream_is
        ∙ ap (λ (bytes : List ℕ). spent_on k (sent x) + (if id == k then length bytes else 0)) is.payload_is;
    ended_is = λ k.
        ap (λ (fs : List Frame). is_ended_by fs k) (sent_push x (Content b))
        ∙ ended_from (sent x) (Content b) k (last && id == k) false
        (or_nothing (has_end_stream (Content b) && b.stream == k) ∙ ap (λ (e : Bool). e && b.stream == k) ends_it ∙ ap (λ (s : ℕ). last && s == k) is.stream_is)
        (ap (λ (d : Option Block). list_any (is_last_on k) (option_to_list d)) no_block)
        ∙ ap (λ (t : Bool). is_ended_by (sent x) k || t) (or_nothing (last && id == k));
    begun_is = λ k. begun_on role x (Content b) id k is.stream_is (begun_open role x id o);
    list_is = list_on role x (Content b) id is.stream_is (begun_open role x id o);
    ready = (
      omega (arith, ap length same_blocks, ready.0, ap length (append-nil w)),
      ap open_block (sent_push x (Content b)) ∙ header_blocks_grow.open_push (sent x) (Content b) ∙ still_none,
    );
  }
