-- The first header block of a client's stream begins it.
use Rattle.std.proofs.Common.{◌≡◌, ◌⊎◌, ℕ, ◌+◌, ◌<◌, ◌==◌, Bool, true, false, ◌&&◌, ◌||◌, List, [], ◌∷◌, ◌++◌, length, map, Option, Some, None, inl, inr, refl, sym, ap, subst, ◌∙◌, append_assoc, arith}
use Rattle.std.proofs.lemmas.Bool.Decides.{nat_tests}
use Rattle.std.specs.Prelude.{fold, max, nat_lt, option_to_list, if◌then◌else◌}
use Rattle.std.specs.List.{All, slice_get}
use Rattle.std.proofs.lemmas.List.{append-nil}
use Rattle.std.proofs.lemmas.List.Elements.{All-head, All-tail}
use Rattle.hpack_tables.specs.declared.field.Field.{Field}
use Rattle.h2_frames.specs.declared.frame.Frame.{Frame}
use Rattle.h2_frames.specs.declared.frame.Frame.TheVariants.{Headers, Continuation}
use Rattle.h2_frames.specs.declared.frame.FrameBody.{FrameBody}
use Rattle.h2_exchange.specs.declared.role.Role.TheVariants.{Client}
use Rattle.h2_exchange.specs.Blocks.{Block, block_with, blocks, completed, fragment_of, open_block}
use Rattle.h2_exchange.specs.Exchange.{Step, Sent, sent}
use Rattle.h2_exchange.specs.Frames.{has_end_headers, has_end_stream, is_headers, stream_of}
use Rattle.h2_exchange.specs.StreamParts.{Part, Fields, parts, read_part}
use Rattle.h2_exchange.specs.Streams.{begun, highest, is_begun, is_ended_by, is_new, is_odd}
use Rattle.h2_exchange.specs.Windows.{spent_on}
use Rattle.h2_exchange.proofs.Looking.{or_nothing}
use Rattle.h2_exchange.proofs.Places.{same_self, second_true}
use Rattle.h2_exchange.proofs.Steps.{begun_list_push, begun_push, header_blocks_grow, sent_push}
use Rattle.http_connection.specs.Sends.{CarryBlock, block_flags, last_flag, next_id}
use Rattle.call_sending.specs.Moves.{IsReady}
use Rattle.call_sending.proofs.Moving.{Completes, alone_ends, alone_last, block_ended, block_parts, block_spent, done_by, first_goes, first_last, flag_is, get_next, going, head_of, is_block, last_is, left_by, none_done, others_complete, parts_front, tail_of}

-- ---- the next id is odd, and above those that were begun

abbrev ZeroOrOdd : ℕ → Type 0
ZeroOrOdd m = (m ≡ 0) ⊎ (is_odd m ≡ true)

abbrev raise : ℕ → Frame → ℕ
raise most f = if is_headers f && is_odd (stream_of f) then max most (stream_of f) else most

kept_odd : (h o : Bool) (m n : ℕ) → is_odd n ≡ o → ZeroOrOdd m → ZeroOrOdd (if h && o then max m n else m)
kept_odd true true m n e z = either z
  where
    either : ZeroOrOdd m → ZeroOrOdd (max m n)
    either (inl z) = inr (grind (arith, nat_tests))
    either (inr z) = inr (grind (arith, nat_tests))
kept_odd true false m n e z = z
kept_odd false o m n e z = z

odd_from : (m : ℕ) (fs : List Frame) → ZeroOrOdd m → ZeroOrOdd (fold raise m fs)
odd_from m [] z = z
odd_from m (f ∷ fs) z = odd_from (raise m f) fs (kept_odd (is_headers f) (is_odd (stream_of f)) m (stream_of f) refl z)

highest_odd : (fs : List Frame) → ZeroOrOdd (highest fs)
highest_odd fs = odd_from 0 fs (inl refl)

next_is : (n : ℕ) → ZeroOrOdd n → (is_odd (next_id n) ≡ true) × (n < next_id n)
next_is n z = by (n == 0) refl z
  where
    by : (b : Bool) → (n == 0) ≡ b → ZeroOrOdd n → (is_odd (if b then 1 else n + 2) ≡ true) × (n < (if b then 1 else n + 2))
    by true e z = (refl, grind (arith, nat_tests))
    by false e (inl none) = let some : (n == 0) ≡ true = ap (λ (k : ℕ). k == 0) none in absurd cc
    by false e (inr odd) = (grind (arith, nat_tests), omega arith)

pub next_odd : (fs : List Frame) → is_odd (next_id (highest fs)) ≡ true
next_odd fs = (next_is (highest fs) (highest_odd fs)).0

pub next_above : (fs : List Frame) → highest fs < next_id (highest fs)
next_above fs = (next_is (highest fs) (highest_odd fs)).1

-- ---- the frames

-- HEADERS and CONTINUATION
abbrev pub AreBlock : List Frame → Type 0
AreBlock [] = Unit {0}
AreBlock (f ∷ fs) = (is_block f ≡ true) × AreBlock fs

others_block : (bs : List FrameBody) → AreBlock (map Continuation bs)
others_block [] = tt
others_block (b ∷ bs) = (refl, others_block bs)

pub block_frames : (id : ℕ) (last : Bool) (fs : List Frame) → CarryBlock id last fs → AreBlock fs
block_frames id last fs h = subst AreBlock (sym h.frames_are) (refl, others_block h.others)

-- ---- HEADERS of a new id

three : (a b c : Bool) → a ≡ true → b ≡ true → c ≡ true → (a && b && c) ≡ true
three a b c p q r = rw (p, q, r) refl

module _ (x : List Step) (id : ℕ) (odd : is_odd id ≡ true) (high : highest (sent x) < id) (f : Frame) (head : is_headers f ≡ true) (on : stream_of f ≡ id) where
  is_above : nat_lt (highest (sent x)) id ≡ true
  is_above = grind (arith, nat_tests)

  new_now : is_new (sent x) f ≡ true
  new_now =
      three (is_headers f) (is_odd (stream_of f)) (nat_lt (highest (sent x)) (stream_of f)) head (ap is_odd on ∙ odd) (ap (nat_lt (highest (sent x))) on ∙ is_above)

  begun_first : (k : ℕ) → is_begun Client (x ++ Sent f ∷ []) k ≡ (is_begun Client x k || id == k)
  begun_first k =
      begun_push Client x (Sent f) k
      ∙ ap (λ (b : Bool). is_begun Client x k || ((b && stream_of f == k) || false)) new_now
      ∙ ap (λ (s : ℕ). is_begun Client x k || (s == k || false)) on ∙ ap (λ (b : Bool). is_begun Client x k || b) (or_nothing (id == k))

  list_first : begun Client (x ++ Sent f ∷ []) ≡ begun Client x ++ id ∷ []
  list_first =
      begun_list_push Client x (Sent f)
      ∙ ap (λ (b : Bool). begun Client x ++ ((if b then stream_of f ∷ [] else []) ++ [])) new_now
      ∙ ap (λ (s : ℕ). begun Client x ++ s ∷ []) on

-- ---- the block

-- its frames, which begin its stream and complete it
record Opens (x y : List Step) (w : List (List Field)) (id : ℕ) : Type 0 where
  parts_are : (k : ℕ) → parts k w (sent y) ≡ parts k w (sent x) ++ (if id == k then read_part false (slice_get w (length (blocks (sent x)))) else [])
  spent_is : (k : ℕ) → spent_on k (sent y) ≡ spent_on k (sent x)
  ended_is : (k : ℕ) → is_ended_by (sent y) k ≡ is_ended_by (sent x) k
  begun_is : (k : ℕ) → is_begun Client y k ≡ (is_begun Client x k || id == k)
  list_is : begun Client y ≡ begun Client x ++ id ∷ []

none_of : (t : Bool) → ◌≡◌ {A = ℕ} (if t then 0 else 0) 0
none_of true = refl
none_of false = refl

module _ (x : List Step) (w : List (List Field)) (id : ℕ) (odd : is_odd id ≡ true) (high : highest (sent x) < id) (closed : open_block (sent x) ≡ None) where
  opens : (first : FrameBody) (others : List FrameBody) → map (λ (b : FrameBody). b.flags) (first ∷ others) ≡ block_flags false (length others) → All (λ (b : FrameBody). b.stream ≡ id) (first ∷ others) →
      Opens x (x ++ map Sent (Headers first ∷ map Continuation others)) w id
  opens first [] flags streams =
      let f : Frame = Headers first in
      let on : first.stream ≡ id = All-head (λ (b : FrameBody). b.stream ≡ id) first [] streams in
      let are : first.flags ≡ last_flag false + 4 = ap (head_of 0) flags in
      let behind : block_with (open_block (sent x)) f ≡ Some (going id false (fragment_of f) 1) =
      ap (λ (b : Option Block). block_with b f) closed ∙ ap (λ (s : ℕ). Some (going s (has_end_stream f) (fragment_of f) 1)) on
      ∙ ap (λ (b : Bool). Some (going id b (fragment_of f) 1)) (last_is f (last_flag false + 4) false are (alone_last false)) in
      let done : completed (sent x) f ≡ Some (going id false (fragment_of f) 1) =
      done_by (open_block (sent x)) (Some (going id false (fragment_of f) 1)) f behind (flag_is f (last_flag false + 4) true are (alone_ends false)) in
      record {
        parts_are = λ k. block_parts x w f refl (Some (going id false (fragment_of f) 1)) done k;
        spent_is = λ k. block_spent x w f refl (Some (going id false (fragment_of f) 1)) done k;
        ended_is = λ k. block_ended x w f refl (Some (going id false (fragment_of f) 1)) done k ∙ or_nothing (is_ended_by (sent x) k);
        begun_is = begun_first x id odd high f refl on;
        list_is = list_first x id odd high f refl on;
      }
  opens first (c ∷ cs) flags streams =
      let f : Frame = Headers first in
      let y : List Step = x ++ Sent f ∷ [] in
      let on : first.stream ≡ id = All-head (λ (b : FrameBody). b.stream ≡ id) first (c ∷ cs) streams in
      let are : first.flags ≡ last_flag false = ap (head_of 0) flags in
      let goes : has_end_headers f ≡ false = flag_is f (last_flag false) false are (first_goes false) in
      let done : completed (sent x) f ≡ None = none_done (open_block (sent x)) f goes in
      let left : open_block (sent y) ≡ Some (going id false (fragment_of f) 1) =
      ap open_block (sent_push x f) ∙ header_blocks_grow.open_push (sent x) f ∙ left_by (open_block (sent x)) (block_with (open_block (sent x)) f) f refl goes
      ∙ ap (λ (b : Option Block). block_with b f) closed ∙ ap (λ (s : ℕ). Some (going s (has_end_stream f) (fragment_of f) 1)) on
      ∙ ap (λ (b : Bool). Some (going id b (fragment_of f) 1)) (last_is f (last_flag false) false are (first_last false)) in
      let begins : is_begun Client y id ≡ true = begun_first x id odd high f refl on id ∙ second_true (is_begun Client x id) (id == id) (same_self id) in
      let rest : Completes Client y w id false (map Continuation (c ∷ cs)) =
      others_complete Client w id false c cs y (fragment_of f) 1 left begins (ap tail_of flags) (All-tail (λ (b : FrameBody). b.stream ≡ id) first (c ∷ cs) streams) in
      let as_many : blocks (sent y) ≡ blocks (sent x) =
      ap blocks (sent_push x f) ∙ header_blocks_grow.blocks_push (sent x) f ∙ ap (λ (d : Option Block). blocks (sent x) ++ option_to_list d) done ∙ append-nil (blocks (sent x)) in
      subst (λ (z : List Step). Opens x z w id) (append_assoc x (Sent f ∷ []) (map Sent (map Continuation (c ∷ cs))))
      (record {
        parts_are = λ k.
            rest.adds.parts_are k
            ∙ ap (λ (bs : List Block). parts k w (sent y) ++ (if id == k then read_part false (slice_get w (length bs)) else [])) as_many
            ∙ ap (λ (ps : List Part). ps ++ (if id == k then read_part false (slice_get w (length (blocks (sent x)))) else [])) (block_parts x w f refl None done k ∙ append-nil (parts k w (sent x)));
        spent_is = λ k. omega (arith, rest.adds.spent_is k, block_spent x w f refl None done k, none_of (id == k));
        ended_is = λ k. rest.adds.ended_is k ∙ or_nothing (is_ended_by (sent y) k) ∙ block_ended x w f refl None done k ∙ or_nothing (is_ended_by (sent x) k);
        begun_is = λ k. rest.adds.begun_is k ∙ begun_first x id odd high f refl on k;
        list_is = rest.adds.list_is ∙ list_first x id odd high f refl on;
      })

-- The block that begins a stream brings its fields to it, and nothing to any other.
pub record Begins (x : List Step) (w : List (List Field)) (id : ℕ) (fields : List Field) (fs : List Frame) : Type 0 where
  pub parts_are : (k : ℕ) → parts k (w ++ fields ∷ []) (sent (x ++ map Sent fs)) ≡ parts k w (sent x) ++ (if id == k then Fields fields false ∷ [] else [])
  pub spent_is : (k : ℕ) → spent_on k (sent (x ++ map Sent fs)) ≡ spent_on k (sent x)
  pub ended_is : (k : ℕ) → is_ended_by (sent (x ++ map Sent fs)) k ≡ is_ended_by (sent x) k
  pub begun_is : (k : ℕ) → is_begun Client (x ++ map Sent fs) k ≡ (is_begun Client x k || id == k)
  pub list_is : begun Client (x ++ map Sent fs) ≡ begun Client x ++ id ∷ []

pub block_begins : (x : List Step) (w : List (List Field)) (id : ℕ) (fields : List Field) (fs : List Frame) → IsReady x w → is_odd id ≡ true → highest (sent x) < id → CarryBlock id false fs → Begins x w id fields fs
block_begins x w id fields fs ready odd high h =
    let got : slice_get (w ++ fields ∷ []) (length (blocks (sent x))) ≡ Some fields = get_next w fields [] (length (blocks (sent x))) ready.0 in
    let made : Opens x (x ++ map Sent fs) (w ++ fields ∷ []) id =
    subst (λ (gs : List Frame). Opens x (x ++ map Sent gs) (w ++ fields ∷ []) id) (sym h.frames_are) (opens x (w ++ fields ∷ []) id odd high ready.1 h.first h.others h.flags_are h.streams_are) in
    record {
      parts_are = λ k.
          made.parts_are k
          ∙ ap (λ (o : Option (List Field)). parts k (w ++ fields ∷ []) (sent x) ++ (if id == k then read_part false o else [])) got
          ∙ ap (λ (ps : List Part). ps ++ (if id == k then Fields fields false ∷ [] else [])) (parts_front k w (fields ∷ []) (sent x) (omega (arith, ready.0)));
      spent_is = made.spent_is;
      ended_is = made.ended_is;
      begun_is = made.begun_is;
      list_is = made.list_is;
    }
