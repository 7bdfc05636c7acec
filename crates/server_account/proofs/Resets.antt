-- Behind the reset of a stream that a side had not ended, that side does not end it.
use Rattle.std.proofs.Common.{◌≡◌, inl, inr, ℕ, ◌==◌, Bool, ◌&&◌, ◌||◌, true, false, not, List, [], ◌∷◌, ◌++◌, length, Option, Some, None, refl, sym, ap, subst, ◌∙◌, append_assoc, append-nil, get_or, eqb-true}
use Rattle.std.specs.Prelude.{if◌then◌else◌, option_to_list, slice_get}
use Rattle.std.specs.List.{list_any}
use Rattle.std.proofs.lemmas.List.Folds.{list_any-append}
use Rattle.hpack_tables.specs.declared.field.Field.{Field}
use Rattle.h2_frames.specs.declared.code.ErrorCode.{ErrorCode}
use Rattle.h2_frames.specs.declared.frame.Frame.{Frame}
use Rattle.h2_frames.specs.declared.frame.Frame.TheVariants.{Content, Headers, Priority, RstStream, Settings, PushPromise, Ping, GoAway, WindowUpdate, Continuation, Unknown}
use Rattle.h2_frames.specs.Layout.{frame_text, type_of}
use Rattle.h2_exchange.specs.declared.limits.H2Limits.{H2Limits}
use Rattle.h2_exchange.specs.declared.role.Role.TheVariants.{Server}
use Rattle.h2_exchange.specs.Blocks.{Block, block_with, blocks, completed, data_of, open_block}
use Rattle.h2_exchange.specs.Content.{Outcome}
use Rattle.h2_exchange.specs.Exchange.{Step, Received, Sent, collect, received, sent}
use Rattle.h2_exchange.specs.Frames.{has_ack, has_end_headers, has_end_stream, code_of, is_continuation, is_data, is_headers, is_ping, is_rst_stream, is_settings, stream_of}
use Rattle.h2_exchange.specs.Outgoing.{HasPlace, MaySend, SendsOnly, opens, acknowledges, credits, credits_stream, resets_error, resets, begins_stream, carries, goes_away}
use Rattle.h2_exchange.specs.StreamParts.{Part, Fields, Piece, Stopped, StreamEnd, Unclosed, Trailers, WasReset, IsBody, IsResponse, CarriesResponse, block_part, end_by, part_of, parts, read_part}
use Rattle.h2_exchange.specs.Streams.{has_rst_stream, is_ended_by, is_last_on, is_live, is_open, is_over, is_reset}
use Rattle.h2_exchange.proofs.FrameOrder.{completed_stream}
use Rattle.h2_exchange.proofs.Looking.{or_nothing}
use Rattle.h2_exchange.proofs.Places.{and_parts, clash, first_true, neither, one_of, or_parts, second_true}
use Rattle.h2_exchange.proofs.Steps.{ended_more, header_blocks_grow, received_more, sent_more, sent_push, sent_received}
use Rattle.grpc_stream.proofs.Pieces.{ends_in}

-- ---- what one more frame ends

abbrev pub ends_data : ℕ → Frame → Bool
ends_data id f = is_data f && has_end_stream f && stream_of f == id

abbrev pub ends_now : ℕ → List Frame → Frame → Bool
ends_now id past f = ends_data id f || list_any (is_last_on id) (option_to_list (completed past f))

paired : (a b c d : Bool) → ((a || c) || (b || d)) ≡ ((a || b) || (c || d))
paired true b c d = refl
paired false true true d = refl
paired false true false d = refl
paired false false c d = refl

pub ended_push : (id : ℕ) (past : List Frame) (f : Frame) → is_ended_by (past ++ f ∷ []) id ≡ (is_ended_by past id || ends_now id past f)
ended_push id past f =
    ap (λ (a : Bool). a || list_any (is_last_on id) (blocks (past ++ f ∷ [])))
    (list_any-append (ends_data id) past (f ∷ []) ∙ ap (λ (a : Bool). list_any (ends_data id) past || a) (or_nothing (ends_data id f)))
    ∙ ap (λ (a : Bool). (list_any (ends_data id) past || ends_data id f) || a)
    (ap (list_any (is_last_on id)) (header_blocks_grow.blocks_push past f) ∙ list_any-append (is_last_on id) (blocks past) (option_to_list (completed past f)))
    ∙ paired (list_any (ends_data id) past) (list_any (is_last_on id) (blocks past)) (ends_data id f) (list_any (is_last_on id) (option_to_list (completed past f)))

-- ---- frames of no stream's content

abbrev pub is_part : Frame → Bool
is_part f = is_data f || is_headers f || is_continuation f

abbrev is_part_type : ℕ → Bool
is_part_type n = n == 0 || n == 1 || n == 9

pub part_by_type : (f : Frame) (n : ℕ) → type_of f ≡ n → is_part_type n ≡ false → is_part f ≡ false
part_by_type (Content b) n e other = let wrong : true ≡ false = ap is_part_type e ∙ other in absurd cc
part_by_type (Headers b) n e other = let wrong : true ≡ false = ap is_part_type e ∙ other in absurd cc
part_by_type (Continuation b) n e other = let wrong : true ≡ false = ap is_part_type e ∙ other in absurd cc
part_by_type (Priority b) n e other = refl
part_by_type (RstStream b) n e other = refl
part_by_type (Settings b) n e other = refl
part_by_type (PushPromise b) n e other = refl
part_by_type (Ping b) n e other = refl
part_by_type (GoAway b) n e other = refl
part_by_type (WindowUpdate b) n e other = refl
part_by_type (Unknown number b) n e other = refl

part_by_ack : (f : Frame) → ((is_settings f || is_ping f) && has_ack f) ≡ true → is_part f ≡ false
part_by_ack (Content b) e = absurd cc
part_by_ack (Headers b) e = absurd cc
part_by_ack (Continuation b) e = absurd cc
part_by_ack (Priority b) e = refl
part_by_ack (RstStream b) e = refl
part_by_ack (Settings b) e = refl
part_by_ack (PushPromise b) e = refl
part_by_ack (Ping b) e = refl
part_by_ack (GoAway b) e = refl
part_by_ack (WindowUpdate b) e = refl
part_by_ack (Unknown number b) e = refl

pub type_from : (f : Frame) (text : List ℕ) → frame_text f ≡ text → type_of f ≡ get_or text 3 0
type_from f text e = ap (λ (l : List ℕ). get_or l 3 0) e

pub no_block : (o : Option Block) (f : Frame) → is_part f ≡ false → block_with o f ≡ None
no_block None (Content b) e = absurd cc
no_block None (Headers b) e = absurd cc
no_block None (Continuation b) e = refl
no_block None (Priority b) e = refl
no_block None (RstStream b) e = refl
no_block None (Settings b) e = refl
no_block None (PushPromise b) e = refl
no_block None (Ping b) e = refl
no_block None (GoAway b) e = refl
no_block None (WindowUpdate b) e = refl
no_block None (Unknown number b) e = refl
no_block (Some d) (Content b) e = refl
no_block (Some d) (Headers b) e = refl
no_block (Some d) (Continuation b) e = absurd cc
no_block (Some d) (Priority b) e = refl
no_block (Some d) (RstStream b) e = refl
no_block (Some d) (Settings b) e = refl
no_block (Some d) (PushPromise b) e = refl
no_block (Some d) (Ping b) e = refl
no_block (Some d) (GoAway b) e = refl
no_block (Some d) (WindowUpdate b) e = refl
no_block (Some d) (Unknown number b) e = refl

none_either : (t : Bool) (o : Option Block) → o ≡ None → (if t then o else None) ≡ None
none_either true o e = e
none_either false o e = refl

pub other_ends_none : (id : ℕ) (past : List Frame) (f : Frame) → is_part f ≡ false → ends_now id past f ≡ false
other_ends_none id past f e =
    neither (ends_data id f) (list_any (is_last_on id) (option_to_list (completed past f)))
    (ap (λ (b : Bool). b && has_end_stream f && stream_of f == id) (or_parts (is_data f) (is_headers f) (or_parts (is_data f || is_headers f) (is_continuation f) e).0).0)
    (ap (λ (o : Option Block). list_any (is_last_on id) (option_to_list o)) (none_either (has_end_headers f) (block_with (open_block past) f) (no_block (open_block past) f e)))

-- ---- frames of another stream

not_both : (a b : Bool) → b ≡ false → (a && b) ≡ false
not_both true b e = e
not_both false b e = refl

elsewhere_ends_none : (id : ℕ) (past : List Step) (f : Frame) → HasPlace past f → (stream_of f == id) ≡ false → ends_now id (sent past) f ≡ false
elsewhere_ends_none id past f place other =
    neither (ends_data id f) (list_any (is_last_on id) (option_to_list (completed (sent past) f)))
    (not_both (is_data f && has_end_stream f) (stream_of f == id) other) (by (completed (sent past) f) refl)
  where
    by : (o : Option Block) → completed (sent past) f ≡ o → list_any (is_last_on id) (option_to_list o) ≡ false
    by None e = refl
    by (Some b) e =
        let same : b.stream ≡ stream_of f = completed_stream (open_block (sent past)) f b place.block e in
        neither (b.last && b.stream == id) false (not_both b.last (b.stream == id) (ap (λ (n : ℕ). n == id) same ∙ other)) refl

-- ---- a stream that was reset

pub reset_stays : (x more : List Step) (id : ℕ) → is_reset x id ≡ true → is_reset (x ++ more) id ≡ true
reset_stays x more id e = elim (one_of (has_rst_stream (received x) id) (has_rst_stream (sent x) id) e) [
  | inl r ↦ first_true (has_rst_stream (received (x ++ more)) id) (has_rst_stream (sent (x ++ more)) id) (kept (received x) (received more) (received (x ++ more)) (received_more x more) r)
  | inr s ↦ second_true (has_rst_stream (received (x ++ more)) id) (has_rst_stream (sent (x ++ more)) id) (kept (sent x) (sent more) (sent (x ++ more)) (sent_more x more) s)
]
  where
    kept : (fs gs hs : List Frame) → hs ≡ fs ++ gs → has_rst_stream fs id ≡ true → has_rst_stream hs id ≡ true
    kept fs gs hs split e =
        ap (λ (l : List Frame). has_rst_stream l id) split ∙ list_any-append (λ (f : Frame). is_rst_stream f && stream_of f == id) fs gs
        ∙ first_true (has_rst_stream fs id) (has_rst_stream gs id) e

pub reset_not_open : (x : List Step) (id : ℕ) → is_reset x id ≡ true → is_open Server x id ≡ true → ⊥
reset_not_open x id reset opened =
    let live = (and_parts (is_live Server x id) (not (is_ended_by (sent x) id)) opened).0 in
    let alive = (and_parts _ (not (is_over x id)) live).1 in
    let over = first_true (is_reset x id) (is_ended_by (received x) id && is_ended_by (sent x) id) reset in
    let wrong : true ≡ false = sym alive ∙ ap not over in absurd cc

module _ (limits : H2Limits) (heads : List Outcome) (is_asked : List Step → ℕ → ErrorCode → Bool) (bytes rest : List ℕ) (id : ℕ) where
  abbrev May : List Step → Frame → Type 0
  May past f = MaySend Server limits heads is_asked bytes rest past f

  ends_none : (past : List Step) (f : Frame) → is_reset past id ≡ true → May past f → HasPlace past f → ends_now id (sent past) f ≡ false
  ends_none past f reset (opens first text) place = other_ends_none id (sent past) f (part_by_type f 4 (type_from f _ text) refl)
  ends_none past f reset (acknowledges is in_turn) place = other_ends_none id (sent past) f (part_by_ack f is)
  ends_none past f reset (credits n text some within) place = other_ends_none id (sent past) f (part_by_type f 8 (type_from f _ text) refl)
  ends_none past f reset (credits_stream k n text some lives within) place = other_ends_none id (sent past) f (part_by_type f 8 (type_from f _ text) refl)
  ends_none past f reset (resets_error (before, g, why, split, clear, error, text)) place = other_ends_none id (sent past) f (part_by_type f 3 (type_from f _ text) refl)
  ends_none past f reset (resets k why lives asked text) place = other_ends_none id (sent past) f (part_by_type f 3 (type_from f _ text) refl)
  ends_none past f reset (begins_stream begins) place = absurd cc
  ends_none past f reset (goes_away why ends text) place = other_ends_none id (sent past) f (part_by_type f 7 (type_from f _ text) refl)
  ends_none past f reset (carries is opened) place = by (stream_of f == id) refl
    where
      by : (b : Bool) → (stream_of f == id) ≡ b → ends_now id (sent past) f ≡ false
      by true e = absurd (reset_not_open past id reset (subst (λ (k : ℕ). is_open Server past k ≡ true) (eqb-true (stream_of f) id e) opened))
      by false e = elsewhere_ends_none id past f place e

  pub stays_unclosed : (early later : List Step) → SendsOnly Server limits heads is_asked bytes rest (early ++ later) → is_reset early id ≡ true → is_ended_by (sent early) id ≡ false →
      is_ended_by (sent (early ++ later)) id ≡ false
  stays_unclosed early [] sends reset unclosed = ap (λ (x : List Step). is_ended_by (sent x) id) (append-nil early) ∙ unclosed
  stays_unclosed early (Received f ∷ later) sends reset unclosed =
      let split : (early ++ Received f ∷ []) ++ later ≡ early ++ Received f ∷ later = append_assoc early (Received f ∷ []) later in
      sym (ap (λ (x : List Step). is_ended_by (sent x) id) split)
      ∙ stays_unclosed (early ++ Received f ∷ []) later (subst (SendsOnly Server limits heads is_asked bytes rest) (sym split) sends) (reset_stays early (Received f ∷ []) id reset)
      (ap (λ (fs : List Frame). is_ended_by fs id) (sent_received early f) ∙ unclosed)
  stays_unclosed early (Sent f ∷ later) sends reset unclosed =
      let split : (early ++ Sent f ∷ []) ++ later ≡ early ++ Sent f ∷ later = append_assoc early (Sent f ∷ []) later in
      let may = sends early later f refl in
      sym (ap (λ (x : List Step). is_ended_by (sent x) id) split)
      ∙ stays_unclosed (early ++ Sent f ∷ []) later (subst (SendsOnly Server limits heads is_asked bytes rest) (sym split) sends) (reset_stays early (Sent f ∷ []) id reset)
      (ap (λ (fs : List Frame). is_ended_by fs id) (sent_push early f) ∙ ended_push id (sent early) f ∙ neither (is_ended_by (sent early) id) (ends_now id (sent early) f) unclosed (ends_none early f reset may.0 may.1))

-- ---- an end among the parts of a stream

module _ (id : ℕ) (heads : List (List Field)) where
  block_ends : (past : List Frame) (o : Option Block) → list_any ends_in (block_part id heads past o) ≡ true → list_any (is_last_on id) (option_to_list o) ≡ true
  block_ends past None e = absurd cc
  block_ends past (Some b) e = by (b.stream == id) refl b.last refl (slice_get heads (length (blocks past))) e
    where
      by : (t : Bool) → (b.stream == id) ≡ t → (l : Bool) → b.last ≡ l → (o : Option (List Field)) → list_any ends_in (if t then read_part l o else []) ≡ true → ((b.last && b.stream == id) || false) ≡ true
      by true same true last o e = rw (same, last) refl
      by true same false last (Some fields) e = absurd cc
      by true same false last None e = absurd cc
      by false same l last o e = absurd cc

  data_ends : (t last any : Bool) (bytes : List ℕ) (others : List Part) → (list_any ends_in others ≡ true → any ≡ true) → list_any ends_in (if t then Piece bytes last ∷ [] else others) ≡ true → (last && t || any) ≡ true
  data_ends true true any bytes others h e = refl
  data_ends true false any bytes others h e = absurd cc
  data_ends false last any bytes others h e = second_true (last && false) any (h e)

  stop_ends : (t any : Bool) (why : ErrorCode) (others : List Part) → (list_any ends_in others ≡ true → any ≡ true) → list_any ends_in (if t then Stopped why ∷ [] else others) ≡ true → any ≡ true
  stop_ends true any why others h e = absurd cc
  stop_ends false any why others h e = h e

  part_ends : (past : List Frame) (f : Frame) → list_any ends_in (part_of id heads past f) ≡ true → ends_now id past f ≡ true
  part_ends past (Content b) e = data_ends (b.stream == id) (has_end_stream (Content b)) _ (data_of (Content b)) (block_part id heads past (completed past (Content b))) (block_ends past (completed past (Content b))) e
  part_ends past (RstStream b) e = stop_ends (b.stream == id) _ (code_of (RstStream b)) (block_part id heads past (completed past (RstStream b))) (block_ends past (completed past (RstStream b))) e
  part_ends past (Headers b) e = second_true (ends_data id (Headers b)) (list_any (is_last_on id) (option_to_list (completed past (Headers b)))) (block_ends past (completed past (Headers b)) e)
  part_ends past (Continuation b) e = second_true (ends_data id (Continuation b)) (list_any (is_last_on id) (option_to_list (completed past (Continuation b)))) (block_ends past (completed past (Continuation b)) e)
  part_ends past (Priority b) e = second_true (ends_data id (Priority b)) (list_any (is_last_on id) (option_to_list (completed past (Priority b)))) (block_ends past (completed past (Priority b)) e)
  part_ends past (Settings b) e = second_true (ends_data id (Settings b)) (list_any (is_last_on id) (option_to_list (completed past (Settings b)))) (block_ends past (completed past (Settings b)) e)
  part_ends past (PushPromise b) e = second_true (ends_data id (PushPromise b)) (list_any (is_last_on id) (option_to_list (completed past (PushPromise b)))) (block_ends past (completed past (PushPromise b)) e)
  part_ends past (Ping b) e = second_true (ends_data id (Ping b)) (list_any (is_last_on id) (option_to_list (completed past (Ping b)))) (block_ends past (completed past (Ping b)) e)
  part_ends past (GoAway b) e = second_true (ends_data id (GoAway b)) (list_any (is_last_on id) (option_to_list (completed past (GoAway b)))) (block_ends past (completed past (GoAway b)) e)
  part_ends past (WindowUpdate b) e = second_true (ends_data id (WindowUpdate b)) (list_any (is_last_on id) (option_to_list (completed past (WindowUpdate b)))) (block_ends past (completed past (WindowUpdate b)) e)
  part_ends past (Unknown number b) e = second_true (ends_data id (Unknown number b)) (list_any (is_last_on id) (option_to_list (completed past (Unknown number b)))) (block_ends past (completed past (Unknown number b)) e)

  ended_from : (early fs : List Frame) → list_any ends_in (collect (part_of id heads) early fs) ≡ true → is_ended_by (early ++ fs) id ≡ true
  ended_from early [] e = absurd cc
  ended_from early (f ∷ fs) e =
      let split : (early ++ f ∷ []) ++ fs ≡ early ++ f ∷ fs = append_assoc early (f ∷ []) fs in
      let joined = list_any-append ends_in (part_of id heads early f) (collect (part_of id heads) (early ++ f ∷ []) fs) in
      sym (ap (λ (l : List Frame). is_ended_by l id) split)
      ∙ elim (one_of (list_any ends_in (part_of id heads early f)) (list_any ends_in (collect (part_of id heads) (early ++ f ∷ []) fs)) (sym joined ∙ e)) [
        | inl now ↦ ended_more (early ++ f ∷ []) fs id (ended_push id early f ∙ second_true (is_ended_by early id) (ends_now id early f) (part_ends early f now))
        | inr later ↦ ended_from (early ++ f ∷ []) fs later
      ]

  -- an end among the parts of a stream is one of its frames
  pub parts_ended : (fs : List Frame) → list_any ends_in (parts id heads fs) ≡ true → is_ended_by fs id ≡ true
  parts_ended fs e = ended_from [] fs e

-- ---- a response without an end

body_ends : (ps : List Part) (bytes : List ℕ) (close : StreamEnd) (fields : List Field) → IsBody ps bytes close → close ≡ Trailers fields → list_any ends_in ps ≡ true
body_ends [] bytes close fields (none, end) e = let wrong : Trailers fields ≡ Unclosed = sym e ∙ end in absurd cc
body_ends (Piece piece false ∷ ps) bytes close fields (more, all, h) e = body_ends ps more close fields h e
body_ends (Piece piece true ∷ ps) bytes close fields h e = refl
body_ends (Fields others true ∷ ps) bytes close fields h e = refl
body_ends (Fields others false ∷ ps) bytes close fields h e = absurd h
body_ends (Stopped why ∷ []) bytes close fields (none, end) e = let wrong : Trailers fields ≡ WasReset = sym e ∙ end in absurd cc
body_ends (Stopped why ∷ p ∷ ps) bytes close fields h e = absurd h

response_ends : (head : List Field) (ps : List Part) (bytes : List ℕ) (close : StreamEnd) (fields : List Field) → IsResponse head ps bytes close → close ≡ Trailers fields → list_any ends_in ps ≡ true
response_ends head [] bytes close fields (none, end) e = let wrong : Trailers fields ≡ Unclosed = sym e ∙ end in absurd cc
response_ends head (Stopped why ∷ []) bytes close fields (none, end) e = let wrong : Trailers fields ≡ WasReset = sym e ∙ end in absurd cc
response_ends head (Stopped why ∷ p ∷ ps) bytes close fields h e = absurd h
response_ends head (Piece piece last ∷ ps) bytes close fields h e = absurd h
response_ends head (Fields others true ∷ ps) bytes close fields h e = refl
response_ends head (Fields others false ∷ []) bytes close fields (same, body) e = body_ends [] bytes close fields body e
response_ends head (Fields others false ∷ Fields trailers true ∷ ps) bytes close fields h e = refl
response_ends head (Fields others false ∷ Fields trailers false ∷ ps) bytes close fields (same, body) e = absurd body
response_ends head (Fields others false ∷ Piece piece last ∷ ps) bytes close fields (same, body) e = body_ends (Piece piece last ∷ ps) bytes close fields body e
response_ends head (Fields others false ∷ Stopped why ∷ ps) bytes close fields (same, body) e = body_ends (Stopped why ∷ ps) bytes close fields body e

module _ {E : Type 0} (head : List Field) (read_end : List Field → E) (heads : List (List Field)) (fs : List Frame) (id : ℕ) (messages : List (List ℕ)) (rest : List ℕ) where
  -- what frames spell on a stream that they don't end has no end
  pub unended_response : (end : Option E) → CarriesResponse head read_end heads fs id messages rest end → is_ended_by fs id ≡ false → end ≡ None
  unended_response None h open_still = refl
  unended_response (Some e) h open_still = by h.close refl
    where
      by : (close : StreamEnd) → h.close ≡ close → (let o : Option E = Some e in o) ≡ None
      by Unclosed is = let wrong = h.end_is ∙ ap (end_by head read_end) is in absurd cc
      by WasReset is = let wrong = h.end_is ∙ ap (end_by head read_end) is in absurd cc
      by (Trailers fields) is = absurd (clash (is_ended_by fs id) (parts_ended id heads fs (response_ends head (parts id heads fs) h.bytes h.close fields h.response is)) open_still)
