-- Frames that are part of no header block and no data: what they add.
use Rattle.std.proofs.Common.{◌≡◌, ℕ, ◌==◌, Bool, true, false, ◌&&◌, ◌||◌, List, [], ◌∷◌, ◌++◌, length, Option, None, refl, sym, ap, subst, ◌∙◌, arith}
use Rattle.std.specs.Prelude.{nat_lt, option_to_list, if◌then◌else◌}
use Rattle.std.specs.List.{list_any}
use Rattle.std.proofs.lemmas.List.{append-nil}
use Rattle.hpack_tables.specs.declared.field.Field.{Field}
use Rattle.h2_frames.specs.declared.frame.Frame.{Frame}
use Rattle.h2_frames.specs.declared.frame.Frame.TheVariants.{Content, Headers, RstStream, Continuation}
use Rattle.h2_exchange.specs.declared.role.Role.{Role}
use Rattle.h2_exchange.specs.declared.role.Role.TheVariants.{Client, Server}
use Rattle.h2_exchange.specs.Blocks.{Block, block_with, blocks, completed, data_of, open_block}
use Rattle.h2_exchange.specs.Exchange.{Step, Sent, sent}
use Rattle.h2_exchange.specs.Frames.{code_of, counted, has_end_headers, has_end_stream, is_data, is_headers, is_rst_stream, stream_of}
use Rattle.h2_exchange.specs.StreamParts.{Part, Piece, Stopped, block_part, part_of, parts}
use Rattle.h2_exchange.specs.Streams.{begins, begun, highest, is_begun, is_ended_by, is_last_on, is_new, is_odd, is_open}
use Rattle.h2_exchange.specs.Windows.{spent_on}
use Rattle.h2_exchange.proofs.Looking.{collect_push, or_nothing}
use Rattle.h2_exchange.proofs.Steps.{begun_list_push, begun_push, header_blocks_grow, sent_push, window_sums_grow}
use Rattle.grpc_stream.specs.CallTrace.{CallTrace}
use Rattle.call_sending.specs.Moves.{IsReady, is_control, pushed}
use Rattle.call_sending.specs.Spelling.{parts_on}
use Rattle.call_sending.proofs.Kept.{IsUntouched}
use Rattle.call_sending.proofs.Moved.{open_back}
use Rattle.call_sending.proofs.Moving.{ended_from}

abbrev pub is_plain : Frame → Bool
is_plain f = is_control f || is_rst_stream f

pub control_is_plain : (f : Frame) → is_control f ≡ true → is_plain f ≡ true
control_is_plain f is = ap (λ (b : Bool). b || is_rst_stream f) is

pub reset_is_plain : (f : Frame) → is_rst_stream f ≡ true → is_plain f ≡ true
reset_is_plain f is = ap (λ (b : Bool). is_control f || b) is ∙ either (is_control f)
  where
    either : (a : Bool) → (a || true) ≡ true
    either true = refl
    either false = refl

pub control_no_reset : (f : Frame) → is_control f ≡ true → is_rst_stream f ≡ false
control_no_reset (RstStream b) is = absurd cc
control_no_reset other is = refl

pub no_block : (f : Frame) → is_plain f ≡ true → block_with None f ≡ None
no_block (Content b) is = refl
no_block (Headers b) is = absurd cc
no_block (Continuation b) is = refl
no_block other is = refl

pub no_headers : (f : Frame) → is_plain f ≡ true → is_headers f ≡ false
no_headers (Headers b) is = absurd cc
no_headers other is = refl

pub no_data : (f : Frame) → is_plain f ≡ true → is_data f ≡ false
no_data (Content b) is = absurd cc
no_data other is = refl

nothing_counted : (f : Frame) (t : Bool) → is_plain f ≡ true → (if t then counted f else 0) ≡ 0
nothing_counted (Content b) t is = absurd cc
nothing_counted other true is = refl
nothing_counted other false is = refl

none_either : (t : Bool) (o : Option Block) → o ≡ None → (if t then o else None) ≡ None
none_either true o e = e
none_either false o e = refl

none_else : (t : Bool) (o : Option Block) → o ≡ None → (if t then None else o) ≡ None
none_else true o e = refl
none_else false o e = e

module _ (past : List Frame) (f : Frame) (closed : open_block past ≡ None) (is : is_plain f ≡ true) where
  pub none_done : completed past f ≡ None
  none_done = none_either (has_end_headers f) (block_with (open_block past) f) (ap (λ (o : Option Block). block_with o f) closed ∙ no_block f is)

  pub still_closed : open_block (past ++ f ∷ []) ≡ None
  still_closed = header_blocks_grow.open_push past f ∙ none_else (has_end_headers f) (block_with (open_block past) f) (ap (λ (o : Option Block). block_with o f) closed ∙ no_block f is)

  pub blocks_same : blocks (past ++ f ∷ []) ≡ blocks past
  blocks_same = header_blocks_grow.blocks_push past f ∙ ap (λ (o : Option Block). blocks past ++ option_to_list o) none_done ∙ append-nil (blocks past)

  pub spent_same : (id : ℕ) → spent_on id (past ++ f ∷ []) ≡ spent_on id past
  spent_same id = omega (arith, window_sums_grow.spent_on_push id past f, nothing_counted f (stream_of f == id) is)

  pub ended_same : (id : ℕ) → is_ended_by (past ++ f ∷ []) id ≡ is_ended_by past id
  ended_same id =
      ended_from past f id false false (ap (λ (b : Bool). (b && has_end_stream f && stream_of f == id) || false) (no_data f is)) (ap (λ (o : Option Block). list_any (is_last_on id) (option_to_list o)) none_done)
      ∙ or_nothing (is_ended_by past id)

-- ---- what stands on a stream

abbrev pub stopped_on : ℕ → Frame → List Part
stopped_on id f = if stream_of f == id then Stopped (code_of f) ∷ [] else []

module _ (past : List Frame) (f : Frame) (closed : open_block past ≡ None) (is : is_plain f ≡ true) (id : ℕ) (heads : List (List Field)) where
  part_is : part_of id heads past f ≡ (if is_rst_stream f && stream_of f == id then Stopped (code_of f) ∷ [] else [])
  part_is =
      ap (λ (a : Bool). if a && stream_of f == id then Piece (data_of f) (has_end_stream f) ∷ [] else if is_rst_stream f && stream_of f == id then Stopped (code_of f) ∷ [] else block_part id heads past (completed past f)) (no_data f is)
      ∙ ap (λ (o : Option Block). if is_rst_stream f && stream_of f == id then Stopped (code_of f) ∷ [] else block_part id heads past o) (none_done past f closed is)

  adds : (b : Bool) → (is_rst_stream f && stream_of f == id) ≡ b → parts id heads (past ++ f ∷ []) ≡ parts id heads past ++ (if b then Stopped (code_of f) ∷ [] else [])
  adds b e =
      collect_push (part_of id heads) past f
      ∙ ap (λ (ps : List Part). parts id heads past ++ ps) (part_is ∙ ap (λ (a : Bool). if a then Stopped (code_of f) ∷ [] else []) e)

  pub parts_same : (is_rst_stream f && stream_of f == id) ≡ false → parts id heads (past ++ f ∷ []) ≡ parts id heads past
  parts_same e = adds false e ∙ append-nil (parts id heads past)

  pub parts_stop : (is_rst_stream f && stream_of f == id) ≡ true → parts id heads (past ++ f ∷ []) ≡ parts id heads past ++ Stopped (code_of f) ∷ []
  parts_stop e = adds true e

  pub reset_adds : is_rst_stream f ≡ true → parts id heads (past ++ f ∷ []) ≡ parts id heads past ++ stopped_on id f
  reset_adds rst = adds (stream_of f == id) (ap (λ (b : Bool). b && stream_of f == id) rst)

-- ---- behind any steps

not_begun : (x : List Step) (f : Frame) → is_headers f ≡ false → is_new (sent x) f ≡ false
not_begun x f none = ap (λ (b : Bool). b && is_odd (stream_of f) && nat_lt (highest (sent x)) (stream_of f)) none

begins_none : (role : Role) (x : List Step) (f : Frame) (id : ℕ) → is_headers f ≡ false → begins role id x (Sent f) ≡ false
begins_none Server x f id none = refl
begins_none Client x f id none = ap (λ (b : Bool). (b && stream_of f == id) || false) (not_begun x f none)

pub begun_same : (role : Role) (x : List Step) (f : Frame) (id : ℕ) → is_headers f ≡ false → is_begun role (x ++ Sent f ∷ []) id ≡ is_begun role x id
begun_same role x f id none = begun_push role x (Sent f) id ∙ ap (λ (b : Bool). is_begun role x id || b) (begins_none role x f id none) ∙ or_nothing (is_begun role x id)

pub begun_list_same : (role : Role) (x : List Step) (f : Frame) → is_headers f ≡ false → begun role (x ++ Sent f ∷ []) ≡ begun role x
begun_list_same Server x f none = begun_list_push Server x (Sent f) ∙ append-nil (begun Server x)
begun_list_same Client x f none = begun_list_push Client x (Sent f) ∙ ap (λ (b : Bool). begun Client x ++ ((if b then stream_of f ∷ [] else []) ++ [])) (not_begun x f none) ∙ append-nil (begun Client x)

module _ (t : CallTrace) (f : Frame) (closed : open_block (sent t.connection_trace.frames) ≡ None) (is : is_plain f ≡ true) where
  abbrev next : CallTrace
  next = pushed f t

  pub begun_still : (id : ℕ) → is_begun next.connection_trace.role next.connection_trace.frames id ≡ is_begun t.connection_trace.role t.connection_trace.frames id
  begun_still id = begun_same t.connection_trace.role t.connection_trace.frames f id (no_headers f is)

  pub ended_still_same : (id : ℕ) → is_ended_by (sent next.connection_trace.frames) id ≡ is_ended_by (sent t.connection_trace.frames) id
  ended_still_same id = ap (λ (fs : List Frame). is_ended_by fs id) (sent_push t.connection_trace.frames f) ∙ ended_same (sent t.connection_trace.frames) f closed is id

  pub spent_still : (id : ℕ) → spent_on id (sent next.connection_trace.frames) ≡ spent_on id (sent t.connection_trace.frames)
  spent_still id = ap (spent_on id) (sent_push t.connection_trace.frames f) ∙ spent_same (sent t.connection_trace.frames) f closed is id

  pub opened_before : (id : ℕ) → is_open next.connection_trace.role next.connection_trace.frames id ≡ true → is_open t.connection_trace.role t.connection_trace.frames id ≡ true
  opened_before id o = open_back t.connection_trace.role t.connection_trace.frames (f ∷ []) id (begun_still id) o

  pub untouched_if : (id : ℕ) → parts_on next id ≡ parts_on t id → IsUntouched t next id
  untouched_if id same = record {
    role_is = refl;
    numbers_are = refl;
    queued_is = refl;
    head_is = refl;
    parts_are = same;
    spent_is = spent_still id;
    ended_is = ended_still_same id;
    begun = λ e. sym (begun_still id) ∙ e;
    begun_before = λ role_is e. subst (λ (r : Role). is_begun r t.connection_trace.frames id ≡ is_begun r next.connection_trace.frames id) role_is (sym (begun_still id)) ∙ e;
    opened = opened_before id;
  }

  pub ready_still : IsReady t.connection_trace.frames t.connection_trace.written → IsReady next.connection_trace.frames next.connection_trace.written
  ready_still (many, none) = (
    omega (arith, many, ap (λ (fs : List Frame). length (blocks fs)) (sent_push t.connection_trace.frames f), ap length (blocks_same (sent t.connection_trace.frames) f closed is), ap length (append-nil t.connection_trace.written)),
    ap open_block (sent_push t.connection_trace.frames f) ∙ still_closed (sent t.connection_trace.frames) f closed is,
  )

parts_behind : (t : CallTrace) (f : Frame) (id : ℕ) → parts_on (pushed f t) id ≡ parts id t.connection_trace.written (sent t.connection_trace.frames ++ f ∷ [])
parts_behind t f id = ap (λ (w : List (List Field)). parts id w (sent (t.connection_trace.frames ++ Sent f ∷ []))) (append-nil t.connection_trace.written) ∙ ap (parts id t.connection_trace.written) (sent_push t.connection_trace.frames f)

-- no stream is touched by a control frame
pub control_untouched : (t : CallTrace) (f : Frame) → open_block (sent t.connection_trace.frames) ≡ None → is_control f ≡ true → (id : ℕ) → IsUntouched t (pushed f t) id
control_untouched t f closed is id =
    untouched_if t f closed (control_is_plain f is) id
    (parts_behind t f id
    ∙ parts_same (sent t.connection_trace.frames) f closed (control_is_plain f is) id t.connection_trace.written (ap (λ (b : Bool). b && stream_of f == id) (control_no_reset f is)))

pub reset_parts : (t : CallTrace) (f : Frame) → open_block (sent t.connection_trace.frames) ≡ None → is_rst_stream f ≡ true → (id : ℕ) → parts_on (pushed f t) id ≡ parts_on t id ++ stopped_on id f
reset_parts t f closed is id = parts_behind t f id ∙ reset_adds (sent t.connection_trace.frames) f closed (reset_is_plain f is) id t.connection_trace.written is

-- and by a reset no stream but its own
pub reset_untouched : (t : CallTrace) (f : Frame) → open_block (sent t.connection_trace.frames) ≡ None → is_rst_stream f ≡ true → (id : ℕ) → (stream_of f == id) ≡ false → IsUntouched t (pushed f t) id
reset_untouched t f closed is id other =
    untouched_if t f closed (reset_is_plain f is) id
    (reset_parts t f closed is id ∙ ap (λ (b : Bool). parts_on t id ++ (if b then Stopped (code_of f) ∷ [] else [])) other ∙ append-nil (parts_on t id))
