-- The frames that a connection received and answered before it gave an event keep what holds of calls.
use Rattle.std.proofs.Common.{◌≡◌, ◌⊎◌, ℕ, ◌<◌, ◌^◌, ◌==◌, Bool, true, false, ◌&&◌, ◌||◌, List, [], ◌∷◌, ◌++◌, map, Option, Some, None, refl, sym, ap, subst, ◌∙◌, inl, inr, append_assoc, arith}
use Rattle.std.specs.Prelude.{if◌then◌else◌}
use Rattle.std.specs.List.{flat_map}
use Rattle.std.specs.Int.{w32, to_be_bytes}
use Rattle.std.proofs.lemmas.List.{append-nil}
use Rattle.h2_frames.specs.declared.code.ErrorCode.{ErrorCode}
use Rattle.h2_frames.specs.declared.frame.Frame.{Frame}
use Rattle.h2_frames.specs.declared.frame.Frame.TheVariants.{RstStream, Settings, Ping}
use Rattle.h2_frames.specs.declared.frame.FrameBody.{FrameBody}
use Rattle.h2_frames.specs.Layout.{body_of, frame_text}
use Rattle.hpack_tables.specs.declared.field.Field.{Field}
use Rattle.h2_exchange.specs.declared.role.Role.{Role}
use Rattle.h2_exchange.specs.Blocks.{open_block}
use Rattle.h2_exchange.specs.Content.{stream_error}
use Rattle.h2_exchange.specs.Events.{Event}
use Rattle.h2_exchange.specs.Exchange.{Step, Received, Sent, collect, sent}
use Rattle.h2_exchange.specs.Frames.{code_of, counted, has_ack, is_data, is_rst_stream, stream_of, has_end_stream}
use Rattle.h2_exchange.specs.Blocks.{completed, data_of}
use Rattle.h2_exchange.specs.Outcomes.{AreEnough}
use Rattle.h2_exchange.specs.Sending.{ack_for, credit_text, reset_text, update_text}
use Rattle.h2_exchange.specs.StreamParts.{Part, Piece, Stopped, block_part, part_of}
use Rattle.h2_exchange.specs.Stops.{stop_of}
use Rattle.h2_exchange.specs.Streams.{begins, has_rst_stream, is_begun, is_live, is_live_at, is_over, is_reset}
use Rattle.h2_exchange.proofs.Answered.{error_live}
use Rattle.h2_exchange.proofs.Places.{and_parts, first_true, neither, not_true, one_of, or_parts, second_true}
use Rattle.h2_exchange.proofs.Steps.{begins_once, begun_push, sent_push, sent_received}
use Rattle.http_connection.specs.Answers.{AreReplyBy, GivesEvents, Receives, after, credit_for, text_or_none, ends, goes, stops}
use Rattle.http_connection.specs.ConnectionTrace.{ConnectionTrace}
use Rattle.grpc_stream.proofs.Granted.{body, one_frame, same_frames, update, zero_small}
use Rattle.grpc_stream.specs.CallTrace.{CallTrace}
use Rattle.call_sending.specs.Spelling.{parts_on}
use Rattle.call_standing.specs.Standing.{Holds, State, bare}
use Rattle.call_standing.proofs.Credits.{AreControl, controls_hold, with_frames}
use Rattle.call_standing.proofs.Rest.{spoken}
use Rattle.call_sending.proofs.Sent.{control_is_plain, reset_is_plain, still_closed}
use Rattle.call_sending.specs.Moves.{is_control}
use Rattle.call_telling.specs.Giving.{untaken}
use Rattle.call_telling.proofs.Answered.{error_reset_holds}
use Rattle.call_telling.proofs.Beside.{beside_holds}
use Rattle.call_telling.proofs.Known.{clear_parts, heads_beside, received_beside}

-- ---- acknowledgements and credit are no part of a call

none_sent : (fs : List Frame) → flat_map frame_text fs ≡ [] → AreControl fs
none_sent fs text = subst AreControl (sym (same_frames fs [] text)) tt

one_sent : (fs : List Frame) (f : Frame) → flat_map frame_text fs ≡ frame_text f ++ [] → is_control f ≡ true → AreControl fs
one_sent fs f text is = subst AreControl (sym (same_frames fs (f ∷ []) text)) (is, tt)

credit_live : (id n : ℕ) (small : id < 2 ^ 31) (fs : List Frame) (l : Bool) → flat_map frame_text fs ≡ update_text 0 n ++ (if l then update_text id n else []) → AreControl fs
credit_live id n small fs false text = one_sent fs (update 0 n zero_small) text refl
credit_live id n small fs true text =
    subst AreControl (sym (same_frames fs (update 0 n zero_small ∷ update id n small ∷ []) (text ∙ ap (λ (l : List ℕ). update_text 0 n ++ l) (sym (append-nil (update_text id n)))))) (refl, (refl, tt))

credit_some : (role : Role) (now : List Step) (id n : ℕ) (small : id < 2 ^ 31) (fs : List Frame) (b : Bool) → (n == 0) ≡ b → flat_map frame_text fs ≡ credit_text role now id n → AreControl fs
credit_some role now id n small fs true e text =
    none_sent fs (text ∙ ap (λ (b : Bool). if b then [] else update_text 0 n ++ (if is_live role now id then update_text id n else [])) e)
credit_some role now id n small fs false e text =
    credit_live id n small fs (is_live role now id) (text ∙ ap (λ (b : Bool). if b then [] else update_text 0 n ++ (if is_live role now id then update_text id n else [])) e)

credit_if : (held : Bool) (role : Role) (now : List Step) (id n : ℕ) (small : id < 2 ^ 31) (fs : List Frame) → flat_map frame_text fs ≡ (if held then [] else credit_text role now id n) → AreControl fs
credit_if true role now id n small fs text = none_sent fs text
credit_if false role now id n small fs text = credit_some role now id n small fs (n == 0) refl text

credits : (role : Role) (held : Bool) (now : List Step) (f : Frame) (fs : List Frame) → flat_map frame_text fs ≡ credit_for role held now f → AreControl fs
credits role held now f fs text = credit_if held role now (stream_of f) (counted f) (body_of f).stream_in_range fs text

no_credit : (held : Bool) → ◌≡◌ {A = List ℕ} (if held then [] else []) []
no_credit true = refl
no_credit false = refl

ping : (b : FrameBody) (held h : Bool) (fs : List Frame) → has_ack (Ping b) ≡ h → flat_map frame_text fs ≡ text_or_none (ack_for (Ping b)) ++ (if held then [] else []) → AreControl fs
ping b held true fs is text = none_sent fs (text ∙ rw (is, no_credit held) refl)
ping b held false fs is text = one_sent fs (Ping (body 1 0 b.payload (omega arith) b.payload_in_range)) (text ∙ rw (is, no_credit held) refl) refl

settings : (b : FrameBody) (held h : Bool) (fs : List Frame) → has_ack (Settings b) ≡ h → flat_map frame_text fs ≡ text_or_none (ack_for (Settings b)) ++ (if held then [] else []) → AreControl fs
settings b held true fs is text = none_sent fs (text ∙ rw (is, no_credit held) refl)
settings b held false fs is text = one_sent fs (Settings (body 1 0 [] (omega arith) (omega arith))) (text ∙ rw (is, no_credit held) refl) refl

plain_answers : (role : Role) (held : Bool) (now : List Step) (f : Frame) (fs : List Frame) → flat_map frame_text fs ≡ text_or_none (ack_for f) ++ credit_for role held now f → AreControl fs
plain_answers role held now (Ping b) fs text = ping b held (has_ack (Ping b)) fs refl text
plain_answers role held now (Settings b) fs text = settings b held (has_ack (Settings b)) fs refl text
plain_answers role held now other fs text = credits role held now other fs text

controls_closed : (fs : List Frame) (x : List Step) → open_block (sent x) ≡ None → AreControl fs → open_block (sent (x ++ map Sent fs)) ≡ None
controls_closed [] x closed are = ap (λ (y : List Step). open_block (sent y)) (append-nil x) ∙ closed
controls_closed (f ∷ fs) x closed are =
    let now : open_block (sent (x ++ Sent f ∷ [])) ≡ None = ap open_block (sent_push x f) ∙ still_closed (sent x) f closed (control_is_plain f are.0) in
    ap (λ (y : List Step). open_block (sent y)) (sym (append_assoc x (Sent f ∷ []) (map Sent fs))) ∙ controls_closed fs (x ++ Sent f ∷ []) now are.1

-- ---- a stream on which nothing stands was not reset

no_parts : (a b : List Part) → a ++ b ≡ [] → (a ≡ []) × (b ≡ [])
no_parts [] b e = (refl, e)
no_parts (p ∷ a) b e = absurd cc

unreset_here : (d r : Bool) (piece : Part) (why : ErrorCode) (block : List Part) → (if d then piece ∷ [] else if r then Stopped why ∷ [] else block) ≡ [] → r ≡ false
unreset_here true r piece why block e = absurd cc
unreset_here false true piece why block e = absurd cc
unreset_here false false piece why block e = refl

unreset_from : (id : ℕ) (heads : List (List Field)) (past fs : List Frame) → collect (part_of id heads) past fs ≡ [] → has_rst_stream fs id ≡ false
unreset_from id heads past [] e = refl
unreset_from id heads past (f ∷ fs) e =
    let both = no_parts (part_of id heads past f) (collect (part_of id heads) (past ++ f ∷ []) fs) e in
    neither (is_rst_stream f && stream_of f == id) (has_rst_stream fs id)
    (unreset_here (is_data f && stream_of f == id) (is_rst_stream f && stream_of f == id) (Piece (data_of f) (has_end_stream f)) (code_of f) (block_part id heads past (completed past f)) both.0)
    (unreset_from id heads (past ++ f ∷ []) fs both.1)

pub unreset_without : (t : CallTrace) (id : ℕ) → parts_on t id ≡ [] → has_rst_stream (sent t.connection_trace.frames) id ≡ false
unreset_without t id none = unreset_from id t.connection_trace.written [] (sent t.connection_trace.frames) none

-- a stream that is live at a frame was begun behind it
pub live_begun : (role : Role) (x : List Step) (f : Frame) (id : ℕ) → is_live_at role x f id ≡ true → is_begun role (x ++ Received f ∷ []) id ≡ true
live_begun role x f id live = begun_push role x (Received f) id ∙ by (one_of (is_live role x id) (begins role id x (Received f)) live)
  where
    by : (is_live role x id ≡ true) ⊎ (begins role id x (Received f) ≡ true) → (is_begun role x id || begins role id x (Received f)) ≡ true
    by (inl lives) = first_true (is_begun role x id) (begins role id x (Received f)) (and_parts _ _ lives).0
    by (inr new) = second_true (is_begun role x id) (begins role id x (Received f)) new

-- ---- one frame and what answers it

module _ (s : State) (t : CallTrace) (held : Bool) where
  abbrev pub Fine : List Step → Type 0
  Fine x = (open_block (sent x) ≡ None) × Holds s (with_frames x t)

  heard : (x : List Step) (f : Frame) → stop_of t.connection_trace.role t.connection_trace.limits t.connection_trace.heads x ≡ None → Fine x → Fine (x ++ Received f ∷ [])
  heard x f clear (closed, h) = (
    ap open_block (sent_received x f) ∙ closed,
    beside_holds (with_frames x t) t.connection_trace.heads (x ++ Received f ∷ []) t.resets (received_beside (with_frames x t) f clear h.only h.unpadded) s h,
  )

  controls : (fs : List Frame) (x : List Step) → AreControl fs → Fine x → Fine (x ++ map Sent fs)
  controls fs x are (closed, h) = (controls_closed fs x closed are, controls_hold s fs (with_frames x t) closed are h)

  -- the stream of a stream error was not reset
  not_reset : (x : List Step) (id : ℕ) (f : Frame) → Holds s (with_frames x t) → (is_live t.connection_trace.role x id ≡ true) ⊎ (begins t.connection_trace.role id x (Received f) ≡ true) →
      has_rst_stream (sent x) id ≡ false
  not_reset x id f h (inl lives) =
      let alive : is_over x id ≡ false = not_true _ (and_parts _ _ lives).1 in
      let none : is_reset x id ≡ false = (or_parts _ _ alive).0 in
      (or_parts _ _ none).1
  not_reset x id f h (inr new) =
      unreset_without (with_frames x t) id ((spoken s (with_frames x t) id h).speaks.begun_first (begins_once t.connection_trace.role x (Received f) id new)).1

  resets : (x : List Step) (f reset : Frame) (why : ErrorCode) → stop_of t.connection_trace.role t.connection_trace.limits t.connection_trace.heads (x ++ Received f ∷ []) ≡ None →
      stream_error t.connection_trace.role t.connection_trace.limits t.connection_trace.heads x f ≡ Some why → frame_text reset ≡ reset_text (stream_of f) why →
      Holds s (with_frames x t) → Fine (x ++ Received f ∷ []) → Fine ((x ++ Received f ∷ []) ++ Sent reset ∷ [])
  resets x f reset why clear error text before (closed, h) =
      let is = one_frame reset (RstStream (body 0 (stream_of f) (to_be_bytes w32 why.0) (body_of f).stream_in_range (omega arith))) text in
      let rst : is_rst_stream reset ≡ true = ap is_rst_stream is in
      let on : stream_of reset ≡ stream_of f = ap stream_of is in
      let live = error_live t.connection_trace.limits t.connection_trace.heads t.connection_trace.role x f why (clear_parts t.connection_trace.role t.connection_trace.limits t.connection_trace.heads x (Received f) clear).1 error in
      let begun : is_begun t.connection_trace.role (x ++ Received f ∷ []) (stream_of reset) ≡ true =
      ap (is_begun t.connection_trace.role (x ++ Received f ∷ [])) on ∙ live_begun t.connection_trace.role x f (stream_of f) live in
      let unreset : has_rst_stream (sent (x ++ Received f ∷ [])) (stream_of reset) ≡ false =
      ap (λ (fs : List Frame). has_rst_stream fs (stream_of reset)) (sent_received x f) ∙ ap (has_rst_stream (sent x)) on
      ∙ not_reset x (stream_of f) f before (one_of (is_live t.connection_trace.role x (stream_of f)) (begins t.connection_trace.role (stream_of f) x (Received f)) live) in (
        ap open_block (sent_push (x ++ Received f ∷ []) reset) ∙ still_closed (sent (x ++ Received f ∷ [])) reset closed (reset_is_plain reset rst),
        error_reset_holds (with_frames (x ++ Received f ∷ []) t) reset closed rst begun unreset s (x, f, why, refl, clear, error, text) h,
      )

  replied : (why : Option ErrorCode) (x : List Step) (f : Frame) (fs : List Frame) → stream_error t.connection_trace.role t.connection_trace.limits t.connection_trace.heads x f ≡ why →
      stop_of t.connection_trace.role t.connection_trace.limits t.connection_trace.heads (x ++ Received f ∷ []) ≡ None → AreReplyBy why t.connection_trace.role held x f fs →
      Holds s (with_frames x t) → Fine (x ++ Received f ∷ []) → Fine ((x ++ Received f ∷ []) ++ map Sent fs)
  replied None x f fs error clear reply before fine = controls fs (x ++ Received f ∷ []) (plain_answers t.connection_trace.role held (x ++ Received f ∷ []) f fs reply) fine
  replied (Some why) x f fs error clear (reset, later, are, text, credit) before fine =
      let now = resets x f reset why clear error text before fine in
      let all = controls later ((x ++ Received f ∷ []) ++ Sent reset ∷ []) (credits t.connection_trace.role held (x ++ Received f ∷ Sent reset ∷ []) f later credit) now in
      subst Fine (append_assoc (x ++ Received f ∷ []) (Sent reset ∷ []) (map Sent later) ∙ ap (λ (gs : List Frame). (x ++ Received f ∷ []) ++ map Sent gs) (sym are)) all

  pub received_holds : (x more : List Step) → Receives t.connection_trace.role t.connection_trace.limits held t.connection_trace.heads x more → Fine x → Fine (x ++ more)
  received_holds x more (ends past) fine = subst Fine (sym (append-nil x)) fine
  received_holds x more (goes past later f fs clear reply others) fine =
      let now = heard x f (clear_parts t.connection_trace.role t.connection_trace.limits t.connection_trace.heads x (Received f) clear).0 fine in
      let answered = replied (stream_error t.connection_trace.role t.connection_trace.limits t.connection_trace.heads x f) x f fs refl clear reply fine.1 now in
      let there : Fine (x ++ Received f ∷ map Sent fs) = subst Fine (append_assoc x (Received f ∷ []) (map Sent fs)) answered in
      subst Fine (append_assoc x (Received f ∷ map Sent fs) later) (received_holds (x ++ Received f ∷ map Sent fs) later others there)
  received_holds x more (stops past f stop clear stopped) fine = heard x f clear fine

-- ---- up to the events

module _ (s : State) (t : CallTrace) (es : List Event) (d : ConnectionTrace) (enough : AreEnough t.connection_trace.role t.connection_trace.limits t.connection_trace.heads t.connection_trace.frames)
    (closed : open_block (sent t.connection_trace.frames) ≡ None) (gives : GivesEvents t.connection_trace es d) (h : Holds s (bare t)) where
  all_fine : (open_block (sent (t.connection_trace.frames ++ gives.more)) ≡ None) × Holds s (bare (untaken t (after gives.more gives.outcomes es None t.connection_trace)))
  all_fine =
      let known : Holds s (bare (record t { connection_trace = record t.connection_trace { heads = t.connection_trace.heads ++ gives.outcomes } })) =
      beside_holds (bare t) (t.connection_trace.heads ++ gives.outcomes) t.connection_trace.frames t.resets (heads_beside (bare t) gives.outcomes enough h.only h.unpadded) s h in
      received_holds s (bare (record t { connection_trace = record t.connection_trace { heads = t.connection_trace.heads ++ gives.outcomes } })) t.connection_trace.is_holding
      t.connection_trace.frames gives.more gives.receives (closed, known)

  pub still_closed_at : open_block (sent d.frames) ≡ None
  still_closed_at = ap (λ (c : ConnectionTrace). open_block (sent c.frames)) gives.goes_on ∙ all_fine.0

  pub receives_hold : Holds s (bare (untaken t d))
  receives_hold = subst (λ (c : ConnectionTrace). Holds s (bare (untaken t c))) (sym gives.goes_on) all_fine.1
