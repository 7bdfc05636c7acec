-- What a reset leaves of what is spelled on its stream.
use Rattle.std.proofs.Common.{◌≡◌, ℕ, ◌==◌, Bool, true, false, ◌&&◌, ◌||◌, List, [], ◌∷◌, ◌++◌, length, Option, Some, None, refl, sym, ap, subst, ◌∙◌, arith}
use Rattle.std.specs.Prelude.{option_map, if◌then◌else◌}
use Rattle.std.specs.List.{list_any, slice_get}
use Rattle.std.proofs.lemmas.Bool.Decides.{nat_tests}
use Rattle.std.proofs.lemmas.List.Folds.{list_any-append}
use Rattle.hpack_tables.specs.declared.field.Field.{Field}
use Rattle.h2_frames.specs.declared.code.ErrorCode.{ErrorCode}
use Rattle.h2_frames.specs.declared.frame.Frame.{Frame}
use Rattle.h2_exchange.specs.declared.role.Role.{Role}
use Rattle.h2_exchange.specs.declared.role.Role.TheVariants.{Client, Server}
use Rattle.h2_exchange.specs.Blocks.{Block, blocks, completed, data_of, open_block}
use Rattle.h2_exchange.specs.Exchange.{collect, sent}
use Rattle.h2_exchange.specs.Frames.{code_of, has_end_stream, is_data, is_rst_stream, stream_of}
use Rattle.h2_exchange.specs.Requests.{IsRequest, IsRequestBody}
use Rattle.h2_exchange.specs.StreamParts.{Part, Fields, Piece, Stopped, StreamEnd, Unclosed, Trailers, WasReset, IsBody, IsOver, IsResponse, block_part, end_by, has_begun, part_of, parts, read_part}
use Rattle.h2_exchange.specs.Streams.{has_rst_stream, is_begun, is_live, is_open, is_over}
use Rattle.h2_exchange.proofs.Places.{and_parts, clash, not_true, or_parts, same_self}
use Rattle.h2_exchange.proofs.Steps.{sent_push}
use Rattle.grpc_heads.specs.CallEnd.{CallEnd, call_end_of}
use Rattle.grpc_heads.specs.Written.{response_fields}
use Rattle.grpc_stream.specs.CallTrace.{CallTrace, asked_on}
use Rattle.kept_calls.specs.CallState.{CallState}
use Rattle.call_sending.specs.Laws.{OthersSpellOn}
use Rattle.call_sending.specs.Moves.{pushed}
use Rattle.call_sending.specs.Spelling.{IsHeaded, Sends, Speaks, Spells, parts_on}
use Rattle.call_sending.proofs.Kept.{prepared_same, sends_kept}
use Rattle.call_sending.proofs.Sent.{begun_still, control_untouched, ended_still_same, is_plain, reset_is_plain, reset_parts, reset_untouched, spent_still}

abbrev pub is_stopped : Part → Bool
is_stopped (Stopped why) = true
is_stopped other = false

-- ---- no part is a reset where none was sent

read_unstopped : (last : Bool) (o : Option (List Field)) → list_any is_stopped (read_part last o) ≡ false
read_unstopped last None = refl
read_unstopped last (Some fields) = refl

block_unstopped : (id : ℕ) (heads : List (List Field)) (past : List Frame) (o : Option Block) → list_any is_stopped (block_part id heads past o) ≡ false
block_unstopped id heads past None = refl
block_unstopped id heads past (Some b) = by (b.stream == id)
  where
    by : (t : Bool) → list_any is_stopped (if t then read_part b.last (slice_get heads (length (blocks past))) else []) ≡ false
    by true = read_unstopped b.last (slice_get heads (length (blocks past)))
    by false = refl

part_unstopped : (a b : Bool) (p q : Part) (ps : List Part) → is_stopped p ≡ false → b ≡ false → list_any is_stopped ps ≡ false → list_any is_stopped (if a then p ∷ [] else if b then q ∷ [] else ps) ≡ false
part_unstopped true b p q ps h e k = ap (λ (t : Bool). t || false) h
part_unstopped false true p q ps h e k = absurd cc
part_unstopped false false p q ps h e k = k

both_false : (a b c : Bool) → c ≡ (a || b) → a ≡ false → b ≡ false → c ≡ false
both_false true b c e p q = absurd cc
both_false false b c e p q = e ∙ q

unstopped_from : (id : ℕ) (heads : List (List Field)) (past fs : List Frame) → has_rst_stream fs id ≡ false → list_any is_stopped (collect (part_of id heads) past fs) ≡ false
unstopped_from id heads past [] e = refl
unstopped_from id heads past (f ∷ fs) e =
    let both = or_parts (is_rst_stream f && stream_of f == id) (has_rst_stream fs id) e in
    both_false (list_any is_stopped (part_of id heads past f)) (list_any is_stopped (collect (part_of id heads) (past ++ f ∷ []) fs)) _ (list_any-append is_stopped (part_of id heads past f) (collect (part_of id heads) (past ++ f ∷ []) fs))
    (part_unstopped (is_data f && stream_of f == id) (is_rst_stream f && stream_of f == id) (Piece (data_of f) (has_end_stream f)) (Stopped (code_of f)) (block_part id heads past (completed past f)) refl both.0 (block_unstopped id heads past (completed past f)))
    (unstopped_from id heads (past ++ f ∷ []) fs both.1)

pub unstopped : (id : ℕ) (heads : List (List Field)) (fs : List Frame) → has_rst_stream fs id ≡ false → list_any is_stopped (parts id heads fs) ≡ false
unstopped id heads fs e = unstopped_from id heads [] fs e

-- ---- a reset behind a response and behind a request

-- what trailers say of an end
abbrev pub says : StreamEnd → Option (List Field)
says (Trailers fields) = Some fields
says other = None

over_stop : (ps : List Part) (why : ErrorCode) → IsOver ps → list_any is_stopped ps ≡ false → IsOver (ps ++ Stopped why ∷ [])
over_stop [] why h e = tt
over_stop (Stopped other ∷ ps) why h e = absurd cc
over_stop (Fields fields last ∷ ps) why h e = absurd h
over_stop (Piece bytes last ∷ ps) why h e = absurd h

body_stop : (ps : List Part) (bytes : List ℕ) (close : StreamEnd) (why : ErrorCode) → IsBody ps bytes close → list_any is_stopped ps ≡ false → (now : StreamEnd) × IsBody (ps ++ Stopped why ∷ []) bytes now × (says now ≡ says close)
body_stop [] bytes close why (none, end) e = (WasReset, (none, refl), sym (ap says end))
body_stop (Piece piece false ∷ ps) bytes close why (more, all, h) e =
    let r = body_stop ps more close why h e in
    (r.0, (more, all, r.1), r.2)
body_stop (Piece piece true ∷ ps) bytes close why h e = absurd h
body_stop (Fields fields true ∷ ps) bytes close why (none, end, sound, over) e = (close, (none, end, sound, over_stop ps why over e), refl)
body_stop (Fields fields false ∷ ps) bytes close why h e = absurd h
body_stop (Stopped other ∷ ps) bytes close why h e = absurd cc

pub response_stop : (head : List Field) (ps : List Part) (bytes : List ℕ) (close : StreamEnd) (why : ErrorCode) → IsResponse head ps bytes close → list_any is_stopped ps ≡ false →
    (now : StreamEnd) × IsResponse head (ps ++ Stopped why ∷ []) bytes now × (says now ≡ says close)
response_stop head [] bytes close why (none, end) e = (WasReset, (none, refl), sym (ap says end))
response_stop head (Stopped other ∷ ps) bytes close why h e = absurd cc
response_stop head (Piece piece last ∷ ps) bytes close why h e = absurd h
response_stop head (Fields fields true ∷ ps) bytes close why (none, end, sound, over) e = (close, (none, end, sound, over_stop ps why over e), refl)
response_stop head (Fields fields false ∷ []) bytes close why (same, body) e =
    let r = body_stop [] bytes close why body e in
    (r.0, (same, r.1), r.2)
response_stop head (Fields fields false ∷ Fields others true ∷ ps) bytes close why h e = absurd h
response_stop head (Fields fields false ∷ Fields others false ∷ ps) bytes close why (same, body) e = absurd body
response_stop head (Fields fields false ∷ Piece piece last ∷ ps) bytes close why (same, body) e =
    let r = body_stop (Piece piece last ∷ ps) bytes close why body e in
    (r.0, (same, r.1), r.2)
response_stop head (Fields fields false ∷ Stopped other ∷ ps) bytes close why h e = absurd cc

request_body_stop : (ps : List Part) (bytes : List ℕ) (ended : Bool) (why : ErrorCode) → IsRequestBody ps bytes ended → list_any is_stopped ps ≡ false → IsRequestBody (ps ++ Stopped why ∷ []) bytes ended
request_body_stop [] bytes ended why h e = h
request_body_stop (Piece piece false ∷ ps) bytes ended why (more, all, h) e = (more, all, request_body_stop ps more ended why h e)
request_body_stop (Piece piece true ∷ ps) bytes ended why (all, end, over) e = (all, end, over_stop ps why over e)
request_body_stop (Fields fields last ∷ ps) bytes ended why h e = absurd h
request_body_stop (Stopped other ∷ ps) bytes ended why h e = absurd cc

pub request_stop : (head : List Field) (ps : List Part) (bytes : List ℕ) (ended : Bool) (why : ErrorCode) → IsHeaded ps → IsRequest head ps bytes ended → list_any is_stopped ps ≡ false → IsRequest head (ps ++ Stopped why ∷ []) bytes ended
request_stop head [] bytes ended why some h e = absurd some
request_stop head (Fields fields true ∷ ps) bytes ended why some (same, none, end, over) e = (same, none, end, over_stop ps why over e)
request_stop head (Fields fields false ∷ ps) bytes ended why some (same, body) e = (same, request_body_stop ps bytes ended why body e)
request_stop head (Piece piece last ∷ ps) bytes ended why some h e = absurd h
request_stop head (Stopped other ∷ ps) bytes ended why some h e = absurd h

pub end_is : (read : List Field → CallEnd) (close : StreamEnd) → end_by response_fields read close ≡ option_map read (says close)
end_is read Unclosed = refl
end_is read (Trailers fields) = refl
end_is read WasReset = refl

pub same_begun : (ps : List Part) (why : ErrorCode) → has_begun (ps ++ Stopped why ∷ []) ≡ has_begun ps
same_begun [] why = refl
same_begun (Fields fields false ∷ ps) why = refl
same_begun (Fields fields true ∷ ps) why = refl
same_begun (Piece bytes last ∷ ps) why = refl
same_begun (Stopped other ∷ ps) why = refl

pub headed_more : (ps : List Part) (p : Part) → IsHeaded ps → IsHeaded (ps ++ p ∷ [])
headed_more [] p h = absurd h
headed_more (q ∷ ps) p h = tt

-- ---- the reset of a live stream

module _ (t : CallTrace) (f : Frame) (id : ℕ) (closed : open_block (sent t.connection_trace.frames) ≡ None) (is : is_rst_stream f ≡ true) (on : stream_of f ≡ id)
    (lives : is_live t.connection_trace.role t.connection_trace.frames id ≡ true) where
  abbrev next : CallTrace
  next = pushed f t

  plain : is_plain f ≡ true
  plain = reset_is_plain f is

  parts_now : parts_on next id ≡ parts_on t id ++ Stopped (code_of f) ∷ []
  parts_now = reset_parts t f closed is id ∙ ap (λ (b : Bool). parts_on t id ++ (if b then Stopped (code_of f) ∷ [] else [])) (ap (λ (s : ℕ). s == id) on ∙ same_self id)

  was_begun : is_begun t.connection_trace.role t.connection_trace.frames id ≡ true
  was_begun = (and_parts _ _ lives).0

  none_stopped : list_any is_stopped (parts_on t id) ≡ false
  none_stopped = unstopped id t.connection_trace.written (sent t.connection_trace.frames) (or_parts _ _ (or_parts _ _ (not_true _ (and_parts _ _ lives).1)).0).1

  stop_spells : (role : Role) (rest : List ℕ) → t.connection_trace.role ≡ role → Spells role t id rest → Spells role next id rest
  stop_spells Server rest role_is a =
      let r = response_stop response_fields (parts_on t id) a.bytes a.close (code_of f) a.response none_stopped in
      record {
        bytes = a.bytes;
        close = r.0;
        response = subst (λ (ps : List Part). IsResponse response_fields ps a.bytes r.0) (sym parts_now) r.1;
        text = a.text;
        begins = λ e. a.begins (sym (ap has_begun parts_now ∙ same_begun (parts_on t id) (code_of f)) ∙ e);
        closes = λ e q. a.closes e (end_is (call_end_of t.numbers) a.close ∙ ap (option_map (call_end_of t.numbers)) (sym r.2) ∙ sym (end_is (call_end_of t.numbers) r.0) ∙ q);
      }
  stop_spells Client rest role_is a =
      let first = a.headed (subst (λ (r : Role). is_begun r t.connection_trace.frames id ≡ true) role_is was_begun) in
      record {
        bytes = a.bytes;
        is_last = a.is_last;
        headed = λ e. subst IsHeaded (sym parts_now) (headed_more (parts_on t id) (Stopped (code_of f)) first);
        request = subst (λ (ps : List Part). IsRequest (asked_on t id).head ps a.bytes a.is_last) (sym parts_now) (request_stop (asked_on t id).head (parts_on t id) a.bytes a.is_last (code_of f) first a.request none_stopped);
        text = a.text;
        closes = a.closes;
      }

  pub reset_speaks : (rest : List ℕ) → Speaks t id rest → Speaks next id rest
  reset_speaks rest h = record {
    taken = h.taken;
    begun_first = λ e. absurd (clash _ (begun_still t f closed plain id ∙ was_begun) e);
    count = omega (arith, h.count, spent_still t f closed plain id);
    whole = λ e. h.whole (sym (ended_still_same t f closed plain id) ∙ e);
    spelled = λ suited. stop_spells t.connection_trace.role rest refl (h.spelled suited);
  }

  pub over_now : is_over next.connection_trace.frames id ≡ true
  over_now = by _ _ _ (ap (λ (fs : List Frame). has_rst_stream fs id) (sent_push t.connection_trace.frames f) ∙ list_any-append (λ (g : Frame). is_rst_stream g && stream_of g == id) (sent t.connection_trace.frames) (f ∷ [])
      ∙ last _ _ _ is (ap (λ (s : ℕ). s == id) on ∙ same_self id))
    where
      by : (a b c : Bool) → b ≡ true → ((a || b) || c) ≡ true
      by true b c e = refl
      by false true c e = refl
      by false false c e = absurd cc

      last : (a b c : Bool) → b ≡ true → c ≡ true → (a || ((b && c) || false)) ≡ true
      last true b c p q = refl
      last false true true p q = refl
      last false true false p q = absurd cc
      last false false c p q = absurd cc

  not_open : is_open next.connection_trace.role next.connection_trace.frames id ≡ true → ⊥
  not_open o = clash _ over_now (not_true _ (and_parts _ _ (and_parts _ _ o).0).1)

pub reset_sends : (t : CallTrace) (f : Frame) (c : CallState) → open_block (sent t.connection_trace.frames) ≡ None → is_rst_stream f ≡ true → stream_of f ≡ c.stream → is_live t.connection_trace.role t.connection_trace.frames c.stream ≡ true →
    Sends t c → Sends (pushed f t) c
reset_sends t f c closed is on lives h = record {
  speaks = reset_speaks t f c.stream closed is on lives c.unsent h.speaks;
  ended_is = h.ended_is;
  sent_is = λ e. ended_still_same t f closed (plain t f c.stream closed is on lives) c.stream ∙ h.sent_is e;
  fits = h.fits;
  message_is = h.message_is;
  first_is = h.first_is;
  ahead = λ o. absurd (not_open t f c.stream closed is on lives o);
  prepared = λ suited. prepared_same t.connection_trace.role t (pushed f t) c.stream c.ending c.fields refl refl (h.prepared suited);
}

-- ---- every call

pub others_spell_on : OthersSpellOn
others_spell_on = record {
  controls = λ t f c closed is h. sends_kept t (pushed f t) c (control_untouched t f closed is c.stream) h;
  resets = λ t f c closed is lives h. by t f c closed is lives h (stream_of f == c.stream) refl;
}
  where
    by : (t : CallTrace) (f : Frame) (c : CallState) → open_block (sent t.connection_trace.frames) ≡ None → is_rst_stream f ≡ true → is_live t.connection_trace.role t.connection_trace.frames (stream_of f) ≡ true → Sends t c →
        (b : Bool) → (stream_of f == c.stream) ≡ b → Sends (pushed f t) c
    by t f c closed is lives h true e =
        let on : stream_of f ≡ c.stream = grind (arith, nat_tests) in
        reset_sends t f c closed is on (ap (is_live t.connection_trace.role t.connection_trace.frames) (sym on) ∙ lives) h
    by t f c closed is lives h false e = sends_kept t (pushed f t) c (reset_untouched t f closed is c.stream e) h
