-- What a client reads of a server's frames.
use Rattle.std.proofs.Common.{◌≡◌, ℕ, Bool, ◌&&◌, false, true, List, [], ◌∷◌, ◌++◌, length, Option, Some, None, refl, sym, ap, ◌∙◌, append_assoc}
use Rattle.std.specs.Prelude.{if◌then◌else◌, ◌==◌}
use Rattle.std.specs.List.{flat_map, slice_get}
use Rattle.std.proofs.lemmas.List.{append-nil}
use Rattle.std.proofs.lemmas.List.Concat.{flat_map-append}
use Rattle.grpc_framing.specs.Framing.{Messages, messages_of}
use Rattle.grpc_heads.specs.CallEnd.{status_by, unknown}
use Rattle.grpc_heads.specs.Trailers.{status_in_trailers}
use Rattle.grpc_heads.specs.Written.{response_fields}
use Rattle.h2_frames.specs.declared.code.ErrorCode.{ErrorCode}
use Rattle.h2_frames.specs.declared.frame.Frame.{Frame}
use Rattle.hpack_tables.specs.declared.field.Field.{Field}
use Rattle.h2_exchange.specs.declared.role.Role.TheVariants.{Client}
use Rattle.h2_exchange.specs.Blocks.{Block, blocks, completed, data_of}
use Rattle.h2_exchange.specs.Events.{bytes_on}
use Rattle.h2_exchange.specs.Exchange.{collect, received, sent}
use Rattle.h2_exchange.specs.Frames.{code_of, has_end_stream, is_data, is_rst_stream, stream_of}
use Rattle.h2_exchange.specs.StreamParts.{Part, Fields, Piece, Stopped, StreamEnd, IsOver, IsBody, IsResponse, read_part, block_part, part_of, parts}
use Rattle.h2_exchange.specs.Stops.{events}
use Rattle.grpc_stream.specs.ClientReads.{ClientReadsMessages, data_on}
use Rattle.grpc_stream.proofs.Answered.{answers_begin_messages}
use Rattle.grpc_stream.proofs.Heard.{heard_front}

abbrev brought : Part → List ℕ
brought (Fields fields last) = []
brought (Piece bytes last) = bytes
brought (Stopped why) = []

-- ---- the bytes of a response

over_bytes : (ps : List Part) → IsOver ps → flat_map brought ps ≡ []
over_bytes [] h = refl
over_bytes (Stopped why ∷ []) h = refl
over_bytes (Stopped why ∷ p ∷ ps) h = absurd h
over_bytes (Fields fields last ∷ ps) h = absurd h
over_bytes (Piece bytes last ∷ ps) h = absurd h

body_bytes : (ps : List Part) (bytes : List ℕ) (close : StreamEnd) → IsBody ps bytes close → bytes ≡ flat_map brought ps
body_bytes [] bytes close (none, end) = none
body_bytes (Piece piece false ∷ ps) bytes close (more, all, h) = all ∙ ap (λ (l : List ℕ). piece ++ l) (body_bytes ps more close h)
body_bytes (Piece piece true ∷ ps) bytes close h = absurd h
body_bytes (Fields fields true ∷ ps) bytes close (none, end, sound, over) = none ∙ sym (over_bytes ps over)
body_bytes (Fields fields false ∷ ps) bytes close h = absurd h
body_bytes (Stopped why ∷ []) bytes close (none, end) = none
body_bytes (Stopped why ∷ p ∷ ps) bytes close h = absurd h

response_bytes : (head : List Field) (ps : List Part) (bytes : List ℕ) (close : StreamEnd) → IsResponse head ps bytes close → bytes ≡ flat_map brought ps
response_bytes head [] bytes close (none, end) = none
response_bytes head (Stopped why ∷ []) bytes close (none, end) = none
response_bytes head (Stopped why ∷ p ∷ ps) bytes close h = absurd h
response_bytes head (Piece piece last ∷ ps) bytes close h = absurd h
response_bytes head (Fields fields true ∷ ps) bytes close (none, end, sound, over) = none ∙ sym (over_bytes ps over)
response_bytes head (Fields fields false ∷ []) bytes close (same, body) = body_bytes [] bytes close body
response_bytes head (Fields fields false ∷ Fields trailers true ∷ ps) bytes close h = absurd h
response_bytes head (Fields fields false ∷ Fields trailers false ∷ ps) bytes close (same, body) = absurd body
response_bytes head (Fields fields false ∷ Piece piece last ∷ ps) bytes close (same, body) = body_bytes (Piece piece last ∷ ps) bytes close body
response_bytes head (Fields fields false ∷ Stopped why ∷ ps) bytes close (same, body) = body_bytes (Stopped why ∷ ps) bytes close body

-- ---- the bytes that frames bring

read_none : (last : Bool) (o : Option (List Field)) → flat_map brought (read_part last o) ≡ []
read_none last None = refl
read_none last (Some fields) = refl

if_none : (t : Bool) (ps : List Part) → flat_map brought ps ≡ [] → flat_map brought (if t then ps else []) ≡ []
if_none true ps h = h
if_none false ps h = refl

block_none : (id : ℕ) (heads : List (List Field)) (past : List Frame) (o : Option Block) → flat_map brought (block_part id heads past o) ≡ []
block_none id heads past None = refl
block_none id heads past (Some b) =
    if_none (b.stream == id) (read_part b.last (slice_get heads (length (blocks past)))) (read_none b.last (slice_get heads (length (blocks past))))

of_part : (t u last : Bool) (bytes : List ℕ) (why : ErrorCode) (others : List Part) → flat_map brought others ≡ [] →
    flat_map brought (if t then Piece bytes last ∷ [] else if u then Stopped why ∷ [] else others) ≡ (if t then bytes else [])
of_part true u last bytes why others h = append-nil bytes
of_part false true last bytes why others h = refl
of_part false false last bytes why others h = h

parts_bytes : (id : ℕ) (heads : List (List Field)) (past fs : List Frame) → flat_map brought (collect (part_of id heads) past fs) ≡ data_on id fs
parts_bytes id heads past [] = refl
parts_bytes id heads past (f ∷ fs) =
    let others = collect (part_of id heads) (past ++ f ∷ []) fs in
    flat_map-append brought (part_of id heads past f) others
    ∙ ap (λ (l : List ℕ). l ++ flat_map brought others)
    (of_part (is_data f && stream_of f == id) (is_rst_stream f && stream_of f == id) (has_end_stream f) (data_of f) (code_of f) (block_part id heads past (completed past f))
    (block_none id heads past (completed past f)))
    ∙ ap (λ (l : List ℕ). (if is_data f && stream_of f == id then data_of f else []) ++ l) (parts_bytes id heads (past ++ f ∷ []) fs)

pub client_reads_messages : ClientReadsMessages
client_reads_messages = λ n limits x y heads outcomes id messages rest end first resets spells.
    let es = events Client limits outcomes y in
    let heard = heard_front limits outcomes id y resets in
    let behind = data_on id first.0 in
    let all : data_on id (sent x) ≡ data_on id (received y) ++ behind = ap (data_on id) first.1 ∙ flat_map-append _ (received y) first.0 in
    let bytes : spells.bytes ≡ bytes_on id es ++ (heard.0 ++ behind) =
    response_bytes response_fields (parts id heads (sent x)) spells.bytes spells.close spells.response ∙ parts_bytes id heads [] (sent x) ∙ all
    ∙ ap (λ (l : List ℕ). l ++ behind) heard.1 ∙ append_assoc (bytes_on id es) heard.0 behind in
    let answered = answers_begin_messages (λ fields. status_by (status_in_trailers n fields)) unknown id es (heard.0 ++ behind) in (
      answered.0,
      sym (ap (λ (c : Messages). c.messages) spells.cut) ∙ ap (λ (b : List ℕ). (messages_of 4294967295 b).messages) bytes ∙ answered.1,
    )
