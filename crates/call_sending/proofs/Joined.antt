-- What DATA and trailers make of a request and of a response.
use Rattle.std.proofs.Common.{◌≡◌, Bool, true, false, List, [], ◌∷◌, ◌++◌, ℕ, refl, sym, ap, ◌∙◌, append_assoc}
use Rattle.std.specs.List.{list_any}
use Rattle.std.proofs.lemmas.List.{append-nil}
use Rattle.hpack_tables.specs.declared.field.Field.{Field}
use Rattle.h2_exchange.specs.Malformed.{is_malformed_trailers}
use Rattle.h2_exchange.specs.Requests.{IsRequest, IsRequestBody}
use Rattle.h2_exchange.specs.StreamParts.{Part, Fields, Piece, Stopped, StreamEnd, Unclosed, Trailers, Item, Message, Finish, IsBody, IsResponse, has_begun}
use Rattle.grpc_heads.specs.CallEnd.{CallEnd}
use Rattle.grpc_stream.specs.CallTrace.{is_end}
use Rattle.call_sending.specs.Spelling.{ArePieces, AreTaken, EndsIn, IsAhead}

-- what one DATA brings, or none
abbrev pub piece_parts : Bool → List ℕ → List Part
piece_parts true payload = Piece payload true ∷ []
piece_parts false [] = []
piece_parts false (b ∷ bytes) = Piece (b ∷ bytes) false ∷ []

pub pieces_join : (ps : List Part) (p : List ℕ) → ArePieces ps → ArePieces (ps ++ piece_parts false p)
pieces_join [] [] h = tt
pieces_join [] (b ∷ p) h = tt
pieces_join (Piece bytes false ∷ ps) p h = pieces_join ps p h
pieces_join (Piece bytes true ∷ ps) p h = absurd h
pieces_join (Fields fields last ∷ ps) p h = absurd h
pieces_join (Stopped why ∷ ps) p h = absurd h

pub ahead_join : (ps : List Part) (p : List ℕ) → IsAhead true ps → IsAhead true (ps ++ piece_parts false p)
ahead_join [] p h = absurd h
ahead_join (Fields fields false ∷ ps) p h = pieces_join ps p h
ahead_join (Fields fields true ∷ ps) p h = absurd h
ahead_join (Piece bytes last ∷ ps) p h = absurd h
ahead_join (Stopped why ∷ ps) p h = absurd h

-- ---- a response

body_piece : (ps : List Part) (bytes p : List ℕ) (close : StreamEnd) → ArePieces ps → IsBody ps bytes close → IsBody (ps ++ piece_parts false p) (bytes ++ p) Unclosed
body_piece [] bytes [] close h (none, end) = (append-nil bytes ∙ none, refl)
body_piece [] bytes (b ∷ p) close h (none, end) = ([], ap (λ (l : List ℕ). l ++ b ∷ p) none ∙ sym (append-nil (b ∷ p)), (refl, refl))
body_piece (Piece piece false ∷ ps) bytes p close h (more, all, body) =
    (more ++ p, ap (λ (l : List ℕ). l ++ p) all ∙ append_assoc piece more p, body_piece ps more p close h body)
body_piece (Piece piece true ∷ ps) bytes p close h body = absurd h
body_piece (Fields fields last ∷ ps) bytes p close h body = absurd h
body_piece (Stopped why ∷ ps) bytes p close h body = absurd h

pub response_piece : (head : List Field) (ps : List Part) (bytes p : List ℕ) (close : StreamEnd) → IsAhead true ps → IsResponse head ps bytes close → IsResponse head (ps ++ piece_parts false p) (bytes ++ p) Unclosed
response_piece head [] bytes p close h r = absurd h
response_piece head (Fields fields true ∷ ps) bytes p close h r = absurd h
response_piece head (Piece piece last ∷ ps) bytes p close h r = absurd h
response_piece head (Stopped why ∷ ps) bytes p close h r = absurd h
response_piece head (Fields fields false ∷ []) bytes [] close h (same, body) = (same, body_piece [] bytes [] close tt body)
response_piece head (Fields fields false ∷ []) bytes (b ∷ p) close h (same, body) = (same, body_piece [] bytes (b ∷ p) close tt body)
response_piece head (Fields fields false ∷ Piece piece false ∷ ps) bytes p close h (same, body) = (same, body_piece (Piece piece false ∷ ps) bytes p close h body)
response_piece head (Fields fields false ∷ Piece piece true ∷ ps) bytes p close h r = absurd h
response_piece head (Fields fields false ∷ Fields others last ∷ ps) bytes p close h r = absurd h
response_piece head (Fields fields false ∷ Stopped why ∷ ps) bytes p close h r = absurd h

body_trailers : (ps : List Part) (bytes : List ℕ) (close : StreamEnd) (fields : List Field) → is_malformed_trailers fields ≡ false → ArePieces ps → IsBody ps bytes close → IsBody (ps ++ Fields fields true ∷ []) bytes (Trailers fields)
body_trailers [] bytes close fields sound h (none, end) = (none, refl, sound, tt)
body_trailers (Piece piece false ∷ ps) bytes close fields sound h (more, all, body) = (more, all, body_trailers ps more close fields sound h body)
body_trailers (Piece piece true ∷ ps) bytes close fields sound h body = absurd h
body_trailers (Fields others last ∷ ps) bytes close fields sound h body = absurd h
body_trailers (Stopped why ∷ ps) bytes close fields sound h body = absurd h

pub response_trailers : (head : List Field) (ps : List Part) (bytes : List ℕ) (close : StreamEnd) (fields : List Field) → is_malformed_trailers fields ≡ false → (bytes ≡ [] → ⊥) → IsAhead true ps → IsResponse head ps bytes close →
    IsResponse head (ps ++ Fields fields true ∷ []) bytes (Trailers fields)
response_trailers head [] bytes close fields sound some h r = absurd h
response_trailers head (Fields first true ∷ ps) bytes close fields sound some h r = absurd h
response_trailers head (Piece piece last ∷ ps) bytes close fields sound some h r = absurd h
response_trailers head (Stopped why ∷ ps) bytes close fields sound some h r = absurd h
response_trailers head (Fields first false ∷ []) bytes close fields sound some h (same, (none, end)) = absurd (some none)
response_trailers head (Fields first false ∷ Piece piece false ∷ ps) bytes close fields sound some h (same, body) = (same, body_trailers (Piece piece false ∷ ps) bytes close fields sound h body)
response_trailers head (Fields first false ∷ Piece piece true ∷ ps) bytes close fields sound some h r = absurd h
response_trailers head (Fields first false ∷ Fields others last ∷ ps) bytes close fields sound some h r = absurd h
response_trailers head (Fields first false ∷ Stopped why ∷ ps) bytes close fields sound some h r = absurd h

-- ---- a request

request_body_piece : (ps : List Part) (bytes p : List ℕ) (ended last : Bool) → ArePieces ps → IsRequestBody ps bytes ended → IsRequestBody (ps ++ piece_parts last p) (bytes ++ p) last
request_body_piece [] bytes p ended true h (none, end) = (ap (λ (l : List ℕ). l ++ p) none, refl, tt)
request_body_piece [] bytes [] ended false h (none, end) = (append-nil bytes ∙ none, refl)
request_body_piece [] bytes (b ∷ p) ended false h (none, end) = ([], ap (λ (l : List ℕ). l ++ b ∷ p) none ∙ sym (append-nil (b ∷ p)), (refl, refl))
request_body_piece (Piece piece false ∷ ps) bytes p ended last h (more, all, body) =
    (more ++ p, ap (λ (l : List ℕ). l ++ p) all ∙ append_assoc piece more p, request_body_piece ps more p ended last h body)
request_body_piece (Piece piece true ∷ ps) bytes p ended last h body = absurd h
request_body_piece (Fields fields end ∷ ps) bytes p ended last h body = absurd h
request_body_piece (Stopped why ∷ ps) bytes p ended last h body = absurd h

pub request_piece : (head : List Field) (ps : List Part) (bytes p : List ℕ) (ended last : Bool) → IsAhead true ps → IsRequest head ps bytes ended → IsRequest head (ps ++ piece_parts last p) (bytes ++ p) last
request_piece head [] bytes p ended last h r = absurd h
request_piece head (Fields fields true ∷ ps) bytes p ended last h r = absurd h
request_piece head (Piece piece end ∷ ps) bytes p ended last h r = absurd h
request_piece head (Stopped why ∷ ps) bytes p ended last h r = absurd h
request_piece head (Fields fields false ∷ ps) bytes p ended last h (same, body) = (same, request_body_piece ps bytes p ended last h body)

-- ---- what was taken

pub begun_ahead : (ps : List Part) → IsAhead true ps → has_begun ps ≡ true
begun_ahead [] h = absurd h
begun_ahead (Fields fields false ∷ ps) h = refl
begun_ahead (Fields fields true ∷ ps) h = absurd h
begun_ahead (Piece bytes last ∷ ps) h = absurd h
begun_ahead (Stopped why ∷ ps) h = absurd h

pub ends_in : (items : List (Item CallEnd)) → AreTaken items → list_any is_end items ≡ true → (e : CallEnd) × EndsIn e items
ends_in [] h e = absurd cc
ends_in (Message message ∷ items) (size, h) e = ends_in items h e
ends_in (Finish close ∷ []) h e = (close, refl)
ends_in (Finish close ∷ item ∷ items) h e = absurd h
