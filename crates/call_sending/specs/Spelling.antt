-- What the frames sent on a stream spell so far, against what was taken for it.
use Rattle.std.specs.Prelude.{◌≡◌, ℕ, ◌+◌, ◌≤◌, Bool, true, false, List, [], ◌∷◌, ◌++◌, length, sum_by, Some}
use Rattle.std.specs.List.{All, flat_map}
use Rattle.grpc_heads.specs.CallEnd.{CallEnd, call_end_of}
use Rattle.grpc_heads.specs.Written.{response_fields}
use Rattle.hpack_tables.specs.declared.field.Field.{Field}
use Rattle.hpack_tables.specs.EntrySizes.{size_of}
use Rattle.h2_exchange.specs.declared.role.Role.{Role}
use Rattle.h2_exchange.specs.declared.role.Role.TheVariants.{Client, Server}
use Rattle.h2_exchange.specs.Exchange.{sent}
use Rattle.h2_exchange.specs.Malformed.{is_malformed_head, is_malformed_trailers}
use Rattle.h2_exchange.specs.Requests.{IsRequest}
use Rattle.h2_exchange.specs.StreamParts.{Part, Fields, Piece, StreamEnd, Item, Message, Finish, IsResponse, IsMessageFirst, end_by, has_begun, parts}
use Rattle.h2_exchange.specs.Streams.{is_begun, is_ended_by, is_open}
use Rattle.h2_exchange.specs.Windows.{spent_on}
use Rattle.grpc_stream.specs.CallTrace.{CallTrace, asked_on, is_ended, queued_on, suits, text_of}
use Rattle.kept_calls.specs.declared.call.Ending.{Ending}
use Rattle.kept_calls.specs.declared.call.Ending.TheVariants as end
use Rattle.kept_calls.specs.CallState.{CallState, ended, is_sent}

abbrev pub parts_on : CallTrace → ℕ → List Part
parts_on t id = parts id t.connection_trace.written (sent t.connection_trace.frames)

abbrev pub AreSuited : CallTrace → ℕ → Type 0
AreSuited t id = All (λ what. suits t.connection_trace.role what ≡ true) (queued_on t id)

-- Items that were taken: messages, each of fewer than 2^32 bytes, and behind them at most one end.
abbrev pub AreTaken : List (Item CallEnd) → Type 0
AreTaken [] = Unit {0}
AreTaken (Message message ∷ items) = (length message ≤ 4294967295) × AreTaken items
AreTaken (Finish e ∷ []) = Unit {0}
AreTaken (Finish e ∷ item ∷ items) = ⊥

-- the items end so
abbrev pub EndsIn : CallEnd → List (Item CallEnd) → Type 0
EndsIn close [] = ⊥
EndsIn close (Message message ∷ items) = EndsIn close items
EndsIn close (Finish e ∷ []) = close ≡ e
EndsIn close (Finish e ∷ item ∷ items) = ⊥

-- a server's frames: the bytes that stand on a stream, and what is left of its items' text
pub record Answers (t : CallTrace) (id : ℕ) (rest : List ℕ) : Type 0 where
  pub bytes : List ℕ
  pub close : StreamEnd
  pub response : IsResponse response_fields (parts_on t id) bytes close
  pub text : flat_map text_of (queued_on t id) ≡ bytes ++ rest
  pub begins : has_begun (parts_on t id) ≡ true → IsMessageFirst (queued_on t id)
  pub closes : (e : CallEnd) → end_by response_fields (call_end_of t.numbers) close ≡ Some e → (rest ≡ []) × EndsIn e (queued_on t id)

abbrev pub IsHeaded : List Part → Type 0
IsHeaded [] = ⊥
IsHeaded (p ∷ ps) = Unit {0}

-- and a client's, which begin with a head
pub record Asks (t : CallTrace) (id : ℕ) (rest : List ℕ) : Type 0 where
  pub bytes : List ℕ
  pub is_last : Bool
  pub headed : is_begun Client t.connection_trace.frames id ≡ true → IsHeaded (parts_on t id)
  pub request : IsRequest (asked_on t id).head (parts_on t id) bytes is_last
  pub text : flat_map text_of (queued_on t id) ≡ bytes ++ rest
  pub closes : is_last ≡ true → (rest ≡ []) × ((e : CallEnd) × EndsIn e (queued_on t id))

abbrev pub Spells : Role → CallTrace → ℕ → List ℕ → Type 0
Spells Server t id rest = Answers t id rest
Spells Client t id rest = Asks t id rest

-- what is so of a stream, whose items have so much text that no frame holds yet
pub record Speaks (t : CallTrace) (id : ℕ) (rest : List ℕ) : Type 0 where
  pub taken : AreTaken (queued_on t id)
  pub begun_first : is_begun t.connection_trace.role t.connection_trace.frames id ≡ false → (queued_on t id ≡ []) × (parts_on t id ≡ [])
  pub count : length (flat_map text_of (queued_on t id)) ≡ spent_on id (sent t.connection_trace.frames) + length rest
  pub whole : is_ended_by (sent t.connection_trace.frames) id ≡ true → rest ≡ []
  pub spelled : AreSuited t id → Spells t.connection_trace.role t id rest

-- bytes of messages, and no end
abbrev pub ArePieces : List Part → Type 0
ArePieces [] = Unit {0}
ArePieces (Piece bytes false ∷ ps) = ArePieces ps
ArePieces other = ⊥

-- a stream that is open for sending: nothing stands on it, or its head and behind it bytes of messages
abbrev pub IsAhead : Bool → List Part → Type 0
IsAhead false ps = ps ≡ []
IsAhead true (Fields fields false ∷ ps) = ArePieces ps
IsAhead true other = ⊥

-- the last header block of a side says the end that was taken
abbrev pub IsPrepared : CallTrace → ℕ → Ending → List Field → Type 0
IsPrepared t id end.Block fields = (queued_on t id ≡ Finish (call_end_of t.numbers fields) ∷ []) × (is_malformed_head Client fields ≡ false)
IsPrepared t id end.Trailers fields =
    EndsIn (call_end_of t.numbers fields) (queued_on t id) × IsMessageFirst (queued_on t id) × (is_malformed_trailers fields ≡ false)
IsPrepared t id end.HalfClose fields = ⊥
IsPrepared t id other fields = Unit {0}

-- a client's side ends with its last DATA
abbrev pub IsHalfClosing : Ending → Type 0
IsHalfClosing end.Block = ⊥
IsHalfClosing end.Trailers = ⊥
IsHalfClosing other = Unit {0}

abbrev pub Prepares : Role → CallTrace → ℕ → Ending → List Field → Type 0
Prepares Server t id ending fields = IsPrepared t id ending fields
Prepares Client t id ending fields = IsHalfClosing ending

-- what is kept of a call for sending
pub record Sends (t : CallTrace) (c : CallState) : Type 0 where
  pub speaks : Speaks t c.stream c.unsent
  pub ended_is : is_ended t c.stream ≡ ended c.ending
  pub sent_is : is_sent c.ending ≡ true → is_ended_by (sent t.connection_trace.frames) c.stream ≡ true
  pub fits : sum_by size_of c.fields ≤ 65536
  pub message_is : c.has_message ≡ false → flat_map text_of (queued_on t c.stream) ≡ []
  pub first_is : c.has_message ≡ true → IsMessageFirst (queued_on t c.stream)
  pub ahead : is_open t.connection_trace.role t.connection_trace.frames c.stream ≡ true → IsAhead c.has_head (parts_on t c.stream)
  pub prepared : AreSuited t c.stream → Prepares t.connection_trace.role t c.stream c.ending c.fields
