-- The frames of heads, data, trailers, resets and credits.
use Rattle.hpack_tables.specs.declared.field.Field.{Field}
use Rattle.hpack_tables.specs.EntrySizes.{size_of}
use Rattle.std.specs.Prelude.{sum_by, ◌*◌, ◌/◌, ◌≡◌, ℕ, zero, suc, ◌+◌, ◌<◌, ◌^◌, ◌⊎◌, ◌==◌, ◌&&◌, Bool, true, false, map, replicate, All, List, [], ◌∷◌, ◌++◌, length, take, Result, Ok, Err, if◌then◌else◌}
use Rattle.h2_frames.specs.declared.code.ErrorCode.{ErrorCode}
use Rattle.h2_frames.specs.declared.frame.Frame.{Frame}
use Rattle.h2_frames.specs.declared.frame.Frame.TheVariants.{Content, Headers, RstStream, Continuation}
use Rattle.h2_frames.specs.declared.frame.FrameBody.{FrameBody}
use Rattle.h2_frames.specs.Layout.{frame_text}
use Rattle.std.specs.Int.{w32, to_be_bytes}
use Rattle.h2_exchange.specs.declared.fault.SendFault.{SendFault}
use Rattle.h2_exchange.specs.declared.fault.SendFault.TheVariants.{NotOpen, IdsSpent, NoMemory}
use Rattle.h2_exchange.specs.Exchange.{Sent, sent}
use Rattle.h2_exchange.specs.Sending.{IsCredited, update_text}
use Rattle.h2_exchange.specs.Streams.{is_live, highest}
use Rattle.http_connection.specs.ConnectionTrace.{ConnectionTrace, is_alive}

-- a frame has these flags, this stream and this payload
pub record BodyIs (b : FrameBody) (flags stream : ℕ) (payload : List ℕ) : Type 0 where
  pub flags_are : b.flags ≡ flags
  pub stream_is : b.stream ≡ stream
  pub payload_is : b.payload ≡ payload

-- END_STREAM
abbrev pub last_flag : Bool → ℕ
last_flag last = if last then 1 else 0

-- the flags of HEADERS and of so many CONTINUATION frames behind it: END_STREAM stands on the first frame, END_HEADERS on the last
abbrev pub block_flags : Bool → ℕ → List ℕ
block_flags last zero = (last_flag last + 4) ∷ []
block_flags last (suc n) = last_flag last ∷ (replicate n 0 ++ 4 ∷ [])

-- HEADERS and the CONTINUATION frames behind it carry one whole header block, with no padding and no priority
pub record CarryBlock (id : ℕ) (last : Bool) (fs : List Frame) : Type 0 where
  pub first : FrameBody
  pub others : List FrameBody
  pub frames_are : fs ≡ Headers first ∷ map Continuation others
  pub flags_are : map (λ (b : FrameBody). b.flags) (first ∷ others) ≡ block_flags last (length others)
  pub streams_are : All (λ (b : FrameBody). b.stream ≡ id) (first ∷ others)

-- one DATA frame, or none where it would bring nothing and end nothing
abbrev pub CarryBytes : ℕ → Bool → List ℕ → List Frame → Type 0
CarryBytes id false [] fs = fs ≡ []
CarryBytes id last payload fs = (b : FrameBody) × (fs ≡ Content b ∷ []) × BodyIs b (last_flag last) id payload

-- So many bytes of a piece are placed. The side ends where they are the whole last piece.
abbrev pub CarryPiece : ℕ → List ℕ → Bool → ℕ → List Frame → Type 0
CarryPiece id piece last n fs = CarryBytes id (last && n == length piece) (take n piece) fs

abbrev pub CarryReset : ℕ → ErrorCode → List Frame → Type 0
CarryReset id why fs = (b : FrameBody) × (fs ≡ RstStream b ∷ []) × BodyIs b 0 id (to_be_bytes w32 why.0)

-- credit for the connection, or for a stream that is live
abbrev pub IsCredit : ConnectionTrace → Frame → Type 0
IsCredit c f =
    (id n : ℕ) × (frame_text f ≡ update_text id n) × (0 < n) × (n < 2 ^ 31) × ((id ≡ 0) ⊎ (is_live c.role c.frames id ≡ true))

-- What is sent where a hold begins or ends: all that is owed, once it has ended. After a refusal nothing is.
abbrev pub CarryCredit : Bool → ConnectionTrace → List Frame → Type 0
CarryCredit true c fs = fs ≡ []
CarryCredit false c fs = All (IsCredit c) fs × (c.is_holding ≡ false → fs ≡ []) × (is_alive c ≡ false → fs ≡ [])
    × (is_alive c ≡ true → IsCredited c.role c.limits (c.frames ++ map Sent fs))

-- the next id of a client, where this is the greatest one that was begun
abbrev pub next_id : ℕ → ℕ
next_id greatest = if greatest == 0 then 1 else greatest + 2

-- It is sent exactly where it may be, want of memory apart.
abbrev pub SendsWhere : {A : Type 0} → Bool → Result A SendFault → Type 0
SendsWhere may_send (Ok x) = may_send ≡ true
SendsWhere may_send (Err NotOpen) = may_send ≡ false
SendsWhere may_send (Err IdsSpent) = ⊥
SendsWhere may_send (Err NoMemory) = Unit {0}

-- A stream is begun unless the connection has refused or the ids are spent, want of memory apart.
abbrev pub BeginsWhere : ConnectionTrace → Result ℕ SendFault → Type 0
BeginsWhere c (Ok id) = (is_alive c ≡ true) × (highest (sent c.frames) < 2147483647) × (id ≡ next_id (highest (sent c.frames)))
BeginsWhere c (Err NotOpen) = is_alive c ≡ false
BeginsWhere c (Err IdsSpent) = (is_alive c ≡ true) × (highest (sent c.frames) ≡ 2147483647)
BeginsWhere c (Err NoMemory) = Unit {0}

-- how many bytes the frames of a server's block take at most: a size update, each field as a literal, and nine bytes a frame
abbrev pub text_room : List Field → ℕ
text_room fields = 6 + sum_by size_of fields

abbrev pub block_room : List Field → ℕ
block_room fields = text_room fields + 9 * (1 + text_room fields / 16384)
