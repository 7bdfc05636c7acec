-- What the frames of a side spell on a stream, as its peer reads them, against what the stream is owed.
use Rattle.std.specs.Prelude.{◌≡◌, ℕ, ◌==◌, ◌&&◌, Bool, true, false, List, [], ◌∷◌, ◌++◌, length, slice_get, Option, Some, None, map, Ok, if◌then◌else◌}
use Rattle.grpc_framing.specs.declared.front.Front.TheVariants.{NeedMore}
use Rattle.grpc_framing.specs.Framing.{messages_of, item}
use Rattle.h2_frames.specs.declared.code.ErrorCode.{ErrorCode}
use Rattle.h2_frames.specs.declared.frame.Frame.{Frame}
use Rattle.hpack_tables.specs.declared.field.Field.{Field}
use Rattle.h2_exchange.specs.declared.role.Role.TheVariants.{Client}
use Rattle.h2_exchange.specs.Blocks.{Block, blocks, completed, data_of}
use Rattle.h2_exchange.specs.Content.{AreRead}
use Rattle.h2_exchange.specs.Exchange.{Step, sent, collect}
use Rattle.h2_exchange.specs.Frames.{stream_of, is_data, is_rst_stream, has_end_stream, code_of}
use Rattle.h2_exchange.specs.Malformed.{is_malformed_head, is_malformed_trailers}

-- ---- the parts of a stream

pub data Part : Type 0 where
  Fields : (fields : List Field) (last : Bool) → Part
  Piece : (bytes : List ℕ) (last : Bool) → Part
  Stopped : (why : ErrorCode) → Part

abbrev pub read_part : Bool → Option (List Field) → List Part
read_part last None = []
read_part last (Some fields) = Fields fields last ∷ []

abbrev pub block_part : ℕ → List (List Field) → List Frame → Option Block → List Part
block_part id heads past None = []
block_part id heads past (Some b) = if b.stream == id then read_part b.last (slice_get heads (length (blocks past))) else []

abbrev pub part_of : ℕ → List (List Field) → List Frame → Frame → List Part
part_of id heads past f =
    if is_data f && stream_of f == id then Piece (data_of f) (has_end_stream f) ∷ []
    else if is_rst_stream f && stream_of f == id then Stopped (code_of f) ∷ []
    else block_part id heads past (completed past f)

-- what stands on a stream, frame after frame
abbrev pub parts : ℕ → List (List Field) → List Frame → List Part
parts id heads fs = collect (part_of id heads) [] fs

-- ---- a response

-- how a stream ends: not yet, by trailers, or by a reset
pub data StreamEnd : Type 0 where
  Unclosed : StreamEnd
  Trailers : List Field → StreamEnd
  WasReset : StreamEnd

-- behind an end stands nothing, or a reset
abbrev pub IsOver : List Part → Type 0
IsOver [] = Unit {0}
IsOver (Stopped why ∷ []) = Unit {0}
IsOver other = ⊥

-- Behind a response head: DATA, then trailers or a reset.
abbrev pub IsBody : List Part → List ℕ → StreamEnd → Type 0
IsBody [] bytes close = (bytes ≡ []) × (close ≡ Unclosed)
IsBody (Piece piece false ∷ ps) bytes close = (more : List ℕ) × (bytes ≡ piece ++ more) × IsBody ps more close
IsBody (Fields fields true ∷ ps) bytes close = (bytes ≡ []) × (close ≡ Trailers fields) × (is_malformed_trailers fields ≡ false) × IsOver ps
IsBody (Stopped why ∷ []) bytes close = (bytes ≡ []) × (close ≡ WasReset)
IsBody other bytes close = ⊥

-- A response: nothing yet, a reset, a head alone that is the end too, or this head and a body. Where nothing stands between
-- head and trailers they are one block.
abbrev pub IsResponse : List Field → List Part → List ℕ → StreamEnd → Type 0
IsResponse head [] bytes close = (bytes ≡ []) × (close ≡ Unclosed)
IsResponse head (Stopped why ∷ []) bytes close = (bytes ≡ []) × (close ≡ WasReset)
IsResponse head (Fields fields true ∷ ps) bytes close = (bytes ≡ []) × (close ≡ Trailers fields) × (is_malformed_head Client fields ≡ false) × IsOver ps
IsResponse head (Fields fields false ∷ Fields trailers true ∷ ps) bytes close = ⊥
IsResponse head (Fields fields false ∷ ps) bytes close = (fields ≡ head) × IsBody ps bytes close
IsResponse head other bytes close = ⊥

-- ---- what is owed

-- an end of a stream: a gRPC status, or a HTTP status alone, as the layer above has them
pub data Item (E : Type 0) : Type 0 where
  Message : List ℕ → Item E
  Finish : E → Item E

-- The messages, the cut rest and the end are a first part of the items: a rest is the front of the next message, and
-- an end stands only behind all of them.
abbrev pub IsPrefixOf : {E : Type 0} → List (List ℕ) → List ℕ → Option E → List (Item E) → Type 0
IsPrefixOf (m ∷ ms) rest end (Message n ∷ items) = (m ≡ n) × IsPrefixOf ms rest end items
IsPrefixOf (m ∷ ms) rest end other = ⊥
IsPrefixOf [] rest None (Message n ∷ items) = (more : List ℕ) × (rest ++ more ≡ item n)
IsPrefixOf [] rest None other = rest ≡ []
IsPrefixOf [] rest (Some end) (Finish e ∷ []) = (rest ≡ []) × (end ≡ e)
IsPrefixOf [] rest (Some end) other = ⊥

-- The messages and the end are all of the items.
abbrev pub IsAllOf : {E : Type 0} → List (List ℕ) → List ℕ → Option E → List (Item E) → Type 0
IsAllOf (m ∷ ms) rest end (Message n ∷ items) = (m ≡ n) × IsAllOf ms rest end items
IsAllOf [] rest None [] = rest ≡ []
IsAllOf [] rest (Some end) (Finish e ∷ []) = (rest ≡ []) × (end ≡ e)
IsAllOf messages rest end other = ⊥

-- a head stands that isn't the end
abbrev pub has_begun : List Part → Bool
has_begun (Fields fields false ∷ ps) = true
has_begun other = false

abbrev pub IsMessageFirst : {E : Type 0} → List (Item E) → Type 0
IsMessageFirst (Message m ∷ items) = Unit {0}
IsMessageFirst other = ⊥

-- the head of every response, and the end that trailers say
module _ {E : Type 0} (head : List Field) (read_end : List Field → E) where
  abbrev pub end_by : StreamEnd → Option E
  end_by (Trailers fields) = Some (read_end fields)
  end_by other = None

  -- What frames spell on a stream, once their blocks are read: whole messages, a cut rest, and an end.
  pub record CarriesResponse (heads : List (List Field)) (frames : List Frame) (id : ℕ) (messages : List (List ℕ))
      (rest : List ℕ) (end : Option E) : Type 0 where
    pub bytes : List ℕ
    pub close : StreamEnd
    pub response : IsResponse head (parts id heads frames) bytes close
    pub cut : messages_of 4294967295 bytes ≡ record { messages = messages; rest = rest; ending = NeedMore }
    pub end_is : end ≡ end_by close

  -- The sent frames can be read, and spell on each stream a first part of what it is owed. A head that isn't the end stands
  -- where a message is owed first.
  abbrev pub AnswersBegin : List Step → (ℕ → List (Item E)) → Type 0
  AnswersBegin x owed =
      (heads : List (List Field)) × AreRead (sent x) (map Ok heads)
      × ((id : ℕ) → (messages : List (List ℕ)) × (rest : List ℕ) × (end : Option E) × CarriesResponse heads (sent x) id messages rest end
      × IsPrefixOf messages rest end (owed id)
      × (has_begun (parts id heads (sent x)) ≡ true → IsMessageFirst (owed id)))

  -- The sent frames can be read, and spell on this stream all that it is owed.
  abbrev pub AnswersAre : List Step → ℕ → List (Item E) → Type 0
  AnswersAre x id owed =
      (heads : List (List Field)) × AreRead (sent x) (map Ok heads)
      × (messages : List (List ℕ)) × (rest : List ℕ) × (end : Option E) × CarriesResponse heads (sent x) id messages rest end × IsAllOf messages rest end owed
