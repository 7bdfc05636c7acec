-- What a client asks on a stream, as a server reads it, against what it is to ask (gRPC over HTTP/2, "Requests").
use Rattle.std.specs.Prelude.{◌≡◌, ℕ, Bool, true, false, List, [], ◌∷◌, ◌++◌, Option, Some, None, map, Ok}
use Rattle.grpc_framing.specs.declared.front.Front.TheVariants.{NeedMore}
use Rattle.grpc_framing.specs.Framing.{messages_of}
use Rattle.h2_frames.specs.declared.frame.Frame.{Frame}
use Rattle.hpack_tables.specs.declared.field.Field.{Field}
use Rattle.h2_exchange.specs.Content.{AreRead}
use Rattle.h2_exchange.specs.Exchange.{Step, sent}
use Rattle.h2_exchange.specs.StreamParts.{Part, Fields, Piece, Stopped, IsOver, Item, IsPrefixOf, IsAllOf, parts}
use Rattle.h2_exchange.specs.Streams.{has_head}

-- Behind a request head: DATA, of which the last may end the client's side, or a reset.
abbrev pub IsRequestBody : List Part → List ℕ → Bool → Type 0
IsRequestBody [] bytes ended = (bytes ≡ []) × (ended ≡ false)
IsRequestBody (Piece piece false ∷ ps) bytes ended = (more : List ℕ) × (bytes ≡ piece ++ more) × IsRequestBody ps more ended
IsRequestBody (Piece piece true ∷ ps) bytes ended = (bytes ≡ piece) × (ended ≡ true) × IsOver ps
IsRequestBody (Stopped why ∷ []) bytes ended = (bytes ≡ []) × (ended ≡ false)
IsRequestBody other bytes ended = ⊥

-- A request: nothing yet, or this head, which may be the end too, and a body.
abbrev pub IsRequest : List Field → List Part → List ℕ → Bool → Type 0
IsRequest head [] bytes ended = (bytes ≡ []) × (ended ≡ false)
IsRequest head (Fields fields true ∷ ps) bytes ended = (fields ≡ head) × (bytes ≡ []) × (ended ≡ true) × IsOver ps
IsRequest head (Fields fields false ∷ ps) bytes ended = (fields ≡ head) × IsRequestBody ps bytes ended
IsRequest head other bytes ended = ⊥

-- what a client is to send on a stream: a head, then messages, and the end of its side
pub record Asked : Type 0 where
  pub head : List Field
  pub items : List (Item (Unit {0}))

abbrev pub end_if : Bool → Option (Unit {0})
end_if false = None
end_if true = Some tt

-- What frames spell on a stream that a client began: this head, whole messages, a cut rest, and whether its side ended.
pub record CarriesRequest (heads : List (List Field)) (frames : List Frame) (id : ℕ) (head : List Field)
    (messages : List (List ℕ)) (rest : List ℕ) (ended : Bool) : Type 0 where
  pub bytes : List ℕ
  pub request : IsRequest head (parts id heads frames) bytes ended
  pub cut : messages_of 4294967295 bytes ≡ record { messages = messages; rest = rest; ending = NeedMore }

-- The sent frames can be read, and spell on each stream a first part of what it is to ask.
abbrev pub RequestsBegin : List Step → (ℕ → Asked) → Type 0
RequestsBegin x asked =
    (heads : List (List Field)) × AreRead (sent x) (map Ok heads)
    × ((id : ℕ) → (messages : List (List ℕ)) × (rest : List ℕ) × (ended : Bool) × CarriesRequest heads (sent x) id (asked id).head messages rest ended
    × IsPrefixOf messages rest (end_if ended) (asked id).items)

-- The sent frames can be read, and spell on this stream all that it is to ask.
abbrev pub RequestIs : List Step → ℕ → Asked → Type 0
RequestIs x id asked =
    (heads : List (List Field)) × AreRead (sent x) (map Ok heads) × (has_head (sent x) id ≡ true)
    × (messages : List (List ℕ)) × (rest : List ℕ) × (ended : Bool) × CarriesRequest heads (sent x) id asked.head messages rest ended
    × IsAllOf messages rest (end_if ended) asked.items
