-- Messages in a stream: a flag byte, four bytes of length, the highest first, and so many bytes
-- (gRPC over HTTP/2, "Length-Prefixed-Message").
use Rattle.std.specs.Prelude.{ℕ, zero, suc, ◌+◌, ◌≤◌, List, [], ◌∷◌, ◌++◌, length, take, drop, nat_lt, ◌==◌, if◌then◌else◌}
use Rattle.std.specs.List.{flat_map}
use Rattle.std.specs.Int.{w32, from_be_bytes, to_be_bytes}
use Rattle.grpc_framing.specs.declared.front.Front.{Front}
use Rattle.grpc_framing.specs.declared.front.Front.TheVariants.{Message, NeedMore, Compressed, TooLong}

-- the item whose flag stands before these bytes
unfoldable pub item_at : ℕ → List ℕ → Front
item_at limit bytes =
    if nat_lt (length bytes) 4 then NeedMore else
    if nat_lt limit (from_be_bytes w32 (take 4 bytes)) then TooLong else
    if nat_lt (length (drop 4 bytes)) (from_be_bytes w32 (take 4 bytes)) then NeedMore else
    Message (from_be_bytes w32 (take 4 bytes))

-- what stands at the front of the bytes, where a message has at most so many bytes
unfoldable pub front_at : ℕ → List ℕ → Front
front_at limit [] = NeedMore
front_at limit (flag ∷ bytes) = if flag == 0 then item_at limit bytes else Compressed

-- the messages, what is left behind them, and why no message stands there: more is needed, or it is refused
pub record Messages : Type 0 where
  pub messages : List (List ℕ)
  pub rest : List ℕ
  pub ending : Front

abbrev pub stopped : List ℕ → Front → Messages
stopped bytes why = record { messages = []; rest = bytes; ending = why }

abbrev pub first_then : List ℕ → Messages → Messages
first_then message cut = record { messages = message ∷ cut.messages; rest = cut.rest; ending = cut.ending }

abbrev pub first_of : (List ℕ → Messages) → List ℕ → Front → Messages
first_of others bytes (Message n) = first_then (take n (drop 5 bytes)) (others (drop (5 + n) bytes))
first_of others bytes NeedMore = stopped bytes NeedMore
first_of others bytes Compressed = stopped bytes Compressed
first_of others bytes TooLong = stopped bytes TooLong

-- at most so many messages
unfoldable pub messages_upto : ℕ → ℕ → List ℕ → Messages
messages_upto zero limit bytes = stopped bytes NeedMore
messages_upto (suc n) limit bytes = first_of (messages_upto n limit) bytes (front_at limit bytes)

-- the messages of a stream; an item has five bytes at least
unfoldable pub messages_of : ℕ → List ℕ → Messages
messages_of limit bytes = messages_upto (length bytes) limit bytes

-- A message is within the limit, and with what stands before it among so many bytes.
abbrev pub FitsIn : Front → ℕ → ℕ → ℕ → Type 0
FitsIn (Message n) limit head len = (n ≤ limit) × (head + n ≤ len)
FitsIn NeedMore limit head len = Unit {0}
FitsIn Compressed limit head len = Unit {0}
FitsIn TooLong limit head len = Unit {0}

-- a message as it stands in a stream
abbrev pub item : List ℕ → List ℕ
item message = 0 ∷ (to_be_bytes w32 (length message) ++ message)

-- messages, one behind another
abbrev pub items : List (List ℕ) → List ℕ
items messages = flat_map item messages

-- the messages and then those of another cut
abbrev pub all_then : List (List ℕ) → Messages → Messages
all_then messages cut = record { messages = messages ++ cut.messages; rest = cut.rest; ending = cut.ending }
