-- What a run over an input comes to: what is written, what it closes with, and the status.
use Rattle.std.specs.Prelude.{◌≡◌, ℕ, ◌+◌, ◌^◌, List, [], ◌∷◌, ◌++◌, length, take, Option, Some, None, nat_lt, ◌==◌, if◌then◌else◌}
use Rattle.std.specs.Int.{w32, to_be_bytes}
use Rattle.std.specs.Fmt.{decimal}
use Rattle.grpc_framing.specs.declared.front.Front.{Front}
use Rattle.grpc_framing.specs.declared.front.Front.TheVariants.{Message, NeedMore, Compressed, TooLong}
use Rattle.grpc_framing.specs.Framing.{Messages, messages_of, items}
use Rattle.message_run.specs.Behaviour.{Behaviour, MessageTrace, Ending, Reply, Field, trace_from}

-- how many bytes an input may have
abbrev pub MAX_INPUT_SIZE : ℕ
MAX_INPUT_SIZE = 2 ^ 40

-- how many bytes a message may have
abbrev pub MAX_MESSAGE_SIZE : ℕ
MAX_MESSAGE_SIZE = 4194304

-- the messages of an input, as far as it may be long
abbrev pub messages_in : List ℕ → Messages
messages_in input = messages_of MAX_MESSAGE_SIZE (take MAX_INPUT_SIZE input)

-- A run closes where all of the input was read and answered, where a reply refused the stream, with its status number of gRPC,
-- and where the input can't be read, at this place of it.
pub data Close : Type 0 where
  Complete : Close
  Refused : (code : ℕ) → Close
  Unreadable : (place : ℕ) → Close

-- At a rest where no message stands, at this offset of an input of so many bytes. A rest that is compressed, too long or cut
-- can't be read at its flag byte, and an input past the longest one at the first byte past it. A cut never ends at a message, so
-- nothing comes to the last arm.
abbrev pub close_at_rest : ℕ → ℕ → List ℕ → Front → Close
close_at_rest count offset rest NeedMore =
    if nat_lt MAX_INPUT_SIZE count then Unreadable MAX_INPUT_SIZE else if length rest == 0 then Complete else Unreadable offset
close_at_rest count offset rest Compressed = Unreadable offset
close_at_rest count offset rest TooLong = Unreadable offset
close_at_rest count offset rest (Message n) = Complete

-- where a message ended the stream, whose item is at this offset, and elsewhere at the rest; a message stands behind five bytes
-- of flag and length
abbrev pub close_with : ℕ → Option Ending → Close → Close
close_with offset None at_rest = at_rest
close_with offset (Some (Reply code)) at_rest = Refused code
close_with offset (Some (Field place)) at_rest = Unreadable (offset + 5 + place)

-- the messages that were done, the answers that were written, and what the run closes with
pub record Outcome : Type 0 where
  pub done : List (List ℕ)
  pub written : List ℕ
  pub close : Close

-- The items of the messages that were done stand before the one that can't be read, and before the rest.
abbrev pub outcome_with : ℕ → Messages → MessageTrace → Outcome
outcome_with count cut c =
    let offset = length (items c.done) in
    record {
      done = c.done;
      written = c.written;
      close = close_with offset c.ending (close_at_rest count offset cut.rest cut.ending);
    }

unfoldable pub outcome_at : Behaviour → ℕ → Messages → Outcome
outcome_at f count cut = outcome_with count cut (trace_from f [] cut.messages)

-- the outcome of an input
abbrev pub outcome_of : Behaviour → List ℕ → Outcome
outcome_of f input = outcome_at f (length input) (messages_in input)

-- ---- the output and the status

-- an item with this flag byte; a message's is 0
abbrev pub flagged_item : ℕ → List ℕ → List ℕ
flagged_item flag bytes = flag ∷ (to_be_bytes w32 (length bytes) ++ bytes)

-- a last item: its byte in place of a message's flag, four bytes of length, the highest first, and a number in decimal digits
abbrev pub trailer : ℕ → ℕ → List ℕ
trailer flag number = flagged_item flag (decimal number)

-- 0x80 with the status number of gRPC, and 0x81 with the place in the input
abbrev pub trailer_of : Close → List ℕ
trailer_of Complete = []
trailer_of (Refused code) = trailer 128 code
trailer_of (Unreadable place) = trailer 129 place

abbrev pub status_at : Close → ℕ
status_at Complete = 0
status_at (Refused code) = 7
status_at (Unreadable place) = 3

-- the output and the status of an outcome
abbrev pub output_at : Outcome → List ℕ
output_at o = o.written ++ trailer_of o.close

-- what is written for an input: the answers, and what the run closes with
abbrev pub output_of : Behaviour → List ℕ → List ℕ
output_of f input = output_at (outcome_of f input)

-- the status of an input
abbrev pub status_of : Behaviour → List ℕ → ℕ
status_of f input = status_at (outcome_of f input).close

-- the messages of an input that are done
abbrev pub done_of : Behaviour → List ℕ → List (List ℕ)
done_of f input = (outcome_of f input).done

-- Nothing in these bytes ends the stream: it goes on behind each message, and more is needed at the rest.
abbrev pub IsGoingOn : Behaviour → List ℕ → Type 0
IsGoingOn f taken = ((trace_from f [] (messages_in taken).messages).ending ≡ None) × ((messages_in taken).ending ≡ NeedMore)
