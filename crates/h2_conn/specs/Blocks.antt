-- Header blocks in frames, and what a connection becomes where it sends one (RFC 9113, sections 4.3, 6.2 and 6.10).
use Rattle.std.specs.Prelude.{◌≡◌, ℕ, zero, suc, ◌+◌, ◌-◌, ◌/◌, ◌≤◌, Bool, true, false, is_some, List, ◌∷◌, ◌++◌, length, take, drop, if◌then◌else◌}
use Rattle.std.specs.Int.{w32, to_be_bytes}
use Rattle.hpack_tables.specs.declared.field.Field.{Field}
use Rattle.hpack_tables.specs.Writing.{Encoder, Writes}
use Rattle.h2_frames.specs.Layout.{text_of}
use Rattle.h2_exchange.specs.declared.role.Role.{Role}
use Rattle.h2_exchange.specs.declared.role.Role.TheVariants.{Client, Server}
use Rattle.h2_streams.specs.Set.{Set, at, begun, finished, next_id}
use Rattle.http_connection.specs.Sends.{last_flag, text_room}
use Rattle.h2_conn.specs.State.{State}
use Rattle.h2_conn.specs.Watching.{ended_if, over_on}

-- ---- the frames

-- the nine bytes before a payload of so many bytes
abbrev pub header_text : ℕ → ℕ → ℕ → ℕ → List ℕ
header_text number flags word n = drop 1 (to_be_bytes w32 n) ++ number ∷ flags ∷ to_be_bytes w32 word

-- a frame and so many CONTINUATION frames behind it, of which all but the last are full
abbrev pub frames_text : ℕ → ℕ → ℕ → ℕ → List ℕ → List ℕ
frames_text zero number flags id text = text_of number (flags + 4) id text
frames_text (suc n) number flags id text = text_of number flags id (take 16384 text) ++ frames_text n 9 0 id (drop 16384 text)

-- how many frames stand behind the first
abbrev pub more_frames : ℕ → ℕ
more_frames n = (n - 1) / 16384

abbrev pub block_text : ℕ → Bool → List ℕ → List ℕ
block_text id last text = frames_text (more_frames (length text)) 1 (last_flag last) id text

-- ---- what becomes of the connection

-- a stream that is over asks for nothing
abbrev pub over_if : ℕ → State → State
over_if id s = record s { watch = if is_some (at id s.set) then s.watch else over_on id s.watch }

abbrev pub closed_on : ℕ → Bool → State → State
closed_on id false s = s
closed_on id true s = over_if id s

-- a client that ends its side ends the call
abbrev pub ends_by : Role → Bool → Bool
ends_by Server last = false
ends_by Client last = last

abbrev pub with_count : State → State
with_count s = record s { watch = ended_if (ends_by s.role true) s.watch }

abbrev pub finished_if : Bool → ℕ → Set → Set
finished_if false id set = set
finished_if true id set = finished id set

abbrev pub with_block : ℕ → Bool → List ℕ → Encoder → State → State
with_block id last text after s = record s { output = s.output ++ block_text id last text; encoder = after }

abbrev pub with_end : ℕ → Bool → State → State
with_end id last s = record s { set = finished_if last id s.set; watch = ended_if (ends_by s.role last) s.watch }

-- one block of these fields was written
pub record WritesBlock (s t : State) (id : ℕ) (last : Bool) (fields : List Field) : Type 0 where
  pub text : List ℕ
  pub after : Encoder
  pub writes : Writes s.encoder fields text after
  pub small : length text ≤ text_room fields
  pub state : t ≡ with_block id last text after s

-- and this side ended with it, or not
pub record SendsBlock (s t : State) (id : ℕ) (last : Bool) (fields : List Field) : Type 0 where
  pub middle : State
  pub written : WritesBlock s middle id last fields
  pub state : t ≡ closed_on id last (with_end id last middle)

-- the next stream was begun with it
pub record BeginsBlock (s t : State) (id : ℕ) (fields : List Field) : Type 0 where
  pub next : id ≡ next_id s.set.highest
  pub middle : State
  pub written : WritesBlock s middle id false fields
  pub state : t ≡ record middle { set = begun id s.set }
