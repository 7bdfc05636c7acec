-- A header block that was read, before its fields are judged.
use Rattle.std.specs.Prelude.{◌≡◌, Bool, true, ◌||◌, List, [], ◌∷◌, ◌++◌, Option, Some, None, Ok, ℕ}
use Rattle.hpack_tables.specs.Decoder.{Decoder}
use Rattle.hpack_tables.specs.declared.field.Field.{Field}
use Rattle.h2_frames.specs.declared.code.ErrorCode.{ErrorCode}
use Rattle.h2_frames.specs.declared.frame.Frame.{Frame}
use Rattle.h2_exchange.specs.Blocks.{Block, blocks, completed, open_block}
use Rattle.h2_exchange.specs.Exchange.{received}
use Rattle.h2_exchange.specs.Frames.{stream_of, is_headers, is_continuation}
use Rattle.h2_exchange.specs.Stops.{block_stop}
use Rattle.h2_streams.specs.declared.set.receive.SeenStream.{SeenStream}
use Rattle.http_connection.specs.ConnectionTrace.{ConnectionTrace}
use Rattle.h2_conn.specs.Hears.{Faulty, Sound}
use Rattle.h2_conn.specs.Standing.{Decodes}
use Rattle.h2_conn.specs.State.{State}

-- the frame completes a block that passes no limit and has these fields
pub record Completes (c : ConnectionTrace) (f : Frame) (fields : List Field) (ends : Bool) (d : Decoder) : Type 0 where
  pub block : Block
  pub part : (is_headers f || is_continuation f) ≡ true
  pub whole : completed (received c.frames) f ≡ Some block
  pub last_is : block.last ≡ ends
  pub on : block.stream ≡ stream_of f
  pub fits : block_stop (Some block) ≡ None
  pub closed : open_block (received c.frames ++ f ∷ []) ≡ None
  pub decodes : Decodes d (blocks (received c.frames ++ f ∷ [])) (c.heads ++ Ok fields ∷ [])

pub record ReadSo (s : State) (c : ConnectionTrace) (f : Frame) (fields : List Field) (ends : Bool) (seen : SeenStream) (last : ℕ) : Type 0 where
  pub decoder : Decoder
  pub opened : Option Block
  pub sound_so : Sound (record s { decoder = decoder; block = opened }) c f seen last
  pub completes : Completes c f fields ends s.decoder
  pub none_open : s.block ≡ None

pub record ReadFaulty (s : State) (c : ConnectionTrace) (f : Frame) (fields : List Field) (why : ErrorCode) (seen : SeenStream) (last : ℕ) : Type 0 where
  pub decoder : Decoder
  pub opened : Option Block
  pub ends : Bool
  pub faulty_so : Faulty (record s { decoder = decoder; block = opened }) c f why seen last
  pub completes : Completes c f fields ends s.decoder
  pub none_open : s.block ≡ None
