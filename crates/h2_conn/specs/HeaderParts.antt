-- Header blocks as they are put together from their frames, and what their content leads to.
use Rattle.std.specs.Prelude.{ℕ, ◌+◌, nat_lt, min, Bool, true, false, List, ◌++◌, length, sum_by, Option, Some, None, Result, Ok, Err, if◌then◌else◌}
use Rattle.hpack_tables.specs.Decoder.{Decoder, GivesFields, RefusesBlock}
use Rattle.hpack_tables.specs.EntrySizes.{size_of}
use Rattle.hpack_tables.specs.declared.fault.HpackFault.{HpackFault}
use Rattle.hpack_tables.specs.declared.fault.HpackFault.TheVariants.{ListTooLong, NoMemory}
use Rattle.hpack_tables.specs.declared.field.Field.{Field}
use Rattle.h2_frames.specs.declared.code.ErrorCode.{ErrorCode}
use Rattle.h2_frames.specs.declared.code.TheConstants.ErrorCode as code
use Rattle.h2_frames.specs.declared.frame.Frame.{Frame}
use Rattle.h2_exchange.specs.declared.limits.CalmCause.{CalmCause}
use Rattle.h2_exchange.specs.declared.limits.CalmCause.TheVariants.{HeaderBytes, HeaderFrames, HeaderList}
use Rattle.h2_exchange.specs.declared.role.Role.{Role}
use Rattle.h2_exchange.specs.declared.role.Role.TheVariants.{Client, Server}
use Rattle.h2_exchange.specs.Blocks.{Block, fragment_of}
use Rattle.h2_exchange.specs.Frames.{stream_of, payload_of, has_end_stream}
use Rattle.h2_exchange.specs.Malformed.{is_malformed_head, is_malformed_trailers}
use Rattle.h2_streams.specs.Set.{dropped}
use Rattle.h2_conn.specs.declared.heard.End.{End}
use Rattle.h2_conn.specs.declared.heard.End.TheVariants as by
use Rattle.h2_conn.specs.declared.heard.Took.{Took}
use Rattle.h2_conn.specs.declared.heard.Took.TheVariants as take
use Rattle.h2_conn.specs.Receiving.{over_unless, passed, with_reset_of}
use Rattle.h2_conn.specs.State.{State}
use Rattle.h2_conn.specs.Watching.{Watch, ended_if}

-- ---- putting together

-- the block with a frame, whose frames are counted as far as a number goes
abbrev pub block_in : Option Block → Frame → Block
block_in None f = record { stream = stream_of f; last = has_end_stream f; text = fragment_of f; frames = 1 }
block_in (Some b) f = record { stream = b.stream; last = b.last; text = b.text ++ payload_of f; frames = min (b.frames + 1) 4294967295 }

-- the counted limit that a block passes
abbrev pub limit_of : Block → Option CalmCause
limit_of b = if nat_lt 65536 (length b.text) then Some HeaderBytes else if nat_lt 64 b.frames then Some HeaderFrames else None

-- a part that does not complete its block is kept
abbrev pub with_part_of : Frame → State → State
with_part_of f s = record (passed f s) { block = Some (block_in s.block f) }

-- ---- content

-- what a decoder answers of a block
abbrev pub BlockIsRead : Decoder → List ℕ → Result (List Field) HpackFault → Decoder → Type 0
BlockIsRead d text (Ok fields) after = GivesFields d text fields after
BlockIsRead d text (Err NoMemory) after = Unit {0}
BlockIsRead d text (Err fault) after = RefusesBlock d text fault after

-- how a fault ends the connection, unless memory ran out
abbrev pub fault_end : ℕ → HpackFault → Option End
fault_end place NoMemory = None
fault_end place ListTooLong = Some (by.Calm HeaderList)
fault_end place fault = Some (by.Broken code.COMPRESSION_ERROR place)

abbrev pub took_fault : ℕ → ℕ → HpackFault → Took
took_fault place last NoMemory = take.NoMemory
took_fault place last ListTooLong = take.Stopped (by.Calm HeaderList) last
took_fault place last fault = take.Stopped (by.Broken code.COMPRESSION_ERROR place) last

-- the size of a list with one more field, as far as a number goes
abbrev pub grown : ℕ → Field → ℕ
grown size f = min (min (min (size + length f.name) 18446744073709551615 + length f.value) 18446744073709551615 + 32) 18446744073709551615

abbrev pub is_long : ℕ → List Field → Bool
is_long limit fields = nat_lt limit (sum_by size_of fields)

abbrev pub is_malformed_by : Role → Bool → List Field → Bool
is_malformed_by role had_head fields = if had_head then is_malformed_trailers fields else is_malformed_head role fields

-- what a block tells: a server drops the fields of trailers
abbrev pub block_tells : Role → Bool → ℕ → List Field → Bool → Took
block_tells Server true id fields last = take.Ended id
block_tells Client true id fields last = take.Head id fields true
block_tells role false id fields last = take.Head id fields last

-- a client's call ends with its block
abbrev pub call_ended : Role → Bool → Watch → Watch
call_ended Server last w = ended_if last w
call_ended Client last w = w

-- a block was taken on a live stream, which is live behind it or not
abbrev pub with_block : Bool → Bool → Frame → State → State
with_block last live f s = record (passed f s) { watch = over_unless live (stream_of f) (call_ended s.role last s.watch) }

-- the live stream of a malformed block is reset
abbrev pub with_dropped : ErrorCode → Frame → State → State
with_dropped why f s = with_reset_of (stream_of f) why (passed f (record s { set = dropped (stream_of f) s.set }))
