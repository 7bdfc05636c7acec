-- Header blocks, and data without their padding (RFC 9113, sections 4.3, 6.1, 6.2 and 6.10).
use Rattle.std.specs.Prelude.{ℕ, ◌+◌, ◌-◌, Bool, true, false, List, [], ◌∷◌, ◌++◌, length, take, drop, Option, Some, None, option_to_list, if◌then◌else◌}
use Rattle.h2_frames.specs.declared.frame.Frame.{Frame}
use Rattle.h2_frames.specs.declared.frame.Frame.TheVariants.{Headers, Continuation}
use Rattle.h2_exchange.specs.Frames.{payload_of, has_end_stream, has_end_headers, has_padding, has_priority}

-- a payload without the length byte of its padding and the padding
abbrev pub unpadded : Bool → List ℕ → List ℕ
unpadded false payload = payload
unpadded true [] = []
unpadded true (n ∷ payload) = take (length payload - n) payload

-- what DATA brings
abbrev pub data_of : Frame → List ℕ
data_of f = unpadded (has_padding f) (payload_of f)

-- the part of a header block in HEADERS, without the five bytes of a priority
abbrev pub fragment_of : Frame → List ℕ
fragment_of f = if has_priority f then drop 5 (data_of f) else data_of f

-- a header block: its stream, whether its side of the stream ends with it, its bytes, and how many frames it has
pub record Block : Type 0 where
  pub stream : ℕ
  pub last : Bool
  pub text : List ℕ
  pub frames : ℕ

-- the block so far that a frame is part of: HEADERS begin one, and CONTINUATION goes on with the one that is open
abbrev pub block_with : Option Block → Frame → Option Block
block_with None (Headers b) = Some (record { stream = b.stream; last = has_end_stream (Headers b); text = fragment_of (Headers b); frames = 1 })
block_with None other = None
block_with (Some block) (Continuation b) = Some (record { stream = block.stream; last = block.last; text = block.text ++ b.payload; frames = block.frames + 1 })
block_with (Some block) other = None

-- the block that a frame completes, where this one was open before it
abbrev pub completed_by : Option Block → Frame → Option Block
completed_by opened f = if has_end_headers f then block_with opened f else None

-- the block that is open behind a frame
abbrev pub left_open : Option Block → Frame → Option Block
left_open opened f = if has_end_headers f then None else block_with opened f

abbrev pub open_behind : Option Block → List Frame → Option Block
open_behind opened [] = opened
open_behind opened (f ∷ fs) = open_behind (left_open opened f) fs

abbrev pub blocks_behind : Option Block → List Frame → List Block
blocks_behind opened [] = []
blocks_behind opened (f ∷ fs) = option_to_list (completed_by opened f) ++ blocks_behind (left_open opened f) fs

-- the block that is open behind these frames of one side
abbrev pub open_block : List Frame → Option Block
open_block fs = open_behind None fs

-- the blocks that these frames of one side complete, in order
abbrev pub blocks : List Frame → List Block
blocks fs = blocks_behind None fs

-- the block that a frame completes, behind these frames of its side
abbrev pub completed : List Frame → Frame → Option Block
completed past f = completed_by (open_block past) f
