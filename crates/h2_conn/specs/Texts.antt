-- The frames that a connection sends, as records.
use Rattle.std.specs.Prelude.{◌≤◌, ◌<◌, ◌^◌, ℕ, List, length}
use Rattle.h2_frames.specs.declared.frame.FrameBody.{FrameBody}

-- a frame's body of these parts
abbrev pub body : (flags stream : ℕ) (payload : List ℕ) → stream < 2 ^ 31 → length payload ≤ 16384 → FrameBody
body flags stream payload fits small = record { flags = flags; stream = stream; payload = payload; stream_in_range = fits; payload_in_range = small }
