-- Flow control in closed form (RFC 9113, sections 5.2, 6.5.2 and 6.9).
use Rattle.std.specs.Prelude.{◌≡◌, ℕ, ◌+◌, ◌-◌, ◌≤◌, ◌==◌, ◌&&◌, min, ℤ, pos, ◌-ℤ◌, List, [], ◌∷◌, ◌++◌, length, sum_by, fold, if◌then◌else◌}
use Rattle.std.specs.List.{flat_map}
use Rattle.std.specs.Int.{w16, w32, from_be_bytes}
use Rattle.h2_frames.specs.declared.frame.Frame.{Frame}
use Rattle.h2_frames.specs.declared.frame.Frame.TheVariants.{Content}
use Rattle.h2_frames.specs.declared.frame.FrameBody.{FrameBody}
use Rattle.h2_exchange.specs.Exchange.{Step, Sent, received, sent}
use Rattle.h2_exchange.specs.Frames.{stream_of, payload_of, is_window_update, is_setting, increment_of, counted}

-- ---- settings

-- the settings of a payload: a number and a value each
abbrev pub settings_of : List ℕ → List (ℕ × ℕ)
settings_of (a ∷ b ∷ c ∷ d ∷ e ∷ f ∷ more) = (from_be_bytes w16 (a ∷ b ∷ []), from_be_bytes w32 (c ∷ d ∷ e ∷ f ∷ [])) ∷ settings_of more
settings_of other = []

abbrev pub settings_in : Frame → List (ℕ × ℕ)
settings_in f = if is_setting f then settings_of (payload_of f) else []

-- the last value of a setting, or the one that it had
abbrev pub setting : ℕ → ℕ → List (ℕ × ℕ) → ℕ
setting number first settings = fold (λ value s. if s.0 == number then s.1 else value) first settings

-- INITIAL_WINDOW_SIZE as the frames of a side leave it
abbrev pub initial_window : List Frame → ℕ
initial_window fs = setting 4 65535 (flat_map settings_in fs)

-- ---- windows

-- what the DATA of a side counted, on one stream and on all
abbrev pub spent_on : ℕ → List Frame → ℕ
spent_on id fs = sum_by (λ f. if stream_of f == id then counted f else 0) fs

abbrev pub spent : List Frame → ℕ
spent fs = sum_by counted fs

-- what the WINDOW_UPDATE frames of a side granted to a stream, or with 0 to the connection
abbrev pub granted_on : ℕ → List Frame → ℕ
granted_on id fs = sum_by (λ f. if is_window_update f && stream_of f == id then increment_of f else 0) fs

-- What may be sent on a stream: what the peer granted less what was sent, below zero where a setting was lowered.
abbrev pub stream_window : List Step → ℕ → ℤ
stream_window x id = pos (initial_window (received x) + granted_on id (received x)) -ℤ pos (spent_on id (sent x))

-- the same, where a window below zero has no room
abbrev pub stream_room : List Step → ℕ → ℕ
stream_room x id = initial_window (received x) + granted_on id (received x) - spent_on id (sent x)

-- and on all streams together
abbrev pub connection_room : List Step → ℕ
connection_room x = 65535 + granted_on 0 (received x) - spent (sent x)

-- how many bytes of DATA may be sent on a stream
abbrev pub may_send : List Step → ℕ → ℕ
may_send x id = min (stream_room x id) (connection_room x)

-- how many bytes of a piece are placed in a frame, whose size no peer limits below 16,384 (section 4.2)
abbrev pub placed_of : List Step → ℕ → List ℕ → ℕ
placed_of x id piece = min (min (length piece) (may_send x id)) 16384

-- Each sent DATA is within both windows, as the frames before it leave them; an empty one always is.
abbrev pub IsWithinWindows : List Step → Type 0
IsWithinWindows x = (before behind : List Step) (b : FrameBody) → x ≡ before ++ Sent (Content b) ∷ behind → length b.payload ≤ may_send before b.stream
