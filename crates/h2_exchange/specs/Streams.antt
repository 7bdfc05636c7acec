-- The streams of an exchange: idle, live, or over (RFC 9113, section 5.1).
use Rattle.std.specs.Prelude.{ℕ, ◌%◌, ◌==◌, ◌&&◌, ◌||◌, Bool, not, nat_lt, max, List, [], ◌∷◌, length, filter, fold, if◌then◌else◌}
use Rattle.std.specs.List.{list_any, flat_map}
use Rattle.h2_frames.specs.declared.frame.Frame.{Frame}
use Rattle.h2_exchange.specs.declared.role.Role.{Role}
use Rattle.h2_exchange.specs.declared.role.Role.TheVariants.{Client, Server}
use Rattle.h2_exchange.specs.Blocks.{Block, blocks}
use Rattle.h2_exchange.specs.Exchange.{Step, Received, received, sent, collect, some_step}
use Rattle.h2_exchange.specs.Frames.{stream_of, is_data, is_headers, is_rst_stream, has_end_stream}

-- ---- how a stream begins

-- the frames of the client, which begins all streams
abbrev pub of_client : Role → List Step → List Frame
of_client Server x = received x
of_client Client x = sent x

-- a stream of the client's has an odd id (section 5.1.1)
abbrev pub is_odd : ℕ → Bool
is_odd id = id % 2 == 1

-- the greatest odd id of HEADERS, or 0
abbrev pub highest : List Frame → ℕ
highest fs = fold (λ most f. if is_headers f && is_odd (stream_of f) then max most (stream_of f) else most) 0 fs

-- HEADERS with an odd id above every one before it begin a stream
abbrev pub is_new : List Frame → Frame → Bool
is_new past f = is_headers f && is_odd (stream_of f) && nat_lt (highest past) (stream_of f)

abbrev pub begins : Role → ℕ → List Step → Step → Bool
begins role id past s = list_any (λ f. is_new (of_client role past) f && stream_of f == id) (of_client role (s ∷ []))

abbrev pub is_begun : Role → List Step → ℕ → Bool
is_begun role x id = some_step (begins role id) [] x

-- the ids that were begun, in their order
abbrev pub begun : Role → List Step → List ℕ
begun role x =
    collect (λ past s. flat_map (λ f. if is_new (of_client role past) f then stream_of f ∷ [] else []) (of_client role (s ∷ []))) [] x

-- idle: the id is even, or above the greatest one that was begun
abbrev pub is_idle_above : ℕ → ℕ → Bool
is_idle_above greatest id = not (is_odd id) || nat_lt greatest id

abbrev pub is_idle : Role → List Step → ℕ → Bool
is_idle role x id = is_idle_above (highest (of_client role x)) id

-- ---- how it ends

abbrev pub is_last_on : ℕ → Block → Bool
is_last_on id b = b.last && b.stream == id

-- A side ends a stream with DATA that has END_STREAM, or with the frame that completes a header block that has it.
abbrev pub is_ended_by : List Frame → ℕ → Bool
is_ended_by fs id =
    list_any (λ f. is_data f && has_end_stream f && stream_of f == id) fs || list_any (is_last_on id) (blocks fs)

abbrev pub has_rst_stream : List Frame → ℕ → Bool
has_rst_stream fs id = list_any (λ f. is_rst_stream f && stream_of f == id) fs

abbrev pub is_reset : List Step → ℕ → Bool
is_reset x id = has_rst_stream (received x) id || has_rst_stream (sent x) id

-- both sides ended the stream, or either reset it
abbrev pub is_over : List Step → ℕ → Bool
is_over x id = is_reset x id || is_ended_by (received x) id && is_ended_by (sent x) id

-- live: from its HEADERS until it is over
abbrev pub is_live : Role → List Step → ℕ → Bool
is_live role x id = is_begun role x id && not (is_over x id)

-- live, and this side may still send on it
abbrev pub is_open : Role → List Step → ℕ → Bool
is_open role x id = is_live role x id && not (is_ended_by (sent x) id)

-- live, or begun by this received frame
abbrev pub is_live_at : Role → List Step → Frame → ℕ → Bool
is_live_at role past f id = is_live role past id || begins role id past (Received f)

-- the ids of the streams that are live, in their order
abbrev pub live : Role → List Step → List ℕ
live role x = filter (is_live role x) (begun role x)

-- how many streams are live beside this one
abbrev pub others_live : Role → List Step → ℕ → ℕ
others_live role x id = length (filter (λ other. not (other == id)) (live role x))

-- the side has completed a header block on the stream: its head
abbrev pub has_head : List Frame → ℕ → Bool
has_head fs id = list_any (λ b. b.stream == id) (blocks fs)
