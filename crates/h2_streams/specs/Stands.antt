-- How a set of streams stands for an exchange.
use Rattle.std.specs.Prelude.{◌≡◌, ℕ, ◌+◌, ◌-◌, ◌<◌, ◌≤◌, ◌^◌, true, false, not, map, Bool, List, Option, Some, None, option_map, length, ◌==◌}
use Rattle.h2_frames.specs.declared.frame.Frame.{Frame}
use Rattle.h2_exchange.specs.declared.limits.H2Limits.{H2Limits}
use Rattle.h2_exchange.specs.Blocks.{Block, open_block}
use Rattle.h2_exchange.specs.Exchange.{Step, received, sent}
use Rattle.h2_exchange.specs.Streams.{of_client, highest, is_odd, is_live, is_reset, is_ended_by, has_head, live}
use Rattle.h2_exchange.specs.Windows.{initial_window, granted_on, spent_on, spent}
use Rattle.h2_streams.specs.declared.live.Stream.{Stream}
use Rattle.h2_streams.specs.Set.{Set, new_stream}

-- what the received and the sent frames say of a stream
abbrev pub stream_by : H2Limits → List Frame → List Frame → ℕ → Stream
stream_by limits received sent id = record {
  id = id;
  is_closed_local = is_ended_by sent id;
  is_closed_remote = is_ended_by received id;
  has_head = has_head received id;
  room = 2147483648 + granted_on id received - spent_on id sent;
  receive = limits.window + granted_on id sent - spent_on id received;
}

abbrev pub stream_at : H2Limits → List Step → ℕ → Stream
stream_at limits x id = stream_by limits (received x) (sent x) id

-- how many bytes are to be granted so that the stream's window is whole again
abbrev pub owed_on : H2Limits → List Step → ℕ → ℕ
owed_on limits x id = limits.window - (stream_at limits x id).receive

-- the open header block stands on the stream
abbrev pub is_on : ℕ → Option Block → Bool
is_on id None = false
is_on id (Some b) = b.stream == id

-- no frame stood on the stream
pub record IsUntouched (limits : H2Limits) (x : List Step) (id : ℕ) : Type 0 where
  pub as_new : stream_at limits x id ≡ new_stream limits id
  pub no_reset : is_reset x id ≡ false
  pub no_block : is_on id (open_block (received x)) ≡ false

-- Each part of the set is what the exchange says. Besides, on a live stream no more was sent than was granted with the
-- largest initial window, and no more was received than was granted; and on a stream that may still begin nothing stood.
pub record StandsFor (s : Set) (x : List Step) : Type 0 where
  pub live_is : s.live ≡ map (stream_at s.limits x) (live s.role x)
  pub highest_is : s.highest ≡ highest (of_client s.role x)
  pub started_is : s.is_started ≡ not (length (received x) == 0)
  pub block_is : s.block ≡ option_map (λ b. (b.stream, b.last)) (open_block (received x))
  pub initial_is : s.initial ≡ initial_window (received x)
  pub send_is : s.send + spent (sent x) ≡ 65535 + granted_on 0 (received x)
  pub receive_is : s.receive + spent (received x) ≡ 65535 + granted_on 0 (sent x)
  pub initial_small : s.initial < 2 ^ 31
  pub covered : (id : ℕ) → is_live s.role x id ≡ true → spent_on id (sent x) < 2147483648 + granted_on id (received x)
  pub within : (id : ℕ) → is_live s.role x id ≡ true → spent_on id (received x) ≤ s.limits.window + granted_on id (sent x)
  pub untouched : (id : ℕ) → s.highest < id → is_odd id ≡ true → IsUntouched s.limits x id
