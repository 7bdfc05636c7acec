-- What the examples are made of.
use native.Mathlib.Omega.{arith}
use Rattle.std.specs.Prelude.{ℕ, ◌<◌, ◌≤◌, ◌^◌, List, [], ◌∷◌, ◌++◌, length, replicate, codes, bytes_eq, Result, Ok, Err, if◌then◌else◌}
use Rattle.std.specs.List.{list_any}
use Rattle.h2_frames.specs.declared.frame.Frame.{Frame}
use Rattle.h2_frames.specs.declared.frame.Frame.TheVariants.{Content, Headers, RstStream, Settings, Ping, WindowUpdate, Continuation, GoAway}
use Rattle.h2_frames.specs.declared.frame.FrameBody.{FrameBody}
use Rattle.hpack_tables.specs.declared.field.Field.{Field}
use Rattle.h2_exchange.specs.declared.limits.H2Limits.{H2Limits}
use Rattle.h2_exchange.specs.declared.role.Role.TheVariants.{Server}
use Rattle.h2_exchange.specs.Sending.{own_settings}

-- the limits of the program, with so many streams
abbrev pub limits : ℕ → H2Limits
limits streams = record { streams = streams; window = 1048576; list = 65536; window_is_raised = omega arith; window_in_range = omega arith }

abbrev pub body : (flags stream : ℕ) (payload : List ℕ) → stream < 2 ^ 31 → length payload ≤ 16384 → FrameBody
body flags stream payload p q = record { flags = flags; stream = stream; payload = payload; stream_in_range = p; payload_in_range = q }

-- SETTINGS with these bytes
abbrev pub settings : (payload : List ℕ) → length payload ≤ 16384 → Frame
settings payload p = Settings (body 0 0 payload (omega arith) p)

abbrev pub no_settings : Frame
no_settings = settings [] (omega arith)

-- those that a server sends first
abbrev pub first_settings : Frame
first_settings = settings (own_settings Server (limits 100)) (omega arith)

-- INITIAL_WINDOW_SIZE in its lowest byte
abbrev pub initial : ℕ → Frame
initial size = settings (0 ∷ 4 ∷ 0 ∷ 0 ∷ 0 ∷ size ∷ []) (omega arith)

abbrev pub head_on : (stream : ℕ) → stream < 2 ^ 31 → Frame
head_on stream p = Headers (body 4 stream [] p (omega arith))

abbrev pub last_head_on : (stream : ℕ) → stream < 2 ^ 31 → Frame
last_head_on stream p = Headers (body 5 stream [] p (omega arith))

abbrev pub head : Frame
head = head_on 1 (omega arith)

abbrev pub last_head : Frame
last_head = last_head_on 1 (omega arith)

abbrev pub cut_head : Frame
cut_head = Headers (body 1 1 [] (omega arith) (omega arith))

abbrev pub rest_of_head : Frame
rest_of_head = Continuation (body 4 1 [] (omega arith) (omega arith))

abbrev pub more_of_head : Frame
more_of_head = Continuation (body 0 1 [] (omega arith) (omega arith))

abbrev pub content : (flags : ℕ) (payload : List ℕ) → length payload ≤ 16384 → Frame
content flags payload p = Content (body flags 1 payload (omega arith) p)

abbrev pub thirty_bytes : Frame
thirty_bytes = content 0 (replicate 30 7) (omega arith)

abbrev pub last_data : Frame
last_data = content 1 [] (omega arith)

abbrev pub update_of_25 : Frame
update_of_25 = WindowUpdate (body 0 1 (0 ∷ 0 ∷ 0 ∷ 25 ∷ []) (omega arith) (omega arith))

abbrev pub update : (stream : ℕ) (payload : List ℕ) → stream < 2 ^ 31 → length payload ≤ 16384 → Frame
update stream payload p q = WindowUpdate (body 0 stream payload p q)

abbrev pub cancel_on : (stream : ℕ) → stream < 2 ^ 31 → Frame
cancel_on stream p = RstStream (body 0 stream (0 ∷ 0 ∷ 0 ∷ 8 ∷ []) p (omega arith))

abbrev pub cancel : Frame
cancel = cancel_on 1 (omega arith)

-- a whole message of no bytes
abbrev pub empty_message : Frame
empty_message = content 0 (replicate 5 0) (omega arith)

abbrev pub ping : Frame
ping = Ping (body 0 0 (replicate 8 0) (omega arith) (omega arith))

abbrev pub goaway : Frame
goaway = GoAway (body 0 0 (128 ∷ 0 ∷ 0 ∷ 1 ∷ 0 ∷ 0 ∷ 0 ∷ 0 ∷ []) (omega arith) (omega arith))

abbrev pub field : List ℕ → List ℕ → Field
field name value = record { name = name; value = value }

abbrev pub request : List Field
request =
    field (codes ":method") (codes "POST") ∷ field (codes ":scheme") (codes "http") ∷ field (codes ":path") (codes "/gribi.gRIBI/Modify")
    ∷ field (codes "content-type") (codes "application/grpc") ∷ field (codes "te") (codes "trailers") ∷ []

abbrev pub response : List Field
response = field (codes ":status") (codes "200") ∷ field (codes "content-type") (codes "application/grpc") ∷ []

abbrev pub trailers : List Field
trailers = field (codes "grpc-status") (codes "0") ∷ []

-- head and trailers in one block
abbrev pub trailers_only : List Field
trailers_only = response ++ trailers

-- a method is served where POST asks for it, and 405 is the refusal
abbrev pub served : List Field → Result ℕ ℕ
served fields = if list_any (λ f. bytes_eq f.value (codes "POST")) fields then Ok 1 else Err 405
