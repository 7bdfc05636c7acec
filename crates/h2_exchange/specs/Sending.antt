-- What a side sends beside heads, data and trailers (RFC 9113, sections 3.4, 6.4, 6.5.3, 6.7, 6.8 and 6.9).
use Rattle.std.specs.Prelude.{◌≡◌, ℕ, ◌+◌, ◌-◌, ◌==◌, ◌&&◌, ◌||◌, true, not, map, filter, List, [], ◌∷◌, ◌++◌, Option, Some, None, if◌then◌else◌}
use Rattle.std.specs.List.{flat_map}
use Rattle.std.specs.Int.{w16, w32, to_be_bytes}
use Rattle.h2_frames.specs.declared.code.ErrorCode.{ErrorCode}
use Rattle.h2_frames.specs.declared.frame.Frame.{Frame}
use Rattle.h2_frames.specs.Layout.{text_of, frame_text}
use Rattle.h2_exchange.specs.declared.limits.H2Limits.{H2Limits}
use Rattle.h2_exchange.specs.declared.role.Role.{Role}
use Rattle.h2_exchange.specs.declared.role.Role.TheVariants.{Client, Server}
use Rattle.h2_exchange.specs.Content.{Outcome, stream_error}
use Rattle.h2_exchange.specs.Exchange.{Step, Received, Sent, received, sent}
use Rattle.h2_exchange.specs.Frames.{stream_of, payload_of, is_settings, is_setting, is_ping, has_ack}
use Rattle.h2_exchange.specs.Stops.{stop_of}
use Rattle.h2_exchange.specs.Streams.{highest, is_live}
use Rattle.h2_exchange.specs.Windows.{granted_on, spent_on, spent}

-- ---- the first frames

abbrev pub setting_text : ℕ → ℕ → List ℕ
setting_text number value = to_be_bytes w16 number ++ to_be_bytes w32 value

-- a server bounds its streams, and a client takes no pushes
abbrev pub own_settings : Role → H2Limits → List ℕ
own_settings Server limits = setting_text 3 limits.streams ++ setting_text 4 limits.window ++ setting_text 6 limits.list
own_settings Client limits = setting_text 2 0 ++ setting_text 4 limits.window

abbrev pub update_text : ℕ → ℕ → List ℕ
update_text id increment = text_of 8 0 id (to_be_bytes w32 increment)

-- The frames that a side sends before it reads: its settings, and the connection's window raised to the same size.
abbrev pub first_text : Role → H2Limits → List ℕ
first_text role limits = text_of 4 0 0 (own_settings role limits) ++ update_text 0 (limits.window - 65535)

-- ---- acknowledgements

-- SETTINGS is acknowledged by an empty one, PING by one with its data
abbrev pub ack_for : Frame → Option (List ℕ)
ack_for f =
    if is_ping f && not (has_ack f) then Some (text_of 6 1 0 (payload_of f))
    else if is_setting f then Some (text_of 4 1 0 []) else None

-- the acknowledgements that these frames want, in their order
abbrev pub acks_for : List Frame → List (List ℕ)
acks_for fs = flat_map (λ f. listed (ack_for f)) fs
  where
    listed : Option (List ℕ) → List (List ℕ)
    listed None = []
    listed (Some text) = text ∷ []

-- the acknowledgements among these frames
abbrev pub acks_in : List Frame → List (List ℕ)
acks_in fs = map frame_text (filter (λ f. (is_settings f || is_ping f) && has_ack f) fs)

abbrev pub IsPrefix : {A : Type 0} → List A → List A → Type 0
IsPrefix {A} xs ys = (more : List A) × (ys ≡ xs ++ more)

-- Acknowledgements are sent in order, and no others. It holds at every front of an exchange, so that none comes early.
abbrev pub AreAcknowledged : List Step → Type 0
AreAcknowledged x = IsPrefix (acks_in (sent x)) (acks_for (received x))

-- ---- credit

-- What is credited for DATA that counted so much: to the connection, and to its stream where that is still live.
abbrev pub credit_text : Role → List Step → ℕ → ℕ → List ℕ
credit_text role now id n = if n == 0 then [] else update_text 0 n ++ (if is_live role now id then update_text id n else [])

-- Nothing is left to be credited: the connection's window is whole, and so is that of each live stream.
pub record IsCredited (role : Role) (limits : H2Limits) (x : List Step) : Type 0 where
  pub whole : 65535 + granted_on 0 (sent x) ≡ limits.window + spent (received x)
  pub streams : (id : ℕ) → is_live role x id ≡ true → granted_on id (sent x) ≡ spent_on id (received x)

-- ---- ends

-- the last stream that the peer began: at a client there is none, since a server begins no streams
abbrev pub last_begun : Role → List Step → ℕ
last_begun Server x = highest (received x)
last_begun Client x = 0

-- GOAWAY behind these frames, which end before the one that breaks a rule: it names the last stream of the peer's
abbrev pub goaway_text : Role → List Step → ErrorCode → List ℕ
goaway_text role x why = text_of 7 0 0 (to_be_bytes w32 (last_begun role x) ++ to_be_bytes w32 why.0)

abbrev pub reset_text : ℕ → ErrorCode → List ℕ
reset_text id why = text_of 3 0 id (to_be_bytes w32 why.0)

-- Each stream error has its RST_STREAM right behind its frame, so that no credit goes to a stream that is over.
abbrev pub ResetsErrors : Role → H2Limits → List Outcome → List Step → Type 0
ResetsErrors role limits heads x =
    (past behind : List Step) (f : Frame) (why : ErrorCode) → x ≡ past ++ Received f ∷ behind → stop_of role limits heads (past ++ Received f ∷ []) ≡ None →
    stream_error role limits heads past f ≡ Some why →
    (reset : Frame) × (more : List Step) × (behind ≡ Sent reset ∷ more) × (frame_text reset ≡ reset_text (stream_of f) why)
