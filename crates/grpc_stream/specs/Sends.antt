-- What is sent on calls.
use Rattle.std.specs.Prelude.{◌≡◌, ℕ, ◌<◌, true, false, List, [], ◌∷◌, ◌++◌}
use Rattle.h2_frames.specs.declared.frame.Frame.{Frame}
use Rattle.h2_frames.specs.declared.frame.Frame.TheVariants.{Content, Headers, Continuation}
use Rattle.hpack_tables.specs.declared.field.Field.{Field}
use Rattle.h2_exchange.specs.declared.role.Role.{Role}
use Rattle.h2_exchange.specs.Exchange.{Step, Sent, sent}
use Rattle.h2_exchange.specs.Frames.{has_padding}
use Rattle.h2_exchange.specs.Streams.{is_live, is_open, is_ended_by}
use Rattle.h2_exchange.specs.Windows.{may_send}
use Rattle.http_connection.specs.ConnectionTrace.{is_alive, wrote}
use Rattle.grpc_stream.specs.CallTrace.{CallTrace, changed, is_ended, unsent_on}

-- heads, data and trailers, on streams that are open; data has no padding, which would count as bytes of messages
abbrev pub IsCarried : Role → List Step → Frame → Type 0
IsCarried role x (Content b) = (is_open role x b.stream ≡ true) × (has_padding (Content b) ≡ false)
IsCarried role x (Headers b) = is_open role x b.stream ≡ true
IsCarried role x (Continuation b) = is_open role x b.stream ≡ true
IsCarried role x other = ⊥

-- each of these frames is one of them, behind those before it
abbrev pub AreCarried : Role → List Step → List Frame → Type 0
AreCarried role x [] = Unit {0}
AreCarried role x (f ∷ fs) = IsCarried role x f × AreCarried role (x ++ Sent f ∷ []) fs

-- Frames were sent as far as the windows allow: where bytes of a live stream wait its own window or the connection's has no
-- room, and where none wait its end, if it has one, is sent. After a refusal nothing is.
pub record Pumps (t u : CallTrace) : Type 0 where
  pub fs : List Frame
  pub lists : List (List Field)
  pub goes_on : u ≡ changed (wrote fs lists) t
  pub carried : AreCarried t.connection_trace.role t.connection_trace.frames fs
  pub refused : is_alive t.connection_trace ≡ false → fs ≡ []
  pub full : is_alive t.connection_trace ≡ true → (id : ℕ) → is_live u.connection_trace.role u.connection_trace.frames id ≡ true →
      0 < unsent_on u id → may_send u.connection_trace.frames id ≡ 0
  pub ended : is_alive t.connection_trace ≡ true → (id : ℕ) → is_live u.connection_trace.role u.connection_trace.frames id ≡ true →
      unsent_on u id ≡ 0 → is_ended u id ≡ true → is_ended_by (sent u.connection_trace.frames) id ≡ true
