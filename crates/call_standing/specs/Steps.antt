-- What one step of the calls comes to.
use Rattle.std.specs.Prelude.{◌≡◌, Bool, true, List, [], ◌∷◌, Option, Some, None}
use Rattle.grpc_stream.specs.declared.event.CallEvent.{CallEvent}
use Rattle.grpc_stream.specs.CallTrace.{CallTrace, PeerEvent}
use Rattle.grpc_stream.specs.NextEvent.{AreHidden, NextEvent, ReportsPeerEvents, is_event}

-- nothing of what was told is shown
pub record GoesQuietly (t u : CallTrace) : Type 0 where
  pub hidden : List PeerEvent
  pub quiet : AreHidden t.reported hidden
  pub tells : ReportsPeerEvents t hidden u.connection_trace u

abbrev pub Steps : CallTrace → Option CallEvent → CallTrace → Type 0
Steps t None u = GoesQuietly t u
Steps t (Some event) u = NextEvent t event u

-- it is an event, or another step follows
abbrev pub goes_down : Option CallEvent → Bool
goes_down None = true
goes_down (Some event) = is_event event
