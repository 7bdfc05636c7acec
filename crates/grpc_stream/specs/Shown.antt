-- What a listener tells of what its connection says, which gives it no event.
use Rattle.http_connection.specs.declared.event.H2Event.{H2Event}
use Rattle.http_connection.specs.declared.event.H2Event.TheVariants as event
use Rattle.grpc_stream.specs.declared.event.CallEvent.{CallEvent}
use Rattle.grpc_stream.specs.declared.event.CallEvent.TheVariants as says

abbrev pub shown_of : H2Event → CallEvent
shown_of event.NeedMore = says.NeedMore
shown_of (event.Refused why place) = says.Refused why place
shown_of (event.Calm cause) = says.Calm cause
shown_of other = says.NoMemory
