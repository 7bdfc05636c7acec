-- What the frames of calls spell, on all streams together.
use Rattle.std.proofs.Common.{◌≡◌, ℕ, List, subst, map}
use Rattle.std.specs.Prelude.{Ok}
use Rattle.h2_exchange.specs.declared.role.Role.{Role}
use Rattle.h2_exchange.specs.Content.{AreRead}
use Rattle.h2_exchange.specs.Exchange.{sent}
use Rattle.h2_exchange.specs.Laws.{WrittenBlocksAreRead}
use Rattle.http_connection.specs.ConnectionTrace.{style_of}
use Rattle.grpc_stream.specs.Laws.{AreSuited, ClientsAsk, ServersAnswer}
use Rattle.grpc_stream.specs.CallTrace.{CallTrace, CarriesResponseOn, CarriesRequestOn, IsSoundCallTrace, CarriesCallOn}

pub read : WrittenBlocksAreRead → (t : CallTrace) (output : List ℕ) → IsSoundCallTrace t output → AreRead (sent t.connection_trace.frames) (map Ok t.connection_trace.written)
read law t output h = law (style_of t.connection_trace.role) t.connection_trace.frames t.connection_trace.written h.connection_trace.last h.connection_trace.writable h.connection_trace.spelled

pub spelled_as : (role : Role) (t : CallTrace) (output : List ℕ) → IsSoundCallTrace t output → AreSuited t → t.connection_trace.role ≡ role → (id : ℕ) → CarriesCallOn role t id
spelled_as role t output h suited is id = subst (λ (r : Role). CarriesCallOn r t id) is (h.spelled id (suited id))

pub servers_answer : WrittenBlocksAreRead → ServersAnswer
servers_answer law = λ t output h suited is. (
  t.connection_trace.written,
  read law t output h,
  λ id. let on : CarriesResponseOn t id = spelled_as _ t output h suited is id in (on.messages, on.rest, on.end, on.spells, on.front, on.begins),
)

pub clients_ask : WrittenBlocksAreRead → ClientsAsk
clients_ask law = λ t output h suited is. (
  t.connection_trace.written,
  read law t output h,
  λ id. let on : CarriesRequestOn t id = spelled_as _ t output h suited is id in (on.messages, on.rest, on.ended, on.asks, on.front),
)
