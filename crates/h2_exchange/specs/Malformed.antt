-- Malformed heads, by who receives them, and malformed trailers.
use Rattle.std.specs.Prelude.{Bool, List}
use Rattle.hpack_tables.specs.declared.field.Field.{Field}
use Rattle.hpack_tables.specs.Malformed.{is_malformed_request, is_malformed_response}
use Rattle.h2_exchange.specs.declared.role.Role.{Role}
use Rattle.h2_exchange.specs.declared.role.Role.TheVariants.{Client, Server}
pub use Rattle.hpack_tables.specs.Malformed.{is_malformed_trailers}

-- a server receives requests, a client responses
abbrev pub is_malformed_head : Role → List Field → Bool
is_malformed_head Server fields = is_malformed_request fields
is_malformed_head Client fields = is_malformed_response fields
