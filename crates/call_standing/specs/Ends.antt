-- How a server's side of a call ends.
use Rattle.std.specs.Prelude.{Bool, true, false, List, ◌++◌, if◌then◌else◌}
use Rattle.grpc_heads.specs.GrpcStatus.{GrpcStatus}
use Rattle.grpc_heads.specs.Written.{response_fields, trailer_fields}
use Rattle.hpack_tables.specs.declared.field.Field.{Field}
use Rattle.kept_calls.specs.declared.call.Ending.{Ending}
use Rattle.kept_calls.specs.declared.call.Ending.TheVariants as end
use Rattle.schema_numbers.specs.Numbers.{Numbers}

-- where no message was taken, head and trailers are one block
abbrev pub last_ending : Bool → Ending
last_ending true = end.Block
last_ending false = end.Trailers

-- the fields that say a status, alone or behind messages
abbrev pub last_block : Bool → Numbers → GrpcStatus → List Field
last_block is_alone n status = if is_alone then response_fields ++ trailer_fields n status else trailer_fields n status
