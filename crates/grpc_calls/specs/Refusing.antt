-- How a call is refused.
use Rattle.std.specs.Prelude.{◌≡◌, ℕ, ◌++◌, List, Ok, false, length, not, slice_index_or, slice_set}
use Rattle.grpc_heads.specs.CallEnd.{CallEnd, call_end_of}
use Rattle.grpc_heads.specs.GrpcStatus.{GrpcStatus}
use Rattle.grpc_heads.specs.Trailers.{status_in_trailers}
use Rattle.grpc_heads.specs.Written.{response_fields, trailer_fields}
use Rattle.hpack_tables.specs.declared.field.Field.{Field}
use Rattle.schema_numbers.specs.Numbers.{Numbers}
use Rattle.h2_exchange.specs.declared.role.Role.{Role}
use Rattle.h2_exchange.specs.declared.role.Role.TheVariants.{Client, Server}
use Rattle.h2_exchange.specs.Malformed.{is_malformed_head}
use Rattle.grpc_stream.specs.declared.event.CallEvent.{CallEvent}
use Rattle.grpc_stream.specs.declared.event.CallEvent.TheVariants as says
use Rattle.kept_calls.specs.declared.call.Call.{Call}
use Rattle.kept_calls.specs.CallState.{CallState, refused_by, state_of, stopped}
use Rattle.call_hearing.specs.declared.pending.Pending.TheVariants.{Nothing}
use Rattle.call_standing.specs.declared.fate.Fate.TheVariants.{Dead}
use Rattle.call_standing.specs.Ends.{last_block, last_ending}
use Rattle.grpc_calls.specs.declared.calls.Calls.{Calls}

-- what is left of a call whose bytes are refused: a server ends it with a status, unless it has an end
abbrev pub refused_as : Role → Numbers → GrpcStatus → CallState → CallState
refused_as Server n status c = refused_by (last_ending (not c.has_message)) (last_block (not c.has_message) n status) c
refused_as Client n status c = stopped c

-- the trailers of a status are read again as it, and behind the fields of a response they are a head
pub record IsWritten (n : Numbers) (status : GrpcStatus) : Type 0 where
  pub read : status_in_trailers n (trailer_fields n status) ≡ Ok status
  pub sound : is_malformed_head Client (response_fields ++ trailer_fields n status) ≡ false

-- a header block that stands alone says this end
pub record SaysEnd (n : Numbers) (close : CallEnd) (block : List Field) : Type 0 where
  pub says : call_end_of n block ≡ close
  pub plain : is_malformed_head Client block ≡ false

-- there was no memory
pub record GivesUp {C : Type 0} (output : C → List ℕ) (old new : Calls C) (event : CallEvent) : Type 0 where
  pub event_is : event ≡ says.NoMemory
  pub fate_is : new.fate ≡ Dead (length (output old.conn))
  pub conn_is : new.conn ≡ old.conn

-- the call that stands at a place is refused with a status, and shown as a drop
pub record DropsCall {C : Type 0} (n : Numbers) (status : GrpcStatus) (stream at : ℕ) (old new : Calls C) (event : CallEvent) : Type 0 where
  pub event_is : event ≡ says.Dropped stream
  pub conn_is : new.conn ≡ old.conn
  pub fate_is : new.fate ≡ old.fate
  pub role_is : new.role ≡ old.role
  pub pending_is : new.pending ≡ Nothing
  pub before : Call
  pub after : Call
  pub stood : before ≡ slice_index_or old.calls.items at before
  pub stands : new.calls.items ≡ slice_set old.calls.items at after
  pub left : state_of after ≡ refused_as old.role n status (state_of before)
