-- What a ModifyRequest orders (gRIBI): parameters, an election id, and operations, each of which is a command of its session.
use Rattle.std.specs.Prelude.{ℕ, ℤ, List, [], ◌∷◌, ◌++◌, map, Option, Some, None, ◌==◌, if◌then◌else◌}
use Rattle.std.specs.Option.{option_map, option_map_or}
use Rattle.schema_numbers.specs.Numbers.{Numbers, value_of}
use Rattle.schema_numbers.specs.declared.names.ValueName.TheVariants as value
use Rattle.aft_entries.specs.Checked.{checked}
use Rattle.aft_entries.specs.declared.operation.RawOperation.{RawOperation}
use Rattle.gribi_messages.specs.declared.request.RawParams.{RawParams}
use Rattle.gribi_messages.specs.declared.request.ModifyRequest.{ModifyRequest}
use Rattle.gribi_messages.specs.Request.{modify_request}
use Rattle.gribi_messages.specs.Request.{operation_of as raw_operation}
use Rattle.table_model.specs.declared.command.Command.{Command}
use Rattle.table_model.specs.declared.command.Command.TheVariants.{SetParams, Announce, Operate}
use Rattle.table_model.specs.declared.command.Operation.{Operation}
use Rattle.table_model.specs.declared.params.AskedParams.{AskedParams}
use Rattle.table_model.specs.declared.params.Redundancy.{Redundancy}
use Rattle.table_model.specs.declared.params.Redundancy.TheVariants.{AllPrimary, SinglePrimary}
use Rattle.table_model.specs.declared.params.Persistence.{Persistence}
use Rattle.table_model.specs.declared.params.Persistence.TheVariants.{Delete, Preserve}
use Rattle.table_model.specs.declared.params.AckType.{AckType}
use Rattle.table_model.specs.declared.params.AckType.TheVariants.{Rib, RibAndFib}
use Rattle.call_answers.specs.declared.orders.Orders.{Orders}
use Rattle.call_answers.specs.declared.orders.Setting.{Setting}

-- ---- parameters, each where its number is in the table

abbrev pub redundancy_of : Numbers → ℕ → Option Redundancy
redundancy_of n number =
    if number == value_of n value.RedundancyAllPrimary then Some AllPrimary
    else if number == value_of n value.RedundancySinglePrimary then Some SinglePrimary
    else None

abbrev pub persistence_of : Numbers → ℕ → Option Persistence
persistence_of n number =
    if number == value_of n value.PersistenceDelete then Some Delete
    else if number == value_of n value.PersistencePreserve then Some Preserve
    else None

abbrev pub ack_of : Numbers → ℕ → Option AckType
ack_of n number =
    if number == value_of n value.AckTypeRibAck then Some Rib
    else if number == value_of n value.AckTypeRibAndFibAck then Some RibAndFib
    else None

abbrev pub asked_params_of : Numbers → RawParams → AskedParams
asked_params_of n raw = record { redundancy = redundancy_of n raw.redundancy; persistence = persistence_of n raw.persistence; ack = ack_of n raw.ack }

-- ---- operations, each checked as far as it stands by itself

abbrev pub operation_of : List (List ℕ) → RawOperation → Operation
operation_of instances raw = record { id = raw.id; election = raw.election; ask = checked instances raw }

-- ---- the whole

abbrev pub orders_in : Setting → ModifyRequest → Orders
orders_in s request = record {
  params = option_map (asked_params_of s.numbering) request.params;
  election = request.election;
  operations = map (operation_of s.instances) request.operations;
}

-- what the bytes of a ModifyRequest order
unfoldable pub orders_of : Setting → List ℕ → Orders
orders_of s bytes = orders_in s (modify_request s.numbering bytes)

-- the commands of a session for these orders: its parameters, then its election id, then its operations
abbrev pub commands_of : ℕ → ℤ → Orders → List Command
commands_of session now orders =
    option_map_or (λ asked. SetParams session asked ∷ []) orders.params []
    ++ option_map_or (λ id. Announce session id ∷ []) orders.election []
    ++ map (λ operation. Operate session operation now) orders.operations

-- ---- the operations, one after another

-- What bytes of an operation order.
abbrev pub operation_at : Setting → List ℕ → Operation
operation_at s bytes = operation_of s.instances (raw_operation s.numbering bytes)
