-- The check in two steps, which the private functions name: the key first, then the payload.
use Rattle.std.specs.Prelude.{ℕ, Bool, true, false, List, Option, Some, None, Result, Ok, Err}
use Rattle.aft_entries.specs.declared.entry.Payload.{Payload}
use Rattle.aft_entries.specs.declared.key.Key.{Key}
use Rattle.aft_entries.specs.declared.key.KeyName.{KeyName}
use Rattle.aft_entries.specs.declared.operation.Ask.{Ask}
use Rattle.aft_entries.specs.declared.operation.Ask.TheVariants.{Put, Bad}
use Rattle.aft_entries.specs.declared.operation.Op.{Op}
use Rattle.aft_entries.specs.declared.operation.RawOperation.{RawOperation}
use Rattle.aft_entries.specs.declared.operation.Reason.{Reason}
use Rattle.aft_entries.specs.declared.operation.Reason.TheVariants.{OpUnsupported, KindUnsupported, UnknownInstance, BadKey, BadPayload}
use Rattle.aft_entries.specs.Checked.{is_unsupported, name_of}
use Rattle.aft_entries.specs.InstanceNames.{number_of}

-- the op and the key of an operation, or the first cause that the payload plays no part in
abbrev pub key_parts : Option Op → Bool → Option ℕ → Option KeyName → Result (Op × Key) Reason
key_parts None unsupported instance name = Err OpUnsupported
key_parts (Some op) true instance name = Err KindUnsupported
key_parts (Some op) false None name = Err UnknownInstance
key_parts (Some op) false (Some instance) None = Err BadKey
key_parts (Some op) false (Some instance) (Some name) = Ok (op, record { instance = instance; name = name })

unfoldable pub key_asked : List (List ℕ) → RawOperation → Result (Op × Key) Reason
key_asked instances operation =
    key_parts operation.op (is_unsupported operation.entry) (number_of instances operation.instance) (name_of operation.entry)

-- the entry is put if its payload breaks no rule
abbrev pub put_or : Key → Bool → Option Payload → Ask
put_or key replace None = Bad BadPayload
put_or key replace (Some payload) = Put (record { key = key; payload = payload }) replace
