-- A next hop of which nothing is said but its index.
use Rattle.std.specs.Prelude.{ℕ, List, [], Option, Some, None}
use Rattle.aft_entries.specs.declared.entry.HopPayload.{HopPayload}
use Rattle.aft_entries.specs.declared.operation.Op.{Op}
use Rattle.aft_entries.specs.declared.operation.RawHop.{RawHop}
use Rattle.aft_entries.specs.declared.operation.RawEntry.TheVariants as raw
use Rattle.aft_entries.specs.declared.operation.RawOperation.{RawOperation}

-- as it was sent
abbrev pub index_only_raw : RawHop
index_only_raw = record { ip = None; mac = None; interface = None; subinterface = None; source = None; target = None; push = [] }

-- and as it stands in the table
abbrev pub index_only_payload : HopPayload
index_only_payload = record { ip = None; mac = None; interface = None; subinterface = None; source = None; target = None; push = [] }

-- an operation on it
abbrev pub index_only_operation : ℕ → List ℕ → Option Op → ℕ → Option ℕ → RawOperation
index_only_operation id instance op index election =
    record { id = id; instance = instance; op = op; entry = Some (raw.Hop index index_only_raw); election = election }
