-- The numbers of the causes for which an operation fails.
use Rattle.std.specs.Prelude.{ℕ}
use Rattle.aft_entries.specs.declared.operation.Reason.{Reason}
use Rattle.aft_entries.specs.declared.operation.Reason.TheVariants.{NotPrimary, ElectionIdDiffers, OpUnsupported, KindUnsupported, UnknownInstance, BadKey, BadPayload, NotThere, Unresolved, BackupDepth, InUse, TableFull}

abbrev pub reason_number : Reason → ℕ
reason_number NotPrimary = 1
reason_number ElectionIdDiffers = 2
reason_number OpUnsupported = 3
reason_number KindUnsupported = 4
reason_number UnknownInstance = 5
reason_number BadKey = 6
reason_number BadPayload = 7
reason_number NotThere = 8
reason_number Unresolved = 9
reason_number BackupDepth = 10
reason_number InUse = 11
reason_number TableFull = 12
