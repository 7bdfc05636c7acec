-- What an entry's backup is, by its payload.
use Rattle.std.proofs.Common.{◌≡◌, ap}
use Rattle.aft_entries.specs.declared.entry.Entry.{Entry}
use Rattle.aft_entries.specs.declared.entry.Payload.{Payload}
use Rattle.table_model.specs.Table as spec

pub backup_by_payload : (e : Entry) (payload : Payload) → e.payload ≡ payload → spec.backup_of e ≡ spec.payload_backup e.key.instance payload
unfolding spec.backup_of
backup_by_payload e payload same = ap (spec.payload_backup e.key.instance) same
