-- What the bytes of a GetResponse say, and its one spelling (gRIBI, Protocol Buffers encoding).
use Rattle.std.specs.Prelude.{ℕ, Bool, ◌<◌, Some, List, [], ◌∷◌, ◌++◌, map, ◌==◌, slice_index_or, if◌then◌else◌}
use Rattle.std.specs.List.{flat_map}
use Rattle.std.specs.Option.{option_map}
use Rattle.proto_wire.specs.Written.{bytes_field}
use Rattle.schema_numbers.specs.Numbers.{Numbers, field_of, value_of}
use Rattle.schema_numbers.specs.declared.names.FieldName.TheVariants as field
use Rattle.schema_numbers.specs.declared.names.ValueName.TheVariants as value
use Rattle.proto_schema.specs.FieldValues.{number_at, repeated_at, oneof_at}
use Rattle.aft_entries.specs.declared.key.Kind.TheVariants as kind
use Rattle.aft_entries.specs.declared.key.KeyName.{KeyName}
use Rattle.aft_entries.specs.declared.key.KeyName.TheVariants as name
use Rattle.aft_entries.specs.declared.operation.RawEntry.{RawEntry}
use Rattle.aft_entries.specs.declared.operation.Row.{Row}
use Rattle.aft_messages.specs.Reading.{name_at, entry_of}
use Rattle.aft_messages.specs.Writing.{nonzero_uint_field, nonempty_field, raw_bytes}
use Rattle.aft_messages.specs.Printing.{raw_of, HasKnownInstance}
use Rattle.gribi_messages.specs.declared.rows.RawRow.{RawRow}
use Rattle.gribi_messages.specs.declared.rows.GetResponse.{GetResponse}

-- ---- reading

-- the members of the oneof that a row's entry is
abbrev pub row_members : Numbers → List ℕ
row_members n =
    field_of n field.AftEntryIpv4 ∷
    field_of n field.AftEntryIpv6 ∷
    field_of n field.AftEntryMpls ∷
    field_of n field.AftEntryNextHopGroup ∷
    field_of n field.AftEntryNextHop ∷
    []

abbrev pub row_entry : Numbers → (ℕ × List ℕ) → RawEntry
row_entry n member =
    if member.0 == field_of n field.AftEntryIpv4 then entry_of n kind.V4 member.1 else
    if member.0 == field_of n field.AftEntryIpv6 then entry_of n kind.V6 member.1 else
    if member.0 == field_of n field.AftEntryMpls then entry_of n kind.Label member.1 else
    if member.0 == field_of n field.AftEntryNextHopGroup then entry_of n kind.Group member.1 else
    entry_of n kind.Hop member.1

unfoldable pub row_of : Numbers → List ℕ → RawRow
row_of n bytes = record {
  instance = name_at (field_of n field.AftEntryNetworkInstance) bytes;
  entry = option_map (row_entry n) (oneof_at (row_members n) bytes);
  rib_status = number_at (field_of n field.AftEntryRibStatus) bytes;
  fib_status = number_at (field_of n field.AftEntryFibStatus) bytes;
}

abbrev pub rows_of : Numbers → List ℕ → List RawRow
rows_of n bytes = map (row_of n) (repeated_at (field_of n field.GetResponseEntry) bytes)

unfoldable pub get_response : Numbers → List ℕ → GetResponse
get_response n bytes = record { rows = rows_of n bytes }

-- ---- writing

abbrev pub row_member : Numbers → KeyName → ℕ
row_member n (name.Hop index) = field_of n field.AftEntryNextHop
row_member n (name.Group id) = field_of n field.AftEntryNextHopGroup
row_member n (name.V4 prefix) = field_of n field.AftEntryIpv4
row_member n (name.V6 prefix) = field_of n field.AftEntryIpv6
row_member n (name.Label label) = field_of n field.AftEntryMpls

unfoldable pub row_entry_field : Numbers → List (List ℕ) → Row → List ℕ
row_entry_field n names row = bytes_field (row_member n row.entry.key.name) (raw_bytes n (raw_of names row.entry))

-- Each entry is programmed in the RIB; whether it is in the FIB the row says. The instances have these names.
unfoldable pub row_bytes : Numbers → List (List ℕ) → Row → List ℕ
row_bytes n names row =
    nonempty_field (field_of n field.AftEntryNetworkInstance) (slice_index_or names row.entry.key.instance [])
    ++ row_entry_field n names row
    ++ nonzero_uint_field (field_of n field.AftEntryRibStatus) (value_of n value.EntryStatusProgrammed)
    ++ nonzero_uint_field (field_of n field.AftEntryFibStatus)
    (if row.installed then value_of n value.EntryStatusProgrammed else value_of n value.EntryStatusNotProgrammed)

unfoldable pub row_field : Numbers → List (List ℕ) → Row → List ℕ
row_field n names row = bytes_field (field_of n field.GetResponseEntry) (row_bytes n names row)

unfoldable pub rows_bytes : Numbers → List (List ℕ) → List Row → List ℕ
rows_bytes n names rows = flat_map (row_field n names) rows

-- ---- what is read again

-- the status in the FIB of an entry that is installed, or isn't
abbrev pub fib_status_of : Numbers → Bool → ℕ
fib_status_of n installed = if installed then value_of n value.EntryStatusProgrammed else value_of n value.EntryStatusNotProgrammed

-- A row as it is read: its entry's texts in their printed forms.
unfoldable pub row_as_read : Numbers → List (List ℕ) → Row → RawRow
row_as_read n names row = record {
  instance = slice_index_or names row.entry.key.instance [];
  entry = Some (raw_of names row.entry);
  rib_status = value_of n value.EntryStatusProgrammed;
  fib_status = fib_status_of n row.installed;
}

-- the instance numbers of a row are names of the list
abbrev pub RowHasKnownInstances : ℕ → Row → Type 0
RowHasKnownInstances count row = (row.entry.key.instance < count) × HasKnownInstance count row.entry.payload
