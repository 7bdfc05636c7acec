-- What is written of an entry is read again.
use Rattle.std.specs.Prelude.{◌≡◌, ℕ, ◌^◌, ◌<◌, List, Option, Some, None, true, All}
use Rattle.std.specs.Str.{is_utf8}
use Rattle.schema_numbers.specs.Numbers.{Numbers}
use Rattle.proto_schema.specs.Legal.{first_fault}
use Rattle.aft_entries.specs.declared.key.Kind.{Kind}
use Rattle.aft_entries.specs.declared.key.Kind.TheVariants as kind
use Rattle.aft_entries.specs.declared.operation.RawHop.{RawHop}
use Rattle.aft_entries.specs.declared.operation.RawGroup.{RawGroup}
use Rattle.aft_entries.specs.declared.operation.RawRoute.{RawRoute}
use Rattle.aft_entries.specs.declared.operation.RawEntry.{RawEntry}
use Rattle.aft_entries.specs.declared.operation.RawEntry.TheVariants as entry
use Rattle.aft_messages.specs.Reading.{entry_of, key_message}
use Rattle.aft_messages.specs.Writing.{raw_bytes}

-- a number of 64 bits, if it is there
abbrev pub IsNumber : Option ℕ → Type 0
IsNumber None = Unit {0}
IsNumber (Some v) = v < 2 ^ 64

-- a text in UTF-8, if it is there
abbrev pub IsText : Option (List ℕ) → Type 0
IsText None = Unit {0}
IsText (Some text) = is_utf8 text ≡ true

abbrev pub IsRoute : RawRoute → Type 0
IsRoute route = IsNumber route.group × IsText route.instance

-- the index of a member, and its weight
abbrev pub IsMember : (ℕ × Option ℕ) → Type 0
IsMember member = (member.0 < 2 ^ 64) × IsNumber member.1

abbrev pub IsGroup : RawGroup → Type 0
IsGroup group = All IsMember group.members × IsNumber group.backup

abbrev pub IsHop : RawHop → Type 0
IsHop hop =
    IsText hop.ip × IsText hop.mac × IsText hop.interface × IsNumber hop.subinterface
    × IsText hop.source × IsText hop.target × All IsNumber hop.push

-- what each entry as it was sent is: its numbers have 64 bits, and its texts are UTF-8
abbrev pub IsEncodable : RawEntry → Type 0
IsEncodable (entry.Hop index hop) = (index < 2 ^ 64) × IsHop hop
IsEncodable (entry.Group id group) = (id < 2 ^ 64) × IsGroup group
IsEncodable (entry.V4 prefix route) = (is_utf8 prefix ≡ true) × IsRoute route
IsEncodable (entry.V6 prefix route) = (is_utf8 prefix ≡ true) × IsRoute route
IsEncodable (entry.Label label route) = IsNumber label × IsRoute route
IsEncodable entry.Mac = Unit {0}
IsEncodable entry.Policy = Unit {0}

-- the kind of an entry whose message is read
abbrev pub raw_kind : RawEntry → Option Kind
raw_kind (entry.Hop index hop) = Some kind.Hop
raw_kind (entry.Group id group) = Some kind.Group
raw_kind (entry.V4 prefix route) = Some kind.V4
raw_kind (entry.V6 prefix route) = Some kind.V6
raw_kind (entry.Label label route) = Some kind.Label
raw_kind entry.Mac = None
raw_kind entry.Policy = None

-- an entry of this kind is read from its bytes, which have no fault
abbrev pub IsReadAgain : Numbers → Kind → RawEntry → Type 0
IsReadAgain n k raw = (first_fault n (key_message k) (raw_bytes n raw) ≡ None) × (entry_of n k (raw_bytes n raw) ≡ raw)
