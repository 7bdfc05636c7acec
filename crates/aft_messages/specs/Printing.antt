-- What is written of a checked entry: its texts in their printed forms, each weight, and the name of the instance of a
-- route's group (gRIBI; addr_text has the printed forms).
use Rattle.std.specs.Prelude.{ℕ, ◌<◌, List, [], map, Option, Some, slice_index_or}
use Rattle.std.specs.Option.{option_map}
use Rattle.addr_text.specs.Printed.{v4_prefix_text, v6_prefix_text, address_text, mac_text}
use Rattle.aft_entries.specs.declared.lists.Member.{Member}
use Rattle.aft_entries.specs.declared.key.KeyName.{KeyName}
use Rattle.aft_entries.specs.declared.key.KeyName.TheVariants as name
use Rattle.aft_entries.specs.declared.entry.HopPayload.{HopPayload}
use Rattle.aft_entries.specs.declared.entry.GroupPayload.{GroupPayload}
use Rattle.aft_entries.specs.declared.entry.RoutePayload.{RoutePayload}
use Rattle.aft_entries.specs.declared.entry.Payload.{Payload}
use Rattle.aft_entries.specs.declared.entry.Payload.TheVariants as payload
use Rattle.aft_entries.specs.declared.entry.Entry.{Entry}
use Rattle.aft_entries.specs.declared.operation.RawHop.{RawHop}
use Rattle.aft_entries.specs.declared.operation.RawGroup.{RawGroup}
use Rattle.aft_entries.specs.declared.operation.RawRoute.{RawRoute}
use Rattle.aft_entries.specs.declared.operation.RawEntry.{RawEntry}
use Rattle.aft_entries.specs.declared.operation.RawEntry.TheVariants as raw

unfoldable pub raw_hop : HopPayload → RawHop
raw_hop hop = record {
  ip = option_map address_text hop.ip;
  mac = option_map mac_text hop.mac;
  interface = hop.interface;
  subinterface = hop.subinterface;
  source = option_map address_text hop.source;
  target = option_map address_text hop.target;
  push = map Some hop.push;
}

abbrev pub raw_member : Member → ℕ × Option ℕ
raw_member member = (member.hop, Some member.weight)

unfoldable pub raw_group : GroupPayload → RawGroup
raw_group group = record { members = map raw_member group.members; backup = group.backup }

-- the instances have these names
abbrev pub raw_route : List (List ℕ) → RoutePayload → RawRoute
raw_route names route = record { group = Some route.group; instance = Some (slice_index_or names route.instance []) }

-- an entry of this name with a payload; no entry has a payload of another kind than its name
abbrev pub raw_from : List (List ℕ) → KeyName → Payload → RawEntry
raw_from names (name.Hop index) (payload.Hop hop) = raw.Hop index (raw_hop hop)
raw_from names (name.Hop index) (payload.Group group) = raw.Mac
raw_from names (name.Hop index) (payload.Route route) = raw.Mac
raw_from names (name.Group id) (payload.Hop hop) = raw.Mac
raw_from names (name.Group id) (payload.Group group) = raw.Group id (raw_group group)
raw_from names (name.Group id) (payload.Route route) = raw.Mac
raw_from names (name.V4 prefix) (payload.Hop hop) = raw.Mac
raw_from names (name.V4 prefix) (payload.Group group) = raw.Mac
raw_from names (name.V4 prefix) (payload.Route route) = raw.V4 (v4_prefix_text prefix) (raw_route names route)
raw_from names (name.V6 prefix) (payload.Hop hop) = raw.Mac
raw_from names (name.V6 prefix) (payload.Group group) = raw.Mac
raw_from names (name.V6 prefix) (payload.Route route) = raw.V6 (v6_prefix_text prefix) (raw_route names route)
raw_from names (name.Label label) (payload.Hop hop) = raw.Mac
raw_from names (name.Label label) (payload.Group group) = raw.Mac
raw_from names (name.Label label) (payload.Route route) = raw.Label (Some label) (raw_route names route)

-- an entry, as it is sent
abbrev pub raw_of : List (List ℕ) → Entry → RawEntry
raw_of names entry = raw_from names entry.key.name entry.payload

-- The instance of a route's group is one of so many.
abbrev pub HasKnownInstance : ℕ → Payload → Type 0
HasKnownInstance count (payload.Hop hop) = Unit {0}
HasKnownInstance count (payload.Group group) = Unit {0}
HasKnownInstance count (payload.Route route) = route.instance < count
