-- The one spelling of an entry's message: the fields in the order of their table, no number that is 0 and no text that
-- is empty but in a member of a oneof (gRIBI, Protocol Buffers encoding).
use Rattle.std.specs.Prelude.{ℕ, List, [], ◌∷◌, ◌++◌, Option, ◌==◌, if◌then◌else◌}
use Rattle.std.specs.List.{flat_map}
use Rattle.std.specs.Option.{option_map_or}
use Rattle.proto_wire.specs.Written.{uint_field, bytes_field}
use Rattle.schema_numbers.specs.Numbers.{Numbers, field_of}
use Rattle.schema_numbers.specs.declared.names.FieldName.TheVariants as field
use Rattle.aft_entries.specs.declared.operation.RawHop.{RawHop}
use Rattle.aft_entries.specs.declared.operation.RawGroup.{RawGroup}
use Rattle.aft_entries.specs.declared.operation.RawRoute.{RawRoute}
use Rattle.aft_entries.specs.declared.operation.RawEntry.{RawEntry}
use Rattle.aft_entries.specs.declared.operation.RawEntry.TheVariants as entry

-- a number that is 0 is left out
unfoldable pub nonzero_uint_field : ℕ → ℕ → List ℕ
nonzero_uint_field number value = if value == 0 then [] else uint_field number value

-- a field of bytes that is left out where there are none: a text, or a message without a field
unfoldable pub nonempty_field : ℕ → List ℕ → List ℕ
nonempty_field number [] = []
nonempty_field number (byte ∷ bytes) = bytes_field number (byte ∷ bytes)

-- a wrapper, whose value is field 1, where there is a number
abbrev pub uint_value_field : ℕ → Option ℕ → List ℕ
uint_value_field number value = option_map_or (λ v. bytes_field number (nonzero_uint_field 1 v)) value []

-- a wrapper where there is a text
abbrev pub string_value_field : ℕ → Option (List ℕ) → List ℕ
string_value_field number text = option_map_or (λ t. bytes_field number (nonempty_field 1 t)) text []

-- a label is a member of a oneof: it is written where it is there, also as 0
abbrev pub label_field : ℕ → Option ℕ → List ℕ
label_field number label = option_map_or (uint_field number) label []

-- the addresses of a next hop
unfoldable pub address_fields : Numbers → Option (List ℕ) → Option (List ℕ) → List ℕ
address_fields n ip mac = string_value_field (field_of n field.NextHopIpAddress) ip ++ string_value_field (field_of n field.NextHopMacAddress) mac

-- the message of an interface, where one of its fields is there
unfoldable pub interface_field : Numbers → Option (List ℕ) → Option ℕ → List ℕ
interface_field n interface subinterface =
    nonempty_field (field_of n field.NextHopInterfaceRef) (
    string_value_field (field_of n field.InterfaceRefInterface) interface
    ++ uint_value_field (field_of n field.InterfaceRefSubinterface) subinterface)

-- the message of a tunnel, where one of its fields is there
unfoldable pub tunnel_field : Numbers → Option (List ℕ) → Option (List ℕ) → List ℕ
tunnel_field n source target =
    nonempty_field (field_of n field.NextHopIpInIp) (
    string_value_field (field_of n field.IpInIpSrcIp) source
    ++ string_value_field (field_of n field.IpInIpDstIp) target)

-- the message of a pushed label
unfoldable pub pushed_label_field : Numbers → Option ℕ → List ℕ
pushed_label_field n label = bytes_field (field_of n field.NextHopPushedMplsLabelStack) (label_field (field_of n field.PushedLabelLabelUint64) label)

-- the payload of a next hop
unfoldable pub hop_bytes : Numbers → RawHop → List ℕ
hop_bytes n hop =
    address_fields n hop.ip hop.mac
    ++ interface_field n hop.interface hop.subinterface
    ++ tunnel_field n hop.source hop.target
    ++ flat_map (pushed_label_field n) hop.push

-- a group's next hop, with its weight where it is there
unfoldable pub member_field : Numbers → (ℕ × Option ℕ) → List ℕ
member_field n member =
    bytes_field (field_of n field.NextHopGroupNextHop) (
    nonzero_uint_field (field_of n field.MemberKeyIndex) member.0
    ++ nonempty_field (field_of n field.MemberKeyNextHop) (uint_value_field (field_of n field.MemberLeavesWeight) member.1))

-- the payload of a group
unfoldable pub group_bytes : Numbers → RawGroup → List ℕ
group_bytes n group = flat_map (member_field n) group.members ++ uint_value_field (field_of n field.NextHopGroupBackupNextHopGroup) group.backup

-- the payload of a route, whose fields have these numbers
unfoldable pub route_bytes : ℕ → ℕ → RawRoute → List ℕ
route_bytes group instance route = uint_value_field group route.group ++ string_value_field instance route.instance

abbrev pub ipv4_bytes : Numbers → RawRoute → List ℕ
ipv4_bytes n route = route_bytes (field_of n field.Ipv4LeavesNextHopGroup) (field_of n field.Ipv4LeavesNextHopGroupNetworkInstance) route

abbrev pub ipv6_bytes : Numbers → RawRoute → List ℕ
ipv6_bytes n route = route_bytes (field_of n field.Ipv6LeavesNextHopGroup) (field_of n field.Ipv6LeavesNextHopGroupNetworkInstance) route

abbrev pub mpls_bytes : Numbers → RawRoute → List ℕ
mpls_bytes n route = route_bytes (field_of n field.LabelLeavesNextHopGroup) (field_of n field.LabelLeavesNextHopGroupNetworkInstance) route

-- The message of an entry; its payload is always written. Of MAC and policy entries nothing is kept.
abbrev pub raw_bytes : Numbers → RawEntry → List ℕ
raw_bytes n (entry.Hop index hop) =
    nonzero_uint_field (field_of n field.NextHopKeyIndex) index
    ++ bytes_field (field_of n field.NextHopKeyNextHop) (hop_bytes n hop)
raw_bytes n (entry.Group id group) =
    nonzero_uint_field (field_of n field.NextHopGroupKeyId) id
    ++ bytes_field (field_of n field.NextHopGroupKeyNextHopGroup) (group_bytes n group)
raw_bytes n (entry.V4 prefix route) =
    nonempty_field (field_of n field.Ipv4EntryKeyPrefix) prefix
    ++ bytes_field (field_of n field.Ipv4EntryKeyEntry) (ipv4_bytes n route)
raw_bytes n (entry.V6 prefix route) =
    nonempty_field (field_of n field.Ipv6EntryKeyPrefix) prefix
    ++ bytes_field (field_of n field.Ipv6EntryKeyEntry) (ipv6_bytes n route)
raw_bytes n (entry.Label label route) =
    label_field (field_of n field.LabelEntryKeyLabelUint64) label
    ++ bytes_field (field_of n field.LabelEntryKeyLabelEntry) (mpls_bytes n route)
raw_bytes n entry.Mac = []
raw_bytes n entry.Policy = []
