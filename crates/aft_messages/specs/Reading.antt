-- What the bytes of an entry's message say (gRIBI, Protocol Buffers encoding). An entry's message holds its key, and
-- its payload as an embedded message.
use Rattle.std.specs.Prelude.{ℕ, Bool, true, false, List, [], ◌∷◌, map, Option, Some, None, unwrap_or, if◌then◌else◌}
use Rattle.std.specs.Option.{option_map}
use Rattle.std.specs.Str.{is_utf8}
use Rattle.schema_numbers.specs.Numbers.{Numbers, field_of}
use Rattle.schema_numbers.specs.declared.names.FieldName.TheVariants as field
use Rattle.proto_schema.specs.declared.schema.MessageKind.{MessageKind}
use Rattle.proto_schema.specs.declared.schema.MessageKind.TheVariants as message
use Rattle.proto_schema.specs.FieldValues.{last_number_at, number_at, text_at, message_at, repeated_at}
use Rattle.aft_entries.specs.declared.key.Kind.{Kind}
use Rattle.aft_entries.specs.declared.key.Kind.TheVariants as kind
use Rattle.aft_entries.specs.declared.operation.RawHop.{RawHop}
use Rattle.aft_entries.specs.declared.operation.RawGroup.{RawGroup}
use Rattle.aft_entries.specs.declared.operation.RawRoute.{RawRoute}
use Rattle.aft_entries.specs.declared.operation.RawEntry.{RawEntry}
use Rattle.aft_entries.specs.declared.operation.RawEntry.TheVariants as entry

-- The text of these bytes. They are UTF-8 wherever the message has no fault; other bytes are no text.
unfoldable pub text_of : List ℕ → List ℕ
text_of bytes = if is_utf8 bytes then bytes else []

-- bytes are there, and not none
abbrev pub is_nonempty : Option (List ℕ) → Bool
is_nonempty None = false
is_nonempty (Some []) = false
is_nonempty (Some (b ∷ bytes)) = true

-- the text of a field; an absent one is empty
abbrev pub name_at : ℕ → List ℕ → List ℕ
name_at number bytes = text_of (text_at number bytes)

-- an embedded message; an absent one is read as an empty one
abbrev pub embedded_at : ℕ → List ℕ → List ℕ
embedded_at number bytes = unwrap_or (message_at number bytes) []

-- the number in a wrapper, if the wrapper is there: its value is field 1
abbrev pub uint_value_at : ℕ → List ℕ → Option ℕ
uint_value_at number bytes = option_map (number_at 1) (message_at number bytes)

-- the text in a wrapper, if the wrapper is there
abbrev pub string_value_at : ℕ → List ℕ → Option (List ℕ)
string_value_at number bytes = option_map (name_at 1) (message_at number bytes)

-- the label of an MPLS label message, if it is there
abbrev pub label_of : Numbers → List ℕ → Option ℕ
label_of n bytes = last_number_at (field_of n field.PushedLabelLabelUint64) bytes

-- what the payload of a next hop says
unfoldable pub hop_of : Numbers → List ℕ → RawHop
hop_of n bytes =
    let interface = embedded_at (field_of n field.NextHopInterfaceRef) bytes in
    let tunnel = embedded_at (field_of n field.NextHopIpInIp) bytes in
    record {
      ip = string_value_at (field_of n field.NextHopIpAddress) bytes;
      mac = string_value_at (field_of n field.NextHopMacAddress) bytes;
      interface = string_value_at (field_of n field.InterfaceRefInterface) interface;
      subinterface = uint_value_at (field_of n field.InterfaceRefSubinterface) interface;
      source = string_value_at (field_of n field.IpInIpSrcIp) tunnel;
      target = string_value_at (field_of n field.IpInIpDstIp) tunnel;
      push = map (label_of n) (repeated_at (field_of n field.NextHopPushedMplsLabelStack) bytes);
    }

-- the index of a group's next hop, and its weight
abbrev pub member_of : Numbers → List ℕ → ℕ × Option ℕ
member_of n bytes =
    let leaves = embedded_at (field_of n field.MemberKeyNextHop) bytes in
    (number_at (field_of n field.MemberKeyIndex) bytes, uint_value_at (field_of n field.MemberLeavesWeight) leaves)

-- what the payload of a group says
unfoldable pub group_of : Numbers → List ℕ → RawGroup
group_of n bytes = record {
  members = map (member_of n) (repeated_at (field_of n field.NextHopGroupNextHop) bytes);
  backup = uint_value_at (field_of n field.NextHopGroupBackupNextHopGroup) bytes;
}

-- what the payload of a route says, whose fields have these numbers
unfoldable pub route_of : ℕ → ℕ → List ℕ → RawRoute
route_of group instance bytes = record { group = uint_value_at group bytes; instance = string_value_at instance bytes }

abbrev pub ipv4_of : Numbers → List ℕ → RawRoute
ipv4_of n bytes = route_of (field_of n field.Ipv4LeavesNextHopGroup) (field_of n field.Ipv4LeavesNextHopGroupNetworkInstance) bytes

abbrev pub ipv6_of : Numbers → List ℕ → RawRoute
ipv6_of n bytes = route_of (field_of n field.Ipv6LeavesNextHopGroup) (field_of n field.Ipv6LeavesNextHopGroupNetworkInstance) bytes

abbrev pub mpls_of : Numbers → List ℕ → RawRoute
mpls_of n bytes = route_of (field_of n field.LabelLeavesNextHopGroup) (field_of n field.LabelLeavesNextHopGroupNetworkInstance) bytes

-- what the message of an entry of this kind says
abbrev pub entry_of : Numbers → Kind → List ℕ → RawEntry
entry_of n kind.Hop bytes =
    entry.Hop (number_at (field_of n field.NextHopKeyIndex) bytes)
    (hop_of n (embedded_at (field_of n field.NextHopKeyNextHop) bytes))
entry_of n kind.Group bytes =
    entry.Group (number_at (field_of n field.NextHopGroupKeyId) bytes)
    (group_of n (embedded_at (field_of n field.NextHopGroupKeyNextHopGroup) bytes))
entry_of n kind.V4 bytes =
    entry.V4 (name_at (field_of n field.Ipv4EntryKeyPrefix) bytes)
    (ipv4_of n (embedded_at (field_of n field.Ipv4EntryKeyEntry) bytes))
entry_of n kind.V6 bytes =
    entry.V6 (name_at (field_of n field.Ipv6EntryKeyPrefix) bytes)
    (ipv6_of n (embedded_at (field_of n field.Ipv6EntryKeyEntry) bytes))
entry_of n kind.Label bytes =
    entry.Label (last_number_at (field_of n field.LabelEntryKeyLabelUint64) bytes)
    (mpls_of n (embedded_at (field_of n field.LabelEntryKeyLabelEntry) bytes))

-- the message of an entry of this kind
abbrev pub key_message : Kind → MessageKind
key_message kind.Hop = message.NextHopKey
key_message kind.Group = message.NextHopGroupKey
key_message kind.V4 = message.Ipv4EntryKey
key_message kind.V6 = message.Ipv6EntryKey
key_message kind.Label = message.LabelEntryKey
