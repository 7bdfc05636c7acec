-- The operation that a raw one asks for, or the first of the causes 3 to 7 for which it can't be one.
use Rattle.std.specs.Prelude.{ℕ, ◌==◌, Bool, true, false, ◌&&◌, ◌||◌, not, nat_lt, nat_le, if◌then◌else◌, List, [], ◌∷◌, map, length, Option, Some, None, is_none, option_map, option_and_then, unwrap_or}
use Rattle.std.specs.List.{list_any}
use Rattle.std.specs.Result.{result_ok}
use Rattle.addr_text.specs.declared.Address.{Address}
use Rattle.addr_text.specs.AddressGrammar as text
use Rattle.aft_entries.specs.declared.entry.HopPayload.{HopPayload}
use Rattle.aft_entries.specs.declared.entry.GroupPayload.{GroupPayload}
use Rattle.aft_entries.specs.declared.entry.RoutePayload.{RoutePayload}
use Rattle.aft_entries.specs.declared.entry.Payload.{Payload}
use Rattle.aft_entries.specs.declared.entry.Payload.TheVariants as payload
use Rattle.aft_entries.specs.declared.key.Key.{Key}
use Rattle.aft_entries.specs.declared.key.KeyName.{KeyName}
use Rattle.aft_entries.specs.declared.key.KeyName.TheVariants as name
use Rattle.aft_entries.specs.declared.lists.Member.{Member}
use Rattle.aft_entries.specs.declared.operation.Ask.{Ask}
use Rattle.aft_entries.specs.declared.operation.Ask.TheVariants.{Put, Remove, Bad}
use Rattle.aft_entries.specs.declared.operation.Op.{Op}
use Rattle.aft_entries.specs.declared.operation.Op.TheVariants.{Add, Replace, Delete}
use Rattle.aft_entries.specs.declared.operation.RawEntry.{RawEntry}
use Rattle.aft_entries.specs.declared.operation.RawEntry.TheVariants as raw
use Rattle.aft_entries.specs.declared.operation.RawGroup.{RawGroup}
use Rattle.aft_entries.specs.declared.operation.RawHop.{RawHop}
use Rattle.aft_entries.specs.declared.operation.RawOperation.{RawOperation}
use Rattle.aft_entries.specs.declared.operation.RawRoute.{RawRoute}
use Rattle.aft_entries.specs.declared.operation.Reason.{Reason}
use Rattle.aft_entries.specs.declared.operation.Reason.TheVariants.{OpUnsupported, KindUnsupported, UnknownInstance, BadKey, BadPayload}
use Rattle.aft_entries.specs.MemberOrder.{by_index}
use Rattle.aft_entries.specs.InstanceNames.{first_that_holds, holds_twice, number_of}

-- Keys

-- there is no entry, or it is a MAC or a policy-forwarding entry
abbrev pub is_unsupported : Option RawEntry → Bool
is_unsupported None = true
is_unsupported (Some (raw.Hop index hop)) = false
is_unsupported (Some (raw.Group id group)) = false
is_unsupported (Some (raw.V4 prefix route)) = false
is_unsupported (Some (raw.V6 prefix route)) = false
is_unsupported (Some (raw.Label label route)) = false
is_unsupported (Some raw.Mac) = true
is_unsupported (Some raw.Policy) = true

-- a label is there and has at most 20 bits
abbrev pub label_of : Option ℕ → Option ℕ
label_of None = None
label_of (Some label) = if nat_le label 1048575 then Some label else None

-- an index or id is not 0
abbrev pub nonzero : ℕ → Option ℕ
nonzero number = if number == 0 then None else Some number

-- what an entry is named by, if that is well formed
abbrev pub name_of : Option RawEntry → Option KeyName
name_of None = None
name_of (Some (raw.Hop index hop)) = option_map name.Hop (nonzero index)
name_of (Some (raw.Group id group)) = option_map name.Group (nonzero id)
name_of (Some (raw.V4 prefix route)) = option_map name.V4 (result_ok (text.v4_prefix prefix))
name_of (Some (raw.V6 prefix route)) = option_map name.V6 (result_ok (text.v6_prefix prefix))
name_of (Some (raw.Label label route)) = option_map name.Label (label_of label)
name_of (Some raw.Mac) = None
name_of (Some raw.Policy) = None

-- Payloads

abbrev pub address_of : List ℕ → Option Address
address_of written = result_ok (text.address written)

-- a text that is there and isn't read
abbrev pub is_unread : {X : Type 0} → (List ℕ → Option X) → Option (List ℕ) → Bool
is_unread read None = false
is_unread read (Some written) = is_none (read written)

abbrev pub is_too_long : Option (List ℕ) → Bool
is_too_long None = false
is_too_long (Some written) = nat_lt 255 (length written)

unfoldable pub is_bad_hop : RawHop → Bool
is_bad_hop hop =
    is_unread address_of hop.ip || is_unread text.mac hop.mac || is_too_long hop.interface
    || is_unread address_of hop.source || is_unread address_of hop.target
    || nat_lt 16 (length hop.push) || list_any (λ label. is_none (label_of label)) hop.push

unfoldable pub hop_of : RawHop → HopPayload
hop_of hop = record {
  ip = option_and_then address_of hop.ip;
  mac = option_and_then text.mac hop.mac;
  interface = hop.interface;
  subinterface = hop.subinterface;
  source = option_and_then address_of hop.source;
  target = option_and_then address_of hop.target;
  push = map (λ label. unwrap_or (label_of label) 0) hop.push;
}

-- a weight of 1 to 65,535, where an absent one is 1
abbrev pub weight_of : Option ℕ → Option ℕ
weight_of None = Some 1
weight_of (Some weight) = if not (weight == 0) && nat_le weight 65535 then Some weight else None

abbrev pub is_bad_member : ℕ × Option ℕ → Bool
is_bad_member member = member.0 == 0 || is_none (weight_of member.1)

unfoldable pub is_bad_group : RawGroup → Bool
is_bad_group group =
    nat_lt 256 (length group.members)
    || list_any is_bad_member group.members
    || holds_twice (λ other member. other.0 == member.0) group.members

abbrev pub member_of : ℕ × Option ℕ → Member
member_of member = record { hop = member.0; weight = unwrap_or (weight_of member.1) 1 }

unfoldable pub group_of : RawGroup → GroupPayload
group_of group = record { members = by_index (map member_of group.members); backup = group.backup }

-- the instance of a route's group, which is the route's own where none is named
abbrev pub group_instance : List (List ℕ) → ℕ → Option (List ℕ) → Option ℕ
group_instance instances own None = Some own
group_instance instances own (Some written) = number_of instances written

abbrev pub route_with : Option ℕ → Option ℕ → Option RoutePayload
route_with None group = None
route_with (Some instance) None = None
route_with (Some instance) (Some group) = Some (record { instance = instance; group = group })

unfoldable pub route_of : List (List ℕ) → ℕ → RawRoute → Option RoutePayload
route_of instances own route = route_with (group_instance instances own route.instance) route.group

-- the payload of an entry in an instance, if it breaks no rule
abbrev pub payload_of : List (List ℕ) → ℕ → Option RawEntry → Option Payload
payload_of instances own None = None
payload_of instances own (Some (raw.Hop index hop)) = if is_bad_hop hop then None else Some (payload.Hop (hop_of hop))
payload_of instances own (Some (raw.Group id group)) = if is_bad_group group then None else Some (payload.Group (group_of group))
payload_of instances own (Some (raw.V4 prefix route)) = option_map payload.Route (route_of instances own route)
payload_of instances own (Some (raw.V6 prefix route)) = option_map payload.Route (route_of instances own route)
payload_of instances own (Some (raw.Label label route)) = option_map payload.Route (route_of instances own route)
payload_of instances own (Some raw.Mac) = None
payload_of instances own (Some raw.Policy) = None

-- Operations

abbrev pub puts : Option Op → Bool
puts None = false
puts (Some Add) = true
puts (Some Replace) = true
puts (Some Delete) = false

abbrev pub key_with : Option ℕ → Option KeyName → Option Key
key_with None name = None
key_with (Some instance) None = None
key_with (Some instance) (Some name) = Some (record { instance = instance; name = name })

-- what is asked, where nothing that it takes is missing
abbrev pub asked : Option Op → Option Key → Option Payload → Ask
asked None key payload = Bad OpUnsupported
asked (Some Add) None payload = Bad BadKey
asked (Some Add) (Some key) None = Bad BadPayload
asked (Some Add) (Some key) (Some payload) = Put (record { key = key; payload = payload }) false
asked (Some Replace) None payload = Bad BadKey
asked (Some Replace) (Some key) None = Bad BadPayload
asked (Some Replace) (Some key) (Some payload) = Put (record { key = key; payload = payload }) true
asked (Some Delete) None payload = Bad BadKey
asked (Some Delete) (Some key) payload = Remove key

-- the causes in their order
abbrev pub cause : Option Op → Bool → Option ℕ → Option KeyName → Option Payload → Option Reason
cause op unsupported instance name payload = first_that_holds (
    (is_none op, OpUnsupported)
    ∷ (unsupported, KindUnsupported)
    ∷ (is_none instance, UnknownInstance)
    ∷ (is_none name, BadKey)
    ∷ (puts op && is_none payload, BadPayload)
    ∷ [])

abbrev pub bad_or : Option Reason → Ask → Ask
bad_or None ask = ask
bad_or (Some reason) ask = Bad reason

abbrev pub checked_parts : Option Op → Bool → Option ℕ → Option KeyName → Option Payload → Ask
checked_parts op unsupported instance name payload =
    bad_or (cause op unsupported instance name payload) (asked op (key_with instance name) payload)

-- the first cause that holds, or else what is asked
unfoldable pub checked : List (List ℕ) → RawOperation → Ask
checked instances operation =
    checked_parts operation.op (is_unsupported operation.entry) (number_of instances operation.instance) (name_of operation.entry)
    (payload_of instances (unwrap_or (number_of instances operation.instance) 0) operation.entry)
