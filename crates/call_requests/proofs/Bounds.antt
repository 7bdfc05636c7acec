-- No message of an answer to a Get is long.
use Rattle.std.proofs.Common.{◌≡◌, ℕ, zero, suc, ◌+◌, ◌*◌, ◌/◌, ◌%◌, ◌≤◌, Bool, true, false, cond, ltb, eqb, List, [], ◌∷◌, ◌++◌, length, map, Option, Some, None, refl, arith}
use Rattle.std.specs.Prelude.{All, IfSome, ◌||◌, ◌==◌, nat_lt, slice_index_or}
use Rattle.std.specs.List.{flat_map, list_any}
use Rattle.std.specs.Option.{option_map}
use Rattle.std.proofs.lemmas.Bool.{or_parts}
use Rattle.std.proofs.lemmas.Bool.Decides.{nat_tests}
use Rattle.std.proofs.lemmas.List.{length-append, length-map}
use Rattle.proto_wire.specs.Written.{varint_upto, varint, uint_field, bytes_field}
use Rattle.schema_numbers.specs.Numbers.{Numbers, field_of, value_of}
use Rattle.schema_numbers.specs.declared.names.FieldName.TheVariants as field
use Rattle.schema_numbers.specs.declared.names.ValueName.TheVariants as value
use Rattle.aft_entries.specs.InstanceNames.{fault_of, is_bad_name, holds_twice, first_that_holds}
use Rattle.aft_entries.specs.declared.instances.InstancesFault.TheVariants.{Empty, BadName, Twice, TooMany}
use Rattle.aft_entries.specs.declared.key.KeyName.{KeyName}
use Rattle.aft_entries.specs.declared.key.KeyName.TheVariants as name
use Rattle.aft_entries.specs.declared.entry.HopPayload.{HopPayload}
use Rattle.aft_entries.specs.declared.entry.GroupPayload.{GroupPayload}
use Rattle.aft_entries.specs.declared.entry.Payload.{Payload}
use Rattle.aft_entries.specs.declared.entry.Payload.TheVariants as payload
use Rattle.aft_entries.specs.declared.operation.Row.{Row}
use Rattle.addr_text.specs.declared.Address.{Address}
use Rattle.addr_text.specs.Printed.{address_text, mac_text, v4_prefix_text, v6_prefix_text}
use Rattle.aft_messages.specs.Printing.{raw_hop, raw_group, raw_member, raw_route, raw_from, raw_of}
use Rattle.aft_messages.specs.Writing.{nonzero_uint_field, nonempty_field, uint_value_field, string_value_field, label_field, address_fields, interface_field, tunnel_field, pushed_label_field, hop_bytes, member_field, group_bytes, route_bytes, ipv4_bytes, ipv6_bytes, mpls_bytes, raw_bytes}
use Rattle.table_model.specs.Table.{is_bad_payload}
use Rattle.gribi_messages.specs.Rows.{row_member, row_entry_field, row_bytes, row_field, rows_bytes}
use Rattle.call_answers.specs.Answers.{MAX_MESSAGE_SIZE}
use Rattle.gribi_messages.specs.declared.asks.FlushResponse.{FlushResponse}
use Rattle.gribi_messages.specs.GetAndFlush.{flush_response_bytes}
use Rattle.std.specs.Int.{w64, cast_unsigned}
use Rattle.std.specs.Prelude.{Result, Ok, Err, IfOk}
use Rattle.std.proofs.Common.{Vec, Global}
use Rattle.std.specs.declared.alloc.AllocError.{AllocError}
use Rattle.call_requests.specs.Responses.{HasSixOctets, RowIsSound}
use Rattle.call_requests.proofs.Texts.{mac-len, address-len, v4_prefix-len, v6_prefix-len}

-- ---- fields

bytes_upto : (b : Bool) (k n m : ℕ) (xs : List ℕ) → length xs ≤ k + 1 → length (cond b (n ∷ []) (m ∷ xs)) ≤ suc k + 1
bytes_upto true k n m xs le = omega arith
bytes_upto false k n m xs le = omega arith

varint_upto-len : (k n : ℕ) → length (varint_upto k n) ≤ k + 1
unfolding varint_upto
varint_upto-len zero n = omega arith
varint_upto-len (suc k) n = bytes_upto (ltb n 128) k n ((n % 128) + 128) (varint_upto k (n / 128)) (varint_upto-len k (n / 128))

varint-len : (n : ℕ) → length (varint n) ≤ 10
varint-len n = varint_upto-len 9 n

uint-len : (number v : ℕ) → length (uint_field number v) ≤ 20
uint-len number v = omega (arith, length-append (varint (number * 8)) (varint v), varint-len (number * 8), varint-len v)

unless-len : (b : Bool) (xs : List ℕ) → length xs ≤ 20 → length (cond b [] xs) ≤ 20
unless-len true xs le = omega arith
unless-len false xs le = le

nonzero-len : (number v : ℕ) → length (nonzero_uint_field number v) ≤ 20
unfolding nonzero_uint_field
nonzero-len number v = unless-len (eqb v 0) (uint_field number v) (uint-len number v)

bytes-len : (number : ℕ) (bytes : List ℕ) → length (bytes_field number bytes) ≤ 20 + length bytes
bytes-len number bytes =
    let head = varint (number * 8 + 2) in
    let size = varint (length bytes) in
    omega (arith, length-append (head ++ size) bytes, length-append head size, varint-len (number * 8 + 2), varint-len (length bytes))

nonempty-len : (number : ℕ) (bytes : List ℕ) → length (nonempty_field number bytes) ≤ 20 + length bytes
unfolding nonempty_field
nonempty-len number [] = omega arith
nonempty-len number (byte ∷ bytes) = bytes-len number (byte ∷ bytes)

uint_value-len : (number : ℕ) (v : Option ℕ) → length (uint_value_field number v) ≤ 40
uint_value-len number None = omega arith
uint_value-len number (Some v) = omega (arith, bytes-len number (nonzero_uint_field 1 v), nonzero-len 1 v)

string_value-len : (number most : ℕ) (text : Option (List ℕ)) → IfSome text (λ t. length t ≤ most) → length (string_value_field number text) ≤ 40 + most
string_value-len number most None short = omega arith
string_value-len number most (Some t) short = omega (arith, bytes-len number (nonempty_field 1 t), nonempty-len 1 t, short)

label-len : (number : ℕ) (v : Option ℕ) → length (label_field number v) ≤ 20
label-len number None = omega arith
label-len number (Some v) = uint-len number v

-- at most so many bytes for each item
flat_map-len : {A : Type 0} (f : A → List ℕ) (most : ℕ) (short : (x : A) → length (f x) ≤ most) (xs : List A) → length (flat_map f xs) ≤ length xs * most
flat_map-len f most short [] = omega arith
flat_map-len f most short (x ∷ xs) = omega (arith, length-append (f x) (flat_map f xs), short x, flat_map-len f most short xs)

-- ---- payloads

address_text-len : (address : Option Address) → IfSome (option_map address_text address) (λ t. length t ≤ 100)
address_text-len None = tt
address_text-len (Some address) = address-len address

mac_text-len : (mac : Option (List ℕ)) → IfSome mac (λ octets. length octets ≡ 6) → IfSome (option_map mac_text mac) (λ t. length t ≤ 100)
mac_text-len None six = tt
mac_text-len (Some octets) six = mac-len octets six

not_above : (most n : ℕ) → nat_lt most n ≡ false → n ≤ most
not_above most n h = grind (arith, nat_tests)

interface-len : (interface : Option (List ℕ)) → elim interface [ None ↦ false | Some text ↦ nat_lt 255 (length text) ] ≡ false → IfSome interface (λ t. length t ≤ 255)
interface-len None h = tt
interface-len (Some text) h = not_above 255 (length text) h

hop-len : (n : Numbers) (count : ℕ) (hop : HopPayload) → is_bad_payload count (payload.Hop hop) ≡ false → HasSixOctets (payload.Hop hop) → length (hop_bytes n (raw_hop hop)) ≤ 30000
unfolding is_bad_payload hop_bytes raw_hop address_fields interface_field tunnel_field pushed_label_field
hop-len n count hop sound six =
    let tests = or_parts (elim hop.interface [ None ↦ false | Some text ↦ nat_lt 255 (length text) ] || nat_lt 16 (length hop.push)) (list_any (λ label. nat_lt 1048575 label) hop.push) sound in
    let two = or_parts (elim hop.interface [ None ↦ false | Some text ↦ nat_lt 255 (length text) ]) (nat_lt 16 (length hop.push)) tests.0 in
    let ip = string_value_field (field_of n field.NextHopIpAddress) (option_map address_text hop.ip) in
    let mac = string_value_field (field_of n field.NextHopMacAddress) (option_map mac_text hop.mac) in
    let device = string_value_field (field_of n field.InterfaceRefInterface) hop.interface in
    let sub = uint_value_field (field_of n field.InterfaceRefSubinterface) hop.subinterface in
    let source = string_value_field (field_of n field.IpInIpSrcIp) (option_map address_text hop.source) in
    let target = string_value_field (field_of n field.IpInIpDstIp) (option_map address_text hop.target) in
    let interface = nonempty_field (field_of n field.NextHopInterfaceRef) (device ++ sub) in
    let tunnel = nonempty_field (field_of n field.NextHopIpInIp) (source ++ target) in
    let label : Option ℕ → List ℕ = λ l. bytes_field (field_of n field.NextHopPushedMplsLabelStack) (label_field (field_of n field.PushedLabelLabelUint64) l) in
    let label_short : (l : Option ℕ) → length (label l) ≤ 40 =
    λ l. omega (arith, bytes-len (field_of n field.NextHopPushedMplsLabelStack) (label_field (field_of n field.PushedLabelLabelUint64) l), label-len (field_of n field.PushedLabelLabelUint64) l) in
    let push = flat_map label (map Some hop.push) in
    let few : length hop.push ≤ 16 = not_above 16 (length hop.push) two.1 in
    omega (
      arith,
      length-append (((ip ++ mac) ++ interface) ++ tunnel) push,
      length-append ((ip ++ mac) ++ interface) tunnel,
      length-append (ip ++ mac) interface,
      length-append ip mac,
      length-append device sub,
      length-append source target,
      string_value-len (field_of n field.NextHopIpAddress) 100 (option_map address_text hop.ip) (address_text-len hop.ip),
      string_value-len (field_of n field.NextHopMacAddress) 100 (option_map mac_text hop.mac) (mac_text-len hop.mac six),
      string_value-len (field_of n field.InterfaceRefInterface) 255 hop.interface (interface-len hop.interface two.0),
      uint_value-len (field_of n field.InterfaceRefSubinterface) hop.subinterface,
      string_value-len (field_of n field.IpInIpSrcIp) 100 (option_map address_text hop.source) (address_text-len hop.source),
      string_value-len (field_of n field.IpInIpDstIp) 100 (option_map address_text hop.target) (address_text-len hop.target),
      nonempty-len (field_of n field.NextHopInterfaceRef) (device ++ sub),
      nonempty-len (field_of n field.NextHopIpInIp) (source ++ target),
      flat_map-len label 40 label_short (map Some hop.push),
      length-map hop.push (λ (l : ℕ). Some l),
      few,
    )

member-len : (n : Numbers) (member : ℕ × Option ℕ) → length (member_field n member) ≤ 100
unfolding member_field
member-len n member =
    let index = nonzero_uint_field (field_of n field.MemberKeyIndex) member.0 in
    let weight = uint_value_field (field_of n field.MemberLeavesWeight) member.1 in
    let leaves = nonempty_field (field_of n field.MemberKeyNextHop) weight in
    omega (
      arith,
      bytes-len (field_of n field.NextHopGroupNextHop) (index ++ leaves),
      length-append index leaves,
      nonzero-len (field_of n field.MemberKeyIndex) member.0,
      nonempty-len (field_of n field.MemberKeyNextHop) weight,
      uint_value-len (field_of n field.MemberLeavesWeight) member.1,
    )

group-len : (n : Numbers) (count : ℕ) (group : GroupPayload) → is_bad_payload count (payload.Group group) ≡ false → length (group_bytes n (raw_group group)) ≤ 30000
unfolding is_bad_payload group_bytes raw_group
group-len n count group sound =
    let tests = or_parts (nat_lt 256 (length group.members) || list_any (λ member. member.hop == 0 || member.weight == 0) group.members) (holds_twice (λ a b. a == b) (map (λ member. member.hop) group.members)) sound in
    let two = or_parts (nat_lt 256 (length group.members)) (list_any (λ member. member.hop == 0 || member.weight == 0) group.members) tests.0 in
    let members = flat_map (member_field n) (map raw_member group.members) in
    let backup = uint_value_field (field_of n field.NextHopGroupBackupNextHopGroup) group.backup in
    let few : length group.members ≤ 256 = not_above 256 (length group.members) two.0 in
    omega (
      arith,
      length-append members backup,
      flat_map-len (member_field n) 100 (member-len n) (map raw_member group.members),
      length-map group.members raw_member,
      uint_value-len (field_of n field.NextHopGroupBackupNextHopGroup) group.backup,
      few,
    )

route-len : (group instance id : ℕ) (text : List ℕ) → length text ≤ 255 → length (route_bytes group instance (record { group = Some id; instance = Some text })) ≤ 30000
unfolding route_bytes
route-len group instance id text short =
    omega (
      arith,
      length-append (uint_value_field group (Some id)) (string_value_field instance (Some text)),
      uint_value-len group (Some id),
      string_value-len instance 255 (Some text) short,
    )

-- ---- names of instances

names_tests : (a b c d : Bool) → first_that_holds ((a, Empty) ∷ (b, BadName) ∷ (c, Twice) ∷ (d, TooMany) ∷ []) ≡ None → b ≡ false
names_tests true b c d h = cc
names_tests false true c d h = cc
names_tests false false c d h = refl

name_short : (names : List (List ℕ)) (k : ℕ) → list_any is_bad_name names ≡ false → length (slice_index_or names k []) ≤ 255
name_short [] k h = omega arith
name_short (text ∷ names) zero h =
    let parts = or_parts (is_bad_name text) (list_any is_bad_name names) h in
    let two = or_parts (length text == 0) (nat_lt 255 (length text)) parts.0 in
    not_above 255 (length text) two.1
name_short (text ∷ names) (suc k) h = name_short names k (or_parts (is_bad_name text) (list_any is_bad_name names) h).1

name-len : (names : List (List ℕ)) (k : ℕ) → fault_of names ≡ None → length (slice_index_or names k []) ≤ 255
unfolding fault_of
name-len names k h = name_short names k (names_tests (length names == 0) (list_any is_bad_name names) _ (nat_lt 256 (length names)) h)

-- ---- rows

-- a number or a text in front of a payload
keyed-len : (front : List ℕ) (number : ℕ) (bytes : List ℕ) → length front ≤ 220 → length bytes ≤ 30000 → length (front ++ bytes_field number bytes) ≤ 31000
keyed-len front number bytes short few = omega (arith, length-append front (bytes_field number bytes), bytes-len number bytes, short, few)

module _ (n : Numbers) (names : List (List ℕ)) (taken : fault_of names ≡ None) (count : ℕ) where
  raw-len : (k : KeyName) (p : Payload) → is_bad_payload count p ≡ false → HasSixOctets p → length (raw_bytes n (raw_from names k p)) ≤ 31000
  raw-len (name.Hop index) (payload.Hop hop) sound six =
      keyed-len (nonzero_uint_field (field_of n field.NextHopKeyIndex) index) (field_of n field.NextHopKeyNextHop) (hop_bytes n (raw_hop hop)) (omega (arith, nonzero-len (field_of n field.NextHopKeyIndex) index)) (hop-len n count hop sound six)
  raw-len (name.Hop index) (payload.Group group) sound six = omega arith
  raw-len (name.Hop index) (payload.Route route) sound six = omega arith
  raw-len (name.Group id) (payload.Hop hop) sound six = omega arith
  raw-len (name.Group id) (payload.Group group) sound six =
      keyed-len (nonzero_uint_field (field_of n field.NextHopGroupKeyId) id) (field_of n field.NextHopGroupKeyNextHopGroup) (group_bytes n (raw_group group)) (omega (arith, nonzero-len (field_of n field.NextHopGroupKeyId) id)) (group-len n count group sound)
  raw-len (name.Group id) (payload.Route route) sound six = omega arith
  raw-len (name.V4 prefix) (payload.Hop hop) sound six = omega arith
  raw-len (name.V4 prefix) (payload.Group group) sound six = omega arith
  raw-len (name.V4 prefix) (payload.Route route) sound six =
      keyed-len (nonempty_field (field_of n field.Ipv4EntryKeyPrefix) (v4_prefix_text prefix)) (field_of n field.Ipv4EntryKeyEntry) (ipv4_bytes n (raw_route names route)) (omega (arith, nonempty-len (field_of n field.Ipv4EntryKeyPrefix) (v4_prefix_text prefix), v4_prefix-len prefix)) (route-len (field_of n field.Ipv4LeavesNextHopGroup) (field_of n field.Ipv4LeavesNextHopGroupNetworkInstance) route.group (slice_index_or names route.instance []) (name-len names route.instance taken))
  raw-len (name.V6 prefix) (payload.Hop hop) sound six = omega arith
  raw-len (name.V6 prefix) (payload.Group group) sound six = omega arith
  raw-len (name.V6 prefix) (payload.Route route) sound six =
      keyed-len (nonempty_field (field_of n field.Ipv6EntryKeyPrefix) (v6_prefix_text prefix)) (field_of n field.Ipv6EntryKeyEntry) (ipv6_bytes n (raw_route names route)) (omega (arith, nonempty-len (field_of n field.Ipv6EntryKeyPrefix) (v6_prefix_text prefix), v6_prefix-len prefix)) (route-len (field_of n field.Ipv6LeavesNextHopGroup) (field_of n field.Ipv6LeavesNextHopGroupNetworkInstance) route.group (slice_index_or names route.instance []) (name-len names route.instance taken))
  raw-len (name.Label label) (payload.Hop hop) sound six = omega arith
  raw-len (name.Label label) (payload.Group group) sound six = omega arith
  raw-len (name.Label label) (payload.Route route) sound six =
      keyed-len (label_field (field_of n field.LabelEntryKeyLabelUint64) (Some label)) (field_of n field.LabelEntryKeyLabelEntry) (mpls_bytes n (raw_route names route)) (omega (arith, label-len (field_of n field.LabelEntryKeyLabelUint64) (Some label))) (route-len (field_of n field.LabelLeavesNextHopGroup) (field_of n field.LabelLeavesNextHopGroupNetworkInstance) route.group (slice_index_or names route.instance []) (name-len names route.instance taken))

  -- four parts, none of them long
  parts-len : (a b c d : List ℕ) → length a ≤ 275 → length b ≤ 32000 → length c ≤ 20 → length d ≤ 20 → length (((a ++ b) ++ c) ++ d) ≤ 33000
  parts-len a b c d pa pb pc pd = omega (arith, length-append ((a ++ b) ++ c) d, length-append (a ++ b) c, length-append a b, pa, pb, pc, pd)

  entry_field-len : (row : Row) → RowIsSound count row → HasSixOctets row.entry.payload → length (row_entry_field n names row) ≤ 32000
  unfolding row_entry_field
  entry_field-len row sound six =
      omega (arith, bytes-len (row_member n row.entry.key.name) (raw_bytes n (raw_of names row.entry)), raw-len row.entry.key.name row.entry.payload sound six)

  row-len : (row : Row) → RowIsSound count row → HasSixOctets row.entry.payload → length (row_bytes n names row) ≤ 33000
  unfolding row_bytes
  row-len row sound six =
      parts-len (nonempty_field (field_of n field.AftEntryNetworkInstance) (slice_index_or names row.entry.key.instance [])) (row_entry_field n names row)
      (nonzero_uint_field (field_of n field.AftEntryRibStatus) (value_of n value.EntryStatusProgrammed))
      (nonzero_uint_field (field_of n field.AftEntryFibStatus) _)
      (omega (arith, nonempty-len (field_of n field.AftEntryNetworkInstance) (slice_index_or names row.entry.key.instance []), name-len names row.entry.key.instance taken))
      (entry_field-len row sound six)
      (nonzero-len (field_of n field.AftEntryRibStatus) (value_of n value.EntryStatusProgrammed))
      (nonzero-len (field_of n field.AftEntryFibStatus) (cond row.installed (value_of n value.EntryStatusProgrammed) (value_of n value.EntryStatusNotProgrammed)))

  row_field-len : (row : Row) → RowIsSound count row → HasSixOctets row.entry.payload → length (row_field n names row) ≤ 65536
  unfolding row_field
  row_field-len row sound six = omega (arith, bytes-len (field_of n field.GetResponseEntry) (row_bytes n names row), row-len row sound six)

  rows-len : (rows : List Row) → All (RowIsSound count) rows → All (λ row. HasSixOctets row.entry.payload) rows → length (flat_map (row_field n names) rows) ≤ length rows * 65536
  rows-len [] sound six = omega arith
  rows-len (row ∷ rows) sound six =
      omega (
        arith,
        length-append (row_field n names row) (flat_map (row_field n names) rows),
        row_field-len row (sound zero row (omega arith)) (six zero row (omega arith)),
        rows-len rows (λ k d inside. sound (suc k) d (omega arith)) (λ k d inside. six (suc k) d (omega arith)),
      )

  -- 64 rows fit
  pub few_rows-len : (rows : List Row) → length rows ≤ 64 → All (RowIsSound count) rows → All (λ row. HasSixOctets row.entry.payload) rows → length (rows_bytes n names rows) ≤ MAX_MESSAGE_SIZE
  unfolding rows_bytes
  few_rows-len rows few sound six = omega (arith, rows-len rows sound six, few)

-- ---- the answer to a Flush

flush_bytes-len : (n : Numbers) (r : FlushResponse) → length (flush_response_bytes n r) ≤ 40
unfolding flush_response_bytes
flush_bytes-len n r =
    let moment = nonzero_uint_field (field_of n field.FlushResponseTimestamp) (cast_unsigned w64 r.timestamp) in
    let result = nonzero_uint_field (field_of n field.FlushResponseResult) r.result in
    omega (arith, length-append moment result, nonzero-len (field_of n field.FlushResponseTimestamp) (cast_unsigned w64 r.timestamp), nonzero-len (field_of n field.FlushResponseResult) r.result)

pub flush_response-len : (n : Numbers) (r : FlushResponse) (answer : Result (Vec ℕ Global) AllocError) → IfOk answer (λ bytes. bytes.items ≡ flush_response_bytes n r) → IfOk answer (λ bytes. length bytes.items ≤ MAX_MESSAGE_SIZE)
flush_response-len n r (Ok bytes) e = rw e (omega (arith, flush_bytes-len n r))
flush_response-len n r (Err lack) e = tt
