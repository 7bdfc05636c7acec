-- Next hops that were written are read again.
use Rattle.std.proofs.Common.{◌≡◌, ℕ, ◌^◌, ◌<◌, List, [], ◌∷◌, ◌++◌, map, length, Option, None, refl, sym, arith}
use Rattle.std.proofs.lemmas.List.Concat.{flat_map-append}
use Rattle.proto_wire.specs.Written.{bytes_field, WrittenField, Text, field_encoding, encoded_fields}
use Rattle.schema_numbers.specs.Numbers.{Numbers, field_of}
use Rattle.schema_numbers.specs.Valid.{IsValid}
use Rattle.schema_numbers.specs.declared.names.FieldName.TheVariants as field
use Rattle.proto_schema.specs.declared.schema.MessageKind.TheVariants as message
use Rattle.proto_schema.specs.declared.schema.FieldKind.TheVariants as kind
use Rattle.proto_schema.specs.Legal.{first_fault}
use Rattle.proto_schema.specs.FieldValues.{number_at, repeated_at}
use Rattle.aft_entries.specs.declared.key.Kind.TheVariants as entry_kind
use Rattle.aft_entries.specs.declared.operation.RawHop.{RawHop}
use Rattle.aft_entries.specs.declared.operation.RawEntry.TheVariants as entry
use Rattle.aft_messages.specs.Reading.{embedded_at, uint_value_at, string_value_at, label_of, hop_of, entry_of}
use Rattle.aft_messages.specs.Writing.{nonzero_uint_field, nonempty_field, uint_value_field, string_value_field, label_field, address_fields, interface_field, tunnel_field, pushed_label_field, hop_bytes, raw_bytes}
use Rattle.aft_messages.specs.Encodable.{IsNumber, IsText, IsHop, IsReadAgain}
use Rattle.aft_messages.proofs.Parts.{Each, Clean, number_said, last_number_said, message_said, repeated_said}
use Rattle.aft_messages.proofs.FieldGroups.{OneField, one_legal, one_clean, TwoFields, two_legal, two_clean, first_nums, first_bits, second_bits, apart_of, number_parts, number_spelled, number_own, number_bunch, label_parts, label_spelled, label_own, filled_parts, filled_spelled, filled_message, filled_bunch}
use Rattle.aft_messages.proofs.Routes.{distinct, range, inner_fits, front_fits, back_fits, shorter, uint_value_parts, uint_value_spelled, uint_value_bunch, uint_value_own, string_value_parts, string_value_spelled, string_value_bunch, string_value_own}
use Rattle.aft_messages.proofs.Keys.{no_fault, label_bunch, payload_spelled, Key, key_two, payload_said}
use Rattle.aft_messages.proofs.RepeatedFields.{each_from, many_parts, many_bytes, many_spelled, many_own, many_bunch, many_said}
use Rattle.aft_messages.proofs.Five.{apart, FiveFields, five_legal, five_clean, five_a, five_b, five_c, five_d, five_e}

-- A pushed label

abbrev label_bytes : Numbers → Option ℕ → List ℕ
label_bytes n label = label_field (field_of n field.PushedLabelLabelUint64) label

label_one : (n : Numbers) → IsValid n → (label : Option ℕ) → IsNumber label → OneField n message.PushedLabel (field_of n field.PushedLabelLabelUint64) kind.Number (label_parts (field_of n field.PushedLabelLabelUint64) label)
label_one n valid label h = record { row = refl; each = label_bunch n (field_of n field.PushedLabelLabelUint64) label (range n valid field.PushedLabelLabelUint64 (omega arith)) h }

label_clean : (n : Numbers) → IsValid n → (label : Option ℕ) → IsNumber label → length (label_bytes n label) < 2 ^ 64 → Clean n message.PushedLabel (label_bytes n label)
label_clean n valid label h fits = rw (label_spelled (field_of n field.PushedLabelLabelUint64) label) (one_clean (label_one n valid label h))

label_again : (n : Numbers) → IsValid n → (label : Option ℕ) → IsNumber label → length (label_bytes n label) < 2 ^ 64 → label_of n (label_bytes n label) ≡ label
label_again n valid label h fits =
    rw (label_spelled (field_of n field.PushedLabelLabelUint64) label, last_number_said (field_of n field.PushedLabelLabelUint64) (label_parts (field_of n field.PushedLabelLabelUint64) label) (one_legal (label_one n valid label h)))
    (label_own (field_of n field.PushedLabelLabelUint64) label)

-- The message of an interface

abbrev device_bytes : Numbers → RawHop → List ℕ
device_bytes n hop = string_value_field (field_of n field.InterfaceRefInterface) hop.interface ++ uint_value_field (field_of n field.InterfaceRefSubinterface) hop.subinterface

abbrev device_parts : Numbers → RawHop → List WrittenField
device_parts n hop = string_value_parts (field_of n field.InterfaceRefInterface) hop.interface ++ uint_value_parts (field_of n field.InterfaceRefSubinterface) hop.subinterface

device_spelled : (n : Numbers) (hop : RawHop) → device_bytes n hop ≡ encoded_fields (device_parts n hop)
device_spelled n hop =
    rw (string_value_spelled (field_of n field.InterfaceRefInterface) hop.interface, uint_value_spelled (field_of n field.InterfaceRefSubinterface) hop.subinterface)
    (sym (flat_map-append field_encoding (string_value_parts (field_of n field.InterfaceRefInterface) hop.interface) (uint_value_parts (field_of n field.InterfaceRefSubinterface) hop.subinterface)))

device_two : (n : Numbers) (hop : RawHop) → IsValid n → IsText hop.interface → IsNumber hop.subinterface → length (device_bytes n hop) < 2 ^ 64
    → TwoFields n message.InterfaceRef (field_of n field.InterfaceRefInterface) (field_of n field.InterfaceRefSubinterface) (kind.Message message.StringValue) (kind.Message message.UintValue)
    (string_value_parts (field_of n field.InterfaceRefInterface) hop.interface) (uint_value_parts (field_of n field.InterfaceRefSubinterface) hop.subinterface)
device_two n hop valid h k fits = record {
  rows = refl;
  apart = apart_of (field_of n field.InterfaceRefInterface) (field_of n field.InterfaceRefSubinterface) (distinct n valid 25 (omega arith));
  first = string_value_bunch n (field_of n field.InterfaceRefInterface) hop.interface (range n valid field.InterfaceRefInterface (omega arith)) h
      (front_fits (string_value_field (field_of n field.InterfaceRefInterface) hop.interface) (uint_value_field (field_of n field.InterfaceRefSubinterface) hop.subinterface) fits);
  second = uint_value_bunch n (field_of n field.InterfaceRefSubinterface) hop.subinterface (range n valid field.InterfaceRefSubinterface (omega arith)) k
      (back_fits (string_value_field (field_of n field.InterfaceRefInterface) hop.interface) (uint_value_field (field_of n field.InterfaceRefSubinterface) hop.subinterface) fits);
}

device_clean : (n : Numbers) (hop : RawHop) → IsValid n → IsText hop.interface → IsNumber hop.subinterface → length (device_bytes n hop) < 2 ^ 64 → Clean n message.InterfaceRef (device_bytes n hop)
device_clean n hop valid h k fits = rw (device_spelled n hop) (two_clean (device_two n hop valid h k fits))

interface_said : (n : Numbers) (hop : RawHop) → IsValid n → IsText hop.interface → IsNumber hop.subinterface → length (device_bytes n hop) < 2 ^ 64 → string_value_at (field_of n field.InterfaceRefInterface) (device_bytes n hop) ≡ hop.interface
interface_said n hop valid h k fits =
    let t = device_two n hop valid h k fits in
    rw (device_spelled n hop, message_said (field_of n field.InterfaceRefInterface) (device_parts n hop) (two_legal t), first_bits t)
    (string_value_own n (field_of n field.InterfaceRefInterface) hop.interface h (front_fits (string_value_field (field_of n field.InterfaceRefInterface) hop.interface) (uint_value_field (field_of n field.InterfaceRefSubinterface) hop.subinterface) fits))

subinterface_said : (n : Numbers) (hop : RawHop) → IsValid n → IsText hop.interface → IsNumber hop.subinterface → length (device_bytes n hop) < 2 ^ 64 → uint_value_at (field_of n field.InterfaceRefSubinterface) (device_bytes n hop) ≡ hop.subinterface
subinterface_said n hop valid h k fits =
    let t = device_two n hop valid h k fits in
    rw (device_spelled n hop, message_said (field_of n field.InterfaceRefSubinterface) (device_parts n hop) (two_legal t), second_bits t)
    (uint_value_own n (field_of n field.InterfaceRefSubinterface) hop.subinterface k)

-- The message of a tunnel

abbrev tunnel_bytes : Numbers → RawHop → List ℕ
tunnel_bytes n hop = string_value_field (field_of n field.IpInIpSrcIp) hop.source ++ string_value_field (field_of n field.IpInIpDstIp) hop.target

abbrev tunnel_parts : Numbers → RawHop → List WrittenField
tunnel_parts n hop = string_value_parts (field_of n field.IpInIpSrcIp) hop.source ++ string_value_parts (field_of n field.IpInIpDstIp) hop.target

tunnel_spelled : (n : Numbers) (hop : RawHop) → tunnel_bytes n hop ≡ encoded_fields (tunnel_parts n hop)
tunnel_spelled n hop =
    rw (string_value_spelled (field_of n field.IpInIpSrcIp) hop.source, string_value_spelled (field_of n field.IpInIpDstIp) hop.target)
    (sym (flat_map-append field_encoding (string_value_parts (field_of n field.IpInIpSrcIp) hop.source) (string_value_parts (field_of n field.IpInIpDstIp) hop.target)))

source_fits : (n : Numbers) (hop : RawHop) → length (tunnel_bytes n hop) < 2 ^ 64 → length (string_value_field (field_of n field.IpInIpSrcIp) hop.source) < 2 ^ 64
source_fits n hop fits = front_fits (string_value_field (field_of n field.IpInIpSrcIp) hop.source) (string_value_field (field_of n field.IpInIpDstIp) hop.target) fits

target_fits : (n : Numbers) (hop : RawHop) → length (tunnel_bytes n hop) < 2 ^ 64 → length (string_value_field (field_of n field.IpInIpDstIp) hop.target) < 2 ^ 64
target_fits n hop fits = back_fits (string_value_field (field_of n field.IpInIpSrcIp) hop.source) (string_value_field (field_of n field.IpInIpDstIp) hop.target) fits

tunnel_two : (n : Numbers) (hop : RawHop) → IsValid n → IsText hop.source → IsText hop.target → length (tunnel_bytes n hop) < 2 ^ 64
    → TwoFields n message.IpInIp (field_of n field.IpInIpSrcIp) (field_of n field.IpInIpDstIp) (kind.Message message.StringValue) (kind.Message message.StringValue)
    (string_value_parts (field_of n field.IpInIpSrcIp) hop.source) (string_value_parts (field_of n field.IpInIpDstIp) hop.target)
tunnel_two n hop valid h k fits = record {
  rows = refl;
  apart = apart_of (field_of n field.IpInIpSrcIp) (field_of n field.IpInIpDstIp) (distinct n valid 26 (omega arith));
  first = string_value_bunch n (field_of n field.IpInIpSrcIp) hop.source (range n valid field.IpInIpSrcIp (omega arith)) h (source_fits n hop fits);
  second = string_value_bunch n (field_of n field.IpInIpDstIp) hop.target (range n valid field.IpInIpDstIp (omega arith)) k (target_fits n hop fits);
}

tunnel_clean : (n : Numbers) (hop : RawHop) → IsValid n → IsText hop.source → IsText hop.target → length (tunnel_bytes n hop) < 2 ^ 64 → Clean n message.IpInIp (tunnel_bytes n hop)
tunnel_clean n hop valid h k fits = rw (tunnel_spelled n hop) (two_clean (tunnel_two n hop valid h k fits))

source_said : (n : Numbers) (hop : RawHop) → IsValid n → IsText hop.source → IsText hop.target → length (tunnel_bytes n hop) < 2 ^ 64 → string_value_at (field_of n field.IpInIpSrcIp) (tunnel_bytes n hop) ≡ hop.source
source_said n hop valid h k fits =
    let t = tunnel_two n hop valid h k fits in
    rw (tunnel_spelled n hop, message_said (field_of n field.IpInIpSrcIp) (tunnel_parts n hop) (two_legal t), first_bits t)
    (string_value_own n (field_of n field.IpInIpSrcIp) hop.source h (source_fits n hop fits))

target_said : (n : Numbers) (hop : RawHop) → IsValid n → IsText hop.source → IsText hop.target → length (tunnel_bytes n hop) < 2 ^ 64 → string_value_at (field_of n field.IpInIpDstIp) (tunnel_bytes n hop) ≡ hop.target
target_said n hop valid h k fits =
    let t = tunnel_two n hop valid h k fits in
    rw (tunnel_spelled n hop, message_said (field_of n field.IpInIpDstIp) (tunnel_parts n hop) (two_legal t), second_bits t)
    (string_value_own n (field_of n field.IpInIpDstIp) hop.target k (target_fits n hop fits))

-- The payload of a next hop

abbrev ip_bytes : Numbers → RawHop → List ℕ
ip_bytes n hop = string_value_field (field_of n field.NextHopIpAddress) hop.ip

abbrev mac_bytes : Numbers → RawHop → List ℕ
mac_bytes n hop = string_value_field (field_of n field.NextHopMacAddress) hop.mac

abbrev device_whole : Numbers → RawHop → List ℕ
device_whole n hop = nonempty_field (field_of n field.NextHopInterfaceRef) (device_bytes n hop)

abbrev tunnel_whole : Numbers → RawHop → List ℕ
tunnel_whole n hop = nonempty_field (field_of n field.NextHopIpInIp) (tunnel_bytes n hop)

abbrev push_bytes : Numbers → RawHop → List ℕ
push_bytes n hop = many_bytes (field_of n field.NextHopPushedMplsLabelStack) (label_bytes n) hop.push

abbrev hop_whole : Numbers → RawHop → List ℕ
hop_whole n hop = (((ip_bytes n hop ++ mac_bytes n hop) ++ device_whole n hop) ++ tunnel_whole n hop) ++ push_bytes n hop

abbrev ip_parts : Numbers → RawHop → List WrittenField
ip_parts n hop = string_value_parts (field_of n field.NextHopIpAddress) hop.ip

abbrev mac_parts : Numbers → RawHop → List WrittenField
mac_parts n hop = string_value_parts (field_of n field.NextHopMacAddress) hop.mac

abbrev interface_parts : Numbers → RawHop → List WrittenField
interface_parts n hop = filled_parts (field_of n field.NextHopInterfaceRef) (device_bytes n hop)

abbrev ipip_parts : Numbers → RawHop → List WrittenField
ipip_parts n hop = filled_parts (field_of n field.NextHopIpInIp) (tunnel_bytes n hop)

abbrev push_parts : Numbers → RawHop → List WrittenField
push_parts n hop = many_parts (field_of n field.NextHopPushedMplsLabelStack) (label_bytes n) hop.push

abbrev hop_parts : Numbers → RawHop → List WrittenField
hop_parts n hop = (((ip_parts n hop ++ mac_parts n hop) ++ interface_parts n hop) ++ ipip_parts n hop) ++ push_parts n hop

hop_is : (n : Numbers) (hop : RawHop) → hop_bytes n hop ≡ hop_whole n hop
unfolding hop_bytes address_fields interface_field tunnel_field pushed_label_field
hop_is n hop = refl

hop_spelled : (n : Numbers) (hop : RawHop) → hop_whole n hop ≡ encoded_fields (hop_parts n hop)
hop_spelled n hop =
    rw (
      string_value_spelled (field_of n field.NextHopIpAddress) hop.ip,
      string_value_spelled (field_of n field.NextHopMacAddress) hop.mac,
      filled_spelled (field_of n field.NextHopInterfaceRef) (device_bytes n hop),
      filled_spelled (field_of n field.NextHopIpInIp) (tunnel_bytes n hop),
      many_spelled (field_of n field.NextHopPushedMplsLabelStack) (label_bytes n) hop.push,
      flat_map-append field_encoding (((ip_parts n hop ++ mac_parts n hop) ++ interface_parts n hop) ++ ipip_parts n hop) (push_parts n hop),
      flat_map-append field_encoding ((ip_parts n hop ++ mac_parts n hop) ++ interface_parts n hop) (ipip_parts n hop),
      flat_map-append field_encoding (ip_parts n hop ++ mac_parts n hop) (interface_parts n hop),
      flat_map-append field_encoding (ip_parts n hop) (mac_parts n hop),
    ) refl

-- each part of a next hop is short enough
record HopFits (n : Numbers) (hop : RawHop) : Type 0 where
  pub ip : length (ip_bytes n hop) < 2 ^ 64
  pub mac : length (mac_bytes n hop) < 2 ^ 64
  pub device : length (device_bytes n hop) < 2 ^ 64
  pub tunnel : length (tunnel_bytes n hop) < 2 ^ 64
  pub push : length (push_bytes n hop) < 2 ^ 64

hop_fits : (n : Numbers) (hop : RawHop) → length (hop_whole n hop) < 2 ^ 64 → HopFits n hop
hop_fits n hop fits =
    let four = front_fits (((ip_bytes n hop ++ mac_bytes n hop) ++ device_whole n hop) ++ tunnel_whole n hop) (push_bytes n hop) fits in
    let three = front_fits ((ip_bytes n hop ++ mac_bytes n hop) ++ device_whole n hop) (tunnel_whole n hop) four in
    let two = front_fits (ip_bytes n hop ++ mac_bytes n hop) (device_whole n hop) three in
    record {
      ip = front_fits (ip_bytes n hop) (mac_bytes n hop) two;
      mac = back_fits (ip_bytes n hop) (mac_bytes n hop) two;
      device = shorter (field_of n field.NextHopInterfaceRef) (device_bytes n hop) (back_fits (ip_bytes n hop ++ mac_bytes n hop) (device_whole n hop) three);
      tunnel = shorter (field_of n field.NextHopIpInIp) (tunnel_bytes n hop) (back_fits ((ip_bytes n hop ++ mac_bytes n hop) ++ device_whole n hop) (tunnel_whole n hop) four);
      push = back_fits (((ip_bytes n hop ++ mac_bytes n hop) ++ device_whole n hop) ++ tunnel_whole n hop) (push_bytes n hop) fits;
    }

-- what each part of a next hop is
record HopHolds (hop : RawHop) : Type 0 where
  pub ip : IsText hop.ip
  pub mac : IsText hop.mac
  pub interface : IsText hop.interface
  pub subinterface : IsNumber hop.subinterface
  pub source : IsText hop.source
  pub target : IsText hop.target
  pub push : Each IsNumber hop.push

hop_holds : (hop : RawHop) → IsHop hop → HopHolds hop
hop_holds hop (ip, mac, interface, subinterface, source, target, push) = record {
  ip = ip;
  mac = mac;
  interface = interface;
  subinterface = subinterface;
  source = source;
  target = target;
  push = each_from IsNumber hop.push push;
}

hop_five : (n : Numbers) (hop : RawHop) → IsValid n → HopHolds hop → HopFits n hop
    → FiveFields n message.NextHop (field_of n field.NextHopIpAddress) (field_of n field.NextHopMacAddress) (field_of n field.NextHopInterfaceRef) (field_of n field.NextHopIpInIp) (field_of n field.NextHopPushedMplsLabelStack)
    (kind.Message message.StringValue) (kind.Message message.StringValue) (kind.Message message.InterfaceRef) (kind.Message message.IpInIp) (kind.Message message.PushedLabel)
    (ip_parts n hop) (mac_parts n hop) (interface_parts n hop) (ipip_parts n hop) (push_parts n hop)
hop_five n hop valid h fits = record {
  rows = refl;
  two = apart (field_of n field.NextHopIpAddress) (field_of n field.NextHopMacAddress) (field_of n field.NextHopInterfaceRef) (field_of n field.NextHopIpInIp) (field_of n field.NextHopPushedMplsLabelStack) (distinct n valid 24 (omega arith));
  each_a = string_value_bunch n (field_of n field.NextHopIpAddress) hop.ip (range n valid field.NextHopIpAddress (omega arith)) h.ip fits.ip;
  each_b = string_value_bunch n (field_of n field.NextHopMacAddress) hop.mac (range n valid field.NextHopMacAddress (omega arith)) h.mac fits.mac;
  each_c = filled_bunch n (kind.Message message.InterfaceRef) (field_of n field.NextHopInterfaceRef) (device_bytes n hop) (range n valid field.NextHopInterfaceRef (omega arith)) fits.device
      (device_clean n hop valid h.interface h.subinterface fits.device);
  each_d = filled_bunch n (kind.Message message.IpInIp) (field_of n field.NextHopIpInIp) (tunnel_bytes n hop) (range n valid field.NextHopIpInIp (omega arith)) fits.tunnel
      (tunnel_clean n hop valid h.source h.target fits.tunnel);
  each_e = many_bunch n message.PushedLabel (field_of n field.NextHopPushedMplsLabelStack) (label_bytes n) IsNumber (label_clean n valid) (range n valid field.NextHopPushedMplsLabelStack (omega arith)) hop.push h.push fits.push;
}

hop_clean : (n : Numbers) (hop : RawHop) → IsValid n → HopHolds hop → HopFits n hop → Clean n message.NextHop (hop_whole n hop)
hop_clean n hop valid h fits = rw (hop_spelled n hop) (five_clean (hop_five n hop valid h fits))

ip_said : (n : Numbers) (hop : RawHop) → IsValid n → HopHolds hop → HopFits n hop → string_value_at (field_of n field.NextHopIpAddress) (hop_whole n hop) ≡ hop.ip
ip_said n hop valid h fits =
    let f = hop_five n hop valid h fits in
    rw (hop_spelled n hop, message_said (field_of n field.NextHopIpAddress) (hop_parts n hop) (five_legal f), five_a f) (string_value_own n (field_of n field.NextHopIpAddress) hop.ip h.ip fits.ip)

mac_said : (n : Numbers) (hop : RawHop) → IsValid n → HopHolds hop → HopFits n hop → string_value_at (field_of n field.NextHopMacAddress) (hop_whole n hop) ≡ hop.mac
mac_said n hop valid h fits =
    let f = hop_five n hop valid h fits in
    rw (hop_spelled n hop, message_said (field_of n field.NextHopMacAddress) (hop_parts n hop) (five_legal f), five_b f) (string_value_own n (field_of n field.NextHopMacAddress) hop.mac h.mac fits.mac)

device_said : (n : Numbers) (hop : RawHop) → IsValid n → HopHolds hop → HopFits n hop → embedded_at (field_of n field.NextHopInterfaceRef) (hop_whole n hop) ≡ device_bytes n hop
device_said n hop valid h fits =
    let f = hop_five n hop valid h fits in
    rw (hop_spelled n hop, message_said (field_of n field.NextHopInterfaceRef) (hop_parts n hop) (five_legal f), five_c f) (filled_message (field_of n field.NextHopInterfaceRef) (device_bytes n hop))

tunnel_said : (n : Numbers) (hop : RawHop) → IsValid n → HopHolds hop → HopFits n hop → embedded_at (field_of n field.NextHopIpInIp) (hop_whole n hop) ≡ tunnel_bytes n hop
tunnel_said n hop valid h fits =
    let f = hop_five n hop valid h fits in
    rw (hop_spelled n hop, message_said (field_of n field.NextHopIpInIp) (hop_parts n hop) (five_legal f), five_d f) (filled_message (field_of n field.NextHopIpInIp) (tunnel_bytes n hop))

push_said : (n : Numbers) (hop : RawHop) → IsValid n → HopHolds hop → HopFits n hop → map (label_of n) (repeated_at (field_of n field.NextHopPushedMplsLabelStack) (hop_whole n hop)) ≡ hop.push
push_said n hop valid h fits =
    let f = hop_five n hop valid h fits in
    rw (hop_spelled n hop, repeated_said (field_of n field.NextHopPushedMplsLabelStack) (hop_parts n hop) (five_legal f), five_e f, many_own (field_of n field.NextHopPushedMplsLabelStack) (label_bytes n) hop.push)
    (many_said (field_of n field.NextHopPushedMplsLabelStack) (label_bytes n) (label_of n) IsNumber (label_again n valid) hop.push h.push fits.push)

hop_said : (n : Numbers) (hop : RawHop) → IsValid n → HopHolds hop → HopFits n hop → hop_of n (hop_whole n hop) ≡ hop
unfolding hop_of
hop_said n hop valid h fits =
    rw (
      ip_said n hop valid h fits,
      mac_said n hop valid h fits,
      device_said n hop valid h fits,
      tunnel_said n hop valid h fits,
      push_said n hop valid h fits,
      interface_said n hop valid h.interface h.subinterface fits.device,
      subinterface_said n hop valid h.interface h.subinterface fits.device,
      source_said n hop valid h.source h.target fits.tunnel,
      target_said n hop valid h.source h.target fits.tunnel,
    ) refl

-- A next hop's entry

hop_key : (n : Numbers) → IsValid n → Key n message.NextHopKey message.NextHop (field_of n field.NextHopKeyIndex) (field_of n field.NextHopKeyNextHop) kind.Number
hop_key n valid = record {
  rows = refl;
  apart = apart_of (field_of n field.NextHopKeyIndex) (field_of n field.NextHopKeyNextHop) (distinct n valid 23 (omega arith));
  name = range n valid field.NextHopKeyIndex (omega arith);
  payload = range n valid field.NextHopKeyNextHop (omega arith);
}

abbrev hop_entry : Numbers → ℕ → List ℕ → List ℕ
hop_entry n index payload = nonzero_uint_field (field_of n field.NextHopKeyIndex) index ++ bytes_field (field_of n field.NextHopKeyNextHop) payload

record HopAgain (n : Numbers) (index : ℕ) (hop : RawHop) (bytes : List ℕ) : Type 0 where
  pub clean : Clean n message.NextHopKey bytes
  pub name : number_at (field_of n field.NextHopKeyIndex) bytes ≡ index
  pub payload : hop_of n (embedded_at (field_of n field.NextHopKeyNextHop) bytes) ≡ hop

hop_entry_again : (n : Numbers) (index : ℕ) (hop : RawHop) → IsValid n → index < 2 ^ 64 → HopHolds hop → length (hop_entry n index (hop_whole n hop)) < 2 ^ 64
    → HopAgain n index hop (hop_entry n index (hop_whole n hop))
hop_entry_again n index hop valid low h fits =
    let a = field_of n field.NextHopKeyIndex in
    let e = field_of n field.NextHopKeyNextHop in
    let payload = hop_whole n hop in
    let back = back_fits (nonzero_uint_field a index) (bytes_field e payload) fits in
    let inside = hop_fits n hop (inner_fits e payload back) in
    let key = hop_key n valid in
    let t = key_two n message.NextHopKey message.NextHop a e kind.Number (number_parts a index) payload key (number_bunch n kind.Number a index key.name low) back (hop_clean n hop valid h inside) in
    let is = payload_spelled e payload (number_parts a index) (nonzero_uint_field a index) (number_spelled a index) in
    record {
      clean = rw is (two_clean t);
      name = rw (is, number_said a (number_parts a index ++ Text e payload ∷ []) (two_legal t), first_nums t) (number_own a index);
      payload = rw (is, payload_said t) (hop_said n hop valid h inside);
    }

pub hop_again : (n : Numbers) (index : ℕ) (hop : RawHop) → IsValid n → index < 2 ^ 64 → IsHop hop
    → length (raw_bytes n (entry.Hop index hop)) < 2 ^ 64 → IsReadAgain n entry_kind.Hop (entry.Hop index hop)
hop_again n index hop valid low h fits = rw (hop_is n hop) (by (rw (← hop_is n hop) fits))
  where
    by : length (hop_entry n index (hop_whole n hop)) < 2 ^ 64 → (first_fault n message.NextHopKey (hop_entry n index (hop_whole n hop)) ≡ None) × (entry_of n entry_kind.Hop (hop_entry n index (hop_whole n hop)) ≡ entry.Hop index hop)
    by fits =
        let all = hop_entry_again n index hop valid low (hop_holds hop h) fits in
        (no_fault n message.NextHopKey (hop_entry n index (hop_whole n hop)) all.clean, rw (all.name, all.payload) refl)
