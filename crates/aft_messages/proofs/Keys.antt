-- Entries of routes that were written are read again.
use Rattle.std.proofs.Common.{◌≡◌, ℕ, ◌^◌, ◌<◌, ◌==◌, true, false, List, [], ◌∷◌, ◌++◌, length, Option, Some, None, refl, sym, ap, arith}
use Rattle.std.specs.Str.{is_utf8}
use Rattle.std.proofs.lemmas.List.{append-nil}
use Rattle.std.proofs.lemmas.List.Concat.{flat_map-append}
use Rattle.proto_wire.specs.Written.{bytes_field, WrittenField, Text, field_encoding, encoded_fields}
use Rattle.schema_numbers.specs.Numbers.{Numbers, field_of}
use Rattle.schema_numbers.specs.Valid.{IsValid}
use Rattle.schema_numbers.specs.declared.names.FieldName.TheVariants as field
use Rattle.proto_schema.specs.declared.schema.MessageKind.{MessageKind}
use Rattle.proto_schema.specs.declared.schema.MessageKind.TheVariants as message
use Rattle.proto_schema.specs.declared.schema.FieldKind.{FieldKind}
use Rattle.proto_schema.specs.declared.schema.FieldKind.TheVariants as kind
use Rattle.proto_schema.specs.Schema.{fields_of}
use Rattle.proto_schema.specs.Legal.{first_fault}
use Rattle.proto_schema.specs.FieldValues.{last_number_at}
use Rattle.aft_entries.specs.declared.key.Kind.TheVariants as entry_kind
use Rattle.aft_entries.specs.declared.operation.RawRoute.{RawRoute}
use Rattle.aft_entries.specs.declared.operation.RawEntry.TheVariants as entry
use Rattle.aft_messages.specs.Reading.{text_of, name_at, embedded_at, route_of}
use Rattle.aft_messages.specs.Writing.{nonempty_field, label_field, route_bytes, raw_bytes}
use Rattle.aft_messages.specs.Encodable.{IsNumber, IsRoute, IsReadAgain}
use Rattle.aft_messages.proofs.Parts.{Each, Clean, last_number_said, text_said, message_said}
use Rattle.aft_messages.proofs.FieldGroups.{InBunch, TwoFields, two_legal, two_clean, first_nums, first_bits, second_bits, apart_of, label_parts, label_spelled, label_own, filled_parts, filled_spelled, filled_text, filled_bunch, whole_message}
use Rattle.aft_messages.proofs.Routes.{distinct, InRange, range, inner_fits, front_fits, back_fits, shorter, Leaves, route_clean, route_said}

-- A message that is clean has no fault.
pub no_fault : (n : Numbers) (m : MessageKind) (bytes : List ℕ) → Clean n m bytes → first_fault n m bytes ≡ None
unfolding first_fault
no_fault n m bytes c = c 6 0

-- the payload is always there
pub payload_bunch : (n : Numbers) (m : MessageKind) (number : ℕ) (bytes : List ℕ) → InRange number → length (bytes_field number bytes) < 2 ^ 64 → Clean n m bytes
    → Each (InBunch n (kind.Message m) number) (Text number bytes ∷ [])
payload_bunch n m number bytes range fits c = (((range.0, range.1, inner_fits number bytes fits), refl, c), tt)

pub payload_spelled : (number : ℕ) (bytes : List ℕ) (xs : List WrittenField) (front : List ℕ) → front ≡ encoded_fields xs → front ++ bytes_field number bytes ≡ encoded_fields (xs ++ Text number bytes ∷ [])
payload_spelled number bytes xs front is =
    rw (is, flat_map-append field_encoding xs (Text number bytes ∷ [])) (ap (λ back. encoded_fields xs ++ back) (sym (append-nil (bytes_field number bytes))))

-- a message of a key and a payload
pub record Key (n : Numbers) (m inner : MessageKind) (a e : ℕ) (k : FieldKind) : Type 0 where
  pub rows : fields_of n m ≡ (a, k) ∷ (e, kind.Message inner) ∷ []
  pub apart : (e == a) ≡ false
  pub name : InRange a
  pub payload : InRange e

pub key_two : (n : Numbers) (m inner : MessageKind) (a e : ℕ) (k : FieldKind) (xs : List WrittenField) (bytes : List ℕ) → Key n m inner a e k → Each (InBunch n k a) xs
    → length (bytes_field e bytes) < 2 ^ 64 → Clean n inner bytes → TwoFields n m a e k (kind.Message inner) xs (Text e bytes ∷ [])
key_two n m inner a e k xs bytes key each fits c = record { rows = key.rows; apart = key.apart; first = each; second = payload_bunch n inner e bytes key.payload fits c }

pub payload_said : {n : Numbers} {m inner : MessageKind} {a e : ℕ} {k : FieldKind} {xs : List WrittenField} {bytes : List ℕ} → TwoFields n m a e k (kind.Message inner) xs (Text e bytes ∷ [])
    → embedded_at e (encoded_fields (xs ++ Text e bytes ∷ [])) ≡ bytes
payload_said {n} {m} {inner} {a} {e} {k} {xs} {bytes} t =
    rw (message_said e (xs ++ Text e bytes ∷ []) (two_legal t), second_bits t, whole_message e bytes) refl

-- Routes with a prefix

record PrefixAgain (n : Numbers) (m : MessageKind) (p e g i : ℕ) (prefix : List ℕ) (route : RawRoute) (bytes : List ℕ) : Type 0 where
  pub fault : first_fault n m bytes ≡ None
  pub name : name_at p bytes ≡ prefix
  pub payload : route_of g i (embedded_at e bytes) ≡ route

prefix_again : (n : Numbers) (m inner : MessageKind) (p e g i : ℕ) (prefix : List ℕ) (route : RawRoute) → Key n m inner p e kind.Text → Leaves n inner g i → is_utf8 prefix ≡ true → IsRoute route
    → length (nonempty_field p prefix ++ bytes_field e (route_bytes g i route)) < 2 ^ 64
    → PrefixAgain n m p e g i prefix route (nonempty_field p prefix ++ bytes_field e (route_bytes g i route))
unfolding text_of
prefix_again n m inner p e g i prefix route key leaves good h fits =
    let front = front_fits (nonempty_field p prefix) (bytes_field e (route_bytes g i route)) fits in
    let back = back_fits (nonempty_field p prefix) (bytes_field e (route_bytes g i route)) fits in
    let inside = inner_fits e (route_bytes g i route) back in
    let each = filled_bunch n kind.Text p prefix key.name (shorter p prefix front) good in
    let t = key_two n m inner p e kind.Text (filled_parts p prefix) (route_bytes g i route) key each back (route_clean n inner g i route leaves h inside) in
    let is = payload_spelled e (route_bytes g i route) (filled_parts p prefix) (nonempty_field p prefix) (filled_spelled p prefix) in
    record {
      fault = rw is (no_fault n m (encoded_fields (filled_parts p prefix ++ Text e (route_bytes g i route) ∷ [])) (two_clean t));
      name = rw (is, text_said p (filled_parts p prefix ++ Text e (route_bytes g i route) ∷ []) (two_legal t), first_bits t, filled_text p prefix, good) refl;
      payload = rw (is, payload_said t) (route_said n inner g i route leaves h inside);
    }

ipv4_leaves : (n : Numbers) → IsValid n → Leaves n message.Ipv4Leaves (field_of n field.Ipv4LeavesNextHopGroup) (field_of n field.Ipv4LeavesNextHopGroupNetworkInstance)
ipv4_leaves n valid = record {
  rows = refl;
  apart = apart_of (field_of n field.Ipv4LeavesNextHopGroup) (field_of n field.Ipv4LeavesNextHopGroupNetworkInstance) (distinct n valid 16 (omega arith));
  group = range n valid field.Ipv4LeavesNextHopGroup (omega arith);
  instance = range n valid field.Ipv4LeavesNextHopGroupNetworkInstance (omega arith);
}

ipv6_leaves : (n : Numbers) → IsValid n → Leaves n message.Ipv6Leaves (field_of n field.Ipv6LeavesNextHopGroup) (field_of n field.Ipv6LeavesNextHopGroupNetworkInstance)
ipv6_leaves n valid = record {
  rows = refl;
  apart = apart_of (field_of n field.Ipv6LeavesNextHopGroup) (field_of n field.Ipv6LeavesNextHopGroupNetworkInstance) (distinct n valid 17 (omega arith));
  group = range n valid field.Ipv6LeavesNextHopGroup (omega arith);
  instance = range n valid field.Ipv6LeavesNextHopGroupNetworkInstance (omega arith);
}

mpls_leaves : (n : Numbers) → IsValid n → Leaves n message.LabelLeaves (field_of n field.LabelLeavesNextHopGroup) (field_of n field.LabelLeavesNextHopGroupNetworkInstance)
mpls_leaves n valid = record {
  rows = refl;
  apart = apart_of (field_of n field.LabelLeavesNextHopGroup) (field_of n field.LabelLeavesNextHopGroupNetworkInstance) (distinct n valid 18 (omega arith));
  group = range n valid field.LabelLeavesNextHopGroup (omega arith);
  instance = range n valid field.LabelLeavesNextHopGroupNetworkInstance (omega arith);
}

ipv4_key : (n : Numbers) → IsValid n → Key n message.Ipv4EntryKey message.Ipv4Leaves (field_of n field.Ipv4EntryKeyPrefix) (field_of n field.Ipv4EntryKeyEntry) kind.Text
ipv4_key n valid = record {
  rows = refl;
  apart = apart_of (field_of n field.Ipv4EntryKeyPrefix) (field_of n field.Ipv4EntryKeyEntry) (distinct n valid 13 (omega arith));
  name = range n valid field.Ipv4EntryKeyPrefix (omega arith);
  payload = range n valid field.Ipv4EntryKeyEntry (omega arith);
}

ipv6_key : (n : Numbers) → IsValid n → Key n message.Ipv6EntryKey message.Ipv6Leaves (field_of n field.Ipv6EntryKeyPrefix) (field_of n field.Ipv6EntryKeyEntry) kind.Text
ipv6_key n valid = record {
  rows = refl;
  apart = apart_of (field_of n field.Ipv6EntryKeyPrefix) (field_of n field.Ipv6EntryKeyEntry) (distinct n valid 14 (omega arith));
  name = range n valid field.Ipv6EntryKeyPrefix (omega arith);
  payload = range n valid field.Ipv6EntryKeyEntry (omega arith);
}

label_key : (n : Numbers) → IsValid n → Key n message.LabelEntryKey message.LabelLeaves (field_of n field.LabelEntryKeyLabelUint64) (field_of n field.LabelEntryKeyLabelEntry) kind.Number
label_key n valid = record {
  rows = refl;
  apart = apart_of (field_of n field.LabelEntryKeyLabelUint64) (field_of n field.LabelEntryKeyLabelEntry) (distinct n valid 15 (omega arith));
  name = range n valid field.LabelEntryKeyLabelUint64 (omega arith);
  payload = range n valid field.LabelEntryKeyLabelEntry (omega arith);
}

pub ipv4_again : (n : Numbers) (prefix : List ℕ) (route : RawRoute) → IsValid n → is_utf8 prefix ≡ true → IsRoute route
    → length (raw_bytes n (entry.V4 prefix route)) < 2 ^ 64 → IsReadAgain n entry_kind.V4 (entry.V4 prefix route)
ipv4_again n prefix route valid good h fits =
    let all = prefix_again n message.Ipv4EntryKey message.Ipv4Leaves
    (field_of n field.Ipv4EntryKeyPrefix) (field_of n field.Ipv4EntryKeyEntry)
    (field_of n field.Ipv4LeavesNextHopGroup) (field_of n field.Ipv4LeavesNextHopGroupNetworkInstance)
    prefix route (ipv4_key n valid) (ipv4_leaves n valid) good h fits in
    (all.fault, rw (all.name, all.payload) refl)

pub ipv6_again : (n : Numbers) (prefix : List ℕ) (route : RawRoute) → IsValid n → is_utf8 prefix ≡ true → IsRoute route
    → length (raw_bytes n (entry.V6 prefix route)) < 2 ^ 64 → IsReadAgain n entry_kind.V6 (entry.V6 prefix route)
ipv6_again n prefix route valid good h fits =
    let all = prefix_again n message.Ipv6EntryKey message.Ipv6Leaves
    (field_of n field.Ipv6EntryKeyPrefix) (field_of n field.Ipv6EntryKeyEntry)
    (field_of n field.Ipv6LeavesNextHopGroup) (field_of n field.Ipv6LeavesNextHopGroupNetworkInstance)
    prefix route (ipv6_key n valid) (ipv6_leaves n valid) good h fits in
    (all.fault, rw (all.name, all.payload) refl)

-- Routes of labels

pub label_bunch : (n : Numbers) (number : ℕ) (label : Option ℕ) → InRange number → IsNumber label → Each (InBunch n kind.Number number) (label_parts number label)
label_bunch n number None range h = tt
label_bunch n number (Some v) range h = (((range.0, range.1, h), refl, tt), tt)

record LabelAgain (n : Numbers) (m : MessageKind) (a e g i : ℕ) (label : Option ℕ) (route : RawRoute) (bytes : List ℕ) : Type 0 where
  pub fault : first_fault n m bytes ≡ None
  pub name : last_number_at a bytes ≡ label
  pub payload : route_of g i (embedded_at e bytes) ≡ route

label_route_again : (n : Numbers) (m inner : MessageKind) (a e g i : ℕ) (label : Option ℕ) (route : RawRoute) → Key n m inner a e kind.Number → Leaves n inner g i → IsNumber label → IsRoute route
    → length (label_field a label ++ bytes_field e (route_bytes g i route)) < 2 ^ 64
    → LabelAgain n m a e g i label route (label_field a label ++ bytes_field e (route_bytes g i route))
label_route_again n m inner a e g i label route key leaves good h fits =
    let back = back_fits (label_field a label) (bytes_field e (route_bytes g i route)) fits in
    let inside = inner_fits e (route_bytes g i route) back in
    let each = label_bunch n a label key.name good in
    let t = key_two n m inner a e kind.Number (label_parts a label) (route_bytes g i route) key each back (route_clean n inner g i route leaves h inside) in
    let is = payload_spelled e (route_bytes g i route) (label_parts a label) (label_field a label) (label_spelled a label) in
    record {
      fault = rw is (no_fault n m (encoded_fields (label_parts a label ++ Text e (route_bytes g i route) ∷ [])) (two_clean t));
      name = rw (is, last_number_said a (label_parts a label ++ Text e (route_bytes g i route) ∷ []) (two_legal t), first_nums t) (label_own a label);
      payload = rw (is, payload_said t) (route_said n inner g i route leaves h inside);
    }

pub label_again : (n : Numbers) (label : Option ℕ) (route : RawRoute) → IsValid n → IsNumber label → IsRoute route
    → length (raw_bytes n (entry.Label label route)) < 2 ^ 64 → IsReadAgain n entry_kind.Label (entry.Label label route)
label_again n label route valid good h fits =
    let all = label_route_again n message.LabelEntryKey message.LabelLeaves
    (field_of n field.LabelEntryKeyLabelUint64) (field_of n field.LabelEntryKeyLabelEntry)
    (field_of n field.LabelLeavesNextHopGroup) (field_of n field.LabelLeavesNextHopGroupNetworkInstance)
    label route (label_key n valid) (mpls_leaves n valid) good h fits in
    (all.fault, rw (all.name, all.payload) refl)
