-- Groups that were written are read again.
use Rattle.std.proofs.Common.{◌≡◌, ℕ, ◌^◌, ◌<◌, List, [], ◌∷◌, ◌++◌, map, length, Option, None, refl, sym, arith}
use Rattle.std.proofs.lemmas.List.Concat.{flat_map-append}
use Rattle.proto_wire.specs.Written.{bytes_field, WrittenField, Text, field_encoding, encoded_fields}
use Rattle.schema_numbers.specs.Numbers.{Numbers, field_of}
use Rattle.schema_numbers.specs.Valid.{IsValid}
use Rattle.schema_numbers.specs.declared.names.FieldName.TheVariants as field
use Rattle.proto_schema.specs.declared.schema.MessageKind.TheVariants as message
use Rattle.proto_schema.specs.declared.schema.FieldKind.TheVariants as kind
use Rattle.proto_schema.specs.Legal.{first_fault}
use Rattle.proto_schema.specs.FieldValues.{number_at, repeated_at}
use Rattle.aft_entries.specs.declared.key.Kind.TheVariants as entry_kind
use Rattle.aft_entries.specs.declared.operation.RawGroup.{RawGroup}
use Rattle.aft_entries.specs.declared.operation.RawEntry.TheVariants as entry
use Rattle.aft_messages.specs.Reading.{embedded_at, uint_value_at, member_of, group_of, entry_of}
use Rattle.aft_messages.specs.Writing.{nonzero_uint_field, nonempty_field, uint_value_field, member_field, group_bytes, raw_bytes}
use Rattle.aft_messages.specs.Encodable.{IsNumber, IsMember, IsGroup, IsReadAgain}
use Rattle.aft_messages.proofs.Parts.{Clean, number_said, message_said, repeated_said}
use Rattle.aft_messages.proofs.FieldGroups.{OneField, one_legal, one_clean, TwoFields, two_legal, two_clean, first_nums, first_bits, second_bits, apart_of, number_parts, number_spelled, number_own, number_bunch, filled_parts, filled_spelled, filled_message, filled_bunch}
use Rattle.aft_messages.proofs.Routes.{distinct, range, inner_fits, front_fits, back_fits, shorter, uint_value_parts, uint_value_spelled, uint_value_bunch, uint_value_own}
use Rattle.aft_messages.proofs.Keys.{no_fault, payload_spelled, Key, key_two, payload_said}
use Rattle.aft_messages.proofs.RepeatedFields.{each_from, many_parts, many_bytes, many_spelled, many_own, many_bunch, many_said}

-- The leaves of a member

weight_one : (n : Numbers) (weight : Option ℕ) → IsValid n → IsNumber weight → length (uint_value_field (field_of n field.MemberLeavesWeight) weight) < 2 ^ 64
    → OneField n message.MemberLeaves (field_of n field.MemberLeavesWeight) (kind.Message message.UintValue) (uint_value_parts (field_of n field.MemberLeavesWeight) weight)
weight_one n weight valid h fits = record {
  row = refl;
  each = uint_value_bunch n (field_of n field.MemberLeavesWeight) weight (range n valid field.MemberLeavesWeight (omega arith)) h fits;
}

weight_clean : (n : Numbers) (weight : Option ℕ) → IsValid n → IsNumber weight → length (uint_value_field (field_of n field.MemberLeavesWeight) weight) < 2 ^ 64
    → Clean n message.MemberLeaves (uint_value_field (field_of n field.MemberLeavesWeight) weight)
weight_clean n weight valid h fits = rw (uint_value_spelled (field_of n field.MemberLeavesWeight) weight) (one_clean (weight_one n weight valid h fits))

weight_said : (n : Numbers) (weight : Option ℕ) → IsValid n → IsNumber weight → length (uint_value_field (field_of n field.MemberLeavesWeight) weight) < 2 ^ 64
    → uint_value_at (field_of n field.MemberLeavesWeight) (uint_value_field (field_of n field.MemberLeavesWeight) weight) ≡ weight
weight_said n weight valid h fits =
    rw (uint_value_spelled (field_of n field.MemberLeavesWeight) weight, message_said (field_of n field.MemberLeavesWeight) (uint_value_parts (field_of n field.MemberLeavesWeight) weight) (one_legal (weight_one n weight valid h fits)))
    (uint_value_own n (field_of n field.MemberLeavesWeight) weight h)

-- A member

abbrev leaves_of : Numbers → (ℕ × Option ℕ) → List ℕ
leaves_of n member = uint_value_field (field_of n field.MemberLeavesWeight) member.1

abbrev member_bytes : Numbers → (ℕ × Option ℕ) → List ℕ
member_bytes n member = nonzero_uint_field (field_of n field.MemberKeyIndex) member.0 ++ nonempty_field (field_of n field.MemberKeyNextHop) (leaves_of n member)

abbrev member_parts : Numbers → (ℕ × Option ℕ) → List WrittenField
member_parts n member = number_parts (field_of n field.MemberKeyIndex) member.0 ++ filled_parts (field_of n field.MemberKeyNextHop) (leaves_of n member)

member_spelled : (n : Numbers) (member : ℕ × Option ℕ) → member_bytes n member ≡ encoded_fields (member_parts n member)
member_spelled n member =
    rw (number_spelled (field_of n field.MemberKeyIndex) member.0, filled_spelled (field_of n field.MemberKeyNextHop) (leaves_of n member))
    (sym (flat_map-append field_encoding (number_parts (field_of n field.MemberKeyIndex) member.0) (filled_parts (field_of n field.MemberKeyNextHop) (leaves_of n member))))

leaves_fit : (n : Numbers) (member : ℕ × Option ℕ) → length (member_bytes n member) < 2 ^ 64 → length (leaves_of n member) < 2 ^ 64
leaves_fit n member fits =
    shorter (field_of n field.MemberKeyNextHop) (leaves_of n member) (back_fits (nonzero_uint_field (field_of n field.MemberKeyIndex) member.0) (nonempty_field (field_of n field.MemberKeyNextHop) (leaves_of n member)) fits)

member_two : (n : Numbers) (member : ℕ × Option ℕ) → IsValid n → IsMember member → length (member_bytes n member) < 2 ^ 64
    → TwoFields n message.MemberKey (field_of n field.MemberKeyIndex) (field_of n field.MemberKeyNextHop) kind.Number (kind.Message message.MemberLeaves)
    (number_parts (field_of n field.MemberKeyIndex) member.0) (filled_parts (field_of n field.MemberKeyNextHop) (leaves_of n member))
member_two n member valid h fits = record {
  rows = refl;
  apart = apart_of (field_of n field.MemberKeyIndex) (field_of n field.MemberKeyNextHop) (distinct n valid 21 (omega arith));
  first = number_bunch n kind.Number (field_of n field.MemberKeyIndex) member.0 (range n valid field.MemberKeyIndex (omega arith)) h.0;
  second = filled_bunch n (kind.Message message.MemberLeaves) (field_of n field.MemberKeyNextHop) (leaves_of n member) (range n valid field.MemberKeyNextHop (omega arith)) (leaves_fit n member fits)
      (weight_clean n member.1 valid h.1 (leaves_fit n member fits));
}

member_clean : (n : Numbers) → IsValid n → (member : ℕ × Option ℕ) → IsMember member → length (member_bytes n member) < 2 ^ 64 → Clean n message.MemberKey (member_bytes n member)
member_clean n valid member h fits = rw (member_spelled n member) (two_clean (member_two n member valid h fits))

index_said : (n : Numbers) (member : ℕ × Option ℕ) → IsValid n → IsMember member → length (member_bytes n member) < 2 ^ 64 → number_at (field_of n field.MemberKeyIndex) (member_bytes n member) ≡ member.0
index_said n member valid h fits =
    let t = member_two n member valid h fits in
    rw (member_spelled n member, number_said (field_of n field.MemberKeyIndex) (member_parts n member) (two_legal t), first_nums t) (number_own (field_of n field.MemberKeyIndex) member.0)

leaves_said : (n : Numbers) (member : ℕ × Option ℕ) → IsValid n → IsMember member → length (member_bytes n member) < 2 ^ 64 → embedded_at (field_of n field.MemberKeyNextHop) (member_bytes n member) ≡ leaves_of n member
leaves_said n member valid h fits =
    let t = member_two n member valid h fits in
    rw (member_spelled n member, message_said (field_of n field.MemberKeyNextHop) (member_parts n member) (two_legal t), second_bits t) (filled_message (field_of n field.MemberKeyNextHop) (leaves_of n member))

member_again : (n : Numbers) → IsValid n → (member : ℕ × Option ℕ) → IsMember member → length (member_bytes n member) < 2 ^ 64 → member_of n (member_bytes n member) ≡ member
member_again n valid member h fits =
    rw (index_said n member valid h fits, leaves_said n member valid h fits, weight_said n member.1 valid h.1 (leaves_fit n member fits)) refl

-- The payload of a group

abbrev group_parts : Numbers → RawGroup → List WrittenField
group_parts n group = many_parts (field_of n field.NextHopGroupNextHop) (member_bytes n) group.members ++ uint_value_parts (field_of n field.NextHopGroupBackupNextHopGroup) group.backup

abbrev group_whole : Numbers → RawGroup → List ℕ
group_whole n group = many_bytes (field_of n field.NextHopGroupNextHop) (member_bytes n) group.members ++ uint_value_field (field_of n field.NextHopGroupBackupNextHopGroup) group.backup

group_is : (n : Numbers) (group : RawGroup) → group_bytes n group ≡ group_whole n group
unfolding group_bytes member_field
group_is n group = refl

group_spelled : (n : Numbers) (group : RawGroup) → group_whole n group ≡ encoded_fields (group_parts n group)
group_spelled n group =
    rw (many_spelled (field_of n field.NextHopGroupNextHop) (member_bytes n) group.members, uint_value_spelled (field_of n field.NextHopGroupBackupNextHopGroup) group.backup)
    (sym (flat_map-append field_encoding (many_parts (field_of n field.NextHopGroupNextHop) (member_bytes n) group.members) (uint_value_parts (field_of n field.NextHopGroupBackupNextHopGroup) group.backup)))

members_fit : (n : Numbers) (group : RawGroup) → length (group_whole n group) < 2 ^ 64 → length (many_bytes (field_of n field.NextHopGroupNextHop) (member_bytes n) group.members) < 2 ^ 64
members_fit n group fits = front_fits (many_bytes (field_of n field.NextHopGroupNextHop) (member_bytes n) group.members) (uint_value_field (field_of n field.NextHopGroupBackupNextHopGroup) group.backup) fits

backup_fits : (n : Numbers) (group : RawGroup) → length (group_whole n group) < 2 ^ 64 → length (uint_value_field (field_of n field.NextHopGroupBackupNextHopGroup) group.backup) < 2 ^ 64
backup_fits n group fits = back_fits (many_bytes (field_of n field.NextHopGroupNextHop) (member_bytes n) group.members) (uint_value_field (field_of n field.NextHopGroupBackupNextHopGroup) group.backup) fits

group_two : (n : Numbers) (group : RawGroup) → IsValid n → IsGroup group → length (group_whole n group) < 2 ^ 64
    → TwoFields n message.NextHopGroup (field_of n field.NextHopGroupNextHop) (field_of n field.NextHopGroupBackupNextHopGroup) (kind.Message message.MemberKey) (kind.Message message.UintValue)
    (many_parts (field_of n field.NextHopGroupNextHop) (member_bytes n) group.members) (uint_value_parts (field_of n field.NextHopGroupBackupNextHopGroup) group.backup)
group_two n group valid h fits = record {
  rows = refl;
  apart = apart_of (field_of n field.NextHopGroupNextHop) (field_of n field.NextHopGroupBackupNextHopGroup) (distinct n valid 20 (omega arith));
  first = many_bunch n message.MemberKey (field_of n field.NextHopGroupNextHop) (member_bytes n) IsMember (member_clean n valid) (range n valid field.NextHopGroupNextHop (omega arith))
      group.members (each_from IsMember group.members h.0) (members_fit n group fits);
  second = uint_value_bunch n (field_of n field.NextHopGroupBackupNextHopGroup) group.backup (range n valid field.NextHopGroupBackupNextHopGroup (omega arith)) h.1 (backup_fits n group fits);
}

members_said : (n : Numbers) (group : RawGroup) → IsValid n → IsGroup group → length (group_whole n group) < 2 ^ 64
    → map (member_of n) (repeated_at (field_of n field.NextHopGroupNextHop) (group_whole n group)) ≡ group.members
members_said n group valid h fits =
    let t = group_two n group valid h fits in
    rw (group_spelled n group, repeated_said (field_of n field.NextHopGroupNextHop) (group_parts n group) (two_legal t), first_bits t, many_own (field_of n field.NextHopGroupNextHop) (member_bytes n) group.members)
    (many_said (field_of n field.NextHopGroupNextHop) (member_bytes n) (member_of n) IsMember (member_again n valid) group.members (each_from IsMember group.members h.0) (members_fit n group fits))

backup_said : (n : Numbers) (group : RawGroup) → IsValid n → IsGroup group → length (group_whole n group) < 2 ^ 64
    → uint_value_at (field_of n field.NextHopGroupBackupNextHopGroup) (group_whole n group) ≡ group.backup
backup_said n group valid h fits =
    let t = group_two n group valid h fits in
    rw (group_spelled n group, message_said (field_of n field.NextHopGroupBackupNextHopGroup) (group_parts n group) (two_legal t), second_bits t)
    (uint_value_own n (field_of n field.NextHopGroupBackupNextHopGroup) group.backup h.1)

group_clean : (n : Numbers) (group : RawGroup) → IsValid n → IsGroup group → length (group_whole n group) < 2 ^ 64 → Clean n message.NextHopGroup (group_whole n group)
group_clean n group valid h fits = rw (group_spelled n group) (two_clean (group_two n group valid h fits))

group_said : (n : Numbers) (group : RawGroup) → IsValid n → IsGroup group → length (group_whole n group) < 2 ^ 64 → group_of n (group_whole n group) ≡ group
unfolding group_of
group_said n group valid h fits = rw (members_said n group valid h fits, backup_said n group valid h fits) refl

-- A group's entry

group_key : (n : Numbers) → IsValid n → Key n message.NextHopGroupKey message.NextHopGroup (field_of n field.NextHopGroupKeyId) (field_of n field.NextHopGroupKeyNextHopGroup) kind.Number
group_key n valid = record {
  rows = refl;
  apart = apart_of (field_of n field.NextHopGroupKeyId) (field_of n field.NextHopGroupKeyNextHopGroup) (distinct n valid 19 (omega arith));
  name = range n valid field.NextHopGroupKeyId (omega arith);
  payload = range n valid field.NextHopGroupKeyNextHopGroup (omega arith);
}

abbrev group_entry : Numbers → ℕ → List ℕ → List ℕ
group_entry n id payload = nonzero_uint_field (field_of n field.NextHopGroupKeyId) id ++ bytes_field (field_of n field.NextHopGroupKeyNextHopGroup) payload

record GroupAgain (n : Numbers) (id : ℕ) (group : RawGroup) (bytes : List ℕ) : Type 0 where
  pub clean : Clean n message.NextHopGroupKey bytes
  pub name : number_at (field_of n field.NextHopGroupKeyId) bytes ≡ id
  pub payload : group_of n (embedded_at (field_of n field.NextHopGroupKeyNextHopGroup) bytes) ≡ group

group_entry_again : (n : Numbers) (id : ℕ) (group : RawGroup) → IsValid n → id < 2 ^ 64 → IsGroup group → length (group_entry n id (group_whole n group)) < 2 ^ 64
    → GroupAgain n id group (group_entry n id (group_whole n group))
group_entry_again n id group valid low h fits =
    let a = field_of n field.NextHopGroupKeyId in
    let e = field_of n field.NextHopGroupKeyNextHopGroup in
    let payload = group_whole n group in
    let back = back_fits (nonzero_uint_field a id) (bytes_field e payload) fits in
    let inside = inner_fits e payload back in
    let key = group_key n valid in
    let t = key_two n message.NextHopGroupKey message.NextHopGroup a e kind.Number (number_parts a id) payload key (number_bunch n kind.Number a id key.name low) back (group_clean n group valid h inside) in
    let is = payload_spelled e payload (number_parts a id) (nonzero_uint_field a id) (number_spelled a id) in
    record {
      clean = rw is (two_clean t);
      name = rw (is, number_said a (number_parts a id ++ Text e payload ∷ []) (two_legal t), first_nums t) (number_own a id);
      payload = rw (is, payload_said t) (group_said n group valid h inside);
    }

pub group_again : (n : Numbers) (id : ℕ) (group : RawGroup) → IsValid n → id < 2 ^ 64 → IsGroup group
    → length (raw_bytes n (entry.Group id group)) < 2 ^ 64 → IsReadAgain n entry_kind.Group (entry.Group id group)
group_again n id group valid low h fits = rw (group_is n group) (by (rw (← group_is n group) fits))
  where
    by : length (group_entry n id (group_whole n group)) < 2 ^ 64 → (first_fault n message.NextHopGroupKey (group_entry n id (group_whole n group)) ≡ None) × (entry_of n entry_kind.Group (group_entry n id (group_whole n group)) ≡ entry.Group id group)
    by fits =
        let all = group_entry_again n id group valid low h fits in
        (no_fault n message.NextHopGroupKey (group_entry n id (group_whole n group)) all.clean, rw (all.name, all.payload) refl)
