-- The schema has no message in messages to a depth of more than six.
use Rattle.std.proofs.Common.{◌≡◌, ℕ, zero, suc, ◌+◌, ◌-◌, ◌≤◌, Bool, true, false, List, [], ◌∷◌, length, Option, refl, arith}
use Rattle.std.specs.Prelude.{nat_le, ◌==◌, cond}
use Rattle.std.specs.List.{list_all}
use Rattle.std.proofs.lemmas.Bool.{and_parts, leb-true}
use Rattle.proto_wire.specs.Wire.{Value, Varint, Eight, Bytes, Four}
use Rattle.proto_wire.specs.Fields.{FieldSpan, fields_from}
use Rattle.schema_numbers.specs.Numbers.{Numbers}
use Rattle.proto_schema.specs.declared.schema.MessageKind.{MessageKind}
use Rattle.proto_schema.specs.declared.schema.MessageKind.TheVariants as message
use Rattle.proto_schema.specs.declared.schema.FieldKind.{FieldKind}
use Rattle.proto_schema.specs.declared.schema.FieldKind.TheVariants.{Unknown, Number, Text, Unread, Message}
use Rattle.proto_schema.specs.declared.legal.MessageFault.{MessageFault}
use Rattle.proto_schema.specs.Schema.{fields_of, listed, kind_of}
use Rattle.proto_schema.specs.Legal.{NestedCheck, fault_of_bytes, fault_of_value, fault_of_fields, wire_fault, unchecked, fault_within}

-- how deep messages stand in a message
abbrev pub height : MessageKind → ℕ
height message.ModifyRequest = 6
height message.AftOperation = 5
height message.SessionParameters = 0
height message.Uint128 = 0
height message.ModifyResponse = 1
height message.AftResult = 0
height message.SessionParametersResult = 0
height message.GetRequest = 1
height message.GetResponse = 6
height message.AftEntry = 5
height message.FlushRequest = 1
height message.FlushResponse = 0
height message.ModifyRpcErrorDetails = 0
height message.Ipv4EntryKey = 2
height message.Ipv6EntryKey = 2
height message.LabelEntryKey = 2
height message.Ipv4Leaves = 1
height message.Ipv6Leaves = 1
height message.LabelLeaves = 1
height message.NextHopGroupKey = 4
height message.NextHopGroup = 3
height message.MemberKey = 2
height message.MemberLeaves = 1
height message.NextHopKey = 3
height message.NextHop = 2
height message.InterfaceRef = 1
height message.IpInIp = 1
height message.PushedLabel = 0
height message.UintValue = 0
height message.StringValue = 0
height message.Empty = 0

-- how deep messages stand behind a field, itself counted
abbrev pub reach : FieldKind → ℕ
reach Unknown = 0
reach Number = 0
reach Text = 0
reach Unread = 0
reach (Message m) = suc (height m)

listed_reach : (number most : ℕ) (rows : List (ℕ × FieldKind)) → list_all (λ row. nat_le (reach row.1) most) rows ≡ true → reach (listed number rows) ≤ most
listed_reach number most [] h = omega arith
listed_reach number most (row ∷ rows) h =
    let parts = and_parts (nat_le (reach row.1) most) (list_all (λ r. nat_le (reach r.1) most) rows) h in
    either (number == row.0) (leb-true (reach row.1) most parts.0) (listed_reach number most rows parts.1)
  where
    either : (b : Bool) → reach row.1 ≤ most → reach (listed number rows) ≤ most → reach (cond b row.1 (listed number rows)) ≤ most
    either true yes_ other = yes_
    either false yes_ other = other

rows_reach : (n : Numbers) (m : MessageKind) → list_all (λ row. nat_le (reach row.1) (height m)) (fields_of n m) ≡ true
rows_reach n message.ModifyRequest = refl
rows_reach n message.AftOperation = refl
rows_reach n message.SessionParameters = refl
rows_reach n message.Uint128 = refl
rows_reach n message.ModifyResponse = refl
rows_reach n message.AftResult = refl
rows_reach n message.SessionParametersResult = refl
rows_reach n message.GetRequest = refl
rows_reach n message.GetResponse = refl
rows_reach n message.AftEntry = refl
rows_reach n message.FlushRequest = refl
rows_reach n message.FlushResponse = refl
rows_reach n message.ModifyRpcErrorDetails = refl
rows_reach n message.Ipv4EntryKey = refl
rows_reach n message.Ipv6EntryKey = refl
rows_reach n message.LabelEntryKey = refl
rows_reach n message.Ipv4Leaves = refl
rows_reach n message.Ipv6Leaves = refl
rows_reach n message.LabelLeaves = refl
rows_reach n message.NextHopGroupKey = refl
rows_reach n message.NextHopGroup = refl
rows_reach n message.MemberKey = refl
rows_reach n message.MemberLeaves = refl
rows_reach n message.NextHopKey = refl
rows_reach n message.NextHop = refl
rows_reach n message.InterfaceRef = refl
rows_reach n message.IpInIp = refl
rows_reach n message.PushedLabel = refl
rows_reach n message.UintValue = refl
rows_reach n message.StringValue = refl
rows_reach n message.Empty = refl

kind_reach : (n : Numbers) (m : MessageKind) (number : ℕ) → reach (kind_of n m number) ≤ height m
unfolding kind_of
kind_reach n m number = listed_reach number (height m) (fields_of n m) (rows_reach n m)

-- two ways to look into the messages up to this height
abbrev pub Agree : ℕ → NestedCheck → NestedCheck → Type 0
Agree most f g = (m : MessageKind) (base : ℕ) (bytes : List ℕ) → suc (height m) ≤ most → f m base bytes ≡ g m base bytes

same_bytes : (most : ℕ) (f g : NestedCheck) → Agree most f g → (kind : FieldKind) (place base : ℕ) (bytes : List ℕ) → reach kind ≤ most
    → fault_of_bytes f kind place base bytes ≡ fault_of_bytes g kind place base bytes
same_bytes most f g h Unknown place base bytes le = refl
same_bytes most f g h Number place base bytes le = refl
same_bytes most f g h Text place base bytes le = refl
same_bytes most f g h Unread place base bytes le = refl
same_bytes most f g h (Message m) place base bytes le = h m base bytes le

same_value : (most : ℕ) (f g : NestedCheck) → Agree most f g → (kind : FieldKind) (place ending : ℕ) (value : Value) → reach kind ≤ most
    → fault_of_value f kind place ending value ≡ fault_of_value g kind place ending value
same_value most f g h kind place ending (Varint v) le = refl
same_value most f g h kind place ending (Eight v) le = refl
same_value most f g h kind place ending (Bytes bytes) le = same_bytes most f g h kind place (ending - length bytes) bytes le
same_value most f g h kind place ending (Four v) le = refl

same_fields : (most : ℕ) (f g : NestedCheck) → Agree most f g → (kinds : ℕ → FieldKind) → ((number : ℕ) → reach (kinds number) ≤ most)
    → (fs : List FieldSpan) (end : Option MessageFault) → fault_of_fields f kinds fs end ≡ fault_of_fields g kinds fs end
same_fields most f g h kinds le [] end = refl
same_fields most f g h kinds le (x ∷ fs) end =
    rw (same_value most f g h (kinds x.number) x.place x.ending x.value (le x.number), same_fields most f g h kinds le fs end) refl

-- looking deeper than a message goes finds the same
pub deeper_same : (d e : ℕ) (n : Numbers) (m : MessageKind) (base : ℕ) (bytes : List ℕ) → height m ≤ d → height m ≤ e → fault_within d n m base bytes ≡ fault_within e n m base bytes
unfolding fault_within
deeper_same zero zero n m base bytes p q = refl
deeper_same zero (suc e) n m base bytes p q =
    same_fields (height m) unchecked (fault_within e n) (λ k at inner le. absurd (omega arith)) (kind_of n m) (kind_reach n m) (fields_from base bytes).fields (wire_fault (fields_from base bytes).fault)
deeper_same (suc d) zero n m base bytes p q =
    same_fields (height m) (fault_within d n) unchecked (λ k at inner le. absurd (omega arith)) (kind_of n m) (kind_reach n m) (fields_from base bytes).fields (wire_fault (fields_from base bytes).fault)
deeper_same (suc d) (suc e) n m base bytes p q =
    same_fields (height m) (fault_within d n) (fault_within e n) (λ k at inner le. deeper_same d e n k at inner (omega arith) (omega arith)) (kind_of n m) (kind_reach n m) (fields_from base bytes).fields (wire_fault (fields_from base bytes).fault)

height_bound : (m : MessageKind) → height m ≤ 6
height_bound message.ModifyRequest = omega arith
height_bound message.AftOperation = omega arith
height_bound message.SessionParameters = omega arith
height_bound message.Uint128 = omega arith
height_bound message.ModifyResponse = omega arith
height_bound message.AftResult = omega arith
height_bound message.SessionParametersResult = omega arith
height_bound message.GetRequest = omega arith
height_bound message.GetResponse = omega arith
height_bound message.AftEntry = omega arith
height_bound message.FlushRequest = omega arith
height_bound message.FlushResponse = omega arith
height_bound message.ModifyRpcErrorDetails = omega arith
height_bound message.Ipv4EntryKey = omega arith
height_bound message.Ipv6EntryKey = omega arith
height_bound message.LabelEntryKey = omega arith
height_bound message.Ipv4Leaves = omega arith
height_bound message.Ipv6Leaves = omega arith
height_bound message.LabelLeaves = omega arith
height_bound message.NextHopGroupKey = omega arith
height_bound message.NextHopGroup = omega arith
height_bound message.MemberKey = omega arith
height_bound message.MemberLeaves = omega arith
height_bound message.NextHopKey = omega arith
height_bound message.NextHop = omega arith
height_bound message.InterfaceRef = omega arith
height_bound message.IpInIp = omega arith
height_bound message.PushedLabel = omega arith
height_bound message.UintValue = omega arith
height_bound message.StringValue = omega arith
height_bound message.Empty = omega arith

pub six_is_enough : (more : ℕ) (n : Numbers) (m : MessageKind) (base : ℕ) (bytes : List ℕ) → fault_within (6 + more) n m base bytes ≡ fault_within 6 n m base bytes
six_is_enough more n m base bytes =
    let low : height m ≤ 6 = height_bound m in
    deeper_same (6 + more) 6 n m base bytes (omega arith) low
