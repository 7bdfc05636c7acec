-- Messages of an answer to a Get are read again.
use Rattle.std.proofs.Common.{◌≡◌, ℕ, ◌+◌, ◌<◌, ◌≤◌, ◌^◌, Bool, true, false, eqb, List, [], ◌∷◌, ◌++◌, length, get_or, map, take, Option, Some, None, unwrap_or, refl, sym, subst, ap, ◌∙◌, arith}
use Rattle.std.specs.Prelude.{All, slice_index_or}
use Rattle.std.specs.List.{list_any, last_or}
use Rattle.std.specs.Option.{option_map}
use Rattle.std.specs.Str.{IsUtf8}
use Rattle.std.proofs.lemmas.Str.{is_utf8-from_IsUtf8}
use Rattle.std.proofs.lemmas.List.{append-nil, take_all}
use Rattle.std.proofs.lemmas.List.Elements.{All-head, All-tail, All-more}
use Rattle.proto_wire.specs.Written.{bytes_field, Text, encoded_fields}
use Rattle.schema_numbers.specs.Numbers.{Numbers, field_of, value_of}
use Rattle.schema_numbers.specs.Valid.{IsValid, are_distinct}
use Rattle.schema_numbers.specs.declared.names.FieldName.TheVariants as field
use Rattle.schema_numbers.specs.declared.names.ValueName.TheVariants as value
use Rattle.proto_schema.specs.declared.schema.MessageKind.TheVariants as message
use Rattle.proto_schema.specs.declared.schema.FieldKind.{FieldKind}
use Rattle.proto_schema.specs.declared.schema.FieldKind.TheVariants as kind
use Rattle.proto_schema.specs.Schema.{fields_of, kind_of}
use Rattle.proto_schema.specs.Legal.{first_fault}
use Rattle.proto_schema.specs.FieldValues.{number_at, repeated_at, oneof_after, oneof_at}
use Rattle.aft_entries.specs.Shapes.{fits}
use Rattle.aft_entries.specs.declared.key.KeyName.{KeyName}
use Rattle.aft_entries.specs.declared.key.KeyName.TheVariants as name
use Rattle.aft_entries.specs.declared.entry.Payload.{Payload}
use Rattle.aft_entries.specs.declared.entry.Payload.TheVariants as payload
use Rattle.aft_entries.specs.declared.operation.RawEntry.{RawEntry}
use Rattle.aft_entries.specs.declared.operation.RawEntry.TheVariants as entry
use Rattle.aft_entries.specs.declared.operation.Row.{Row}
use Rattle.aft_entries.specs.declared.operation.RawHop.{RawHop}
use Rattle.aft_entries.specs.declared.operation.RawGroup.{RawGroup}
use Rattle.aft_entries.specs.declared.operation.RawRoute.{RawRoute}
use Rattle.aft_messages.specs.Reading.{text_of, name_at}
use Rattle.aft_messages.specs.Writing.{nonzero_uint_field, nonempty_field, raw_bytes}
use Rattle.aft_messages.specs.Printing.{raw_hop, raw_group, raw_route, raw_from, raw_of}
use Rattle.aft_messages.specs.Encodable.{IsEncodable}
use Rattle.aft_messages.proofs.Again.{again}
use Rattle.aft_messages.proofs.Parts.{Each, Clean, Good, number_said, text_said, repeated_said}
use Rattle.aft_messages.proofs.FieldGroups.{same, differs, number_parts, number_spelled, number_own, number_bunch, filled_parts, filled_spelled, filled_text, filled_bunch}
use Rattle.aft_messages.proofs.Routes.{inner_fits, front_fits, back_fits, shorter}
use Rattle.aft_messages.proofs.RepeatedFields.{each_from, many_parts, many_bytes, many_spelled, many_own, many_bunch}
use Rattle.gribi_messages.specs.Rows.{row_members, row_entry, row_of, get_response, row_member, row_entry_field, fib_status_of, row_bytes, row_field, rows_bytes, row_as_read}
use Rattle.gribi_messages.specs.EncodableMessages.{IsEncodableRow}
use Rattle.gribi_messages.proofs.Schemas.{listed_at, distinct_at}
use Rattle.gribi_messages.proofs.Embedded.{apart}
use Rattle.gribi_messages.proofs.ReadAgain.{in_range}
use Rattle.gribi_messages.proofs.NoFault.{clean_from}
use Rattle.gribi_messages.proofs.SeveralFields.{Bunch, whole, whole_spelled, IsBunch, whole_legal, whole_clean, numbers_of, nums_at, bits_at, mems, chosen_said, mems_skip, mems_here, is_among, regroup4}
use Rattle.gribi_messages.proofs.RequestAgain.{value_fits}

-- ---- the entry of a row

abbrev numbers : Numbers → List ℕ
numbers n =
    field_of n field.AftEntryNetworkInstance ∷
    field_of n field.AftEntryIpv4 ∷
    field_of n field.AftEntryIpv6 ∷
    field_of n field.AftEntryMpls ∷
    field_of n field.AftEntryNextHopGroup ∷
    field_of n field.AftEntryNextHop ∷
    field_of n field.AftEntryRibStatus ∷
    field_of n field.AftEntryFibStatus ∷
    []

row_kind : (n : Numbers) → IsValid n → (i : ℕ) → i < 8 → kind_of n message.AftEntry (get_or (fields_of n message.AftEntry) i (0, kind.Unknown)).0 ≡ (get_or (fields_of n message.AftEntry) i (0, kind.Unknown)).1
unfolding kind_of
row_kind n valid i lt = listed_at (fields_of n message.AftEntry) i (0, kind.Unknown) (distinct_at n valid 9 (omega arith)) lt

above : (n : Numbers) → IsValid n → (i j : ℕ) → i < j → j < 8 → eqb (get_or (numbers n) j 0) (get_or (numbers n) i 0) ≡ false
above n valid i j lt le = apart (numbers n) i j 0 (distinct_at n valid 9 (omega arith)) lt le

-- what is known of the field of an entry
record IsHeld (n : Numbers) (number : ℕ) (e : RawEntry) : Type 0 where
  pub kind : FieldKind
  pub place : ℕ
  pub low : 1 ≤ place
  pub high : place < 6
  pub number_is : number ≡ get_or (numbers n) place 0
  pub kind_is : kind_of n message.AftEntry number ≡ kind
  pub range : (1 ≤ number) × (number < 2 ^ 29)
  pub good : Good n kind (Text number (raw_bytes n e))
  pub among : list_any (λ k. eqb k number) (row_members n) ≡ true
  pub read : row_entry n (number, raw_bytes n e) ≡ e

held_v4 : (n : Numbers) (text : List ℕ) (route : RawRoute) → IsValid n → IsEncodable (entry.V4 text route) → length (raw_bytes n (entry.V4 text route)) < 2 ^ 64 → IsHeld n (field_of n field.AftEntryIpv4) (entry.V4 text route)
held_v4 n text route valid h fit =
    let r = again n (entry.V4 text route) valid h fit in
    record {
      kind = kind.Message message.Ipv4EntryKey;
      place = 1;
      low = omega arith;
      high = omega arith;
      number_is = refl;
      kind_is = row_kind n valid 1 (omega arith);
      range = in_range n field.AftEntryIpv4 valid;
      good = clean_from n message.Ipv4EntryKey (raw_bytes n (entry.V4 text route)) r.0;
      among = is_among (row_members n) 0 0 (omega arith);
      read = rw (same (field_of n field.AftEntryIpv4)) r.1;
    }

held_v6 : (n : Numbers) (text : List ℕ) (route : RawRoute) → IsValid n → IsEncodable (entry.V6 text route) → length (raw_bytes n (entry.V6 text route)) < 2 ^ 64 → IsHeld n (field_of n field.AftEntryIpv6) (entry.V6 text route)
held_v6 n text route valid h fit =
    let r = again n (entry.V6 text route) valid h fit in
    let not_0 : eqb (field_of n field.AftEntryIpv6) (field_of n field.AftEntryIpv4) ≡ false = above n valid 1 2 (omega arith) (omega arith) in
    record {
      kind = kind.Message message.Ipv6EntryKey;
      place = 2;
      low = omega arith;
      high = omega arith;
      number_is = refl;
      kind_is = row_kind n valid 2 (omega arith);
      range = in_range n field.AftEntryIpv6 valid;
      good = clean_from n message.Ipv6EntryKey (raw_bytes n (entry.V6 text route)) r.0;
      among = is_among (row_members n) 1 0 (omega arith);
      read = rw (not_0, same (field_of n field.AftEntryIpv6)) r.1;
    }

held_label : (n : Numbers) (label : Option ℕ) (route : RawRoute) → IsValid n → IsEncodable (entry.Label label route) → length (raw_bytes n (entry.Label label route)) < 2 ^ 64 → IsHeld n (field_of n field.AftEntryMpls) (entry.Label label route)
held_label n label route valid h fit =
    let r = again n (entry.Label label route) valid h fit in
    let not_0 : eqb (field_of n field.AftEntryMpls) (field_of n field.AftEntryIpv4) ≡ false = above n valid 1 3 (omega arith) (omega arith) in
    let not_1 : eqb (field_of n field.AftEntryMpls) (field_of n field.AftEntryIpv6) ≡ false = above n valid 2 3 (omega arith) (omega arith) in
    record {
      kind = kind.Message message.LabelEntryKey;
      place = 3;
      low = omega arith;
      high = omega arith;
      number_is = refl;
      kind_is = row_kind n valid 3 (omega arith);
      range = in_range n field.AftEntryMpls valid;
      good = clean_from n message.LabelEntryKey (raw_bytes n (entry.Label label route)) r.0;
      among = is_among (row_members n) 2 0 (omega arith);
      read = rw (not_0, not_1, same (field_of n field.AftEntryMpls)) r.1;
    }

held_group : (n : Numbers) (id : ℕ) (group : RawGroup) → IsValid n → IsEncodable (entry.Group id group) → length (raw_bytes n (entry.Group id group)) < 2 ^ 64 → IsHeld n (field_of n field.AftEntryNextHopGroup) (entry.Group id group)
held_group n id group valid h fit =
    let r = again n (entry.Group id group) valid h fit in
    let not_0 : eqb (field_of n field.AftEntryNextHopGroup) (field_of n field.AftEntryIpv4) ≡ false = above n valid 1 4 (omega arith) (omega arith) in
    let not_1 : eqb (field_of n field.AftEntryNextHopGroup) (field_of n field.AftEntryIpv6) ≡ false = above n valid 2 4 (omega arith) (omega arith) in
    let not_2 : eqb (field_of n field.AftEntryNextHopGroup) (field_of n field.AftEntryMpls) ≡ false = above n valid 3 4 (omega arith) (omega arith) in
    record {
      kind = kind.Message message.NextHopGroupKey;
      place = 4;
      low = omega arith;
      high = omega arith;
      number_is = refl;
      kind_is = row_kind n valid 4 (omega arith);
      range = in_range n field.AftEntryNextHopGroup valid;
      good = clean_from n message.NextHopGroupKey (raw_bytes n (entry.Group id group)) r.0;
      among = is_among (row_members n) 3 0 (omega arith);
      read = rw (not_0, not_1, not_2, same (field_of n field.AftEntryNextHopGroup)) r.1;
    }

held_hop : (n : Numbers) (index : ℕ) (hop : RawHop) → IsValid n → IsEncodable (entry.Hop index hop) → length (raw_bytes n (entry.Hop index hop)) < 2 ^ 64 → IsHeld n (field_of n field.AftEntryNextHop) (entry.Hop index hop)
held_hop n index hop valid h fit =
    let r = again n (entry.Hop index hop) valid h fit in
    let not_0 : eqb (field_of n field.AftEntryNextHop) (field_of n field.AftEntryIpv4) ≡ false = above n valid 1 5 (omega arith) (omega arith) in
    let not_1 : eqb (field_of n field.AftEntryNextHop) (field_of n field.AftEntryIpv6) ≡ false = above n valid 2 5 (omega arith) (omega arith) in
    let not_2 : eqb (field_of n field.AftEntryNextHop) (field_of n field.AftEntryMpls) ≡ false = above n valid 3 5 (omega arith) (omega arith) in
    let not_3 : eqb (field_of n field.AftEntryNextHop) (field_of n field.AftEntryNextHopGroup) ≡ false = above n valid 4 5 (omega arith) (omega arith) in
    record {
      kind = kind.Message message.NextHopKey;
      place = 5;
      low = omega arith;
      high = omega arith;
      number_is = refl;
      kind_is = row_kind n valid 5 (omega arith);
      range = in_range n field.AftEntryNextHop valid;
      good = clean_from n message.NextHopKey (raw_bytes n (entry.Hop index hop)) r.0;
      among = is_among (row_members n) 4 0 (omega arith);
      read = rw (not_0, not_1, not_2, not_3) r.1;
    }

held : (n : Numbers) (names : List (List ℕ)) (key : KeyName) (p : Payload) → IsValid n → fits key p ≡ true → IsEncodable (raw_from names key p) → length (raw_bytes n (raw_from names key p)) < 2 ^ 64
    → IsHeld n (row_member n key) (raw_from names key p)
held n names (name.Hop index) (payload.Hop hop) valid is h fit = held_hop n index (raw_hop hop) valid h fit
held n names (name.Hop index) (payload.Group group) valid is h fit = cc
held n names (name.Hop index) (payload.Route route) valid is h fit = cc
held n names (name.Group id) (payload.Hop hop) valid is h fit = cc
held n names (name.Group id) (payload.Group group) valid is h fit = held_group n id (raw_group group) valid h fit
held n names (name.Group id) (payload.Route route) valid is h fit = cc
held n names (name.V4 prefix) (payload.Hop hop) valid is h fit = cc
held n names (name.V4 prefix) (payload.Group group) valid is h fit = cc
held n names (name.V4 prefix) (payload.Route route) valid is h fit = held_v4 n _ _ valid h fit
held n names (name.V6 prefix) (payload.Hop hop) valid is h fit = cc
held n names (name.V6 prefix) (payload.Group group) valid is h fit = cc
held n names (name.V6 prefix) (payload.Route route) valid is h fit = held_v6 n _ _ valid h fit
held n names (name.Label label) (payload.Hop hop) valid is h fit = cc
held n names (name.Label label) (payload.Group group) valid is h fit = cc
held n names (name.Label label) (payload.Route route) valid is h fit = held_label n (Some label) (raw_route names route) valid h fit

-- ---- a row

abbrev raw_in : List (List ℕ) → Row → RawEntry
raw_in names row = raw_of names row.entry

abbrev member_in_row : Numbers → Row → ℕ
member_in_row n row = row_member n row.entry.key.name

abbrev instance_in : List (List ℕ) → Row → List ℕ
instance_in names row = slice_index_or names row.entry.key.instance []

fib_fits : (n : Numbers) (installed : Bool) → IsValid n → fib_status_of n installed < 2 ^ 64
fib_fits n true valid = value_fits n value.EntryStatusProgrammed valid (omega arith)
fib_fits n false valid = value_fits n value.EntryStatusNotProgrammed valid (omega arith)

record RowFits (n : Numbers) (names : List (List ℕ)) (row : Row) : Type 0 where
  pub instance : length (instance_in names row) < 2 ^ 64
  pub entry : length (raw_bytes n (raw_in names row)) < 2 ^ 64

row_fits : (n : Numbers) (names : List (List ℕ)) (row : Row) → length (row_bytes n names row) < 2 ^ 64 → RowFits n names row
unfolding row_bytes row_entry_field
row_fits n names row fit =
    let a = nonempty_field (field_of n field.AftEntryNetworkInstance) (instance_in names row) in
    let b = bytes_field (member_in_row n row) (raw_bytes n (raw_in names row)) in
    let c = nonzero_uint_field (field_of n field.AftEntryRibStatus) (value_of n value.EntryStatusProgrammed) in
    let d = nonzero_uint_field (field_of n field.AftEntryFibStatus) (fib_status_of n row.installed) in
    let abc : length ((a ++ b) ++ c) < 2 ^ 64 = front_fits ((a ++ b) ++ c) d fit in
    let ab : length (a ++ b) < 2 ^ 64 = front_fits (a ++ b) c abc in
    record {
      instance = shorter (field_of n field.AftEntryNetworkInstance) (instance_in names row) (front_fits a b ab);
      entry = inner_fits (member_in_row n row) (raw_bytes n (raw_in names row)) (back_fits a b ab);
    }

bunches : Numbers → List (List ℕ) → FieldKind → Row → List Bunch
bunches n names k row =
    record { number = field_of n field.AftEntryNetworkInstance; kind = kind.Text; parts = filled_parts (field_of n field.AftEntryNetworkInstance) (instance_in names row) } ∷
    record { number = member_in_row n row; kind = k; parts = Text (member_in_row n row) (raw_bytes n (raw_in names row)) ∷ [] } ∷
    record { number = field_of n field.AftEntryRibStatus; kind = kind.Number; parts = number_parts (field_of n field.AftEntryRibStatus) (value_of n value.EntryStatusProgrammed) } ∷
    record { number = field_of n field.AftEntryFibStatus; kind = kind.Number; parts = number_parts (field_of n field.AftEntryFibStatus) (fib_status_of n row.installed) } ∷
    []

row_spelled : (n : Numbers) (names : List (List ℕ)) (k : FieldKind) (row : Row) → row_bytes n names row ≡ encoded_fields (whole (bunches n names k row))
unfolding row_bytes row_entry_field bunches
row_spelled n names k row =
    let a = nonempty_field (field_of n field.AftEntryNetworkInstance) (instance_in names row) in
    let b = bytes_field (member_in_row n row) (raw_bytes n (raw_in names row)) in
    let c = nonzero_uint_field (field_of n field.AftEntryRibStatus) (value_of n value.EntryStatusProgrammed) in
    let d = nonzero_uint_field (field_of n field.AftEntryFibStatus) (fib_status_of n row.installed) in
    let pa = filled_parts (field_of n field.AftEntryNetworkInstance) (instance_in names row) in
    let pc = number_parts (field_of n field.AftEntryRibStatus) (value_of n value.EntryStatusProgrammed) in
    let pd = number_parts (field_of n field.AftEntryFibStatus) (fib_status_of n row.installed) in
    regroup4 a b c d
    ∙ rw (
      filled_spelled (field_of n field.AftEntryNetworkInstance) (instance_in names row),
      number_spelled (field_of n field.AftEntryRibStatus) (value_of n value.EntryStatusProgrammed),
      number_spelled (field_of n field.AftEntryFibStatus) (fib_status_of n row.installed),
    ) (ap (λ (x : List ℕ). encoded_fields pa ++ (x ++ (encoded_fields pc ++ (encoded_fields pd ++ [])))) (sym (append-nil b)))
    ∙ sym (whole_spelled (bunches n names k row))

bunches_hold : (n : Numbers) (names : List (List ℕ)) (row : Row) → IsValid n → IsEncodableRow names row → RowFits n names row → (e : IsHeld n (member_in_row n row) (raw_in names row))
    → Each (IsBunch n message.AftEntry) (bunches n names e.kind row)
unfolding bunches
bunches_hold n names row valid h fit e =
    let instance = filled_bunch n kind.Text (field_of n field.AftEntryNetworkInstance) (instance_in names row) (in_range n field.AftEntryNetworkInstance valid) fit.instance (is_utf8-from_IsUtf8 (instance_in names row) h.instance) in
    let rib = number_bunch n kind.Number (field_of n field.AftEntryRibStatus) (value_of n value.EntryStatusProgrammed) (in_range n field.AftEntryRibStatus valid) (value_fits n value.EntryStatusProgrammed valid (omega arith)) in
    let fib = number_bunch n kind.Number (field_of n field.AftEntryFibStatus) (fib_status_of n row.installed) (in_range n field.AftEntryFibStatus valid) (fib_fits n row.installed valid) in
    ((row_kind n valid 0 (omega arith), instance), ((e.kind_is, (((e.range.0, e.range.1, fit.entry), refl, e.good), tt)), ((row_kind n valid 6 (omega arith), rib), ((row_kind n valid 7 (omega arith), fib), tt))))

four_distinct : (n : Numbers) (k : ℕ) → IsValid n → 1 ≤ k → k < 6
    → are_distinct (field_of n field.AftEntryNetworkInstance ∷ get_or (numbers n) k 0 ∷ field_of n field.AftEntryRibStatus ∷ field_of n field.AftEntryFibStatus ∷ []) ≡ true
four_distinct n k valid low high =
    rw (
      above n valid 0 k (omega arith) (omega arith),
      above n valid 0 6 (omega arith) (omega arith),
      above n valid 0 7 (omega arith) (omega arith),
      above n valid k 6 (omega arith) (omega arith),
      above n valid k 7 (omega arith) (omega arith),
      above n valid 6 7 (omega arith) (omega arith),
    ) refl

bunches_distinct : (n : Numbers) (names : List (List ℕ)) (row : Row) → IsValid n → (e : IsHeld n (member_in_row n row) (raw_in names row)) → are_distinct (numbers_of (bunches n names e.kind row)) ≡ true
unfolding bunches
bunches_distinct n names row valid e = rw (e.number_is) (four_distinct n e.place valid e.low e.high)

-- a number before the members, and those behind them, are none of theirs
before : (n : Numbers) → IsValid n → list_any (λ k. eqb k (field_of n field.AftEntryNetworkInstance)) (row_members n) ≡ false
before n valid =
    rw (
      above n valid 0 1 (omega arith) (omega arith),
      above n valid 0 2 (omega arith) (omega arith),
      above n valid 0 3 (omega arith) (omega arith),
      above n valid 0 4 (omega arith) (omega arith),
      above n valid 0 5 (omega arith) (omega arith),
    ) refl

below : (n : Numbers) (i j : ℕ) → IsValid n → i < j → j < 8 → eqb (get_or (numbers n) i 0) (get_or (numbers n) j 0) ≡ false
below n i j valid lt le = differs (get_or (numbers n) i 0) (get_or (numbers n) j 0) (above n valid i j lt le)

behind : (n : Numbers) (j : ℕ) → IsValid n → 5 < j → j < 8 → list_any (λ k. eqb k (get_or (numbers n) j 0)) (row_members n) ≡ false
behind n j valid lt le =
    rw (
      below n 1 j valid (omega arith) le,
      below n 2 j valid (omega arith) le,
      below n 3 j valid (omega arith) le,
      below n 4 j valid (omega arith) le,
      below n 5 j valid (omega arith) le,
    ) refl

none : Bunch
none = record { number = 0; kind = kind.Unknown; parts = [] }

-- what is heard of the oneof is in the entry's own field
entry_scanned : (n : Numbers) (names : List (List ℕ)) (k : FieldKind) (row : Row) → IsValid n → Each (IsBunch n message.AftEntry) (bunches n names k row)
    → mems (row_members n) (whole (bunches n names k row)) ≡ mems (row_members n) (Text (member_in_row n row) (raw_bytes n (raw_in names row)) ∷ [])
unfolding bunches
entry_scanned n names k row valid each =
    let m = message.AftEntry in
    let among = row_members n in
    let a : Bunch = record { number = field_of n field.AftEntryNetworkInstance; kind = kind.Text; parts = filled_parts (field_of n field.AftEntryNetworkInstance) (instance_in names row) } in
    let b : Bunch = record { number = member_in_row n row; kind = k; parts = Text (member_in_row n row) (raw_bytes n (raw_in names row)) ∷ [] } in
    let c : Bunch = record { number = field_of n field.AftEntryRibStatus; kind = kind.Number; parts = number_parts (field_of n field.AftEntryRibStatus) (value_of n value.EntryStatusProgrammed) } in
    let d : Bunch = record { number = field_of n field.AftEntryFibStatus; kind = kind.Number; parts = number_parts (field_of n field.AftEntryFibStatus) (fib_status_of n row.installed) } in
    mems_skip n m among a (b ∷ c ∷ d ∷ []) each.0 (before n valid)
    ∙ mems_here n m among b (c ∷ d ∷ []) each.1.1 (behind n 6 valid (omega arith) (omega arith), (behind n 7 valid (omega arith) (omega arith), tt))

record RowAgain (n : Numbers) (names : List (List ℕ)) (row : Row) (bytes : List ℕ) : Type 0 where
  pub clean : Clean n message.AftEntry bytes
  pub instance : name_at (field_of n field.AftEntryNetworkInstance) bytes ≡ instance_in names row
  pub entry : option_map (row_entry n) (oneof_at (row_members n) bytes) ≡ Some (raw_in names row)
  pub rib : number_at (field_of n field.AftEntryRibStatus) bytes ≡ value_of n value.EntryStatusProgrammed
  pub fib : number_at (field_of n field.AftEntryFibStatus) bytes ≡ fib_status_of n row.installed

row_parts_again : (n : Numbers) (names : List (List ℕ)) (row : Row) → IsValid n → IsEncodableRow names row → RowFits n names row → (e : IsHeld n (member_in_row n row) (raw_in names row))
    → RowAgain n names row (encoded_fields (whole (bunches n names e.kind row)))
unfolding bunches text_of
row_parts_again n names row valid h fit e =
    let m = message.AftEntry in
    let bs = bunches n names e.kind row in
    let each = bunches_hold n names row valid h fit e in
    let legal = whole_legal n m bs each in
    let apart_ = bunches_distinct n names row valid e in
    let a = field_of n field.AftEntryNetworkInstance in
    let c = field_of n field.AftEntryRibStatus in
    let d = field_of n field.AftEntryFibStatus in
    let one : mems (row_members n) (Text (member_in_row n row) (raw_bytes n (raw_in names row)) ∷ []) ≡ (member_in_row n row, raw_bytes n (raw_in names row)) ∷ [] = rw (e.among) refl in
    record {
      clean = whole_clean n m bs each;
      instance = ap text_of (text_said a (whole bs) legal ∙ ap (λ (x : List (List ℕ)). unwrap_or (last_or None x) []) (bits_at n m bs 0 none apart_ each (omega arith)) ∙ filled_text a (instance_in names row)) ∙ rw (is_utf8-from_IsUtf8 (instance_in names row) h.instance) refl;
      entry = ap (option_map (row_entry n)) (chosen_said (row_members n) (whole bs) legal ∙ ap (oneof_after None) (entry_scanned n names e.kind row valid each ∙ one)) ∙ ap Some e.read;
      rib = number_said c (whole bs) legal ∙ ap (λ (x : List ℕ). unwrap_or (last_or None x) 0) (nums_at n m bs 2 none apart_ each (omega arith)) ∙ number_own c (value_of n value.EntryStatusProgrammed);
      fib = number_said d (whole bs) legal ∙ ap (λ (x : List ℕ). unwrap_or (last_or None x) 0) (nums_at n m bs 3 none apart_ each (omega arith)) ∙ number_own d (fib_status_of n row.installed);
    }

row_again : (n : Numbers) (names : List (List ℕ)) (row : Row) → IsValid n → IsEncodableRow names row → length (row_bytes n names row) < 2 ^ 64 → RowAgain n names row (row_bytes n names row)
row_again n names row valid h fit =
    let short = row_fits n names row fit in
    let e = held n names row.entry.key.name row.entry.payload valid h.fits h.sent short.entry in
    rw (row_spelled n names e.kind row) (row_parts_again n names row valid h short e)

row_clean : (n : Numbers) (names : List (List ℕ)) → IsValid n → (row : Row) → IsEncodableRow names row → length (row_bytes n names row) < 2 ^ 64 → Clean n message.AftEntry (row_bytes n names row)
row_clean n names valid row h fit = (row_again n names row valid h fit).clean

row_read : (n : Numbers) (names : List (List ℕ)) (row : Row) → IsValid n → IsEncodableRow names row → length (row_bytes n names row) < 2 ^ 64 → row_of n (row_bytes n names row) ≡ row_as_read n names row
unfolding row_of row_as_read
row_read n names row valid h fit =
    let r = row_again n names row valid h fit in
    rw (r.instance, r.entry, r.rib, r.fib) refl

-- ---- rows

abbrev row_number : Numbers → ℕ
row_number n = field_of n field.GetResponseEntry

rows_are : (n : Numbers) (names : List (List ℕ)) (rows : List Row) → rows_bytes n names rows ≡ many_bytes (row_number n) (row_bytes n names) rows
unfolding rows_bytes row_field
rows_are n names rows = refl

rows_read : (n : Numbers) (names : List (List ℕ)) (rows : List Row) → IsValid n → All (IsEncodableRow names) rows → length (many_bytes (row_number n) (row_bytes n names) rows) < 2 ^ 64
    → map (row_of n) (map (row_bytes n names) rows) ≡ map (row_as_read n names) rows
rows_read n names [] valid h fit = refl
rows_read n names (row ∷ rows) valid h fit =
    let first = bytes_field (row_number n) (row_bytes n names row) in
    let others = many_bytes (row_number n) (row_bytes n names) rows in
    let short = inner_fits (row_number n) (row_bytes n names row) (front_fits first others fit) in
    rw (row_read n names row valid (All-head (IsEncodableRow names) row rows h) short, rows_read n names rows valid (All-tail (IsEncodableRow names) row rows h) (back_fits first others fit)) refl

get_kind : (n : Numbers) → IsValid n → kind_of n message.GetResponse (row_number n) ≡ kind.Message message.AftEntry
unfolding kind_of
get_kind n valid = listed_at (fields_of n message.GetResponse) 0 (0, kind.Unknown) (distinct_at n valid 8 (omega arith)) (omega arith)

response_bunches : Numbers → List (List ℕ) → List Row → List Bunch
response_bunches n names rows = record { number = row_number n; kind = kind.Message message.AftEntry; parts = many_parts (row_number n) (row_bytes n names) rows } ∷ []

response_spelled : (n : Numbers) (names : List (List ℕ)) (rows : List Row) → many_bytes (row_number n) (row_bytes n names) rows ≡ encoded_fields (whole (response_bunches n names rows))
unfolding response_bunches
response_spelled n names rows =
    many_spelled (row_number n) (row_bytes n names) rows ∙ sym (append-nil (encoded_fields (many_parts (row_number n) (row_bytes n names) rows))) ∙ sym (whole_spelled (response_bunches n names rows))

response_hold : (n : Numbers) (names : List (List ℕ)) (rows : List Row) → IsValid n → All (IsEncodableRow names) rows → length (many_bytes (row_number n) (row_bytes n names) rows) < 2 ^ 64
    → Each (IsBunch n message.GetResponse) (response_bunches n names rows)
unfolding response_bunches
response_hold n names rows valid h fit =
    let all = many_bunch n message.AftEntry (row_number n) (row_bytes n names) (IsEncodableRow names) (row_clean n names valid) (in_range n field.GetResponseEntry valid) rows (each_from (IsEncodableRow names) rows h) fit in
    ((get_kind n valid, all), tt)

record RowsAgain (n : Numbers) (names : List (List ℕ)) (rows : List Row) (bytes : List ℕ) : Type 0 where
  pub clean : Clean n message.GetResponse bytes
  pub read : map (row_of n) (repeated_at (row_number n) bytes) ≡ map (row_as_read n names) rows

response_parts_again : (n : Numbers) (names : List (List ℕ)) (rows : List Row) → IsValid n → All (IsEncodableRow names) rows → length (many_bytes (row_number n) (row_bytes n names) rows) < 2 ^ 64
    → RowsAgain n names rows (encoded_fields (whole (response_bunches n names rows)))
unfolding response_bunches
response_parts_again n names rows valid h fit =
    let m = message.GetResponse in
    let bs = response_bunches n names rows in
    let each = response_hold n names rows valid h fit in
    let legal = whole_legal n m bs each in
    let apart_ : are_distinct (numbers_of bs) ≡ true = distinct_at n valid 8 (omega arith) in
    let a = row_number n in
    record {
      clean = whole_clean n m bs each;
      read = ap (map (row_of n)) (repeated_said a (whole bs) legal ∙ bits_at n m bs 0 none apart_ each (omega arith) ∙ many_own a (row_bytes n names) rows) ∙ rows_read n names rows valid h fit;
    }

pub get_response_again : (n : Numbers) (names : List (List ℕ)) (rows : List Row) → IsValid n → All (IsEncodableRow names) rows → length (rows_bytes n names rows) < 2 ^ 64
    → (first_fault n message.GetResponse (rows_bytes n names rows) ≡ None) × (get_response n (rows_bytes n names rows) ≡ record { rows = map (row_as_read n names) rows })
unfolding first_fault get_response
get_response_again n names rows valid h fits_ =
    let short : length (many_bytes (row_number n) (row_bytes n names) rows) < 2 ^ 64 = rw (← rows_are n names rows) fits_ in
    let t : RowsAgain n names rows (rows_bytes n names rows) = rw (rows_are n names rows, response_spelled n names rows) (response_parts_again n names rows valid h short) in
    (t.clean 6 0, rw (t.read) refl)

-- ---- what is written

pub row_is : (names : List (List ℕ)) (row : Row) (name : List ℕ) → fits row.entry.key.name row.entry.payload ≡ true → IsEncodable (raw_of names row.entry) → name ≡ slice_index_or names row.entry.key.instance [] → IsUtf8 name → IsEncodableRow names row
row_is names row name fit sent is utf8 = record { fits = fit; sent = sent; instance = subst IsUtf8 is utf8 }

pub rows_more : (names : List (List ℕ)) (rows : List Row) (i : ℕ) (row : Row) → i < length rows → row ≡ get_or rows i row → All (IsEncodableRow names) (take i rows) → IsEncodableRow names row → All (IsEncodableRow names) (take (i + 1) rows)
rows_more names rows i row lt is before one = All-more (IsEncodableRow names) rows i row lt before (subst (IsEncodableRow names) is one)

pub rows_all : (names : List (List ℕ)) (rows : List Row) (i : ℕ) → length rows ≤ i → All (IsEncodableRow names) (take i rows) → All (IsEncodableRow names) rows
rows_all names rows i le all = subst (All (IsEncodableRow names)) (take_all i rows le) all

pub written_again : (n : Numbers) (names : List (List ℕ)) (rows : List Row) (start bytes : List ℕ) → IsValid n → All (IsEncodableRow names) rows → start ≡ [] → bytes ≡ start ++ rows_bytes n names rows → length bytes < 2 ^ 64
    → (first_fault n message.GetResponse bytes ≡ None) × (get_response n bytes ≡ record { rows = map (row_as_read n names) rows })
written_again n names rows start bytes valid all empty is fits_ =
    let same : bytes ≡ rows_bytes n names rows = rw (is, empty) refl in
    rw same (get_response_again n names rows valid all (subst (λ (x : List ℕ). length x < 2 ^ 64) same fits_))
