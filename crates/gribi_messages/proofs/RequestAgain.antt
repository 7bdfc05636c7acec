-- Requests of a Modify are read again.
use Rattle.std.proofs.Common.{◌≡◌, ℕ, ◌<◌, ◌≤◌, ◌^◌, true, false, eqb, List, [], ◌∷◌, ◌++◌, length, get_or, map, Option, Some, None, unwrap_or, refl, sym, ap, ◌∙◌, arith}
use Rattle.std.specs.Prelude.{All, IfSome, is_some}
use Rattle.std.specs.List.{flat_map, list_any, last_or}
use Rattle.std.specs.Option.{option_map, option_map_or}
use Rattle.std.proofs.lemmas.Str.{is_utf8-from_IsUtf8}
use Rattle.std.proofs.lemmas.Bool.{leb-true}
use Rattle.std.proofs.lemmas.List.{append-nil}
use Rattle.proto_wire.specs.Written.{bytes_field, WrittenField, Text, encoded_fields}
use Rattle.schema_numbers.specs.Numbers.{Numbers, field_of, value_of}
use Rattle.schema_numbers.specs.Places.{value_place}
use Rattle.schema_numbers.specs.Valid.{IsValid, is_enumerator_number, are_distinct, enumerations}
use Rattle.schema_numbers.specs.declared.names.FieldName.{FieldName}
use Rattle.schema_numbers.specs.declared.names.FieldName.TheVariants as field
use Rattle.schema_numbers.specs.declared.names.ValueName.{ValueName}
use Rattle.schema_numbers.specs.declared.names.ValueName.TheVariants as value
use Rattle.schema_numbers.proofs.Ranges.{passes}
use Rattle.proto_schema.specs.declared.schema.MessageKind.TheVariants as message
use Rattle.proto_schema.specs.declared.schema.FieldKind.{FieldKind}
use Rattle.proto_schema.specs.declared.schema.FieldKind.TheVariants as kind
use Rattle.proto_schema.specs.Schema.{fields_of, kind_of}
use Rattle.proto_schema.specs.Legal.{first_fault}
use Rattle.proto_schema.specs.FieldValues.{number_at, message_at, repeated_at, oneof_after, oneof_at, merged_onto}
use Rattle.proto_schema.proofs.Depth.{deeper_same}
use Rattle.aft_entries.specs.declared.operation.Op.{Op}
use Rattle.aft_entries.specs.declared.operation.Op.TheVariants as op
use Rattle.aft_entries.specs.declared.operation.RawEntry.{RawEntry}
use Rattle.aft_entries.specs.declared.operation.RawEntry.TheVariants as entry
use Rattle.aft_entries.specs.declared.operation.RawOperation.{RawOperation}
use Rattle.aft_messages.specs.Reading.{text_of, name_at}
use Rattle.aft_messages.specs.Writing.{nonzero_uint_field, nonempty_field, raw_bytes}
use Rattle.aft_messages.specs.Encodable.{IsEncodable}
use Rattle.aft_messages.proofs.Again.{again}
use Rattle.aft_messages.proofs.Parts.{Each, bits, Clean, Good, number_said, text_said, message_said, repeated_said}
use Rattle.aft_messages.proofs.FieldGroups.{same, differs, InBunch, number_parts, number_spelled, number_own, number_bunch, filled_parts, filled_spelled, filled_text, filled_bunch, option_parts, option_message}
use Rattle.aft_messages.proofs.Routes.{inner_fits, front_fits, back_fits, shorter}
use Rattle.aft_messages.proofs.RepeatedFields.{each_from, many_parts, many_bytes, many_spelled, many_own, many_bunch, many_said}
use Rattle.gribi_messages.specs.declared.request.RawParams.{RawParams}
use Rattle.gribi_messages.specs.declared.request.ModifyRequest.{ModifyRequest}
use Rattle.gribi_messages.specs.Request.{params_of, uint128_of, op_of, entry_members, member_entry, operation_of, modify_request}
use Rattle.gribi_messages.specs.Response.{uint128_bytes}
use Rattle.gribi_messages.specs.RequestEncoding.{op_number, member_number, entry_field, id_field, operation_bytes, operation_field, params_bytes, request_params_field, request_bytes}
use Rattle.gribi_messages.specs.EncodableMessages.{IsEncodableOperation, IsEncodableParams, IsEncodableRequest}
use Rattle.gribi_messages.proofs.Schemas.{listed_at, distinct_at, all_at}
use Rattle.gribi_messages.proofs.Embedded.{apart, id_read, id_sound}
use Rattle.gribi_messages.proofs.ReadAgain.{Rows, keys, rows_bytes, IsFitting, row_read, no_fault_in_rows, in_range, two_fit}
use Rattle.std.proofs.lemmas.List.Elements.{All-cons}
use Rattle.gribi_messages.proofs.NoFault.{clean_from}
use Rattle.gribi_messages.proofs.SeveralFields.{Bunch, whole, whole_spelled, IsBunch, whole_legal, whole_clean, numbers_of, nums_at, bits_at, mems, chosen_said, mems_skip, mems_here, is_among, regroup3, regroup5}

-- ---- enumerators

pub value_fits : (n : Numbers) (name : ValueName) → IsValid n → value_place name < 28 → value_of n name < 2 ^ 64
unfolding value_of
value_fits n name valid lt =
    let low : value_of n name ≤ 2147483647 = leb-true (value_of n name) 2147483647 (passes is_enumerator_number n.values (value_place name) 0 valid.values_in_range (omega (arith, valid.each_value, lt))) in
    omega (arith, low)

op_fits : (n : Numbers) (o : Option Op) → IsValid n → op_number n o < 2 ^ 64
op_fits n None valid = omega arith
op_fits n (Some op.Add) valid = value_fits n value.OpAdd valid (omega arith)
op_fits n (Some op.Replace) valid = value_fits n value.OpReplace valid (omega arith)
op_fits n (Some op.Delete) valid = value_fits n value.OpDelete valid (omega arith)

op_again : (n : Numbers) (o : Option Op) → IsValid n → is_some o ≡ true → op_of n (op_number n o) ≡ o
op_again n o valid h = by o h
  where
    ops : List ℕ
    ops = map (value_of n) (value.OpAdd ∷ value.OpReplace ∷ value.OpDelete ∷ [])

    distinct : are_distinct (map (value_of n) (value.OpAdd ∷ value.OpReplace ∷ value.OpDelete ∷ [])) ≡ true
    distinct = all_at (λ e. are_distinct (map (value_of n) e)) enumerations 0 [] valid.values_distinct (omega arith)

    add : ℕ
    add = value_of n value.OpAdd

    by : (o : Option Op) → is_some o ≡ true → op_of n (op_number n o) ≡ o
    by None h = cc
    by (Some op.Add) h = rw (same (value_of n value.OpAdd)) refl
    by (Some op.Replace) h =
        let a : eqb (value_of n value.OpReplace) (value_of n value.OpAdd) ≡ false = apart (map (value_of n) (value.OpAdd ∷ value.OpReplace ∷ value.OpDelete ∷ [])) 0 1 0 distinct (omega arith) (omega arith) in
        rw (a, same (value_of n value.OpReplace)) refl
    by (Some op.Delete) h =
        let a : eqb (value_of n value.OpDelete) (value_of n value.OpAdd) ≡ false = apart (map (value_of n) (value.OpAdd ∷ value.OpReplace ∷ value.OpDelete ∷ [])) 0 2 0 distinct (omega arith) (omega arith) in
        let b : eqb (value_of n value.OpDelete) (value_of n value.OpReplace) ≡ false = apart (map (value_of n) (value.OpAdd ∷ value.OpReplace ∷ value.OpDelete ∷ [])) 1 2 0 distinct (omega arith) (omega arith) in
        rw (a, b, same (value_of n value.OpDelete)) refl

-- ---- the entry of an operation

abbrev numbers : Numbers → List ℕ
numbers n =
    field_of n field.AftOperationId ∷
    field_of n field.AftOperationNetworkInstance ∷
    field_of n field.AftOperationOp ∷
    field_of n field.AftOperationIpv4 ∷
    field_of n field.AftOperationIpv6 ∷
    field_of n field.AftOperationMpls ∷
    field_of n field.AftOperationNextHopGroup ∷
    field_of n field.AftOperationNextHop ∷
    field_of n field.AftOperationMacAddress ∷
    field_of n field.AftOperationPolicyForwardingEntry ∷
    field_of n field.AftOperationElectionId ∷
    []

numbers_distinct : (n : Numbers) → IsValid n → are_distinct (numbers n) ≡ true
numbers_distinct n valid = distinct_at n valid 1 (omega arith)

operation_kind : (n : Numbers) → IsValid n → (i : ℕ) → i < 11 → kind_of n message.AftOperation (get_or (fields_of n message.AftOperation) i (0, kind.Unknown)).0 ≡ (get_or (fields_of n message.AftOperation) i (0, kind.Unknown)).1
unfolding kind_of
operation_kind n valid i lt = listed_at (fields_of n message.AftOperation) i (0, kind.Unknown) (distinct_at n valid 1 (omega arith)) lt

-- where the member of an entry stands among the numbers
abbrev place_of : RawEntry → ℕ
place_of (entry.V4 prefix route) = 3
place_of (entry.V6 prefix route) = 4
place_of (entry.Label label route) = 5
place_of (entry.Group id group) = 6
place_of (entry.Hop index hop) = 7
place_of entry.Mac = 8
place_of entry.Policy = 9

abbrev kind_in : RawEntry → FieldKind
kind_in (entry.V4 prefix route) = kind.Message message.Ipv4EntryKey
kind_in (entry.V6 prefix route) = kind.Message message.Ipv6EntryKey
kind_in (entry.Label label route) = kind.Message message.LabelEntryKey
kind_in (entry.Group id group) = kind.Message message.NextHopGroupKey
kind_in (entry.Hop index hop) = kind.Message message.NextHopKey
kind_in entry.Mac = kind.Unread
kind_in entry.Policy = kind.Unread

-- what is known of an entry in an operation
record IsHeld (n : Numbers) (e : RawEntry) : Type 0 where
  pub low : 3 ≤ place_of e
  pub high : place_of e < 10
  pub number : member_number n e ≡ get_or (numbers n) (place_of e) 0
  pub kind : kind_of n message.AftOperation (member_number n e) ≡ kind_in e
  pub range : (1 ≤ member_number n e) × (member_number n e < 2 ^ 29)
  pub good : Good n (kind_in e) (Text (member_number n e) (raw_bytes n e))
  pub among : list_any (λ k. eqb k (member_number n e)) (entry_members n) ≡ true
  pub read : member_entry n (member_number n e, raw_bytes n e) ≡ e

above : (n : Numbers) → IsValid n → (i j : ℕ) → i < j → j < 11 → eqb (get_or (numbers n) j 0) (get_or (numbers n) i 0) ≡ false
above n valid i j lt le = apart (numbers n) i j 0 (numbers_distinct n valid) lt le

held : (n : Numbers) (e : RawEntry) → IsValid n → IsEncodable e → length (raw_bytes n e) < 2 ^ 64 → IsHeld n e
held n (entry.V4 prefix route) valid h fits =
    let r = again n (entry.V4 prefix route) valid h fits in
    record {
      low = omega arith;
      high = omega arith;
      number = refl;
      kind = operation_kind n valid 3 (omega arith);
      range = in_range n field.AftOperationIpv4 valid;
      good = clean_from n message.Ipv4EntryKey (raw_bytes n (entry.V4 prefix route)) r.0;
      among = is_among (entry_members n) 0 0 (omega arith);
      read = rw (same (field_of n field.AftOperationIpv4)) r.1;
    }
held n (entry.V6 prefix route) valid h fits =
    let r = again n (entry.V6 prefix route) valid h fits in
    let a : eqb (field_of n field.AftOperationIpv6) (field_of n field.AftOperationIpv4) ≡ false = above n valid 3 4 (omega arith) (omega arith) in
    record {
      low = omega arith;
      high = omega arith;
      number = refl;
      kind = operation_kind n valid 4 (omega arith);
      range = in_range n field.AftOperationIpv6 valid;
      good = clean_from n message.Ipv6EntryKey (raw_bytes n (entry.V6 prefix route)) r.0;
      among = is_among (entry_members n) 1 0 (omega arith);
      read = rw (a, same (field_of n field.AftOperationIpv6)) r.1;
    }
held n (entry.Label label route) valid h fits =
    let r = again n (entry.Label label route) valid h fits in
    let a : eqb (field_of n field.AftOperationMpls) (field_of n field.AftOperationIpv4) ≡ false = above n valid 3 5 (omega arith) (omega arith) in
    let b : eqb (field_of n field.AftOperationMpls) (field_of n field.AftOperationIpv6) ≡ false = above n valid 4 5 (omega arith) (omega arith) in
    record {
      low = omega arith;
      high = omega arith;
      number = refl;
      kind = operation_kind n valid 5 (omega arith);
      range = in_range n field.AftOperationMpls valid;
      good = clean_from n message.LabelEntryKey (raw_bytes n (entry.Label label route)) r.0;
      among = is_among (entry_members n) 2 0 (omega arith);
      read = rw (a, b, same (field_of n field.AftOperationMpls)) r.1;
    }
held n (entry.Group id group) valid h fits =
    let r = again n (entry.Group id group) valid h fits in
    let a : eqb (field_of n field.AftOperationNextHopGroup) (field_of n field.AftOperationIpv4) ≡ false = above n valid 3 6 (omega arith) (omega arith) in
    let b : eqb (field_of n field.AftOperationNextHopGroup) (field_of n field.AftOperationIpv6) ≡ false = above n valid 4 6 (omega arith) (omega arith) in
    let c : eqb (field_of n field.AftOperationNextHopGroup) (field_of n field.AftOperationMpls) ≡ false = above n valid 5 6 (omega arith) (omega arith) in
    record {
      low = omega arith;
      high = omega arith;
      number = refl;
      kind = operation_kind n valid 6 (omega arith);
      range = in_range n field.AftOperationNextHopGroup valid;
      good = clean_from n message.NextHopGroupKey (raw_bytes n (entry.Group id group)) r.0;
      among = is_among (entry_members n) 3 0 (omega arith);
      read = rw (a, b, c, same (field_of n field.AftOperationNextHopGroup)) r.1;
    }
held n (entry.Hop index hop) valid h fits =
    let r = again n (entry.Hop index hop) valid h fits in
    let a : eqb (field_of n field.AftOperationNextHop) (field_of n field.AftOperationIpv4) ≡ false = above n valid 3 7 (omega arith) (omega arith) in
    let b : eqb (field_of n field.AftOperationNextHop) (field_of n field.AftOperationIpv6) ≡ false = above n valid 4 7 (omega arith) (omega arith) in
    let c : eqb (field_of n field.AftOperationNextHop) (field_of n field.AftOperationMpls) ≡ false = above n valid 5 7 (omega arith) (omega arith) in
    let d : eqb (field_of n field.AftOperationNextHop) (field_of n field.AftOperationNextHopGroup) ≡ false = above n valid 6 7 (omega arith) (omega arith) in
    record {
      low = omega arith;
      high = omega arith;
      number = refl;
      kind = operation_kind n valid 7 (omega arith);
      range = in_range n field.AftOperationNextHop valid;
      good = clean_from n message.NextHopKey (raw_bytes n (entry.Hop index hop)) r.0;
      among = is_among (entry_members n) 4 0 (omega arith);
      read = rw (a, b, c, d, same (field_of n field.AftOperationNextHop)) r.1;
    }
held n entry.Mac valid h fits =
    let a : eqb (field_of n field.AftOperationMacAddress) (field_of n field.AftOperationIpv4) ≡ false = above n valid 3 8 (omega arith) (omega arith) in
    let b : eqb (field_of n field.AftOperationMacAddress) (field_of n field.AftOperationIpv6) ≡ false = above n valid 4 8 (omega arith) (omega arith) in
    let c : eqb (field_of n field.AftOperationMacAddress) (field_of n field.AftOperationMpls) ≡ false = above n valid 5 8 (omega arith) (omega arith) in
    let d : eqb (field_of n field.AftOperationMacAddress) (field_of n field.AftOperationNextHopGroup) ≡ false = above n valid 6 8 (omega arith) (omega arith) in
    let e : eqb (field_of n field.AftOperationMacAddress) (field_of n field.AftOperationNextHop) ≡ false = above n valid 7 8 (omega arith) (omega arith) in
    record {
      low = omega arith;
      high = omega arith;
      number = refl;
      kind = operation_kind n valid 8 (omega arith);
      range = in_range n field.AftOperationMacAddress valid;
      good = tt;
      among = is_among (entry_members n) 5 0 (omega arith);
      read = rw (a, b, c, d, e, same (field_of n field.AftOperationMacAddress)) refl;
    }
held n entry.Policy valid h fits =
    let a : eqb (field_of n field.AftOperationPolicyForwardingEntry) (field_of n field.AftOperationIpv4) ≡ false = above n valid 3 9 (omega arith) (omega arith) in
    let b : eqb (field_of n field.AftOperationPolicyForwardingEntry) (field_of n field.AftOperationIpv6) ≡ false = above n valid 4 9 (omega arith) (omega arith) in
    let c : eqb (field_of n field.AftOperationPolicyForwardingEntry) (field_of n field.AftOperationMpls) ≡ false = above n valid 5 9 (omega arith) (omega arith) in
    let d : eqb (field_of n field.AftOperationPolicyForwardingEntry) (field_of n field.AftOperationNextHopGroup) ≡ false = above n valid 6 9 (omega arith) (omega arith) in
    let e : eqb (field_of n field.AftOperationPolicyForwardingEntry) (field_of n field.AftOperationNextHop) ≡ false = above n valid 7 9 (omega arith) (omega arith) in
    let f : eqb (field_of n field.AftOperationPolicyForwardingEntry) (field_of n field.AftOperationMacAddress) ≡ false = above n valid 8 9 (omega arith) (omega arith) in
    record {
      low = omega arith;
      high = omega arith;
      number = refl;
      kind = operation_kind n valid 9 (omega arith);
      range = in_range n field.AftOperationPolicyForwardingEntry valid;
      good = tt;
      among = is_among (entry_members n) 6 0 (omega arith);
      read = rw (a, b, c, d, e, f) refl;
    }

-- ---- an embedded election id

pub id_clean : (n : Numbers) (id : ℕ) → IsValid n → id < 2 ^ 128 → Clean n message.Uint128 (uint128_bytes n id)
id_clean n id valid lt depth base =
    deeper_same depth 5 n message.Uint128 base (uint128_bytes n id) (omega arith) (omega arith) ∙ (id_sound n id valid lt).1 base

abbrev id_parts : Numbers → ℕ → Option ℕ → List WrittenField
id_parts n number id = option_parts number (option_map (uint128_bytes n) id)

id_spelled : (n : Numbers) (number : ℕ) (id : Option ℕ) → option_map_or (id_field n number) id [] ≡ encoded_fields (id_parts n number id)
id_spelled n number None = refl
id_spelled n number (Some id) = sym (append-nil (bytes_field number (uint128_bytes n id)))

id_bunch : (n : Numbers) (name : FieldName) (id : Option ℕ) → IsValid n → IfSome id (λ i. i < 2 ^ 128) → Each (InBunch n (kind.Message message.Uint128) (field_of n name)) (id_parts n (field_of n name) id)
id_bunch n name None valid h = tt
id_bunch n name (Some id) valid h = let r = in_range n name valid in (((r.0, r.1, (id_sound n id valid h).0), refl, id_clean n id valid h), tt)

id_own : (n : Numbers) (number : ℕ) (id : Option ℕ) → IsValid n → IfSome id (λ i. i < 2 ^ 128) → option_map (uint128_of n) (merged_onto None (bits number (id_parts n number id))) ≡ id
id_own n number id valid h = rw (option_message number (option_map (uint128_bytes n) id)) (by id h)
  where
    by : (id : Option ℕ) → IfSome id (λ i. i < 2 ^ 128) → option_map (uint128_of n) (option_map (uint128_bytes n) id) ≡ id
    by None h = refl
    by (Some i) h = ap Some (id_read n i valid h)

-- ---- the parameters of a session

params_rows : Numbers → RawParams → Rows
params_rows n p = (field_of n field.SessionParametersRedundancy, p.redundancy) ∷ (field_of n field.SessionParametersPersistence, p.persistence) ∷ (field_of n field.SessionParametersAckType, p.ack) ∷ []

params_are : (n : Numbers) (p : RawParams) → params_bytes n p ≡ rows_bytes (params_rows n p)
unfolding params_bytes params_rows rows_bytes
params_are n p = regroup3 (nonzero_uint_field (field_of n field.SessionParametersRedundancy) p.redundancy) (nonzero_uint_field (field_of n field.SessionParametersPersistence) p.persistence) (nonzero_uint_field (field_of n field.SessionParametersAckType) p.ack)

params_fit : (n : Numbers) (p : RawParams) → IsValid n → IsEncodableParams p → All IsFitting (params_rows n p)
unfolding params_rows
params_fit n p valid h =
    let a = in_range n field.SessionParametersRedundancy valid in
    let b = in_range n field.SessionParametersPersistence valid in
    let c = in_range n field.SessionParametersAckType valid in
    All-cons IsFitting (field_of n field.SessionParametersRedundancy, p.redundancy) ((field_of n field.SessionParametersPersistence, p.persistence) ∷ (field_of n field.SessionParametersAckType, p.ack) ∷ []) (a.0, a.1, h.redundancy)
    (two_fit (field_of n field.SessionParametersPersistence, p.persistence) (field_of n field.SessionParametersAckType, p.ack) (b.0, b.1, h.persistence) (c.0, c.1, h.ack))

params_read : (n : Numbers) (p : RawParams) → IsValid n → IsEncodableParams p → params_of n (params_bytes n p) ≡ p
unfolding params_rows
params_read n p valid h =
    let rows = params_rows n p in
    let fit : All IsFitting rows = params_fit n p valid h in
    let distinct : are_distinct (keys rows) ≡ true = distinct_at n valid 2 (omega arith) in
    rw (params_are n p) (rw (row_read rows 0 (0, 0) distinct fit (omega arith), row_read rows 1 (0, 0) distinct fit (omega arith), row_read rows 2 (0, 0) distinct fit (omega arith)) refl)

params_clean : (n : Numbers) (p : RawParams) → IsValid n → IsEncodableParams p → Clean n message.SessionParameters (params_bytes n p)
params_clean n p valid h depth base = rw (params_are n p) (no_fault_in_rows depth n message.SessionParameters base (params_rows n p) (params_fit n p valid h))

-- ---- an operation

abbrev entry_number : Numbers → Option RawEntry → ℕ
entry_number n None = field_of n field.AftOperationIpv4
entry_number n (Some e) = member_number n e

abbrev entry_kind : Option RawEntry → FieldKind
entry_kind None = kind.Message message.Ipv4EntryKey
entry_kind (Some e) = kind_in e

abbrev entry_parts : Numbers → Option RawEntry → List WrittenField
entry_parts n e = option_parts (entry_number n e) (option_map (raw_bytes n) e)

entry_spelled : (n : Numbers) (e : Option RawEntry) → option_map_or (entry_field n) e [] ≡ encoded_fields (entry_parts n e)
unfolding entry_field
entry_spelled n None = refl
entry_spelled n (Some e) = sym (append-nil (bytes_field (member_number n e) (raw_bytes n e)))

-- what is known of the entry of an operation, or of its absence
record HasEntry (n : Numbers) (e : Option RawEntry) : Type 0 where
  pub place : ℕ
  pub low : 3 ≤ place
  pub high : place < 10
  pub number : entry_number n e ≡ get_or (numbers n) place 0
  pub bunch : IsBunch n message.AftOperation (record { number = entry_number n e; kind = entry_kind e; parts = entry_parts n e })
  pub read : option_map (member_entry n) (oneof_after None (mems (entry_members n) (entry_parts n e))) ≡ e

has_entry : (n : Numbers) (e : Option RawEntry) → IsValid n → IfSome e IsEncodable → length (option_map_or (entry_field n) e []) < 2 ^ 64 → HasEntry n e
unfolding entry_field
has_entry n None valid h fits = record { place = 3; low = omega arith; high = omega arith; number = refl; bunch = (operation_kind n valid 3 (omega arith), tt); read = refl }
has_entry n (Some e) valid h fits =
    let short = inner_fits (member_number n e) (raw_bytes n e) fits in
    let k = held n e valid h short in
    record {
      place = place_of e;
      low = k.low;
      high = k.high;
      number = k.number;
      bunch = (k.kind, (((k.range.0, k.range.1, short), refl, k.good), tt));
      read = rw (k.among) (ap Some k.read);
    }

bunches : Numbers → RawOperation → List Bunch
bunches n o =
    record { number = field_of n field.AftOperationId; kind = kind.Number; parts = number_parts (field_of n field.AftOperationId) o.id } ∷
    record { number = field_of n field.AftOperationNetworkInstance; kind = kind.Text; parts = filled_parts (field_of n field.AftOperationNetworkInstance) o.instance } ∷
    record { number = field_of n field.AftOperationOp; kind = kind.Number; parts = number_parts (field_of n field.AftOperationOp) (op_number n o.op) } ∷
    record { number = entry_number n o.entry; kind = entry_kind o.entry; parts = entry_parts n o.entry } ∷
    record { number = field_of n field.AftOperationElectionId; kind = kind.Message message.Uint128; parts = id_parts n (field_of n field.AftOperationElectionId) o.election } ∷
    []

operation_spelled : (n : Numbers) (o : RawOperation) → operation_bytes n o ≡ encoded_fields (whole (bunches n o))
unfolding operation_bytes bunches
operation_spelled n o =
    let a = nonzero_uint_field (field_of n field.AftOperationId) o.id in
    let b = nonempty_field (field_of n field.AftOperationNetworkInstance) o.instance in
    let c = nonzero_uint_field (field_of n field.AftOperationOp) (op_number n o.op) in
    let d = option_map_or (entry_field n) o.entry [] in
    let e = option_map_or (id_field n (field_of n field.AftOperationElectionId)) o.election [] in
    regroup5 a b c d e
    ∙ rw (number_spelled (field_of n field.AftOperationId) o.id, filled_spelled (field_of n field.AftOperationNetworkInstance) o.instance, number_spelled (field_of n field.AftOperationOp) (op_number n o.op), entry_spelled n o.entry, id_spelled n (field_of n field.AftOperationElectionId) o.election) refl
    ∙ sym (whole_spelled (bunches n o))

record OperationFits (n : Numbers) (o : RawOperation) : Type 0 where
  pub instance : length o.instance < 2 ^ 64
  pub entry : length (option_map_or (entry_field n) o.entry []) < 2 ^ 64

operation_fits : (n : Numbers) (o : RawOperation) → length (operation_bytes n o) < 2 ^ 64 → OperationFits n o
unfolding operation_bytes
operation_fits n o fits =
    let a = nonzero_uint_field (field_of n field.AftOperationId) o.id in
    let b = nonempty_field (field_of n field.AftOperationNetworkInstance) o.instance in
    let c = nonzero_uint_field (field_of n field.AftOperationOp) (op_number n o.op) in
    let d = option_map_or (entry_field n) o.entry [] in
    let e = option_map_or (id_field n (field_of n field.AftOperationElectionId)) o.election [] in
    let abcd : length (((a ++ b) ++ c) ++ d) < 2 ^ 64 = front_fits (((a ++ b) ++ c) ++ d) e fits in
    let abc : length ((a ++ b) ++ c) < 2 ^ 64 = front_fits ((a ++ b) ++ c) d abcd in
    let ab : length (a ++ b) < 2 ^ 64 = front_fits (a ++ b) c abc in
    record {
      instance = shorter (field_of n field.AftOperationNetworkInstance) o.instance (back_fits a b ab);
      entry = back_fits ((a ++ b) ++ c) d abcd;
    }

bunches_hold : (n : Numbers) (o : RawOperation) → IsValid n → IsEncodableOperation o → OperationFits n o → Each (IsBunch n message.AftOperation) (bunches n o)
unfolding bunches
bunches_hold n o valid h fits =
    let id = number_bunch n kind.Number (field_of n field.AftOperationId) o.id (in_range n field.AftOperationId valid) h.id in
    let instance = filled_bunch n kind.Text (field_of n field.AftOperationNetworkInstance) o.instance (in_range n field.AftOperationNetworkInstance valid) fits.instance (is_utf8-from_IsUtf8 o.instance h.instance) in
    let op_ = number_bunch n kind.Number (field_of n field.AftOperationOp) (op_number n o.op) (in_range n field.AftOperationOp valid) (op_fits n o.op valid) in
    let entry_ = (has_entry n o.entry valid h.entry fits.entry).bunch in
    let election = id_bunch n field.AftOperationElectionId o.election valid h.election in
    ((operation_kind n valid 0 (omega arith), id), ((operation_kind n valid 1 (omega arith), instance), ((operation_kind n valid 2 (omega arith), op_), (entry_, ((operation_kind n valid 10 (omega arith), election), tt)))))

five_distinct : (n : Numbers) (k : ℕ) → IsValid n → 3 ≤ k → k < 10
    → are_distinct (field_of n field.AftOperationId ∷ field_of n field.AftOperationNetworkInstance ∷ field_of n field.AftOperationOp ∷ get_or (numbers n) k 0 ∷ field_of n field.AftOperationElectionId ∷ []) ≡ true
five_distinct n k valid low high =
    rw (
      above n valid 0 1 (omega arith) (omega arith),
      above n valid 0 2 (omega arith) (omega arith),
      above n valid 0 k (omega arith) (omega arith),
      above n valid 0 10 (omega arith) (omega arith),
      above n valid 1 2 (omega arith) (omega arith),
      above n valid 1 k (omega arith) (omega arith),
      above n valid 1 10 (omega arith) (omega arith),
      above n valid 2 k (omega arith) (omega arith),
      above n valid 2 10 (omega arith) (omega arith),
      above n valid k 10 (omega arith) (omega arith),
    ) refl

bunches_distinct : (n : Numbers) (o : RawOperation) → IsValid n → HasEntry n o.entry → are_distinct (numbers_of (bunches n o)) ≡ true
unfolding bunches
bunches_distinct n o valid e = rw (e.number) (five_distinct n e.place valid e.low e.high)

-- a number before the members, and one behind them, is none of theirs
before : (n : Numbers) (i : ℕ) → IsValid n → i < 3 → list_any (λ k. eqb k (get_or (numbers n) i 0)) (entry_members n) ≡ false
before n i valid lt =
    rw (
      above n valid i 3 (omega arith) (omega arith),
      above n valid i 4 (omega arith) (omega arith),
      above n valid i 5 (omega arith) (omega arith),
      above n valid i 6 (omega arith) (omega arith),
      above n valid i 7 (omega arith) (omega arith),
      above n valid i 8 (omega arith) (omega arith),
      above n valid i 9 (omega arith) (omega arith),
    ) refl

below : (n : Numbers) (i : ℕ) → IsValid n → i < 10 → eqb (get_or (numbers n) i 0) (field_of n field.AftOperationElectionId) ≡ false
below n i valid lt = differs (get_or (numbers n) i 0) (field_of n field.AftOperationElectionId) (above n valid i 10 lt (omega arith))

behind : (n : Numbers) → IsValid n → list_any (λ k. eqb k (field_of n field.AftOperationElectionId)) (entry_members n) ≡ false
behind n valid =
    rw (
      below n 3 valid (omega arith),
      below n 4 valid (omega arith),
      below n 5 valid (omega arith),
      below n 6 valid (omega arith),
      below n 7 valid (omega arith),
      below n 8 valid (omega arith),
      below n 9 valid (omega arith),
    ) refl

none : Bunch
none = record { number = 0; kind = kind.Unknown; parts = [] }

-- what is heard of the oneof is in the entry's own field
entry_scanned : (n : Numbers) (o : RawOperation) → IsValid n → Each (IsBunch n message.AftOperation) (bunches n o) → mems (entry_members n) (whole (bunches n o)) ≡ mems (entry_members n) (entry_parts n o.entry)
unfolding bunches
entry_scanned n o valid each =
    let m = message.AftOperation in
    let among = entry_members n in
    let a : Bunch = record { number = field_of n field.AftOperationId; kind = kind.Number; parts = number_parts (field_of n field.AftOperationId) o.id } in
    let b : Bunch = record { number = field_of n field.AftOperationNetworkInstance; kind = kind.Text; parts = filled_parts (field_of n field.AftOperationNetworkInstance) o.instance } in
    let c : Bunch = record { number = field_of n field.AftOperationOp; kind = kind.Number; parts = number_parts (field_of n field.AftOperationOp) (op_number n o.op) } in
    let d : Bunch = record { number = entry_number n o.entry; kind = entry_kind o.entry; parts = entry_parts n o.entry } in
    let e : Bunch = record { number = field_of n field.AftOperationElectionId; kind = kind.Message message.Uint128; parts = id_parts n (field_of n field.AftOperationElectionId) o.election } in
    mems_skip n m among a (b ∷ c ∷ d ∷ e ∷ []) each.0 (before n 0 valid (omega arith))
    ∙ mems_skip n m among b (c ∷ d ∷ e ∷ []) each.1.0 (before n 1 valid (omega arith))
    ∙ mems_skip n m among c (d ∷ e ∷ []) each.1.1.0 (before n 2 valid (omega arith))
    ∙ mems_here n m among d (e ∷ []) each.1.1.1.1 (behind n valid, tt)

record OperationAgain (n : Numbers) (o : RawOperation) (bytes : List ℕ) : Type 0 where
  pub clean : Clean n message.AftOperation bytes
  pub id : number_at (field_of n field.AftOperationId) bytes ≡ o.id
  pub instance : name_at (field_of n field.AftOperationNetworkInstance) bytes ≡ o.instance
  pub op : op_of n (number_at (field_of n field.AftOperationOp) bytes) ≡ o.op
  pub entry : option_map (member_entry n) (oneof_at (entry_members n) bytes) ≡ o.entry
  pub election : option_map (uint128_of n) (message_at (field_of n field.AftOperationElectionId) bytes) ≡ o.election

operation_parts_again : (n : Numbers) (o : RawOperation) → IsValid n → IsEncodableOperation o → OperationFits n o → OperationAgain n o (encoded_fields (whole (bunches n o)))
unfolding bunches text_of
operation_parts_again n o valid h fits =
    let m = message.AftOperation in
    let bs = bunches n o in
    let e = has_entry n o.entry valid h.entry fits.entry in
    let each = bunches_hold n o valid h fits in
    let legal = whole_legal n m bs each in
    let apart_ = bunches_distinct n o valid e in
    let a = field_of n field.AftOperationId in
    let b = field_of n field.AftOperationNetworkInstance in
    let c = field_of n field.AftOperationOp in
    let f = field_of n field.AftOperationElectionId in
    record {
      clean = whole_clean n m bs each;
      id = number_said a (whole bs) legal ∙ ap (λ (x : List ℕ). unwrap_or (last_or None x) 0) (nums_at n m bs 0 none apart_ each (omega arith)) ∙ number_own a o.id;
      instance = ap text_of (text_said b (whole bs) legal ∙ ap (λ (x : List (List ℕ)). unwrap_or (last_or None x) []) (bits_at n m bs 1 none apart_ each (omega arith)) ∙ filled_text b o.instance) ∙ rw (is_utf8-from_IsUtf8 o.instance h.instance) refl;
      op = ap (op_of n) (number_said c (whole bs) legal ∙ ap (λ (x : List ℕ). unwrap_or (last_or None x) 0) (nums_at n m bs 2 none apart_ each (omega arith)) ∙ number_own c (op_number n o.op)) ∙ op_again n o.op valid h.op;
      entry = ap (option_map (member_entry n)) (chosen_said (entry_members n) (whole bs) legal ∙ ap (oneof_after None) (entry_scanned n o valid each)) ∙ e.read;
      election = ap (option_map (uint128_of n)) (message_said f (whole bs) legal ∙ ap (merged_onto None) (bits_at n m bs 4 none apart_ each (omega arith))) ∙ id_own n f o.election valid h.election;
    }

operation_again : (n : Numbers) (o : RawOperation) → IsValid n → IsEncodableOperation o → length (operation_bytes n o) < 2 ^ 64 → OperationAgain n o (operation_bytes n o)
operation_again n o valid h fits = rw (operation_spelled n o) (operation_parts_again n o valid h (operation_fits n o fits))

operation_clean : (n : Numbers) → IsValid n → (o : RawOperation) → IsEncodableOperation o → length (operation_bytes n o) < 2 ^ 64 → Clean n message.AftOperation (operation_bytes n o)
operation_clean n valid o h fits = (operation_again n o valid h fits).clean

operation_read : (n : Numbers) → IsValid n → (o : RawOperation) → IsEncodableOperation o → length (operation_bytes n o) < 2 ^ 64 → operation_of n (operation_bytes n o) ≡ o
unfolding operation_of
operation_read n valid o h fits =
    let r = operation_again n o valid h fits in
    rw (r.id, r.instance, r.op, r.entry, r.election) refl

-- ---- a request

abbrev operation_number : Numbers → ℕ
operation_number n = field_of n field.ModifyRequestOperation

abbrev params_number : Numbers → ℕ
params_number n = field_of n field.ModifyRequestParams

abbrev election_number : Numbers → ℕ
election_number n = field_of n field.ModifyRequestElectionId

abbrev params_parts : Numbers → Option RawParams → List WrittenField
params_parts n p = option_parts (params_number n) (option_map (params_bytes n) p)

params_spelled : (n : Numbers) (p : Option RawParams) → option_map_or (request_params_field n) p [] ≡ encoded_fields (params_parts n p)
unfolding request_params_field
params_spelled n None = refl
params_spelled n (Some p) = sym (append-nil (bytes_field (params_number n) (params_bytes n p)))

request_kind : (n : Numbers) → IsValid n → (i : ℕ) → i < 3 → kind_of n message.ModifyRequest (get_or (fields_of n message.ModifyRequest) i (0, kind.Unknown)).0 ≡ (get_or (fields_of n message.ModifyRequest) i (0, kind.Unknown)).1
unfolding kind_of
request_kind n valid i lt = listed_at (fields_of n message.ModifyRequest) i (0, kind.Unknown) (distinct_at n valid 0 (omega arith)) lt

params_bunch : (n : Numbers) (p : Option RawParams) → IsValid n → IfSome p IsEncodableParams → length (option_map_or (request_params_field n) p []) < 2 ^ 64
    → Each (InBunch n (kind.Message message.SessionParameters) (params_number n)) (params_parts n p)
unfolding request_params_field
params_bunch n None valid h fits = tt
params_bunch n (Some p) valid h fits =
    let r = in_range n field.ModifyRequestParams valid in
    (((r.0, r.1, inner_fits (params_number n) (params_bytes n p) fits), refl, params_clean n p valid h), tt)

params_own : (n : Numbers) (p : Option RawParams) → IsValid n → IfSome p IsEncodableParams → option_map (params_of n) (merged_onto None (bits (params_number n) (params_parts n p))) ≡ p
params_own n p valid h = rw (option_message (params_number n) (option_map (params_bytes n) p)) (by p h)
  where
    by : (p : Option RawParams) → IfSome p IsEncodableParams → option_map (params_of n) (option_map (params_bytes n) p) ≡ p
    by None h = refl
    by (Some q) h = ap Some (params_read n q valid h)

request_bunches : Numbers → ModifyRequest → List Bunch
request_bunches n r =
    record { number = operation_number n; kind = kind.Message message.AftOperation; parts = many_parts (operation_number n) (operation_bytes n) r.operations } ∷
    record { number = params_number n; kind = kind.Message message.SessionParameters; parts = params_parts n r.params } ∷
    record { number = election_number n; kind = kind.Message message.Uint128; parts = id_parts n (election_number n) r.election } ∷
    []

operations_are : (n : Numbers) (os : List RawOperation) → flat_map (operation_field n) os ≡ many_bytes (operation_number n) (operation_bytes n) os
unfolding operation_field
operations_are n os = refl

request_spelled : (n : Numbers) (r : ModifyRequest) → request_bytes n r ≡ encoded_fields (whole (request_bunches n r))
unfolding request_bytes request_bunches
request_spelled n r =
    regroup3 (flat_map (operation_field n) r.operations) (option_map_or (request_params_field n) r.params []) (option_map_or (id_field n (election_number n)) r.election [])
    ∙ rw (operations_are n r.operations, many_spelled (operation_number n) (operation_bytes n) r.operations, params_spelled n r.params, id_spelled n (election_number n) r.election) refl
    ∙ sym (whole_spelled (request_bunches n r))

record RequestFits (n : Numbers) (r : ModifyRequest) : Type 0 where
  pub operations : length (many_bytes (operation_number n) (operation_bytes n) r.operations) < 2 ^ 64
  pub params : length (option_map_or (request_params_field n) r.params []) < 2 ^ 64

request_fits : (n : Numbers) (r : ModifyRequest) → length (request_bytes n r) < 2 ^ 64 → RequestFits n r
unfolding request_bytes
request_fits n r fits =
    let a = flat_map (operation_field n) r.operations in
    let b = option_map_or (request_params_field n) r.params [] in
    let c = option_map_or (id_field n (election_number n)) r.election [] in
    let ab : length (a ++ b) < 2 ^ 64 = front_fits (a ++ b) c fits in
    record { operations = rw (← operations_are n r.operations) (front_fits a b ab); params = back_fits a b ab }

request_hold : (n : Numbers) (r : ModifyRequest) → IsValid n → IsEncodableRequest r → RequestFits n r → Each (IsBunch n message.ModifyRequest) (request_bunches n r)
unfolding request_bunches
request_hold n r valid h fits =
    let operations = many_bunch n message.AftOperation (operation_number n) (operation_bytes n) IsEncodableOperation (operation_clean n valid) (in_range n field.ModifyRequestOperation valid) r.operations (each_from IsEncodableOperation r.operations h.operations) fits.operations in
    let params = params_bunch n r.params valid h.params fits.params in
    let election = id_bunch n field.ModifyRequestElectionId r.election valid h.election in
    ((request_kind n valid 0 (omega arith), operations), ((request_kind n valid 1 (omega arith), params), ((request_kind n valid 2 (omega arith), election), tt)))

record RequestAgain (n : Numbers) (r : ModifyRequest) (bytes : List ℕ) : Type 0 where
  pub clean : Clean n message.ModifyRequest bytes
  pub operations : map (operation_of n) (repeated_at (operation_number n) bytes) ≡ r.operations
  pub params : option_map (params_of n) (message_at (params_number n) bytes) ≡ r.params
  pub election : option_map (uint128_of n) (message_at (election_number n) bytes) ≡ r.election

request_parts_again : (n : Numbers) (r : ModifyRequest) → IsValid n → IsEncodableRequest r → RequestFits n r → RequestAgain n r (encoded_fields (whole (request_bunches n r)))
unfolding request_bunches
request_parts_again n r valid h fits =
    let m = message.ModifyRequest in
    let bs = request_bunches n r in
    let each = request_hold n r valid h fits in
    let legal = whole_legal n m bs each in
    let apart_ : are_distinct (numbers_of bs) ≡ true = distinct_at n valid 0 (omega arith) in
    let a = operation_number n in
    let b = params_number n in
    let c = election_number n in
    record {
      clean = whole_clean n m bs each;
      operations = ap (map (operation_of n)) (repeated_said a (whole bs) legal ∙ bits_at n m bs 0 none apart_ each (omega arith) ∙ many_own a (operation_bytes n) r.operations)
          ∙ many_said a (operation_bytes n) (operation_of n) IsEncodableOperation (operation_read n valid) r.operations (each_from IsEncodableOperation r.operations h.operations) fits.operations;
      params = ap (option_map (params_of n)) (message_said b (whole bs) legal ∙ ap (merged_onto None) (bits_at n m bs 1 none apart_ each (omega arith))) ∙ params_own n r.params valid h.params;
      election = ap (option_map (uint128_of n)) (message_said c (whole bs) legal ∙ ap (merged_onto None) (bits_at n m bs 2 none apart_ each (omega arith))) ∙ id_own n c r.election valid h.election;
    }

pub modify_request_again : (n : Numbers) (r : ModifyRequest) → IsValid n → IsEncodableRequest r → length (request_bytes n r) < 2 ^ 64
    → (first_fault n message.ModifyRequest (request_bytes n r) ≡ None) × (modify_request n (request_bytes n r) ≡ r)
unfolding first_fault modify_request
modify_request_again n r valid h fits =
    let t : RequestAgain n r (request_bytes n r) = rw (request_spelled n r) (request_parts_again n r valid h (request_fits n r fits)) in
    (t.clean 6 0, rw (t.operations, t.params, t.election) refl)
