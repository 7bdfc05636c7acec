-- Requests of a Get and a Flush are read again.
use Rattle.std.proofs.Common.{◌≡◌, ℕ, ◌-◌, ◌<◌, ◌^◌, Bool, true, false, cond, eqb, List, [], ◌∷◌, ◌++◌, length, get_or, Option, None, Some, refl, sym, ap, ◌∙◌, arith}
use Rattle.std.specs.Prelude.{All, IfSome, ◌||◌}
use Rattle.std.specs.List.{filter_map, cons_option, last_or}
use Rattle.std.specs.Option.{option_map, option_map_or}
use Rattle.std.specs.Str.{IsUtf8}
use Rattle.std.proofs.lemmas.Str.{is_utf8-from_IsUtf8}
use Rattle.std.proofs.lemmas.Bool.{eq-eqb}
use Rattle.std.proofs.lemmas.List.{append-nil}
use Rattle.std.proofs.lemmas.List.Elements.{All-nil, All-cons, All-append, All-weaker, filter_map-append}
use Rattle.proto_wire.specs.Fields.{ParsedFields, fields, fields_from, fields_upto}
use Rattle.proto_wire.specs.Written.{WrittenField, Uint, Text, encoded_fields, IsLegal}
use Rattle.schema_numbers.specs.Numbers.{Numbers, field_of}
use Rattle.schema_numbers.specs.Valid.{IsValid}
use Rattle.schema_numbers.specs.declared.names.FieldName.{FieldName}
use Rattle.schema_numbers.specs.declared.names.FieldName.TheVariants as field
use Rattle.proto_schema.specs.declared.schema.MessageKind.{MessageKind}
use Rattle.proto_schema.specs.declared.schema.MessageKind.TheVariants as message
use Rattle.proto_schema.specs.declared.schema.FieldKind.TheVariants as kind
use Rattle.proto_schema.specs.Schema.{fields_of, kind_of}
use Rattle.proto_schema.specs.Legal.{first_fault, fault_within, deeper_than}
use Rattle.proto_schema.specs.FieldValues.{member_in, numbers, members, last_number_at, number_at}
use Rattle.gribi_messages.specs.declared.asks.InstanceAsk.{InstanceAsk}
use Rattle.gribi_messages.specs.declared.asks.InstanceAsk.TheVariants as ask
use Rattle.gribi_messages.specs.declared.asks.GetRequest.{GetRequest}
use Rattle.gribi_messages.specs.GetAndFlush.{instance_ask, instance_field, last_member_at, get_members, get_request, get_bytes}
use Rattle.gribi_messages.specs.EncodableMessages.{IsEncodableName, IsEncodableGet}
use Rattle.gribi_messages.proofs.Schemas.{listed_at, distinct_at}
use Rattle.gribi_messages.proofs.ReadAgain.{number_of, value_in, number_part, number_spelled, number_legal, number_good, one_spelled, encoded_fields-append, part_numbers, part_members, numbers-append, one_number, read_number, numbers-field_spans, members-field_spans, cut_of, no_fault, IsGood, in_range}
use Rattle.gribi_messages.proofs.Embedded.{apart}

-- the member of a oneof that asks for the instances
unfoldable pub asked : ℕ → ℕ → Option InstanceAsk → List WrittenField
asked name all None = []
asked name all (Some ask.All) = Text all [] ∷ []
asked name all (Some (ask.Named text)) = Text name text ∷ []

pub asked_spelled : (name all : ℕ) (o : Option InstanceAsk) → option_map_or (instance_field name all) o [] ≡ encoded_fields (asked name all o)
unfolding asked
asked_spelled name all None = refl
asked_spelled name all (Some ask.All) = one_spelled (Text all [])
asked_spelled name all (Some (ask.Named text)) = one_spelled (Text name text)

no_members : (among : List ℕ) (number value : ℕ) → part_members among (number_part number value) ≡ []
unfolding part_members
no_members among number value = by (eqb value 0)
  where
    by : (b : Bool) → filter_map (λ p. member_in among (number_of p) (value_in p)) (cond b [] (Uint number value ∷ [])) ≡ []
    by true = refl
    by false = refl

pub members-append : (among : List ℕ) (xs ys : List WrittenField) → part_members among (xs ++ ys) ≡ part_members among xs ++ part_members among ys
unfolding part_members
members-append among xs ys = filter_map-append (λ p. member_in among (number_of p) (value_in p)) xs ys

no_numbers : (wanted name all : ℕ) (o : Option InstanceAsk) → part_numbers wanted (asked name all o) ≡ []
unfolding part_numbers asked
no_numbers wanted name all None = refl
no_numbers wanted name all (Some ask.All) = by (eqb all wanted)
  where
    by : (b : Bool) → cons_option {X = ℕ} (cond b None None) [] ≡ []
    by true = refl
    by false = refl
no_numbers wanted name all (Some (ask.Named text)) = by (eqb name wanted)
  where
    by : (b : Bool) → cons_option {X = ℕ} (cond b None None) [] ≡ []
    by true = refl
    by false = refl

-- what is asked for is heard again
pub asked_again : (name all : ℕ) (o : Option InstanceAsk) → eqb all name ≡ false → option_map (instance_ask name) (last_or None (part_members (name ∷ all ∷ []) (asked name all o))) ≡ o
unfolding part_members asked
asked_again name all None h = refl
asked_again name all (Some ask.All) h = rw (eq-eqb all all refl) (by (eqb name all))
  where
    by : (b : Bool) → option_map (instance_ask name) (last_or None (cons_option (cond (b || (true || false)) (Some (all, [])) None) [])) ≡ Some ask.All
    by true = rw h refl
    by false = rw h refl
asked_again name all (Some (ask.Named text)) h = rw (eq-eqb name name refl) (rw (eq-eqb name name refl) refl)

-- ---- a GetRequest

abbrev name_number : Numbers → ℕ
name_number n = field_of n field.GetRequestName

abbrev all_number : Numbers → ℕ
all_number n = field_of n field.GetRequestAll

abbrev aft_number : Numbers → ℕ
aft_number n = field_of n field.GetRequestAft

get_parts : Numbers → GetRequest → List WrittenField
get_parts n r = asked (name_number n) (all_number n) r.instance ++ number_part (aft_number n) r.aft

get_spelled : (n : Numbers) (r : GetRequest) → get_bytes n r ≡ encoded_fields (get_parts n r)
unfolding get_bytes get_parts
get_spelled n r =
    rw (asked_spelled (name_number n) (all_number n) r.instance, number_spelled (aft_number n) r.aft)
    (sym (encoded_fields-append (asked (name_number n) (all_number n) r.instance) (number_part (aft_number n) r.aft)))

-- what each part of a message is known for
abbrev pub IsKnown : Numbers → MessageKind → WrittenField → Type 0
IsKnown n m part = IsLegal part × IsGood (deeper_than 6 n) (kind_of n m) part

pub text_known : (n : Numbers) (m : MessageKind) (name : FieldName) (text : List ℕ) → IsValid n → kind_of n m (field_of n name) ≡ kind.Text → IsUtf8 text → length text < 2 ^ 64 → IsKnown n m (Text (field_of n name) text)
text_known n m name text valid is good lt =
    let r = in_range n name valid in
    ((r.0, r.1, lt), λ place ending. rw (is, is_utf8-from_IsUtf8 text good) refl)

empty_sound : (n : Numbers) (base : ℕ) → fault_within 5 n message.Empty base [] ≡ None
unfolding fault_within fields_from fields_upto
empty_sound n base = refl

pub empty_known : (n : Numbers) (m : MessageKind) (name : FieldName) → IsValid n → kind_of n m (field_of n name) ≡ kind.Message message.Empty → IsKnown n m (Text (field_of n name) [])
unfolding deeper_than
empty_known n m name valid is =
    let r = in_range n name valid in
    ((r.0, r.1, omega arith), λ place ending. rw (is, empty_sound n (ending - 0)) refl)

pub asked_known : (n : Numbers) (m : MessageKind) (name all : FieldName) (o : Option InstanceAsk) → IsValid n → kind_of n m (field_of n name) ≡ kind.Text → kind_of n m (field_of n all) ≡ kind.Message message.Empty → IfSome o IsEncodableName
    → All (IsKnown n m) (asked (field_of n name) (field_of n all) o)
unfolding asked
asked_known n m name all None valid a b h = All-nil (IsKnown n m)
asked_known n m name all (Some ask.All) valid a b h = All-cons (IsKnown n m) (Text (field_of n all) []) [] (empty_known n m all valid b) (All-nil (IsKnown n m))
asked_known n m name all (Some (ask.Named text)) valid a b h = All-cons (IsKnown n m) (Text (field_of n name) text) [] (text_known n m name text valid a h.0 h.1) (All-nil (IsKnown n m))

kind_at : (n : Numbers) → IsValid n → (i : ℕ) → i < 3 → kind_of n message.GetRequest (get_or (fields_of n message.GetRequest) i (0, kind.Unknown)).0 ≡ (get_or (fields_of n message.GetRequest) i (0, kind.Unknown)).1
unfolding kind_of
kind_at n valid i lt = listed_at (fields_of n message.GetRequest) i (0, kind.Unknown) (distinct_at n valid 7 (omega arith)) lt

pub get_again : (n : Numbers) (r : GetRequest) → IsValid n → IsEncodableGet r → (first_fault n message.GetRequest (get_bytes n r) ≡ None) × (get_request n (get_bytes n r) ≡ r)
unfolding first_fault get_request last_member_at number_at last_number_at get_parts
get_again n r valid h =
    let a = name_number n in
    let b = all_number n in
    let c = aft_number n in
    let first = asked a b r.instance in
    let second = number_part c r.aft in
    let parts = get_parts n r in
    let aft_range = in_range n field.GetRequestAft valid in
    let known = asked_known n message.GetRequest field.GetRequestName field.GetRequestAll r.instance valid (kind_at n valid 0 (omega arith)) (kind_at n valid 1 (omega arith)) h.instance in
    let legal : All IsLegal parts = All-append IsLegal first second (All-weaker (IsKnown n message.GetRequest) IsLegal (λ p k. k.0) first known) (number_legal (c, r.aft) (aft_range.0, aft_range.1, h.aft)) in
    let good : All (IsGood (deeper_than 6 n) (kind_of n message.GetRequest)) parts =
    All-append (IsGood (deeper_than 6 n) (kind_of n message.GetRequest)) first second (All-weaker (IsKnown n message.GetRequest) (IsGood (deeper_than 6 n) (kind_of n message.GetRequest)) (λ p k. k.1) first known)
    (number_good (deeper_than 6 n) (kind_of n message.GetRequest) c r.aft) in
    let is = get_spelled n r in
    let cut = cut_of 0 parts (get_bytes n r) is legal in
    let ba : eqb b a ≡ false = apart (a ∷ b ∷ c ∷ []) 0 1 0 (distinct_at n valid 7 (omega arith)) (omega arith) (omega arith) in
    let told : members (get_members n) (fields (get_bytes n r)).fields ≡ part_members (a ∷ b ∷ []) first =
    ap (λ (x : ParsedFields). members (get_members n) x.fields) cut ∙ members-field_spans (get_members n) 0 parts ∙ members-append (a ∷ b ∷ []) first second
    ∙ rw (no_members (a ∷ b ∷ []) c r.aft) (append-nil (part_members (a ∷ b ∷ []) first)) in
    let counted : numbers c (fields (get_bytes n r)).fields ≡ cond (eqb r.aft 0) [] (r.aft ∷ []) =
    ap (λ (x : ParsedFields). numbers c x.fields) cut ∙ numbers-field_spans c 0 parts ∙ numbers-append c first second ∙ rw (no_numbers c a b r.instance, one_number c r.aft) refl in (
      no_fault 6 n message.GetRequest 0 parts (get_bytes n r) is legal good,
      rw (told, counted, asked_again a b r.instance ba, read_number r.aft) refl,
    )
