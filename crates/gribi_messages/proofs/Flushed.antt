-- A request of a Flush is read again.
use Rattle.std.proofs.Common.{◌≡◌, ℕ, ◌<◌, ◌^◌, Bool, true, false, cond, eqb, List, [], ◌∷◌, ◌++◌, get_or, Option, None, Some, refl, sym, ap, ◌∙◌, arith}
use Rattle.std.specs.Prelude.{All, IfSome, ◌||◌}
use Rattle.std.specs.List.{cons_option}
use Rattle.std.specs.Option.{option_map, option_map_or}
use Rattle.std.proofs.lemmas.Bool.{eq-eqb}
use Rattle.std.proofs.lemmas.List.{append-nil}
use Rattle.std.proofs.lemmas.List.Elements.{All-nil, All-cons, All-append, All-weaker}
use Rattle.proto_wire.specs.Fields.{ParsedFields, fields}
use Rattle.proto_wire.specs.Written.{WrittenField, Text, encoded_fields, IsLegal}
use Rattle.schema_numbers.specs.Numbers.{Numbers, field_of}
use Rattle.schema_numbers.specs.Valid.{IsValid, are_distinct}
use Rattle.schema_numbers.specs.declared.names.FieldName.TheVariants as field
use Rattle.proto_schema.specs.declared.schema.MessageKind.TheVariants as message
use Rattle.proto_schema.specs.declared.schema.FieldKind.TheVariants as kind
use Rattle.proto_schema.specs.Schema.{fields_of, kind_of}
use Rattle.proto_schema.specs.Legal.{first_fault, deeper_than}
use Rattle.proto_schema.specs.FieldValues.{members, oneof_after, oneof_at}
use Rattle.gribi_messages.specs.declared.asks.InstanceAsk.{InstanceAsk}
use Rattle.gribi_messages.specs.declared.asks.InstanceAsk.TheVariants as ask
use Rattle.gribi_messages.specs.declared.asks.FlushAsk.{FlushAsk}
use Rattle.gribi_messages.specs.declared.asks.FlushAsk.TheVariants as election
use Rattle.gribi_messages.specs.declared.asks.FlushRequest.{FlushRequest}
use Rattle.gribi_messages.specs.Response.{uint128_bytes}
use Rattle.gribi_messages.specs.GetAndFlush.{last_member_at, flush_election_members, flush_ask, flush_ask_field, flush_request, flush_bytes}
use Rattle.gribi_messages.specs.EncodableMessages.{IsEncodableElection, IsEncodableFlush}
use Rattle.gribi_messages.proofs.Schemas.{listed_at, distinct_at}
use Rattle.gribi_messages.proofs.ReadAgain.{one_spelled, encoded_fields-append, part_members, members-field_spans, cut_of, no_fault, IsGood, in_range, turned}
use Rattle.gribi_messages.proofs.Embedded.{apart, id_read, id_sound, message_good}
use Rattle.gribi_messages.proofs.Asked.{IsKnown, asked, asked_spelled, asked_again, asked_known, empty_known, members-append}

abbrev id_number : Numbers → ℕ
id_number n = field_of n field.FlushRequestId

abbrev override_number : Numbers → ℕ
override_number n = field_of n field.FlushRequestOverride

abbrev name_number : Numbers → ℕ
name_number n = field_of n field.FlushRequestName

abbrev all_number : Numbers → ℕ
all_number n = field_of n field.FlushRequestAll

-- the member of the oneof of the election
elected : Numbers → Option FlushAsk → List WrittenField
elected n None = []
elected n (Some (election.Id id)) = Text (id_number n) (uint128_bytes n id) ∷ []
elected n (Some election.Override) = Text (override_number n) [] ∷ []

elected_spelled : (n : Numbers) (o : Option FlushAsk) → option_map_or (flush_ask_field n) o [] ≡ encoded_fields (elected n o)
unfolding elected
elected_spelled n None = refl
elected_spelled n (Some (election.Id id)) = one_spelled (Text (id_number n) (uint128_bytes n id))
elected_spelled n (Some election.Override) = one_spelled (Text (override_number n) [])

-- a member of another oneof
not_among : (x y number : ℕ) (bytes : List ℕ) → eqb x number ≡ false → eqb y number ≡ false → part_members (x ∷ y ∷ []) (Text number bytes ∷ []) ≡ []
unfolding part_members
not_among x y number bytes h i = rw (h, i) refl

elected_not_among : (n : Numbers) (x y : ℕ) (o : Option FlushAsk) → eqb x (id_number n) ≡ false → eqb y (id_number n) ≡ false → eqb x (override_number n) ≡ false → eqb y (override_number n) ≡ false → part_members (x ∷ y ∷ []) (elected n o) ≡ []
unfolding part_members elected
elected_not_among n x y None a b c d = refl
elected_not_among n x y (Some (election.Id id)) a b c d = not_among x y (id_number n) (uint128_bytes n id) a b
elected_not_among n x y (Some election.Override) a b c d = not_among x y (override_number n) [] c d

asked_not_among : (x y name all : ℕ) (o : Option InstanceAsk) → eqb x name ≡ false → eqb y name ≡ false → eqb x all ≡ false → eqb y all ≡ false → part_members (x ∷ y ∷ []) (asked name all o) ≡ []
unfolding part_members asked
asked_not_among x y name all None a b c d = refl
asked_not_among x y name all (Some ask.All) a b c d = not_among x y all [] c d
asked_not_among x y name all (Some (ask.Named text)) a b c d = not_among x y name text a b

elected_again : (n : Numbers) (o : Option FlushAsk) → IsValid n → IfSome o IsEncodableElection → eqb (override_number n) (id_number n) ≡ false → option_map (flush_ask n) (oneof_after None (part_members (flush_election_members n) (elected n o))) ≡ o
unfolding part_members elected
elected_again n None valid h other = refl
elected_again n (Some (election.Id id)) valid h other = rw (eq-eqb (id_number n) (id_number n) refl) (rw (eq-eqb (id_number n) (id_number n) refl, id_read n id valid h) refl)
elected_again n (Some election.Override) valid h other = rw (eq-eqb (override_number n) (override_number n) refl) (by (eqb (id_number n) (override_number n)))
  where
    by : (b : Bool) → option_map (flush_ask n) (oneof_after None (cons_option (cond (b || (true || false)) (Some (override_number n, [])) None) [])) ≡ Some election.Override
    by true = rw other refl
    by false = rw other refl

kind_at : (n : Numbers) → IsValid n → (i : ℕ) → i < 4 → kind_of n message.FlushRequest (get_or (fields_of n message.FlushRequest) i (0, kind.Unknown)).0 ≡ (get_or (fields_of n message.FlushRequest) i (0, kind.Unknown)).1
unfolding kind_of
kind_at n valid i lt = listed_at (fields_of n message.FlushRequest) i (0, kind.Unknown) (distinct_at n valid 10 (omega arith)) lt

id_known : (n : Numbers) (id : ℕ) → IsValid n → id < 2 ^ 128 → IsKnown n message.FlushRequest (Text (id_number n) (uint128_bytes n id))
id_known n id valid lt =
    let r = in_range n field.FlushRequestId valid in
    let sound = id_sound n id valid lt in
    ((r.0, r.1, sound.0), message_good n message.FlushRequest message.Uint128 (id_number n) (uint128_bytes n id) (kind_at n valid 0 (omega arith)) sound)

elected_known : (n : Numbers) (o : Option FlushAsk) → IsValid n → IfSome o IsEncodableElection → All (IsKnown n message.FlushRequest) (elected n o)
unfolding elected
elected_known n None valid h = All-nil (IsKnown n message.FlushRequest)
elected_known n (Some (election.Id id)) valid h = All-cons (IsKnown n message.FlushRequest) (Text (id_number n) (uint128_bytes n id)) [] (id_known n id valid h) (All-nil (IsKnown n message.FlushRequest))
elected_known n (Some election.Override) valid h =
    All-cons (IsKnown n message.FlushRequest) (Text (override_number n) []) [] (empty_known n message.FlushRequest field.FlushRequestOverride valid (kind_at n valid 1 (omega arith))) (All-nil (IsKnown n message.FlushRequest))

flush_spelled : (n : Numbers) (r : FlushRequest) → flush_bytes n r ≡ encoded_fields (elected n r.election ++ asked (name_number n) (all_number n) r.instance)
unfolding flush_bytes
flush_spelled n r =
    rw (elected_spelled n r.election, asked_spelled (name_number n) (all_number n) r.instance) (sym (encoded_fields-append (elected n r.election) (asked (name_number n) (all_number n) r.instance)))

pub flush_again : (n : Numbers) (r : FlushRequest) → IsValid n → IsEncodableFlush r → (first_fault n message.FlushRequest (flush_bytes n r) ≡ None) × (flush_request n (flush_bytes n r) ≡ r)
unfolding first_fault flush_request last_member_at oneof_at
flush_again n r valid h =
    let i = id_number n in
    let o = override_number n in
    let a = name_number n in
    let b = all_number n in
    let first = elected n r.election in
    let second = asked a b r.instance in
    let parts = first ++ second in
    let known : All (IsKnown n message.FlushRequest) parts =
    All-append (IsKnown n message.FlushRequest) first second (elected_known n r.election valid h.election)
    (asked_known n message.FlushRequest field.FlushRequestName field.FlushRequestAll r.instance valid (kind_at n valid 2 (omega arith)) (kind_at n valid 3 (omega arith)) h.instance) in
    let legal : All IsLegal parts = All-weaker (IsKnown n message.FlushRequest) IsLegal (λ p k. k.0) parts known in
    let good : All (IsGood (deeper_than 6 n) (kind_of n message.FlushRequest)) parts =
    All-weaker (IsKnown n message.FlushRequest) (IsGood (deeper_than 6 n) (kind_of n message.FlushRequest)) (λ p k. k.1) parts known in
    let is = flush_spelled n r in
    let cut = cut_of 0 parts (flush_bytes n r) is legal in
    let distinct : are_distinct (i ∷ o ∷ a ∷ b ∷ []) ≡ true = distinct_at n valid 10 (omega arith) in
    let oi : eqb o i ≡ false = apart (i ∷ o ∷ a ∷ b ∷ []) 0 1 0 distinct (omega arith) (omega arith) in
    let ai : eqb a i ≡ false = apart (i ∷ o ∷ a ∷ b ∷ []) 0 2 0 distinct (omega arith) (omega arith) in
    let bi : eqb b i ≡ false = apart (i ∷ o ∷ a ∷ b ∷ []) 0 3 0 distinct (omega arith) (omega arith) in
    let ao : eqb a o ≡ false = apart (i ∷ o ∷ a ∷ b ∷ []) 1 2 0 distinct (omega arith) (omega arith) in
    let bo : eqb b o ≡ false = apart (i ∷ o ∷ a ∷ b ∷ []) 1 3 0 distinct (omega arith) (omega arith) in
    let ba : eqb b a ≡ false = apart (i ∷ o ∷ a ∷ b ∷ []) 2 3 0 distinct (omega arith) (omega arith) in
    let one : members (i ∷ o ∷ []) (fields (flush_bytes n r)).fields ≡ part_members (i ∷ o ∷ []) first =
    ap (λ (x : ParsedFields). members (i ∷ o ∷ []) x.fields) cut ∙ members-field_spans (i ∷ o ∷ []) 0 parts ∙ members-append (i ∷ o ∷ []) first second
    ∙ rw (asked_not_among i o a b r.instance (turned a i ai) (turned a o ao) (turned b i bi) (turned b o bo)) (append-nil (part_members (i ∷ o ∷ []) first)) in
    let two : members (a ∷ b ∷ []) (fields (flush_bytes n r)).fields ≡ part_members (a ∷ b ∷ []) second =
    ap (λ (x : ParsedFields). members (a ∷ b ∷ []) x.fields) cut ∙ members-field_spans (a ∷ b ∷ []) 0 parts ∙ members-append (a ∷ b ∷ []) first second
    ∙ rw (elected_not_among n a b r.election ai bi ao bo) refl in (
      no_fault 6 n message.FlushRequest 0 parts (flush_bytes n r) is legal good,
      rw (one, two, elected_again n r.election valid h.election oi, asked_again a b r.instance ba) refl,
    )
