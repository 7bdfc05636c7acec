-- A message without a fault has none wherever it stands, and however deep it is looked into.
use Rattle.std.proofs.Common.{◌≡◌, ℕ, zero, suc, ◌+◌, ◌-◌, ◌<◌, ◌≤◌, ◌⊎◌, inl, inr, Bool, true, false, cond, List, [], ◌∷◌, length, drop, Option, Some, None, Result, Ok, Err, refl, ◌∙◌, arith}
use Rattle.std.specs.Option.{option_or}
use Rattle.std.specs.Str.{is_utf8}
use Rattle.std.proofs.lemmas.Bool.{cases_lt}
use Rattle.proto_wire.specs.declared.reader.WireFault.{WireFault}
use Rattle.proto_wire.specs.Wire.{Value, Varint, Eight, Bytes, Four, TaggedValue, tagged_value_at}
use Rattle.proto_wire.specs.Fields.{parse_rest, fields_upto, fields_from}
use Rattle.schema_numbers.specs.Numbers.{Numbers}
use Rattle.proto_schema.specs.declared.schema.MessageKind.{MessageKind}
use Rattle.proto_schema.specs.declared.schema.FieldKind.{FieldKind}
use Rattle.proto_schema.specs.declared.schema.FieldKind.TheVariants as kind
use Rattle.proto_schema.specs.declared.legal.MessageFault.{MessageFault}
use Rattle.proto_schema.specs.declared.legal.MessageFault.TheVariants.{Utf8}
use Rattle.proto_schema.specs.Schema.{kind_of}
use Rattle.proto_schema.specs.Legal.{NestedCheck, unchecked, fault_of_value, fault_of_parsed, fault_within, first_fault}
use Rattle.proto_schema.proofs.Depth.{six_is_enough}
use Rattle.aft_messages.proofs.Parts.{Clean}

first_none : (a b : Option MessageFault) → option_or a b ≡ None → a ≡ None
first_none None b h = refl
first_none (Some x) b h = cc

then_none : (a b : Option MessageFault) → option_or a b ≡ None → b ≡ None
then_none None b h = h
then_none (Some x) b h = cc

both_none : (a b : Option MessageFault) → a ≡ None → b ≡ None → option_or a b ≡ None
both_none a b h i = rw (h, i) refl

-- where the one finds no fault, the other finds none either, also at another place
abbrev Passes : NestedCheck → NestedCheck → Type 0
Passes f g = (m : MessageKind) (at base : ℕ) (bytes : List ℕ) → f m at bytes ≡ None → g m base bytes ≡ None

no_bad_text : (at base : ℕ) (b : Bool) → cond b None (Some (Utf8 at)) ≡ None → cond b None (Some (Utf8 base)) ≡ None
no_bad_text at base true h = refl
no_bad_text at base false h = cc

quiet_value : (f g : NestedCheck) → Passes f g → (k : FieldKind) (at ending base final : ℕ) (value : Value) → fault_of_value f k at ending value ≡ None → fault_of_value g k base final value ≡ None
quiet_value f g p k at ending base final (Varint v) h = refl
quiet_value f g p k at ending base final (Eight v) h = refl
quiet_value f g p k at ending base final (Four v) h = refl
quiet_value f g p kind.Unknown at ending base final (Bytes bytes) h = refl
quiet_value f g p kind.Number at ending base final (Bytes bytes) h = refl
quiet_value f g p kind.Unread at ending base final (Bytes bytes) h = refl
quiet_value f g p kind.Text at ending base final (Bytes bytes) h = no_bad_text at base (is_utf8 bytes) h
quiet_value f g p (kind.Message m) at ending base final (Bytes bytes) h = p m (ending - length bytes) (final - length bytes) bytes h

quiet_body : (f g : NestedCheck) → Passes f g → (kinds : ℕ → FieldKind) (k at base : ℕ) (bytes : List ℕ) (r : Result TaggedValue WireFault)
    → ((place other : ℕ) (rest : List ℕ) → fault_of_parsed f kinds (fields_upto k place rest) ≡ None → fault_of_parsed g kinds (fields_upto k other rest) ≡ None)
    → fault_of_parsed f kinds (parse_rest (fields_upto k) at bytes r) ≡ None → fault_of_parsed g kinds (parse_rest (fields_upto k) base bytes r) ≡ None
quiet_body f g p kinds k at base bytes (Err fault) others h = cc
quiet_body f g p kinds k at base bytes (Ok body) others h =
    both_none (fault_of_value g (kinds body.number) base (base + body.size) body.value) (fault_of_parsed g kinds (fields_upto k (base + body.size) (drop body.size bytes)))
    (quiet_value f g p (kinds body.number) at (at + body.size) base (base + body.size) body.value
    (first_none (fault_of_value f (kinds body.number) at (at + body.size) body.value) (fault_of_parsed f kinds (fields_upto k (at + body.size) (drop body.size bytes))) h))
    (others (at + body.size) (base + body.size) (drop body.size bytes)
    (then_none (fault_of_value f (kinds body.number) at (at + body.size) body.value) (fault_of_parsed f kinds (fields_upto k (at + body.size) (drop body.size bytes))) h))

quiet_fields : (f g : NestedCheck) → Passes f g → (kinds : ℕ → FieldKind) (k at base : ℕ) (bytes : List ℕ) → fault_of_parsed f kinds (fields_upto k at bytes) ≡ None → fault_of_parsed g kinds (fields_upto k base bytes) ≡ None
unfolding fields_upto
quiet_fields f g p kinds zero at base [] h = refl
quiet_fields f g p kinds zero at base (b ∷ bytes) h = refl
quiet_fields f g p kinds (suc k) at base [] h = refl
quiet_fields f g p kinds (suc k) at base (b ∷ bytes) h = quiet_body f g p kinds k at base (b ∷ bytes) (tagged_value_at (b ∷ bytes)) (quiet_fields f g p kinds k) h

quiet : (d e : ℕ) (n : Numbers) (m : MessageKind) (at base : ℕ) (bytes : List ℕ) → d ≤ e → fault_within e n m at bytes ≡ None → fault_within d n m base bytes ≡ None
unfolding fault_within fields_from
quiet zero zero n m at base bytes le h = quiet_fields unchecked unchecked (λ k x y inner i. refl) (kind_of n m) (length bytes) at base bytes h
quiet zero (suc e) n m at base bytes le h = quiet_fields (fault_within e n) unchecked (λ k x y inner i. refl) (kind_of n m) (length bytes) at base bytes h
quiet (suc d) zero n m at base bytes le h = absurd (omega arith)
quiet (suc d) (suc e) n m at base bytes le h =
    quiet_fields (fault_within e n) (fault_within d n) (λ k x y inner i. quiet d e n k x y inner (omega arith) i) (kind_of n m) (length bytes) at base bytes h

pub clean_from : (n : Numbers) (m : MessageKind) (bytes : List ℕ) → first_fault n m bytes ≡ None → Clean n m bytes
unfolding first_fault
clean_from n m bytes h depth base = by (cases_lt depth 6)
  where
    by : (depth < 6) ⊎ (6 ≤ depth) → fault_within depth n m base bytes ≡ None
    by (inl low) = quiet depth 6 n m 0 base bytes (omega arith) h
    by (inr high) =
        let whole : depth ≡ 6 + (depth - 6) = omega arith in
        rw whole (six_is_enough (depth - 6) n m base bytes ∙ quiet 6 6 n m 0 base bytes (omega arith) h)
