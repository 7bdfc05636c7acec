-- The texts of a message that has no fault are UTF-8.
use Rattle.std.proofs.Common.{◌≡◌, ℕ, Bool, true, false, eqb, List, [], ◌∷◌, Option, Some, None, refl, ◌∙◌, ap, subst}
use Rattle.std.specs.Prelude.{All, IfSome, cond}
use Rattle.std.specs.List.{cons_option, last_or, list_any}
use Rattle.std.specs.Option.{option_or}
use Rattle.std.specs.Str.{IsUtf8, is_utf8}
use Rattle.std.proofs.lemmas.Str.{IsUtf8-from_is_utf8}
use Rattle.std.proofs.lemmas.Bool.{eqb-true}
use Rattle.std.proofs.lemmas.List.Elements.{All-nil, All-cons, All-head, All-tail}
use Rattle.proto_wire.specs.Wire.{Value, Varint, Eight, Bytes, Four}
use Rattle.proto_wire.specs.Fields.{FieldSpan}
use Rattle.proto_schema.specs.declared.schema.FieldKind.{FieldKind}
use Rattle.proto_schema.specs.declared.schema.FieldKind.TheVariants.{Text}
use Rattle.proto_schema.specs.declared.legal.MessageFault.{MessageFault}
use Rattle.proto_schema.specs.declared.legal.MessageFault.TheVariants.{Utf8}
use Rattle.proto_schema.specs.FieldValues.{member_in, members}
use Rattle.proto_schema.specs.Legal.{NestedCheck, fault_of_value, fault_of_fields}

-- a member of this number is UTF-8
abbrev pub IsText : ℕ → (ℕ × List ℕ) → Type 0
IsText name m = eqb m.0 name ≡ true → IsUtf8 m.1

first_none : (a b : Option MessageFault) → option_or a b ≡ None → a ≡ None
first_none None b h = refl
first_none (Some x) b h = cc

then_none : (a b : Option MessageFault) → option_or a b ≡ None → b ≡ None
then_none None b h = h
then_none (Some x) b h = cc

no_utf8_fault : (place : ℕ) (b : Bool) → cond b None (Some (Utf8 place)) ≡ None → b ≡ true
no_utf8_fault place true h = refl
no_utf8_fault place false h = cc

good_text : (deeper : NestedCheck) (kind : FieldKind) (place ending : ℕ) (bytes : List ℕ) → kind ≡ Text → fault_of_value deeper kind place ending (Bytes bytes) ≡ None → IsUtf8 bytes
good_text deeper kind place ending bytes is h =
    IsUtf8-from_is_utf8 bytes (no_utf8_fault place (is_utf8 bytes) (subst (λ (k : FieldKind). fault_of_value deeper k place ending (Bytes bytes) ≡ None) is h))

one_member : (deeper : NestedCheck) (kinds : ℕ → FieldKind) (among : List ℕ) (name : ℕ) → kinds name ≡ Text → (number place ending : ℕ) (value : Value) (others : List (ℕ × List ℕ))
    → fault_of_value deeper (kinds number) place ending value ≡ None → All (IsText name) others → All (IsText name) (cons_option (member_in among number value) others)
one_member deeper kinds among name is number place ending (Varint v) others h rest = rest
one_member deeper kinds among name is number place ending (Eight v) others h rest = rest
one_member deeper kinds among name is number place ending (Four v) others h rest = rest
one_member deeper kinds among name is number place ending (Bytes bytes) others h rest = by (list_any (λ m. eqb m number) among)
  where
    by : (b : Bool) → All (IsText name) (cons_option (cond b (Some (number, bytes)) None) others)
    by true = All-cons (IsText name) (number, bytes) others (λ e. good_text deeper (kinds number) place ending bytes (ap kinds (eqb-true number name e) ∙ is) h) rest
    by false = rest

members_good : (deeper : NestedCheck) (kinds : ℕ → FieldKind) (among : List ℕ) (name : ℕ) → kinds name ≡ Text → (fs : List FieldSpan) (end : Option MessageFault)
    → fault_of_fields deeper kinds fs end ≡ None → All (IsText name) (members among fs)
members_good deeper kinds among name is [] end h = All-nil (IsText name)
members_good deeper kinds among name is (f ∷ fs) end h =
    let first = fault_of_value deeper (kinds f.number) f.place f.ending f.value in
    let later = fault_of_fields deeper kinds fs end in
    one_member deeper kinds among name is f.number f.place f.ending f.value (members among fs) (first_none first later h) (members_good deeper kinds among name is fs end (then_none first later h))

last_good : {A : Type 0} (P : A → Type 0) (before : Option A) (xs : List A) → IfSome before P → All P xs → IfSome (last_or before xs) P
last_good P before [] h all = h
last_good P before (x ∷ xs) h all = last_good P (Some x) xs (All-head P x xs all) (All-tail P x xs all)

-- the last member of a oneof, where it is a known text
pub last_member_good : (deeper : NestedCheck) (kinds : ℕ → FieldKind) (among : List ℕ) (name : ℕ) (fs : List FieldSpan) (end : Option MessageFault) → kinds name ≡ Text
    → fault_of_fields deeper kinds fs end ≡ None → IfSome (last_or None (members among fs)) (IsText name)
last_member_good deeper kinds among name fs end is h = last_good (IsText name) None (members among fs) tt (members_good deeper kinds among name is fs end h)
