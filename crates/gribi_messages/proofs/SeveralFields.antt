-- Messages of several fields, each with a number of its own, are read again.
use Rattle.std.proofs.Common.{◌≡◌, ℕ, zero, suc, ◌+◌, ◌<◌, Bool, true, false, eqb, List, [], ◌∷◌, ◌++◌, length, get_or, map, Option, Some, None, refl, sym, ap, ◌∙◌, arith, append_assoc}
use Rattle.std.specs.Prelude.{All, not, ◌||◌}
use Rattle.std.specs.List.{filter_map, list_any}
use Rattle.std.proofs.lemmas.Bool.{and_parts}
use Rattle.std.proofs.lemmas.List.{append-nil}
use Rattle.std.proofs.lemmas.List.Elements.{All-nil, All-cons, filter_map-append}
use Rattle.proto_wire.specs.Written.{uint_field, bytes_field, WrittenField, Uint, Text, IsLegal, encoded_fields, field_spans}
use Rattle.proto_wire.proofs.Again.{fields_from-encoded_fields}
use Rattle.schema_numbers.specs.Numbers.{Numbers}
use Rattle.schema_numbers.specs.Valid.{are_distinct}
use Rattle.proto_schema.specs.declared.schema.MessageKind.{MessageKind}
use Rattle.proto_schema.specs.declared.schema.FieldKind.{FieldKind}
use Rattle.proto_schema.specs.Schema.{kind_of}
use Rattle.proto_schema.specs.FieldValues.{number_in, piece_in, member_in, members, oneof_after, oneof_at}
use Rattle.aft_messages.proofs.Parts.{Each, each_append, no, val, nums, bits, Clean, Good, clean}
use Rattle.aft_messages.proofs.FieldGroups.{same, differs, InBunch, bunch_legal, bunch_good, no_nums, no_bits}
use Rattle.gribi_messages.proofs.Schemas.{not_true, or_no}
use Rattle.gribi_messages.proofs.ReadAgain.{encoded_fields-append}

-- the fields of one number
pub record Bunch : Type 0 where
  pub number : ℕ
  pub kind : FieldKind
  pub parts : List WrittenField

abbrev pub whole : List Bunch → List WrittenField
whole [] = []
whole (b ∷ bs) = b.parts ++ whole bs

abbrev pub spellings : List Bunch → List ℕ
spellings [] = []
spellings (b ∷ bs) = encoded_fields b.parts ++ spellings bs

pub whole_spelled : (bs : List Bunch) → encoded_fields (whole bs) ≡ spellings bs
whole_spelled [] = refl
whole_spelled (b ∷ bs) = encoded_fields-append b.parts (whole bs) ∙ ap (λ (x : List ℕ). encoded_fields b.parts ++ x) (whole_spelled bs)

abbrev pub IsBunch : Numbers → MessageKind → Bunch → Type 0
IsBunch n m b = (kind_of n m b.number ≡ b.kind) × Each (InBunch n b.kind b.number) b.parts

pub whole_legal : (n : Numbers) (m : MessageKind) (bs : List Bunch) → Each (IsBunch n m) bs → Each IsLegal (whole bs)
whole_legal n m [] h = tt
whole_legal n m (b ∷ bs) h = each_append IsLegal b.parts (whole bs) (bunch_legal n b.kind b.number b.parts h.0.1) (whole_legal n m bs h.1)

whole_good : (n : Numbers) (m : MessageKind) (bs : List Bunch) → Each (IsBunch n m) bs → Each (λ p. Good n (kind_of n m (no p)) p) (whole bs)
whole_good n m [] h = tt
whole_good n m (b ∷ bs) h = each_append (λ p. Good n (kind_of n m (no p)) p) b.parts (whole bs) (bunch_good n m b.kind b.number b.parts h.0.0 h.0.1) (whole_good n m bs h.1)

pub whole_clean : (n : Numbers) (m : MessageKind) (bs : List Bunch) → Each (IsBunch n m) bs → Clean n m (encoded_fields (whole bs))
whole_clean n m bs h = clean n m (whole bs) (whole_legal n m bs h) (whole_good n m bs h)

abbrev pub numbers_of : List Bunch → List ℕ
numbers_of bs = map (λ b. b.number) bs

nums-append : (wanted : ℕ) (xs ys : List WrittenField) → nums wanted (xs ++ ys) ≡ nums wanted xs ++ nums wanted ys
nums-append wanted xs ys = filter_map-append (λ p. number_in wanted (no p) (val p)) xs ys

bits-append : (wanted : ℕ) (xs ys : List WrittenField) → bits wanted (xs ++ ys) ≡ bits wanted xs ++ bits wanted ys
bits-append wanted xs ys = filter_map-append (λ p. piece_in wanted (no p) (val p)) xs ys

others_nums : (n : Numbers) (m : MessageKind) (wanted : ℕ) (bs : List Bunch) → Each (IsBunch n m) bs → list_any (λ k. eqb k wanted) (numbers_of bs) ≡ false → nums wanted (whole bs) ≡ []
others_nums n m wanted [] h d = refl
others_nums n m wanted (b ∷ bs) h d =
    let parts = or_no (eqb b.number wanted) (list_any (λ k. eqb k wanted) (numbers_of bs)) d in
    nums-append wanted b.parts (whole bs) ∙ rw (no_nums n b.kind b.number wanted b.parts h.0.1 parts.0, others_nums n m wanted bs h.1 parts.1) refl

others_bits : (n : Numbers) (m : MessageKind) (wanted : ℕ) (bs : List Bunch) → Each (IsBunch n m) bs → list_any (λ k. eqb k wanted) (numbers_of bs) ≡ false → bits wanted (whole bs) ≡ []
others_bits n m wanted [] h d = refl
others_bits n m wanted (b ∷ bs) h d =
    let parts = or_no (eqb b.number wanted) (list_any (λ k. eqb k wanted) (numbers_of bs)) d in
    bits-append wanted b.parts (whole bs) ∙ rw (no_bits n b.kind b.number wanted b.parts h.0.1 parts.0, others_bits n m wanted bs h.1 parts.1) refl

elsewhere : (bs : List Bunch) (i : ℕ) (d : Bunch) (wanted : ℕ) → list_any (λ k. eqb k wanted) (numbers_of bs) ≡ false → i < length bs → eqb (get_or bs i d).number wanted ≡ false
elsewhere [] i d wanted h lt = absurd (omega arith)
elsewhere (b ∷ bs) zero d wanted h lt = (or_no (eqb b.number wanted) (list_any (λ k. eqb k wanted) (numbers_of bs)) h).0
elsewhere (b ∷ bs) (suc i) d wanted h lt = elsewhere bs i d wanted (or_no (eqb b.number wanted) (list_any (λ k. eqb k wanted) (numbers_of bs)) h).1 (omega arith)

-- what is heard of a number is in its own fields
pub nums_at : (n : Numbers) (m : MessageKind) (bs : List Bunch) (i : ℕ) (d : Bunch) → are_distinct (numbers_of bs) ≡ true → Each (IsBunch n m) bs → i < length bs
    → nums (get_or bs i d).number (whole bs) ≡ nums (get_or bs i d).number (get_or bs i d).parts
nums_at n m [] i d h each lt = absurd (omega arith)
nums_at n m (b ∷ bs) zero d h each lt =
    let parts = and_parts (not (list_any (λ k. eqb k b.number) (numbers_of bs))) (are_distinct (numbers_of bs)) h in
    nums-append b.number b.parts (whole bs)
    ∙ rw (others_nums n m b.number bs each.1 (not_true (list_any (λ k. eqb k b.number) (numbers_of bs)) parts.0)) (append-nil (nums b.number b.parts))
nums_at n m (b ∷ bs) (suc i) d h each lt =
    let parts = and_parts (not (list_any (λ k. eqb k b.number) (numbers_of bs))) (are_distinct (numbers_of bs)) h in
    let low : i < length bs = omega arith in
    let wanted = (get_or bs i d).number in
    let other : eqb wanted b.number ≡ false = elsewhere bs i d b.number (not_true (list_any (λ k. eqb k b.number) (numbers_of bs)) parts.0) low in
    nums-append wanted b.parts (whole bs)
    ∙ rw (no_nums n b.kind b.number wanted b.parts each.0.1 (differs b.number wanted other)) (nums_at n m bs i d parts.1 each.1 low)

pub bits_at : (n : Numbers) (m : MessageKind) (bs : List Bunch) (i : ℕ) (d : Bunch) → are_distinct (numbers_of bs) ≡ true → Each (IsBunch n m) bs → i < length bs
    → bits (get_or bs i d).number (whole bs) ≡ bits (get_or bs i d).number (get_or bs i d).parts
bits_at n m [] i d h each lt = absurd (omega arith)
bits_at n m (b ∷ bs) zero d h each lt =
    let parts = and_parts (not (list_any (λ k. eqb k b.number) (numbers_of bs))) (are_distinct (numbers_of bs)) h in
    bits-append b.number b.parts (whole bs)
    ∙ rw (others_bits n m b.number bs each.1 (not_true (list_any (λ k. eqb k b.number) (numbers_of bs)) parts.0)) (append-nil (bits b.number b.parts))
bits_at n m (b ∷ bs) (suc i) d h each lt =
    let parts = and_parts (not (list_any (λ k. eqb k b.number) (numbers_of bs))) (are_distinct (numbers_of bs)) h in
    let low : i < length bs = omega arith in
    let wanted = (get_or bs i d).number in
    let other : eqb wanted b.number ≡ false = elsewhere bs i d b.number (not_true (list_any (λ k. eqb k b.number) (numbers_of bs)) parts.0) low in
    bits-append wanted b.parts (whole bs)
    ∙ rw (no_bits n b.kind b.number wanted b.parts each.0.1 (differs b.number wanted other)) (bits_at n m bs i d parts.1 each.1 low)

-- ---- a oneof

all_from : {X : Type 0} (P : X → Type 0) (xs : List X) → Each P xs → All P xs
all_from P [] p = All-nil P
all_from P (x ∷ xs) p = All-cons P x xs p.0 (all_from P xs p.1)

abbrev pub mems : List ℕ → List WrittenField → List (ℕ × List ℕ)
mems among parts = filter_map (λ p. member_in among (no p) (val p)) parts

mems_spots : (among : List ℕ) (place : ℕ) (parts : List WrittenField) → members among (field_spans place parts) ≡ mems among parts
mems_spots among place [] = refl
mems_spots among place (Uint number value ∷ parts) = rw (mems_spots among (place + length (uint_field number value)) parts) refl
mems_spots among place (Text number bytes ∷ parts) = rw (mems_spots among (place + length (bytes_field number bytes)) parts) refl

pub chosen_said : (among : List ℕ) (parts : List WrittenField) → Each IsLegal parts → oneof_at among (encoded_fields parts) ≡ oneof_after None (mems among parts)
unfolding oneof_at
chosen_said among parts h = rw (fields_from-encoded_fields 0 parts (all_from IsLegal parts h), mems_spots among 0 parts) refl

mems-append : (among : List ℕ) (xs ys : List WrittenField) → mems among (xs ++ ys) ≡ mems among xs ++ mems among ys
mems-append among xs ys = filter_map-append (λ p. member_in among (no p) (val p)) xs ys

-- the number is that of no member
abbrev pub IsOutside : List ℕ → Bunch → Type 0
IsOutside among b = list_any (λ k. eqb k b.number) among ≡ false

no_mems : (n : Numbers) (k : FieldKind) (among : List ℕ) (number : ℕ) (parts : List WrittenField) → Each (InBunch n k number) parts → list_any (λ j. eqb j number) among ≡ false → mems among parts ≡ []
no_mems n k among number [] h d = refl
no_mems n k among number (Uint i value ∷ ps) h d = no_mems n k among number ps h.1 d
no_mems n k among number (Text i bytes ∷ ps) h d = rw (h.0.1, d, no_mems n k among number ps h.1 d) refl

pub mems_skip : (n : Numbers) (m : MessageKind) (among : List ℕ) (b : Bunch) (bs : List Bunch) → IsBunch n m b → IsOutside among b → mems among (whole (b ∷ bs)) ≡ mems among (whole bs)
mems_skip n m among b bs h d = mems-append among b.parts (whole bs) ∙ rw (no_mems n b.kind among b.number b.parts h.1 d) refl

pub mems_none : (n : Numbers) (m : MessageKind) (among : List ℕ) (bs : List Bunch) → Each (IsBunch n m) bs → Each (IsOutside among) bs → mems among (whole bs) ≡ []
mems_none n m among [] h d = refl
mems_none n m among (b ∷ bs) h d = mems_skip n m among b bs h.0 d.0 ∙ mems_none n m among bs h.1 d.1

pub mems_here : (n : Numbers) (m : MessageKind) (among : List ℕ) (b : Bunch) (bs : List Bunch) → Each (IsBunch n m) bs → Each (IsOutside among) bs → mems among (whole (b ∷ bs)) ≡ mems among b.parts
mems_here n m among b bs h d = mems-append among b.parts (whole bs) ∙ rw (mems_none n m among bs h d) (append-nil (mems among b.parts))

pub is_among : (ns : List ℕ) (i d : ℕ) → i < length ns → list_any (λ k. eqb k (get_or ns i d)) ns ≡ true
is_among [] i d lt = absurd (omega arith)
is_among (k ∷ ns) zero d lt = rw (same k) refl
is_among (k ∷ ns) (suc i) d lt = by (eqb k (get_or ns i d)) (is_among ns i d (omega arith))
  where
    by : (b : Bool) → list_any (λ j. eqb j (get_or ns i d)) ns ≡ true → (b || list_any (λ j. eqb j (get_or ns i d)) ns) ≡ true
    by true h = refl
    by false h = h

-- a member that is there once, or not at all
abbrev pub one_member : ℕ → Option (List ℕ) → Option (ℕ × List ℕ)
one_member number None = None
one_member number (Some bytes) = Some (number, bytes)

-- ---- groupings

pub regroup3 : (a b c : List ℕ) → (a ++ b) ++ c ≡ a ++ (b ++ (c ++ []))
regroup3 a b c = append_assoc a b c ∙ ap (λ (x : List ℕ). a ++ (b ++ x)) (sym (append-nil c))

pub regroup4 : (a b c d : List ℕ) → ((a ++ b) ++ c) ++ d ≡ a ++ (b ++ (c ++ (d ++ [])))
regroup4 a b c d = append_assoc (a ++ b) c d ∙ append_assoc a b (c ++ d) ∙ ap (λ (x : List ℕ). a ++ (b ++ (c ++ x))) (sym (append-nil d))

pub regroup5 : (a b c d e : List ℕ) → (((a ++ b) ++ c) ++ d) ++ e ≡ a ++ (b ++ (c ++ (d ++ (e ++ []))))
regroup5 a b c d e =
    append_assoc ((a ++ b) ++ c) d e ∙ append_assoc (a ++ b) c (d ++ e) ∙ append_assoc a b (c ++ (d ++ e)) ∙ ap (λ (x : List ℕ). a ++ (b ++ (c ++ (d ++ x)))) (sym (append-nil e))
