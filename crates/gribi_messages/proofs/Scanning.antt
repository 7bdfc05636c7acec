-- An operation's fields, heard one after another.
use Rattle.std.proofs.Common.{◌≡◌, ℕ, List, ◌∷◌, Option, Some, None, refl, ◌∙◌, sym}
use Rattle.std.specs.List.{cons_option, last_or}
use Rattle.std.specs.Option.{option_or}
use Rattle.proto_wire.specs.Fields.{FieldSpan}
use Rattle.proto_schema.specs.FieldValues.{number_in, numbers, piece_in, pieces, member_in, members, merged_onto, oneof_after}
use Rattle.gribi_messages.specs.ScannedFields.{merged_with, oneof_with}

-- what was heard, and what the fields that are left say behind it, is what all fields say
pub record IsScannedSoFar (id_number instance_number op_number election_number : ℕ) (among : List ℕ) (id : Option ℕ) (instance : Option (List ℕ)) (op : Option ℕ) (entry : Option (ℕ × List ℕ)) (election : Option (List ℕ)) (rest all : List FieldSpan) : Type 0 where
  pub id_scanned : last_or id (numbers id_number rest) ≡ last_or None (numbers id_number all)
  pub instance_scanned : last_or instance (pieces instance_number rest) ≡ last_or None (pieces instance_number all)
  pub op_scanned : last_or op (numbers op_number rest) ≡ last_or None (numbers op_number all)
  pub entry_scanned : oneof_after entry (members among rest) ≡ oneof_after None (members among all)
  pub scanned_election : merged_onto election (pieces election_number rest) ≡ merged_onto None (pieces election_number all)

last_cons : {A : Type 0} (x before : Option A) (xs : List A) → last_or before (cons_option x xs) ≡ last_or (option_or x before) xs
last_cons None before xs = refl
last_cons (Some x) before xs = refl

chosen_cons : (x before : Option (ℕ × List ℕ)) (xs : List (ℕ × List ℕ)) → oneof_after before (cons_option x xs) ≡ oneof_after (oneof_with before x) xs
chosen_cons None before xs = refl
chosen_cons (Some x) before xs = refl

joined_cons : (x before : Option (List ℕ)) (xs : List (List ℕ)) → merged_onto before (cons_option x xs) ≡ merged_onto (merged_with before x) xs
joined_cons None before xs = refl
joined_cons (Some x) before xs = refl

-- one more field
pub scans_one : (id_number instance_number op_number election_number : ℕ) (among : List ℕ)
    (id new_id : Option ℕ) (instance new_instance : Option (List ℕ)) (op new_op : Option ℕ) (entry new_entry : Option (ℕ × List ℕ)) (election new_election : Option (List ℕ))
    (f : FieldSpan) (before rest all : List FieldSpan)
    → IsScannedSoFar id_number instance_number op_number election_number among id instance op entry election before all
    → before ≡ f ∷ rest
    → new_id ≡ option_or (number_in id_number f.number f.value) id
    → new_instance ≡ option_or (piece_in instance_number f.number f.value) instance
    → new_op ≡ option_or (number_in op_number f.number f.value) op
    → new_entry ≡ oneof_with entry (member_in among f.number f.value)
    → new_election ≡ merged_with election (piece_in election_number f.number f.value)
    → IsScannedSoFar id_number instance_number op_number election_number among new_id new_instance new_op new_entry new_election rest all
scans_one id_number instance_number op_number election_number among id new_id instance new_instance op new_op entry new_entry election new_election f before rest all h first a b c d e =
    let was = rw first at h in
    record {
      id_scanned = rw a (sym (last_cons (number_in id_number f.number f.value) id (numbers id_number rest)) ∙ was.id_scanned);
      instance_scanned = rw b (sym (last_cons (piece_in instance_number f.number f.value) instance (pieces instance_number rest)) ∙ was.instance_scanned);
      op_scanned = rw c (sym (last_cons (number_in op_number f.number f.value) op (numbers op_number rest)) ∙ was.op_scanned);
      entry_scanned = rw d (sym (chosen_cons (member_in among f.number f.value) entry (members among rest)) ∙ was.entry_scanned);
      scanned_election = rw e (sym (joined_cons (piece_in election_number f.number f.value) election (pieces election_number rest)) ∙ was.scanned_election);
    }

pub ruleset scanned = (scans_one)

-- the same of what a request asks for
pub record AreAsksSoFar (params_number election_number : ℕ) (params election : Option (List ℕ)) (rest all : List FieldSpan) : Type 0 where
  pub params_scanned : merged_onto params (pieces params_number rest) ≡ merged_onto None (pieces params_number all)
  pub scanned_election : merged_onto election (pieces election_number rest) ≡ merged_onto None (pieces election_number all)

pub scans_header : (params_number election_number : ℕ)
    (params new_params : Option (List ℕ)) (election new_election : Option (List ℕ))
    (f : FieldSpan) (before rest all : List FieldSpan)
    → AreAsksSoFar params_number election_number params election before all
    → before ≡ f ∷ rest
    → new_params ≡ merged_with params (piece_in params_number f.number f.value)
    → new_election ≡ merged_with election (piece_in election_number f.number f.value)
    → AreAsksSoFar params_number election_number new_params new_election rest all
scans_header params_number election_number params new_params election new_election f before rest all h first a b =
    let was = rw first at h in
    record {
      params_scanned = rw a (sym (joined_cons (piece_in params_number f.number f.value) params (pieces params_number rest)) ∙ was.params_scanned);
      scanned_election = rw b (sym (joined_cons (piece_in election_number f.number f.value) election (pieces election_number rest)) ∙ was.scanned_election);
    }

pub ruleset header_scanned = (scans_header)
