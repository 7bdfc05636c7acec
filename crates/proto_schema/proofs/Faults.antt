-- Texts that are UTF-8, and those that aren't.
use Rattle.std.proofs.Common.{◌≡◌, ℕ, zero, suc, List, Bool, true, false, refl}
use Rattle.proto_wire.specs.Fields.{fields_from}
use Rattle.proto_schema.specs.declared.schema.MessageKind.{MessageKind}
use Rattle.schema_numbers.specs.Numbers.{Numbers}
use Rattle.proto_schema.specs.Schema.{kind_of}
use Rattle.proto_schema.specs.Legal.{fault_within, fault_of_parsed, deeper_than}
use Rattle.std.specs.Str.{IsUtf8, is_utf8}
use Rattle.std.proofs.lemmas.Str.{IsUtf8-from_is_utf8, is_utf8-from_IsUtf8}

pub utf8_test : (bytes : List ℕ) → IsUtf8 bytes → is_utf8 bytes ≡ true
utf8_test bytes h = is_utf8-from_IsUtf8 bytes h

pub utf8_fault : (bytes : List ℕ) → ¬ (IsUtf8 bytes) → is_utf8 bytes ≡ false
utf8_fault bytes bad = by_cases (is_utf8 bytes) (λ good. bad (IsUtf8-from_is_utf8 bytes good))
  where
    by_cases : (b : Bool) → (b ≡ true → ⊥) → b ≡ false
    by_cases true h = absurd (h refl)
    by_cases false h = refl

-- the faults of a message are those of its fields
pub fault_within-is : (depth : ℕ) (n : Numbers) (m : MessageKind) (base : ℕ) (bytes : List ℕ) → fault_within depth n m base bytes ≡ fault_of_parsed (deeper_than depth n) (kind_of n m) (fields_from base bytes)
unfolding fault_within deeper_than
fault_within-is zero n m base bytes = refl
fault_within-is (suc depth) n m base bytes = refl

pub ruleset faults = (fault_within-is)

pub ruleset utf8 = (utf8_test, utf8_fault)
