-- What no bytes say.
use Rattle.std.proofs.Common.{◌≡◌, ℕ, zero, suc, List, [], ◌∷◌, length, None, refl, arith}
use Rattle.proto_wire.specs.Fields.{fields_from, fields_upto}
use Rattle.proto_schema.specs.declared.schema.MessageKind.{MessageKind}
use Rattle.proto_schema.specs.Legal.{fault_within}
use Rattle.proto_schema.specs.FieldValues.{message_at}
use Rattle.schema_numbers.specs.Numbers.{Numbers}

pub no_message : (wanted : ℕ) (bytes : List ℕ) → length bytes ≡ 0 → message_at wanted bytes ≡ None
unfolding message_at fields_from fields_upto
no_message wanted [] e = refl
no_message wanted (b ∷ bytes) e = absurd (omega arith)

pub no_fault : (depth : ℕ) (n : Numbers) (m : MessageKind) (base : ℕ) (bytes : List ℕ) → length bytes ≡ 0 → fault_within depth n m base bytes ≡ None
unfolding fault_within fields_from fields_upto
no_fault zero n m base [] e = refl
no_fault (suc depth) n m base [] e = refl
no_fault depth n m base (b ∷ bytes) e = absurd (omega arith)
