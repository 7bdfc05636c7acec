use Rattle.std.proofs.Common.{◌≡◌, [], unwrap_or, ap, rules, arith}
use Rattle.std.proofs.lemmas.Grind.{common_steps}
use Rattle.proto_wire.specs.Fields.{fields_from}
use Rattle.proto_schema.specs.FieldValues.{last_number_at, number_at}
use Rattle.gribi_messages.proofs.scanned.numbers_at.Goals as goal

pub returns-in_default : goal.returns-in_default
unfolding last_number_at number_at
returns-in_default c =
    let over : (fields_from c.loop-field.reader.0 c.loop-field.reader.1).fields ≡ [] = first_of (search rules, grind (arith, common_steps)) in
    let told = rw over at c.loop-field.invariant in
    record { one = ap (λ o. unwrap_or o 0) told.first_scanned; other = ap (λ o. unwrap_or o 0) told.second_scanned }
