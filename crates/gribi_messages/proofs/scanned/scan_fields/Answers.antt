use Rattle.std.proofs.Common.{◌≡◌, [], unwrap_or, ap, rules, arith}
use Rattle.std.proofs.lemmas.Grind.{common_steps}
use Rattle.proto_wire.specs.Fields.{fields_from}
use Rattle.proto_schema.specs.FieldValues.{last_number_at, number_at, text_at, message_at, oneof_at}
use Rattle.gribi_messages.proofs.scanned.scan_fields.Goals as goal

pub returns-in_default : goal.returns-in_default
unfolding last_number_at number_at text_at message_at oneof_at
returns-in_default c =
    let over : (fields_from c.loop-field.reader.0 c.loop-field.reader.1).fields ≡ [] = first_of (search rules, grind (arith, common_steps)) in
    let told = rw over at c.loop-field.invariant in
    record {
      id = rw (← c.field-id_number.ensures.value) (ap (λ o. unwrap_or o 0) told.id_scanned);
      instance = rw (← c.field-instance_number.ensures.value) (ap (λ o. unwrap_or o []) told.instance_scanned);
      op = rw (← c.field-op_number.ensures.value) (ap (λ o. unwrap_or o 0) told.op_scanned);
      entry = rw (← c.entry_numbers-members.ensures) told.entry_scanned;
      election = rw (← c.field-election_number.ensures.value) told.scanned_election;
    }
