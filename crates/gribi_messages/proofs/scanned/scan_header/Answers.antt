use Rattle.std.proofs.Common.{◌≡◌, [], rules, arith}
use Rattle.std.proofs.lemmas.Grind.{common_steps}
use Rattle.proto_wire.specs.Fields.{fields_from}
use Rattle.proto_schema.specs.FieldValues.{message_at}
use Rattle.gribi_messages.proofs.scanned.scan_header.Goals as goal

pub returns-in_default : goal.returns-in_default
unfolding message_at
returns-in_default c =
    let over : (fields_from c.loop-field.reader.0 c.loop-field.reader.1).fields ≡ [] = first_of (search rules, grind (arith, common_steps)) in
    let told = rw over at c.loop-field.invariant in
    record {
      params = rw (← c.field-params_number.ensures.value) told.params_scanned;
      election = rw (← c.field-election_number.ensures.value) told.scanned_election;
    }
