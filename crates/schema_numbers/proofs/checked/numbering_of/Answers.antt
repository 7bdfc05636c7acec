use Rattle.std.proofs.Common.{◌≡◌, true}
use Rattle.schema_numbers.specs.Groups.{are_valid_fields, are_valid_values}
use Rattle.schema_numbers.proofs.Checking.{is_valid, fields_pass, values_pass, fields_in_range}
use Rattle.schema_numbers.proofs.checked.numbering_of.Goals as goal
use Rattle.schema_numbers.proofs.checked.numbering_of.Goals.{then-not-are_valid_fields-via-then-not-are_valid_fields, then-not-are_valid_fields-via-else-not-are_valid_fields+then-not-are_valid_values}

pub returns-then-not-are_valid_fields : goal.returns-then-not-are_valid_fields
returns-then-not-are_valid_fields c = λ valid.
    elim c.then-not-are_valid_fields.branch [
      | then-not-are_valid_fields-via-then-not-are_valid_fields w ↦ let passes = fields_pass _ valid in cc (passes, c.are_valid_fields.ensures)
      | then-not-are_valid_fields-via-else-not-are_valid_fields+then-not-are_valid_values w ↦ let passes = values_pass _ valid in cc (passes, w.are_valid_values.ensures)
    ]

pub in_32_bits-requires : goal.in_32_bits-requires
in_32_bits-requires c =
    let passes : are_valid_fields c.args.fields.now ≡ true = cc (c.are_valid_fields.ensures) in
    fields_in_range c.args.fields.now passes

pub checked-requires : goal.checked-requires
checked-requires c =
    let fields : are_valid_fields c.args.fields.now ≡ true = cc (c.are_valid_fields.ensures) in
    let values : are_valid_values c.args.values.now ≡ true = cc (c.are_valid_values.ensures) in
    rw (c.in_ok-fields.ensures, c.in_ok-values.ensures.items) (is_valid _ fields values)
