use Rattle.schema_numbers.proofs.Ranges.{field_in_range}
use Rattle.schema_numbers.proofs.numbering.Numbering.field.Goals as goal

pub returns-clause-range : goal.returns-clause-range
returns-clause-range c =
    field_in_range (record { fields = c.self.inside.fields.items; values = c.self.inside.values.items }) c.field_place.result c.index.result.now c.self.invariant c.field_place.ensures.within c.index.ensures
