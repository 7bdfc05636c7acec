use Rattle.schema_numbers.proofs.Ranges.{value_in_range}
use Rattle.schema_numbers.proofs.numbering.Numbering.value.Goals as goal

pub returns-clause-range : goal.returns-clause-range
returns-clause-range c =
    value_in_range (record { fields = c.self.inside.fields.items; values = c.self.inside.values.items }) c.value_place.result c.index.result.now c.self.invariant c.value_place.ensures.within c.index.ensures
