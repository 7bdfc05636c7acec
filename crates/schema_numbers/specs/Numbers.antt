-- A numbering: the numbers of the fields and of the enumerators, in the order of their names.
use Rattle.std.specs.Prelude.{ℕ, List, slice_index}
use Rattle.schema_numbers.specs.declared.names.FieldName.{FieldName}
use Rattle.schema_numbers.specs.declared.names.ValueName.{ValueName}
use Rattle.schema_numbers.specs.Places.{field_place, value_place}

pub record Numbers : Type 0 where
  pub fields : List ℕ
  pub values : List ℕ

-- the number of a field
unfoldable pub field_of : Numbers → FieldName → ℕ
field_of n name = slice_index n.fields (field_place name)

-- the number of an enumerator
unfoldable pub value_of : Numbers → ValueName → ℕ
value_of n name = slice_index n.values (value_place name)
