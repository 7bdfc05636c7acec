-- Numbers that are changed one by one.
use Rattle.std.specs.Prelude.{ℕ, slice_set}
use Rattle.schema_numbers.specs.declared.names.FieldName.{FieldName}
use Rattle.schema_numbers.specs.declared.names.ValueName.{ValueName}
use Rattle.schema_numbers.specs.Numbers.{Numbers}
use Rattle.schema_numbers.specs.Places.{field_place, value_place}

-- the same numbers, but for one field
abbrev pub with_field : Numbers → FieldName → ℕ → Numbers
with_field n item number = record { fields = slice_set n.fields (field_place item) number; values = n.values }

-- and but for one enumerator
abbrev pub with_value : Numbers → ValueName → ℕ → Numbers
with_value n item number = record { fields = n.fields; values = slice_set n.values (value_place item) number }
