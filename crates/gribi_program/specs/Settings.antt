-- What `apply` reads its input with: the default numbering, and the network instances of the command line.
use Rattle.std.specs.Prelude.{ℕ, List}
use Rattle.schema_numbers.specs.Default.{default_numbers}
use Rattle.call_answers.specs.declared.orders.Setting.{Setting}

abbrev pub setting_with : List (List ℕ) → Setting
setting_with names = record { numbering = default_numbers; instances = names }
