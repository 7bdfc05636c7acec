-- The lock and the setting of a server before a run has named its own.
use Rattle.std.specs.Prelude.{[]}
use Rattle.schema_numbers.specs.Default.{default_numbers}
use Rattle.atomic_table.specs.Seated.{TableId}
use Rattle.table_lock.specs.Passes.{LockView}
use Rattle.table_model.specs.declared.command.Config.{Config}
use Rattle.call_answers.specs.declared.orders.Setting.{Setting}

abbrev no_table : TableId
no_table = record { words = 0; slots = 0; views_name = 0; atom = 0; block = 0; offset = 0; slot_names = [] }

abbrev pub unnamed_lock : LockView Config
unnamed_lock = record { table = no_table; setup = record { instances = 1; workers = 1; limit = 1 } }

abbrev pub unnamed_setting : Setting
unnamed_setting = record { numbering = default_numbers; instances = [] }
