-- What a core is set up with.
use Rattle.std.specs.Prelude.{Bool, ◌&&◌, nat_le}
use Rattle.table_model.specs.declared.command.Config.{Config}

-- 1 to 16 workers, 1 to 256 network instances, and a limit of 1 to 1,000,000 entries
abbrev pub is_in_range : Config → Bool
is_in_range config =
    nat_le 1 config.workers && nat_le config.workers 16
    && nat_le 1 config.instances && nat_le config.instances 256
    && nat_le 1 config.limit && nat_le config.limit 1000000
