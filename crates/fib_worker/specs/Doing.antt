-- What a job's work does to the contents that a device tells, by look-up.
use Rattle.std.specs.Prelude.{◌≡◌, List, Option, Some, None}
use Rattle.aft_entries.specs.declared.entry.Entry.{Entry}
use Rattle.aft_entries.specs.declared.key.Key.{Key}
use Rattle.aft_entries.specs.declared.operation.Act.{Act}
use Rattle.aft_entries.specs.declared.operation.Act.TheVariants.{Done, Failed}
use Rattle.table_model.specs.declared.job.Verdict.{Verdict}
use Rattle.table_model.specs.declared.job.Verdict.TheVariants.{Programmed, DeviceFault}
use Rattle.table_model.specs.declared.job.Work.{Work}
use Rattle.table_model.specs.Jobs.{effect}
use Rattle.table_model.specs.Table.{lookup}

-- a device's answer as it is reported
abbrev pub verdict_of : Act → Verdict
verdict_of Done = Programmed
verdict_of Failed = DeviceFault

-- under each key stands what the work leaves there of what was held
abbrev pub HasEffect : Work → Option (List Entry) → Option (List Entry) → Type 0
HasEffect work None None = Unit {0}
HasEffect work None (Some after) = ⊥
HasEffect work (Some before) None = ⊥
HasEffect work (Some before) (Some after) = (key : Key) → lookup key after ≡ lookup key (effect before work)

-- what a device that was reported so did: the work, or nothing
abbrev pub Does : Verdict → Work → Option (List Entry) → Option (List Entry) → Type 0
Does Programmed work before after = HasEffect work before after
Does DeviceFault work before after = after ≡ before
