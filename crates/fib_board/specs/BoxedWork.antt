-- What stands in boxes.
use Rattle.std.specs.Prelude.{Option, Some, None, Box}
use Rattle.std.specs.Global.{Global}
use Rattle.aft_entries.specs.declared.entry.Entry.{Entry}
use Rattle.table_model.specs.declared.job.Work.{Work}
use Rattle.table_model.specs.declared.job.Work.TheVariants as work
use Rattle.fib_board.specs.declared.boxed.BoxedWork.{BoxedWork}
use Rattle.fib_board.specs.declared.boxed.BoxedWork.TheVariants.{Install, Remove}

abbrev pub work_in : BoxedWork → Work
work_in (Install entry) = work.Install entry.value
work_in (Remove key) = work.Remove key

abbrev pub entry_in : Option (Box Entry Global) → Option Entry
entry_in None = None
entry_in (Some entry) = Some entry.value
