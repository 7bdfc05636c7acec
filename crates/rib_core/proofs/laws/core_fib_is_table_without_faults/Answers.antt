use Rattle.std.proofs.Common.{sym, ◌∙◌}
use Rattle.rib_core.proofs.CoreLaws.{none_undone}
use Rattle.rib_core.proofs.laws.core_fib_is_table_without_faults.Goals as goal

pub returns-clause-skips : goal.returns-clause-skips
returns-clause-skips c core recorded stands faultless =
    (c.fib_is_rib_without_faults.ensures core.config _ (c.events_are_lawful.ensures core.config recorded stands.legal) faultless).0

pub returns-clause-same : goal.returns-clause-same
returns-clause-same c core recorded stands faultless none =
    stands.keeps.board.fib
    ∙ (c.fib_is_rib_without_faults.ensures core.config _ (c.events_are_lawful.ensures core.config recorded stands.legal) faultless).1 (none_undone _ (sym none ∙ stands.keeps.board.undone))
    ∙ sym stands.keeps.table
