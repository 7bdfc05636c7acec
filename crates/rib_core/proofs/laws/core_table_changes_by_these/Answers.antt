use Rattle.rib_core.proofs.CoreLaws.{changes_by, change_of}
use Rattle.rib_core.proofs.laws.core_table_changes_by_these.Goals as goal

pub returns : goal.returns
returns c old new command reply recorded before after =
    change_of _ _ _ _ _ after.keeps.table before.keeps.table
    (changes_by new.config (c.rib_changes_by_these.ensures new.config) command reply recorded (c.events_are_lawful.ensures new.config _ after.legal))
