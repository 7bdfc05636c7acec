use Rattle.std.proofs.Common.{◌-◌, sym, ap, ◌∙◌}
use Rattle.table_model.specs.Table.{names_key, above}
use Rattle.rib_ops.proofs.Chains.{goes_on, goes_by}
use Rattle.rib_ops.proofs.backups.+above.Goals as goal
use Rattle.rib_ops.proofs.backups.+above.Goals.{then-names, else-names}

pub entries-preserved : goal.entries-preserved
entries-preserved t c =
    let named = ap (names_key c.args.group.now) (sym c.backup_of.ensures) ∙ sym c.names.ensures in
    elim c.if-names.branch [
      | then-names w ↦ rw (w.longest-is, w.longer-longest.ensures) (goes_on _ _ _ _ _ _ c.entries.invariant c.at-entry.ensures c.if-most-eq0.false (named ∙ w.if-names.true) _ (w.above-further.ensures.length ∙ ap (λ e. above (c.args.most - 1) c.args.store.now.entries e.key) c.entry.view_is) w.above-further.ensures.bound)
      | else-names w ↦ rw w.longest-is (goes_by _ _ _ _ _ _ c.entries.invariant c.at-entry.ensures c.if-most-eq0.false (named ∙ w.if-names.false))
    ]
