use Rattle.std.proofs.Common.{sym, ◌∙◌}
use Rattle.aft_entries.specs.References.{refers}
use Rattle.table_model.specs.Table.{used}
use Rattle.aft_store.proofs.Scans.{scan_more, scan_found}
use Rattle.aft_store.proofs.scan.is_referred.Goals as goal

pub returns-then-refers : goal.returns-then-refers
unfolding used
returns-then-refers c = sym (scan_found (λ e. refers e c.args.key.now) _ _ _ c.at.ensures (sym c.refers.ensures ∙ c.if-refers.true))

pub loop-n-preserved : goal.loop-n-preserved
loop-n-preserved c = scan_more (λ e. refers e c.args.key.now) _ _ _ c.at.ensures c.loop-n.invariant (sym c.refers.ensures ∙ c.if-refers.false)
