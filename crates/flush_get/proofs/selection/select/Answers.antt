use Rattle.std.proofs.Common.{sym, ◌∙◌}
use Rattle.flush_get.proofs.Selecting.{row_added, left_out}
use Rattle.flush_get.proofs.selection.select.Goals.{then-is_asked+in_ok-row+in_ok-push, else-is_asked}
use Rattle.flush_get.proofs.selection.select.Goals as goal

pub loop-n-preserved : goal.loop-n-preserved
loop-n-preserved c = elim c.if-is_asked.branch [
  | then-is_asked+in_ok-row+in_ok-push w ↦ rw w.rows-is (row_added _ _ _ _ _ _ c.at-entry.ensures _ _ _ (sym c.is_asked.ensures ∙ w.if-is_asked.true) c.loop-n.invariant w.in_ok-push.ensures.items w.in_ok-row.ensures)
  | else-is_asked w ↦ rw w.rows-is (c.loop-n.invariant ∙ sym (left_out _ _ _ _ _ _ c.at-entry.ensures (sym c.is_asked.ensures ∙ w.if-is_asked.false)))
]
