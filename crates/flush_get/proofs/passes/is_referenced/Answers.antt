use Rattle.std.proofs.Common.{sym, ◌∙◌}
use Rattle.flush_get.proofs.Passing.{held_by, not_by, not_marked}
use Rattle.flush_get.proofs.passes.is_referenced.Goals.{else-marks-n-via-then-marks-n+else-refers, else-marks-n-via-else-marks-n}
use Rattle.flush_get.proofs.passes.is_referenced.Goals as goal

pub returns-then-refers : goal.returns-then-refers
returns-then-refers c = λ marked same.
    sym (held_by marked _ _ same _ _ c.at.result.now c.at.ensures c.if-marks-n.true (sym c.refers.ensures ∙ c.if-refers.true))

pub loop-n-preserved : goal.loop-n-preserved
loop-n-preserved c = λ marked same. elim c.else-marks-n.branch [
  | else-marks-n-via-then-marks-n+else-refers w ↦ not_by marked _ _ same _ _ w.at.result.now w.at.ensures (sym w.refers.ensures ∙ w.if-refers.false) (c.loop-n.invariant marked same)
  | else-marks-n-via-else-marks-n w ↦ not_marked marked _ _ same _ _ w.if-marks-n.false (c.loop-n.invariant marked same)
]
