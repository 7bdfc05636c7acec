use Rattle.std.proofs.Common.{sym, ap, ◌∙◌, Some}
use Rattle.reference_model.proofs.Elections.{top_first, later_is, under_ok}
use Rattle.reference_model.proofs.election.latest_with.Goals as goal

pub returns-then-is_top : goal.returns-then-is_top
returns-then-is_top c = ap Some c.only.ensures ∙ sym (top_first _ _ (sym c.is_top.ensures ∙ c.if-is_top.true))

pub returns-else-is_top : goal.returns-else-is_top
returns-else-is_top c = under_ok _ _ _ (later_is c.args.a.now c.args.earlier.now c.args.latest c.requires (sym c.is_top.ensures ∙ c.if-is_top.false)) c.before-else-is_top.ensures
