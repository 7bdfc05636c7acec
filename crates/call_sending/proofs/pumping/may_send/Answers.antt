use Rattle.std.proofs.Common.{sym, ◌∙◌}
use Rattle.call_sending.specs.Pumping as pump
use Rattle.call_sending.proofs.Turning.{zero_of}
use Rattle.call_sending.proofs.pumping.may_send.Goals as goal

pub returns-then-has_no_end-clause-idle : goal.returns-then-has_no_end-clause-idle
returns-then-has_no_end-clause-idle g c = λ e k h a. pump.idle (zero_of _ (sym c.if-is_empty.ensures)) (sym c.if-has_no_end.ensures)

pub returns-clause-idle : goal.returns-clause-idle
returns-clause-idle g c = λ e k h a. pump.shut (sym (c.is_open.ensures k h a) ∙ e)
