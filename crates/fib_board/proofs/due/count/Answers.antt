use Rattle.std.proofs.Common.{sym, ap, ◌∙◌, length}
use Rattle.fib_board.proofs.Rows.{due_of_row, none_due}
use Rattle.fib_board.proofs.due.count.Goals as goal

pub returns-in-Some-clause-count : goal.returns-in-Some-clause-count
returns-in-Some-clause-count c = c.len.ensures ∙ sym (ap length (due_of_row c.args.due.now c.args.session c.in-Some.at c.index-due-at.result (sym c.place_of.ensures ∙ c.in-Some.is) c.index-due-at.is))

pub returns-in-None-clause-count : goal.returns-in-None-clause-count
returns-in-None-clause-count c = sym (ap length (none_due c.args.due.now c.args.session (sym c.place_of.ensures ∙ c.in-None.is)))
