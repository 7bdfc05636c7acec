use Rattle.std.proofs.Common.{drop, take, refl, sym, ap, ◌∙◌}
use Rattle.fib_board.proofs.Rows.{row_changed, due_of_row, none_due, none_to_collect, total_less}
use Rattle.fib_board.proofs.due.collect.Goals as goal

pub returns-in-Some-clause-batch : goal.returns-in-Some-clause-batch
returns-in-Some-clause-batch c =
    let found = sym (rw c.deref.ensures.value at c.place_of.ensures) ∙ c.in-Some.is in
    c.cut.ensures.batch ∙ sym (ap (take 256) (due_of_row _ c.args.session c.in-Some.at c.index_mut.result.now found c.index_mut.ensures.value))

pub returns-in-Some-clause-due : goal.returns-in-Some-clause-due
returns-in-Some-clause-due c other =
    let found = sym (rw c.deref.ensures.value at c.place_of.ensures) ∙ c.in-Some.is in
    row_changed _ c.args.session c.in-Some.at c.index_mut.result.now found c.index_mut.ensures.value (drop 256) c.cut.new.self (rw c.cut.ensures.rest refl) (rw c.cut.ensures.rest refl) other

pub returns-in-Some-clause-total : goal.returns-in-Some-clause-total
returns-in-Some-clause-total c =
    let found = sym (rw c.deref.ensures.value at c.place_of.ensures) ∙ c.in-Some.is in
    total_less _ c.args.session c.in-Some.at c.index_mut.result.now found c.index_mut.ensures.value c.cut.new.self 256 (rw c.cut.ensures.rest refl)

pub returns-in-None-clause-batch : goal.returns-in-None-clause-batch
returns-in-None-clause-batch c =
    let missing = sym (rw c.deref.ensures.value at c.place_of.ensures) ∙ c.in-None.is in
    c.empty.ensures ∙ sym (ap (take 256) (none_due _ c.args.session missing))

pub returns-in-None-clause-due : goal.returns-in-None-clause-due
returns-in-None-clause-due c other =
    let missing = sym (rw c.deref.ensures.value at c.place_of.ensures) ∙ c.in-None.is in
    none_to_collect _ c.args.session missing other
