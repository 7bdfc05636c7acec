use Rattle.std.proofs.Common.{◌++◌, refl, sym, ◌∙◌}
use Rattle.std.specs.Prelude.{◌==◌}
use Rattle.table_model.specs.BoardState.{due_for}
use Rattle.fib_board.proofs.Rows.{row_changed, row_added, appended_if}
use Rattle.fib_board.proofs.due.append.Goals as goal

pub returns-in-Some-clause-due : goal.returns-in-Some-clause-due
returns-in-Some-clause-due c other =
    let found = sym (rw c.deref.ensures.value at c.place_of.ensures) ∙ c.in-Some.is in
    row_changed _ c.args.session c.in-Some.at c.index_mut.result.now found c.index_mut.ensures.value (λ l. l ++ c.args.more) c.append.new.self (rw c.append.ensures refl) (rw c.append.ensures refl) other
    ∙ appended_if (c.args.session == other) (due_for c.args.due.now.items other) c.args.more

pub returns-in-None-clause-due : goal.returns-in-None-clause-due
returns-in-None-clause-due c other =
    let missing = sym (rw c.deref.ensures.value at c.place_of.ensures) ∙ c.in-None.is in
    rw c.add_session_results.ensures.items (row_added _ c.args.session missing c.args.more other)
