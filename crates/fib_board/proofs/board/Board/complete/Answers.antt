use Rattle.std.proofs.Common.{◌≡◌, ◌++◌, ap, ◌∙◌, w64, to_z, of_z}
use Rattle.std.proofs.lemmas.Int.{to_z-of_z}
use Rattle.table_model.specs.BoardState.{due_for}
use Rattle.fib_board.specs.Steps.{fib_by, results_with}
use Rattle.fib_board.proofs.Finding.{some_at}
use Rattle.fib_board.proofs.board.Board.complete.Goals as goal

pub returns-clause-undone : goal.returns-clause-undone
returns-clause-undone c =
    let here = some_at c.self.inside.jobs.items c.args.at (rw (← c.self.view_is) at c.requires.within) in
    rw (← c.self.view_is, here.1) (c.end-work.ensures.items here.0 here.1)

pub returns-clause-fib : goal.returns-clause-fib
returns-clause-fib c =
    let here = some_at c.self.inside.jobs.items c.args.at (rw (← c.self.view_is) at c.requires.within) in
    rw (← c.self.view_is, here.1) (c.program.ensures.entries ∙ ap (fib_by c.args.verdict c.self.inside.fib.entries) (c.end-work.ensures.work here.0 here.1))

pub returns-clause-due : goal.returns-clause-due
returns-clause-due c session =
    let here = some_at c.self.inside.jobs.items c.args.at (rw (← c.self.view_is) at c.requires.within) in
    let back : to_z w64 (of_z w64 c.args.now) ≡ c.args.now = to_z-of_z w64 c.args.now c.ranges.now in
    rw (← c.self.view_is, here.1) ((rw back at c.end-work.ensures.due here.0 session here.1)
    ∙ ap (λ failed. due_for c.self.inside.due.items session ++ results_with session here.0.task failed c.args.now) (c.fault-failed.ensures.fault here.0.task))
