use Rattle.std.proofs.Common.{◌≡◌, ◌++◌, ap, ◌∙◌, w64, to_z, of_z}
use Rattle.std.proofs.lemmas.Int.{to_z-of_z}
use Rattle.table_model.specs.BoardState.{due_for}
use Rattle.fib_board.proofs.Ascending.{removed_is}
use Rattle.fib_board.proofs.Ending.{removed_ascends, brought}
use Rattle.fib_board.proofs.ends.end.Goals as goal

pub returns-clause-items : goal.returns-clause-items
returns-clause-items c tracked is = rw c.take.ensures.items (removed_is c.args.jobs.now.items c.args.at tracked c.requires.ascending is)

pub returns-clause-ascending : goal.returns-clause-ascending
returns-clause-ascending c = rw c.take.ensures.items (removed_ascends c.args.jobs.now.items c.args.at c.take.result c.take.ensures.value c.requires.ascending c.requires.within)

pub returns-clause-due : goal.returns-clause-due
returns-clause-due c tracked session is =
    let back : to_z w64 (of_z w64 c.args.now) ≡ c.args.now = to_z-of_z w64 c.args.now c.ranges.now in
    (rw back at c.add_result.ensures.due session)
    ∙ ap (λ l. due_for c.args.due.now.items session ++ l)
    (brought c.args.jobs.now.items c.args.at c.take.result c.take.ensures.value c.requires.ascending session _ _ _ c.args.failed c.args.now c.end-id.ensures.id c.end-id.ensures.owner c.end-id.ensures.wants tracked is)
