use Rattle.std.proofs.Common.{◌≡◌, ◌++◌, Some, refl, sym, ap, ◌∙◌, w64, to_z, of_z}
use Rattle.std.proofs.lemmas.Int.{to_z-of_z}
use Rattle.std.proofs.lemmas.List.{append-nil}
use Rattle.std.proofs.lemmas.Option.{slice_get_read}
use Rattle.table_model.specs.BoardState.{due_for}
use Rattle.fib_board.specs.Steps.{results_with}
use Rattle.fib_board.specs.declared.board.Given.TheVariants as given
use Rattle.fib_board.proofs.Ending.{passed_given, passed_undone, passed_due, out_given, out_undone, out_due, some_if, none_if}
use Rattle.fib_board.proofs.board.Board.start.Goals as goal

pub returns-in-Some-clause-given : goal.returns-in-Some-clause-given
returns-in-Some-clause-given c =
    let tracked = c.index-pending_job.result.now in
    let here = slice_get_read c.self.inside.jobs.items _ c.args.at tracked refl (rw (← c.self.view_is) at c.requires.within) c.index-pending_job.ensures in
    let skipped = some_if _ _ _ (sym c.in-Some.is ∙ rw c.work.ensures at c.skip_reason.ensures) in
    rw (← c.self.view_is, passed_given c.self.inside.fib.entries _ tracked here skipped.0) (ap given.Skipped c.number-number.ensures)

pub returns-in-Some-clause-undone : goal.returns-in-Some-clause-undone
returns-in-Some-clause-undone c =
    let tracked = c.index-pending_job.result.now in
    let here = slice_get_read c.self.inside.jobs.items _ c.args.at tracked refl (rw (← c.self.view_is) at c.requires.within) c.index-pending_job.ensures in
    let skipped = some_if _ _ _ (sym c.in-Some.is ∙ rw c.work.ensures at c.skip_reason.ensures) in
    rw (← c.self.view_is, passed_undone c.self.inside.fib.entries _ tracked here skipped.0 c.self.inside.jobs.items) (c.end.ensures.items tracked here)

pub returns-in-Some-clause-due : goal.returns-in-Some-clause-due
returns-in-Some-clause-due c session =
    let tracked = c.index-pending_job.result.now in
    let here = slice_get_read c.self.inside.jobs.items _ c.args.at tracked refl (rw (← c.self.view_is) at c.requires.within) c.index-pending_job.ensures in
    let skipped = some_if _ _ _ (sym c.in-Some.is ∙ rw c.work.ensures at c.skip_reason.ensures) in
    let back : to_z w64 (of_z w64 c.args.now) ≡ c.args.now = to_z-of_z w64 c.args.now c.ranges.now in
    rw (← c.self.view_is, passed_due c.self.inside.fib.entries _ tracked here skipped.0 session c.args.now)
    ((rw back at c.end.ensures.due tracked session here) ∙ ap (λ reason. due_for c.self.inside.due.items session ++ results_with session tracked.task (Some reason) c.args.now) skipped.1)

pub returns-in-None-clause-given : goal.returns-in-None-clause-given
returns-in-None-clause-given c =
    let tracked = c.index-pending_job.result.now in
    let here = slice_get_read c.self.inside.jobs.items _ c.args.at tracked refl (rw (← c.self.view_is) at c.requires.within) c.index-pending_job.ensures in
    let able = none_if _ _ (sym c.in-None.is ∙ rw c.work.ensures at c.skip_reason.ensures) in
    rw (← c.self.view_is, out_given c.self.inside.fib.entries _ tracked here able) (ap given.Work (c.send.ensures.job tracked here))

pub returns-in-None-clause-undone : goal.returns-in-None-clause-undone
returns-in-None-clause-undone c =
    let tracked = c.index-pending_job.result.now in
    let here = slice_get_read c.self.inside.jobs.items _ c.args.at tracked refl (rw (← c.self.view_is) at c.requires.within) c.index-pending_job.ensures in
    let able = none_if _ _ (sym c.in-None.is ∙ rw c.work.ensures at c.skip_reason.ensures) in
    rw (← c.self.view_is, out_undone c.self.inside.fib.entries _ tracked here able c.self.inside.jobs.items) (c.send.ensures.items tracked here)

pub returns-in-None-clause-due : goal.returns-in-None-clause-due
returns-in-None-clause-due c session =
    let tracked = c.index-pending_job.result.now in
    let here = slice_get_read c.self.inside.jobs.items _ c.args.at tracked refl (rw (← c.self.view_is) at c.requires.within) c.index-pending_job.ensures in
    let able = none_if _ _ (sym c.in-None.is ∙ rw c.work.ensures at c.skip_reason.ensures) in
    rw (← c.self.view_is, out_due c.self.inside.fib.entries _ tracked here able session c.args.now) (sym (append-nil _))
