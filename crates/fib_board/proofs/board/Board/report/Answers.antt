use Rattle.std.proofs.Common.{refl, sym, ap, ◌∙◌, ◌≡◌, w64, to_z, of_z}
use Rattle.std.proofs.lemmas.Int.{to_z-of_z}
use Rattle.std.specs.Prelude.{is_some}
use Rattle.std.proofs.lemmas.List.{append-nil}
use Rattle.fib_board.specs.Steps.{is_out_as}
use Rattle.fib_board.proofs.Finding.{found_none, found_at, found_some, any_found}
use Rattle.fib_board.proofs.board.Board.report.Goals as goal

pub returns-in-None-clause-was_out : goal.returns-in-None-clause-was_out
returns-in-None-clause-was_out c =
    let nothing = found_none (is_out_as c.args.job) c.self.inside.jobs.items (sym c.out_place.ensures ∙ c.in-None.is) in
    rw (← c.self.view_is) (sym (any_found (is_out_as c.args.job) c.self.inside.jobs.items ∙ ap is_some nothing))

pub returns-in-None-clause-undone : goal.returns-in-None-clause-undone
returns-in-None-clause-undone c =
    let nothing = found_none (is_out_as c.args.job) c.self.inside.jobs.items (sym c.out_place.ensures ∙ c.in-None.is) in
    rw (← c.self.view_is, nothing) refl

pub returns-in-None-clause-fib : goal.returns-in-None-clause-fib
returns-in-None-clause-fib c =
    let nothing = found_none (is_out_as c.args.job) c.self.inside.jobs.items (sym c.out_place.ensures ∙ c.in-None.is) in
    rw (← c.self.view_is, nothing) refl

pub returns-in-None-clause-due : goal.returns-in-None-clause-due
returns-in-None-clause-due c session =
    let nothing = found_none (is_out_as c.args.job) c.self.inside.jobs.items (sym c.out_place.ensures ∙ c.in-None.is) in
    rw (← c.self.view_is, nothing) (sym (append-nil _))

pub returns-in-Some-clause-was_out : goal.returns-in-Some-clause-was_out
returns-in-Some-clause-was_out c =
    let passes = found_some (is_out_as c.args.job) c.self.inside.jobs.items c.in-Some.at (sym c.out_place.ensures ∙ c.in-Some.is) in
    rw (← c.self.view_is) (sym (any_found (is_out_as c.args.job) c.self.inside.jobs.items ∙ passes))

pub returns-in-Some-clause-undone : goal.returns-in-Some-clause-undone
returns-in-Some-clause-undone c =
    let found = found_at (is_out_as c.args.job) c.self.inside.jobs.items c.in-Some.at (sym c.out_place.ensures ∙ c.in-Some.is) in
    rw (← c.self.view_is, found) (rw (← c.self.view_is) at c.complete.ensures.undone)

pub returns-in-Some-clause-fib : goal.returns-in-Some-clause-fib
returns-in-Some-clause-fib c =
    let found = found_at (is_out_as c.args.job) c.self.inside.jobs.items c.in-Some.at (sym c.out_place.ensures ∙ c.in-Some.is) in
    rw (← c.self.view_is, found) (rw (← c.self.view_is) at c.complete.ensures.fib)

pub returns-in-Some-clause-due : goal.returns-in-Some-clause-due
returns-in-Some-clause-due c session =
    let found = found_at (is_out_as c.args.job) c.self.inside.jobs.items c.in-Some.at (sym c.out_place.ensures ∙ c.in-Some.is) in
    let back : to_z w64 (of_z w64 c.args.now) ≡ c.args.now = to_z-of_z w64 c.args.now c.ranges.now in
    rw (← c.self.view_is, found) (rw (← c.self.view_is, back) at c.complete.ensures.due session)
