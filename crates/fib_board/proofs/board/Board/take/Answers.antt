use Rattle.std.proofs.Common.{◌≡◌, refl, sym, ◌∙◌, w64, to_z, of_z}
use Rattle.std.proofs.lemmas.Int.{to_z-of_z}
use Rattle.std.proofs.lemmas.List.{append-nil}
use Rattle.fib_board.proofs.Finding.{next_none, next_found, next_waits}
use Rattle.fib_board.proofs.board.Board.take.Goals as goal

pub start-requires-clause-waits : goal.start-requires-clause-waits
start-requires-clause-waits c tracked is =
    next_waits c.self.inside.workers c.self.inside.jobs.items c.args.worker c.in-Some.at tracked (sym c.next_place.ensures ∙ c.in-Some.is) (rw (← c.self.view_is) at is)

pub returns-in-None-clause-given : goal.returns-in-None-clause-given
returns-in-None-clause-given c =
    let nothing = next_none c.self.inside.workers c.self.inside.jobs.items c.args.worker (sym c.next_place.ensures ∙ c.in-None.is) in
    rw (← c.self.view_is, nothing) refl

pub returns-in-None-clause-undone : goal.returns-in-None-clause-undone
returns-in-None-clause-undone c =
    let nothing = next_none c.self.inside.workers c.self.inside.jobs.items c.args.worker (sym c.next_place.ensures ∙ c.in-None.is) in
    rw (← c.self.view_is, nothing) refl

pub returns-in-None-clause-due : goal.returns-in-None-clause-due
returns-in-None-clause-due c session =
    let nothing = next_none c.self.inside.workers c.self.inside.jobs.items c.args.worker (sym c.next_place.ensures ∙ c.in-None.is) in
    rw (← c.self.view_is, nothing) (sym (append-nil _))

pub returns-in-Some-clause-given : goal.returns-in-Some-clause-given
returns-in-Some-clause-given c =
    let found = next_found c.self.inside.workers c.self.inside.jobs.items c.args.worker c.in-Some.at (sym c.next_place.ensures ∙ c.in-Some.is) in
    rw (← c.self.view_is, found) (rw (← c.self.view_is) at c.start.ensures.given)

pub returns-in-Some-clause-undone : goal.returns-in-Some-clause-undone
returns-in-Some-clause-undone c =
    let found = next_found c.self.inside.workers c.self.inside.jobs.items c.args.worker c.in-Some.at (sym c.next_place.ensures ∙ c.in-Some.is) in
    rw (← c.self.view_is, found) (rw (← c.self.view_is) at c.start.ensures.undone)

pub returns-in-Some-clause-due : goal.returns-in-Some-clause-due
returns-in-Some-clause-due c session =
    let found = next_found c.self.inside.workers c.self.inside.jobs.items c.args.worker c.in-Some.at (sym c.next_place.ensures ∙ c.in-Some.is) in
    let back : to_z w64 (of_z w64 c.args.now) ≡ c.args.now = to_z-of_z w64 c.args.now c.ranges.now in
    rw (← c.self.view_is, found) (rw (← c.self.view_is, back) at c.start.ensures.due session)
