use Rattle.std.proofs.Common.{◌≡◌, ◌+◌, vec_len, arith}
use Rattle.fib_board.specs.Steps.{waiting}
use Rattle.fib_board.proofs.Ascending.{ascends_more}
use Rattle.fib_board.proofs.board.Board.add_reserved.Goals as goal

pub invariant_of-self : goal.invariant_of-self
invariant_of-self c =
    let held = c.self.invariant.1 in
    let one : vec_len c.pop.new.self + 1 ≡ vec_len c.self.inside.spare = c.in-Some.ensures.cases in
    let last = rw (← c.self.view_is) at c.requires.last in (
      c.self.invariant.0,
      record {
        ascending = rw (c.push.ensures.items, c.new.ensures) (ascends_more c.self.inside.jobs.items (waiting c.args.job) held.ascending last);
        job_places = omega (arith, held.job_places, one);
        row_places = omega (arith, held.row_places, one);
        entry_places = omega (arith, held.entry_places, one);
        result_places = omega (arith, held.result_places, one);
        bound = held.bound;
      },
    )
