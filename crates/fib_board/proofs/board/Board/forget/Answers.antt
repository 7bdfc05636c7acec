use Rattle.std.proofs.Common.{arith, refl, ◌∙◌}
use Rattle.fib_board.specs.Steps.{unwanted}
use Rattle.fib_board.proofs.Ascending.{ascends_map}
use Rattle.fib_board.proofs.board.Board.forget.Goals as goal

pub invariant_of-self : goal.invariant_of-self
invariant_of-self c =
    let held = c.self.invariant.1 in (
      c.self.invariant.0,
      record {
        ascending = rw c.drop_owner.ensures.items (ascends_map (unwanted c.args.session) (λ tracked. refl) c.self.inside.jobs.items ∙ held.ascending);
        job_places = omega (arith, held.job_places);
        row_places = omega (arith, held.row_places);
        entry_places = omega (arith, held.entry_places);
        result_places = omega (arith, held.result_places);
        bound = held.bound;
      },
    )
