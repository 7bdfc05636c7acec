use Rattle.std.proofs.Common.{◌≡◌, ◌+◌, ◌-◌, ◌≤◌}
use Rattle.std.specs.Prelude.{All, vec_len, vec_capacity}
use Rattle.reactor.specs.Turns.{HaveGone}
use Rattle.reactor.proofs.reactor.give_turns.Given as goal

abbrev pub invariant-loop-at : goal.invariant-loop-at
invariant-loop-at g l =
    All g.T.Turning.keeps l.live.items
    × All (λ x. g.T.Turning.keeps x × g.T.Turning.ends x) l.over.items
    × (vec_len l.live + vec_len l.over ≤ vec_capacity l.over)
    × (l.at ≤ vec_len l.live)
    × (vec_len l.live + l.round.ended ≡ vec_len l.fn.live)
    × (l.round.progressed ≤ l.at)
    × HaveGone g.T.Turning.goes (record { live = l.fn.live.items; over = l.fn.over.items }) l.at l.live.items l.over.items l.round.progressed l.round.ended

abbrev pub decreases-loop-at : goal.decreases-loop-at
decreases-loop-at g l = vec_len l.live - l.at
