use Rattle.std.proofs.Common.{◌≡◌, Some}
use Rattle.session_engine.specs.Queries.{first_where, is_responding}
use Rattle.session_engine.proofs.queries.first_selecting.Given as goal

-- the first of those that are left is the first of all
abbrev pub invariant-calls : goal.invariant-calls
invariant-calls l =
    goal.iterator-calls.can_next l.stream-iterator × goal.iterator-calls.is_finite l.stream-iterator
    × (first_where (λ call. is_responding (Some call)) l.stream-iterator ≡ first_where (λ call. is_responding (Some call)) l.map.entries)
