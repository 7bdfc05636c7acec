use Rattle.std.proofs.Common.{◌≡◌, None}
use Rattle.session_engine.specs.Queries.{oldest_of}
use Rattle.session_engine.proofs.queries.oldest_in.Given as goal

-- the oldest so far and behind those that are left is the oldest of all
abbrev pub invariant-calls : goal.invariant-calls
invariant-calls l =
    goal.iterator-calls.can_next l.stream-iterator × goal.iterator-calls.is_finite l.stream-iterator
    × (oldest_of l.best l.stream-iterator ≡ oldest_of None l.map.entries)
