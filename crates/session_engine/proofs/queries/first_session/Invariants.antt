use Rattle.std.proofs.Common.{◌≡◌}
use Rattle.std.specs.BTreeMap.Range.{entries_between}
use Rattle.std.specs.Ordering.{nat_cmp}
use Rattle.std.specs.declared.ops.Bound.TheVariants.{Included, Unbounded}
use Rattle.session_engine.specs.Queries.{first_where, is_session}
use Rattle.session_engine.proofs.queries.first_session.Given as goal

-- the first of those that are left is the first of all
abbrev pub invariant-calls : goal.invariant-calls
invariant-calls l =
    goal.iterator-calls.can_next l.stream-iterator × goal.iterator-calls.is_finite l.stream-iterator
    × (first_where is_session l.stream-iterator ≡ first_where is_session (entries_between nat_cmp (Included l.from) Unbounded l.map.entries))
