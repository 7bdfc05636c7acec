use Rattle.std.proofs.Common.{◌≡◌, ◌≤◌}
use Rattle.grpc_stream.specs.CallTrace.{CallTrace}
use Rattle.call_standing.specs.declared.fate.Fate.TheVariants.{Going}
use Rattle.grpc_calls.specs.Object.{StandAs, ahead_in}
use Rattle.call_standing.specs.Steps.{GoesQuietly}
use Rattle.grpc_calls.proofs.calls.Calls.next_going.Given as goal

-- nothing of what was told is shown yet
abbrev pub invariant-steps : goal.invariant-steps
invariant-steps g l =
    (l.fn.self.fate ≡ Going → l.self.fate ≡ Going)
    × (ahead_in g.C.HttpConnection.ahead l.self ≤ ahead_in g.C.HttpConnection.ahead l.fn.self)
    × ((t : CallTrace) → StandAs g.C.HttpConnection.stands g.C.HttpConnection.output l.fn.self t → t.numbers ≡ l.fn.n → l.fn.self.fate ≡ Going →
    (u : CallTrace) × StandAs g.C.HttpConnection.stands g.C.HttpConnection.output l.self u × GoesQuietly t u)

abbrev pub decreases-steps : goal.decreases-steps
decreases-steps g l = ahead_in g.C.HttpConnection.ahead l.self
