use Rattle.std.proofs.Common.{◌≡◌, map}
use Rattle.line_requests.specs.Entries.{label}
use Rattle.line_requests.proofs.lists.labels.Given as goal

abbrev pub invariant-loop-part : goal.invariant-loop-part
invariant-loop-part l = l.labels ≡ map label (map (λ part. part.now) l.yielded)
