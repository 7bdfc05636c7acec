use Rattle.std.proofs.Common.{◌≡◌, map}
use Rattle.line_requests.specs.Entries.{member}
use Rattle.line_requests.proofs.lists.members.Given as goal

abbrev pub invariant-loop-part : goal.invariant-loop-part
invariant-loop-part l = l.members ≡ map member (map (λ part. part.now) l.yielded)
