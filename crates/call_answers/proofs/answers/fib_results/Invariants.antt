use Rattle.std.proofs.Common.{◌≡◌, map}
use Rattle.call_answers.specs.Answers as said
use Rattle.call_answers.proofs.answers.fib_results.Given as goal

abbrev pub invariant-loop-one : goal.invariant-loop-one
invariant-loop-one l = l.results ≡ map (said.fib_result l.fn.n) l.yielded
