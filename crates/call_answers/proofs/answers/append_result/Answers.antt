use Rattle.std.proofs.Common.{arith}
use Rattle.call_answers.specs.Answers.{one_result}
use Rattle.call_answers.proofs.Sizes.{short}
use Rattle.call_answers.proofs.answers.append_result.Goals as goal

pub returns-clause-short : goal.returns-clause-short
returns-clause-short c = short c.args.n.now (one_result c.args.one.now) _ _ (omega arith) c.in_ok-append_result_response.ensures.ok
