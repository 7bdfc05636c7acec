use Rattle.std.proofs.Common.{◌≤◌, length, ap, arith}
use Rattle.std.proofs.lemmas.List.{length-map}
use Rattle.call_answers.specs.Answers.{fib_result}
use Rattle.call_answers.proofs.Sizes.{short}
use Rattle.call_answers.proofs.answers.append_collected.Goals as goal

pub returns-clause-short : goal.returns-clause-short
returns-clause-short c =
    let few : length c.in_ok-fib_results.field-0 ≤ 256
    = omega (arith, ap length c.in_ok-fib_results.ensures, length-map c.args.given.now (fib_result c.args.n.now), c.len.ensures.count, c.len.ensures.most) in
    short c.args.n.now _ _ _ few c.in_ok-append_modify_response.ensures.ok
