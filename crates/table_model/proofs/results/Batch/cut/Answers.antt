use Rattle.std.proofs.Common.{◌≡◌, ◌≤◌, take, length, arith}
use Rattle.std.proofs.lemmas.List.{take_all, drop_all, length-take-le}
use Rattle.table_model.proofs.results.Batch.cut.Goals as goal

pub returns-then-len-le256-clause-cut : goal.returns-then-len-le256-clause-cut
returns-then-len-le256-clause-cut c = let short : length c.args.due.now ≤ 256 = omega arith in let whole = take_all 256 c.args.due.now short in cc

pub returns-then-len-le256-clause-rest : goal.returns-then-len-le256-clause-rest
returns-then-len-le256-clause-rest c = let short : length c.args.due.now ≤ 256 = omega arith in let whole = drop_all 256 c.args.due.now short in cc

pub invariant_of-result-in-Ok : goal.invariant_of-result-in-Ok
invariant_of-result-in-Ok c = let full : length (take 256 c.args.due.now) ≡ 256 = length-take-le 256 c.args.due.now (omega arith) in rw (c.replace-in-Ok.ensures.value, c.in-Ok.ensures.items) (omega arith)
