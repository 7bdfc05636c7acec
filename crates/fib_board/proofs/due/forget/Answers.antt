use Rattle.std.proofs.Common.{rules}
use Rattle.std.proofs.lemmas.Fn.{filter_same}
use Rattle.fib_board.proofs.Rows.{rows_out, total_out}
use Rattle.fib_board.proofs.due.forget.Goals as goal

pub returns-clause-due : goal.returns-clause-due
returns-clause-due c other =
    let kept = filter_same _ _ _ (λ x b f' k. search rules) _ _ c.retain.ensures.filtered in
    rw kept (rows_out c.args.due.now.items c.args.session other)

pub returns-clause-total : goal.returns-clause-total
returns-clause-total c =
    let kept = filter_same _ _ _ (λ x b f' k. search rules) _ _ c.retain.ensures.filtered in
    rw kept (total_out c.args.due.now.items c.args.session)
