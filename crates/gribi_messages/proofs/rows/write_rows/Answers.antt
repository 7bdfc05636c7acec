use Rattle.std.proofs.Common.{arith}
use Rattle.std.proofs.lemmas.Grind.{common_steps}
use Rattle.gribi_messages.proofs.RowsAgain.{rows_more, rows_all}
use Rattle.gribi_messages.proofs.rows.write_rows.Goals as goal

pub loop-row-preserved : goal.loop-row-preserved
loop-row-preserved c =
    (grind (arith, common_steps), rows_more c.args.i.now c.args.rows.now c.loop-row.row-index c.row-item.result c.loop-row-test.true c.row-item.is c.loop-row.invariant.1 c.in_ok-write_row.ensures.row)

pub returns-clause-rows : goal.returns-clause-rows
returns-clause-rows c = rows_all c.args.i.now c.args.rows.now c.loop-row.row-index c.loop-row-test.false c.loop-row.invariant.1
