use Rattle.std.proofs.Common.{arith}
use Rattle.gribi_messages.specs.Rows.{rows_bytes}
use Rattle.gribi_messages.proofs.RowsAgain.{written_again}
use Rattle.gribi_messages.proofs.rows.encode_get_response.Goals as goal

pub returns-clause-again : goal.returns-clause-again
unfolding rows_bytes
returns-clause-again c =
    let out = c.write_rows.new.out in
    written_again _ _ _ _ _ c.all_are_valid.ensures c.in_ok-write_rows.ensures.rows c.new-out.ensures.items c.in_ok-write_rows.ensures.bytes (omega (arith, out.ok.0, out.ok.1, out.small))
