use Rattle.std.proofs.Common.{arith}
use Rattle.aft_messages.proofs.Printed.{printed_again}
use Rattle.aft_messages.proofs.print.encode_entry.Goals as goal

pub returns-clause-again : goal.returns-clause-again
returns-clause-again c =
    let out = c.write_entry.new.out in
    printed_again _ _ _ _ c.all_are_valid.ensures c.in_ok-write_entry.ensures.sent c.in_ok-write_entry.ensures.ok (omega (arith, out.ok.0, out.ok.1, out.small))
