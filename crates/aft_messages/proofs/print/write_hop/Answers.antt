use Rattle.aft_messages.proofs.Printed.{from_ok, hop_sent}
use Rattle.aft_messages.proofs.print.write_hop.Goals as goal

pub returns-clause-sent : goal.returns-clause-sent
returns-clause-sent c =
    let labels = from_ok c.write_labels.result c.is_err.result c.is_err.ensures.value c.if-is_err.false c.write_labels.ensures.sent in
    hop_sent c.args.hop.now c.in_ok-ip.ip c.in_ok-mac.mac c.in_ok-source.source c.in_ok-target.target c.as_slice.result.now
    c.in_ok-ip.ensures c.in_ok-mac.ensures c.in_ok-source.ensures c.in_ok-target.ensures
    c.text_of.ensures.utf8 c.text_of-2.ensures.utf8 c.text_of-3.ensures.utf8 c.has_64_bits.ensures c.text_of-4.ensures.utf8 c.text_of-5.ensures.utf8
    c.as_slice.ensures labels
