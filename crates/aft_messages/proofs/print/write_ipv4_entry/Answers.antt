use Rattle.aft_messages.proofs.Printed.{prefix_sent, route_sent, on_ok}
use Rattle.aft_messages.proofs.print.write_ipv4_entry.Goals as goal

pub returns-clause-sent : goal.returns-clause-sent
returns-clause-sent c =
    let prefix = prefix_sent _ _ _ _ c.new-text.ensures.bytes c.in_ok-print_v4_prefix.ensures.ok c.as_str.ensures.value c.as_str.utf8 in
    on_ok c.write_ipv4.result (prefix, route_sent c.args.i.now c.args.route.now _ c.name.ensures c.name.utf8 c.has_64_bits.ensures)
