use Rattle.std.proofs.Common.{◌<◌, ◌^◌, arith}
use Rattle.aft_messages.proofs.Printed.{route_sent, on_ok}
use Rattle.aft_messages.proofs.print.write_label_entry.Goals as goal

pub returns-clause-sent : goal.returns-clause-sent
returns-clause-sent c =
    let label : c.args.label < 2 ^ 64 = omega (arith, c.ranges.label.fits) in
    on_ok c.write_mpls.result (label, route_sent c.args.i.now c.args.route.now _ c.name.ensures c.name.utf8 c.has_64_bits.ensures)
