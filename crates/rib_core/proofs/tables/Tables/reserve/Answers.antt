use Rattle.std.proofs.Common.{arith}
use Rattle.rib_core.proofs.Owing.{length_costs}
use Rattle.rib_core.proofs.tables.Tables.reserve.Goals as goal

pub reserve_entry-requires : goal.reserve_entry-requires
reserve_entry-requires c =
    let short = length_costs c.self.inside.table.entries in
    let sum = c.self.invariant.sum in
    let is = c.in-Some.ensures.0 in
    let fits = c.in-Some.ensures.1 in
    let some = c.requires in
    omega arith
