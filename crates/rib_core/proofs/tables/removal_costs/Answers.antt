use Rattle.std.proofs.Common.{◌≡◌, ◌+◌, ◌<◌, ◌≤◌, ◌∙◌, arith, sym, ap, take}
use Rattle.std.specs.Prelude.{◌^◌}
use Rattle.fib_board.specs.Removals.{removal_cost, removal_costs}
use Rattle.rib_core.proofs.Owing.{more_costs, costs_within}
use Rattle.rib_core.proofs.tables.removal_costs.Goals as goal

pub overflow_add-total : goal.overflow_add-total
overflow_add-total c =
    let so_far : c.entries.total ≡ removal_costs (take c.entries.n c.args.table.now.entries) = c.entries.invariant in
    let this : c.removal_cost-total.result ≡ removal_cost c.at.result.now = c.removal_cost-total.ensures.cost in
    let next : removal_costs (take (c.entries.n + 1) c.args.table.now.entries) ≡ removal_costs (take c.entries.n c.args.table.now.entries) + removal_cost c.at.result.now
    = more_costs c.args.table.now.entries c.entries.n c.at.result.now c.at.ensures in
    let within : removal_costs (take (c.entries.n + 1) c.args.table.now.entries) ≤ removal_costs c.args.table.now.entries = costs_within c.args.table.now.entries (c.entries.n + 1) in
    let whole = c.requires in
    omega arith

pub entries-preserved : goal.entries-preserved
entries-preserved c =
    let so_far : c.entries.total ≡ removal_costs (take c.entries.n c.args.table.now.entries) = c.entries.invariant in
    let this : c.removal_cost-total.result ≡ removal_cost c.at.result.now = c.removal_cost-total.ensures.cost in
    let next : removal_costs (take (c.entries.n + 1) c.args.table.now.entries) ≡ removal_costs (take c.entries.n c.args.table.now.entries) + removal_cost c.at.result.now
    = more_costs c.args.table.now.entries c.entries.n c.at.result.now c.at.ensures in
    rw (so_far, this) (sym next)
