use Rattle.std.proofs.Common.{◌≡◌, ◌+◌, ◌≤◌, ◌++◌, List, length, All}
use Rattle.std.specs.Prelude.{map, reverse}
use Rattle.std.specs.Vec.{vec_capacity}
use mathlib.Core.List.{IsPrefix}
use Rattle.link_serving.specs.Serving.{Each}
use Rattle.table_lock.specs.Passes.{IsPassOf, item}
use Rattle.table_workers.specs.declared.threads.Worker.{Worker}
use Rattle.serve_command.proofs.table.dismiss.Given as goal

abbrev pub invariant-workers : goal.invariant-workers
invariant-workers g l =
    (gone : List (Worker g.row.D.Denot g.row.C.Denot)) × (l.fn.workers.items ≡ l.workers.items ++ gone)
    × IsPassOf l.lock l.root × (l.root.number ≡ 0) × All (λ w. IsPassOf l.lock w.pass) l.workers.items
    × (l.root.out ≡ length l.workers.items)
    × (length l.workers.items + length l.devices.items ≤ vec_capacity l.devices)
    × (l.root.ended ≡ l.fn.root.ended ++ map (λ w. item w.pass) (reverse gone))
    × IsPrefix l.fn.root.seen l.root.seen
    × Each (λ w. IsPrefix w.pass.seen l.root.seen) gone
    × (l.devices.items ≡ map (λ w. w.device) gone ++ l.fn.devices.items)

abbrev pub decreases-workers : goal.decreases-workers
decreases-workers g l = length l.workers.items
