use Rattle.std.proofs.Common.{◌≡◌, ℕ, ◌+◌, ◌<◌, ◌≤◌, ◌++◌, [], length, All}
use Rattle.std.specs.Prelude.{map, slice_index_or}
use Rattle.std.specs.Vec.{vec_capacity}
use Rattle.table_lock.specs.Passes.{IsPassOf}
use Rattle.table_workers.specs.declared.threads.Worker.{Worker}
use Rattle.serve_command.proofs.table.hire.Given as goal

abbrev pub invariant-workers : goal.invariant-workers
invariant-workers g l =
    IsPassOf l.lock l.root × (l.root.number ≡ 0)
    × (l.root.seen ≡ l.fn.root.seen) × (l.root.ended ≡ l.fn.root.ended) × (l.root.out ≡ l.fn.root.out + l.number)
    × (length l.workers.items ≡ l.number) × All (λ w. IsPassOf l.lock w.pass) l.workers.items
    × ((i : ℕ) (d : Worker g.row.D.Denot g.row.C.Denot) → i < l.number → ((slice_index_or l.workers.items i d).number ≡ i) × ((slice_index_or l.workers.items i d).pass.mine ≡ []))
    × (l.fn.devices.items ≡ map (λ w. w.device) l.workers.items ++ l.devices.items)
    × (vec_capacity l.devices ≡ vec_capacity l.fn.devices)
    × (l.count ≤ vec_capacity l.workers)
