use Rattle.std.proofs.Common.{◌≡◌, ◌++◌, take}
use Rattle.table_lock.specs.Passes.{IsPassOf}
use Rattle.lock_counter.specs.Totals.{added}
use Rattle.lock_counter.proofs.threads.add_all.Given as goal

abbrev pub invariant-loop-amount : goal.invariant-loop-amount
invariant-loop-amount g l = IsPassOf l.lock l.pass × (l.pass.number ≡ l.initial.pass.number) × (added l.pass.mine ≡ added l.initial.pass.mine ++ take l.amount-index l.amounts)
