-- What serving links leaves, where others call the machine beside it until they are told to end.
use Rattle.std.specs.Prelude.{◌≡◌, ◌⊎◌, ◌^◌, ◌≤◌, Bool, true, List}
use Rattle.table_lock.specs.declared.machine.Entry.{Entry}
use Rattle.table_lock.specs.Passes.{IsCalled, PassView}
use Rattle.link_serving.specs.declared.service.Ended.{Ended}
use Rattle.link_serving.specs.Serving.{AreServed, Links, Start}

-- All links are served, and behind the last of them the root made the call that tells the others to end; or that call was Spent.
pub record HasServed {C R G L : Type 0} (lawful : G → List (Entry C R) → Type 0) (setup : G) (served : L → L → PassView C R G → Ended → Type 0) (halt : C)
    (start : Start C R G L) (root : PassView C R G) (links : Links L) (short spent : Bool) : Type 0 where
  -- how it stood behind the last link, and whether a call was Spent before
  pub mid : PassView C R G
  pub was_spent : Bool
  pub serves : AreServed served start mid links short was_spent
  pub halts : ((spent ≡ was_spent) × ((reply : R) × IsCalled lawful setup mid root halt reply))
      ⊎ ((spent ≡ true) × (root ≡ record mid { ticket = root.ticket }) × (2 ^ 62 ≤ root.ticket))
