-- What a run of `apply` answers, takes and writes, and what becomes of its device.
use Rattle.std.specs.Prelude.{◌≡◌, ℕ, ◌+◌, ◌-◌, ◌^◌, ◌≤◌, ◌<◌, List, [], Some}
use Rattle.call_answers.specs.declared.orders.Setting.{Setting}
use Rattle.fib_worker.specs.Shards.{HoldsShard}
use Rattle.inline_worker.specs.Turns.{failures}
use Rattle.inline_worker.specs.Works.{DeviceTold}
use Rattle.message_run.specs.Runs.{Told, Runs, RunsOver}
use Rattle.table_model.specs.declared.job.Verdict.{Verdict}
use Rattle.table_model.specs.Jobs.{fib}
use Rattle.apply_path.specs.Responses.{apply_behaviour, history, history_with_leave}

-- a device that began empty holds the forwarding table of the history of these messages, and of that with the session's Leave
abbrev pub HoldsTable : Setting → List Verdict → DeviceTold → List (List ℕ) → Type 0
HoldsTable s said device messages = device.held_before ≡ Some [] → HoldsShard 1 0 device.held_after (fib (history s said messages))

abbrev pub HoldsTableAfterLeave : Setting → List Verdict → DeviceTold → List (List ℕ) → Type 0
HoldsTableAfterLeave s said device messages = device.held_before ≡ Some [] → HoldsShard 1 0 device.held_after (fib (history_with_leave s said messages))

-- A run with this status: what it wrote is a function of the bytes that it took and of what the device said.
pub record Applies (s : Setting) (status : ℕ) (told : Told) (device : DeviceTold) : Type 0 where
  pub said : List Verdict
  pub runs : Runs (apply_behaviour s said) (HoldsTable s said device) (HoldsTableAfterLeave s said device) status told
  -- and over an input that the source tells
  pub over : (input : List ℕ) → told.source.left_before ≡ Some input
      → RunsOver (apply_behaviour s said) (HoldsTable s said device) (HoldsTableAfterLeave s said device) status input told
  -- it failed at most as often as its faults rose, unless they count no further
  pub later : device.faults_before ≤ device.faults_after
  pub failed : device.faults_after < 2 ^ 64 - 1 → failures said + device.faults_before ≤ device.faults_after
