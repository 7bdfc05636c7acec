-- What the source and the sink in memory are seen as.
use Rattle.std.specs.Prelude.{◌≡◌, ◌⊎◌, ℕ, ◌+◌, ◌-◌, ◌^◌, List, Contains, min}
use Rattle.rig_io.specs.Fault.{HasRisen, StaysUnless}
use Rattle.rig_io.specs.declared.source.Took.{Took}
use Rattle.rig_io.specs.declared.source.Took.TheVariants.{Got, End, Failed}
use Rattle.rig_io.specs.declared.sink.Placed.{Placed}
use Rattle.rig_io.specs.declared.sink.Placed.TheVariants as placed

-- The bytes given and those to be given, the numbers of the calls that are to fail, how many calls there were so far, and how many
-- of them failed.
pub record MemSourceState : Type 0 where
  pub given : List ℕ
  pub rest : List ℕ
  pub failing : List ℕ
  pub calls : ℕ
  pub faults : ℕ

-- All bytes placed, the numbers of the calls that are to fail, how many calls there were so far, how many of them failed, and how
-- many were refused memory.
pub record MemSinkState : Type 0 where
  pub bytes : List ℕ
  pub failing : List ℕ
  pub calls : ℕ
  pub faults : ℕ
  pub refused : ℕ

-- The number of the next call; the last number serves all calls past it.
abbrev pub next_call : ℕ → ℕ
next_call call = min (call + 1) (2 ^ 64 - 1)

-- Failures come exactly at the listed calls.
pub record FailsAt (failing : List ℕ) (call : ℕ) (failed : Type 0) : Type 0 where
  pub listed : Contains failing call → failed
  pub only : failed → Contains failing call

-- Failures come at the listed calls, and elsewhere exactly where this call was refused memory.
pub record FailsAtOrRefused (failing : List ℕ) (call : ℕ) (failed : Type 0) (before now : ℕ) : Type 0 where
  pub listed : Contains failing call → failed × (now ≡ before)
  pub only : failed → Contains failing call ⊎ HasRisen before now
  pub stays : StaysUnless before now failed

-- As many bytes are got as are left and fit.
abbrev pub GotAll : Took → ℕ → ℕ → Type 0
GotAll (Got n) left room = n ≡ min left room
GotAll End left room = left ≡ 0
GotAll Failed left room = Unit {0}

-- The whole piece is placed.
abbrev pub PutAll : Placed → ℕ → Type 0
PutAll (placed.Put n) whole = n ≡ whole
PutAll placed.Failed whole = Unit {0}
