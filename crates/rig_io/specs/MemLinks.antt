-- What the link in memory is seen as.
use Rattle.std.specs.Prelude.{◌≡◌, ◌⊎◌, ℕ, zero, suc, ◌+◌, ◌-◌, ◌^◌, Bool, true, false, List, [], ◌∷◌, ◌++◌, take, drop, min, Option, Some, None}
use Rattle.rig_io.specs.Link.{Piece, InputLeft, received, sent}
use Rattle.rig_io.specs.declared.link.LinkRead.{LinkRead}
use Rattle.rig_io.specs.declared.link.LinkRead.TheVariants as read
use Rattle.rig_io.specs.declared.link.LinkWrite.{LinkWrite}
use Rattle.rig_io.specs.declared.link.LinkWrite.TheVariants as write
use Rattle.rig_io.specs.declared.mem_link.LinkStep.TheVariants as step
use Rattle.rig_io.specs.declared.mem_link.LinkStep.{LinkStep}
use Rattle.rig_io.specs.declared.mem_link.Transfer.{Transfer}
use Rattle.rig_io.specs.declared.mem_link.Transfer.TheVariants as transfer

-- the pieces, the bytes that no poll has got, whether no more will come, all bytes sent, how many of them were taken, the steps of the
-- plan that are to come, and the counts
pub record MemLinkState : Type 0 where
  pub pieces : List Piece
  pub left : List ℕ
  pub over : Bool
  pub sent : List ℕ
  pub carried : ℕ
  pub plan : List LinkStep
  pub faults : ℕ
  pub read_idles : ℕ
  pub write_idles : ℕ
  pub ends : ℕ
  pub refused : ℕ

-- the bytes that no poll has got, as a link tells them
abbrev pub input_left : MemLinkState → InputLeft
input_left l = record { bytes = l.left; over = l.over }

-- a count with one more; the last number stands for all past it
abbrev pub counted : ℕ → ℕ
counted n = min (n + 1) (2 ^ 64 - 1)

-- the pieces, by how many bytes each has
abbrev pub pieces_of : List Transfer → List ℕ → List ℕ → List Piece
pieces_of [] got put = []
pieces_of (transfer.Sent n ∷ ms) got put = sent (take n put) ∷ pieces_of ms got (drop n put)
pieces_of (transfer.Received n ∷ ms) got put = received (take n got) ∷ pieces_of ms (drop n got) put

-- how many bytes were got and sent
abbrev pub received_count : List Transfer → ℕ
received_count [] = 0
received_count (transfer.Sent n ∷ ms) = received_count ms
received_count (transfer.Received n ∷ ms) = n + received_count ms

abbrev pub sent_count : List Transfer → ℕ
sent_count [] = 0
sent_count (transfer.Sent n ∷ ms) = n + sent_count ms
sent_count (transfer.Received n ∷ ms) = sent_count ms

-- the first step of a plan that is not over
abbrev pub first_step : List LinkStep → Option LinkStep
first_step [] = None
first_step (s ∷ ss) = Some s

-- ---- how a step serves a call

-- it fails, it is not ready, or so many bytes pass at most
pub data Serving : Type 0 where
  Fails : Serving
  Idles : Serving
  Passes : ℕ → Serving

-- Past the plan's end each call passes what it can.
abbrev pub serving : Option LinkStep → ℕ → Serving
serving None room = Passes room
serving (Some step.Fail) room = Fails
serving (Some step.NotReady) room = Idles
serving (Some (step.Upto zero)) room = Idles
serving (Some (step.Upto (suc n))) room = Passes (min (suc n) room)

-- What a read answers, where so many bytes are left: Failed at the steps that fail and where there is no memory, and nowhere else.
abbrev pub ReadByStep : Serving → ℕ → Bool → LinkRead → ℕ → ℕ → Type 0
ReadByStep Fails left over result before now = (result ≡ read.Failed) × (now ≡ before)
ReadByStep Idles left over result before now = (result ≡ read.NotReady) × (now ≡ before)
ReadByStep (Passes most) zero true result before now = (result ≡ read.End) × (now ≡ before)
ReadByStep (Passes most) zero false result before now = (result ≡ read.NotReady) × (now ≡ before)
ReadByStep (Passes most) (suc left) over result before now =
    ((result ≡ read.Got (min (suc left) most)) × (now ≡ before)) ⊎ ((result ≡ read.Failed) × (now ≡ counted before))

-- and a write
abbrev pub WriteByStep : Serving → LinkWrite → ℕ → ℕ → Type 0
WriteByStep Fails result before now = (result ≡ write.Failed) × (now ≡ before)
WriteByStep Idles result before now = (result ≡ write.NotReady) × (now ≡ before)
WriteByStep (Passes most) result before now =
    ((result ≡ write.Put most) × (now ≡ before)) ⊎ ((result ≡ write.Failed) × (now ≡ counted before))

-- all bytes sent, behind a write
abbrev pub sent_after : List ℕ → LinkWrite → List ℕ → List ℕ
sent_after before (write.Put n) piece = before ++ take n piece
sent_after before write.NotReady piece = before
sent_after before write.Failed piece = before
