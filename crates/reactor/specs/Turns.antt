-- What turns leave.
use Rattle.std.specs.Prelude.{◌≡◌, ℕ, ◌+◌, List, [], ◌∷◌, ◌++◌, length, take, drop}
use Rattle.std.specs.List.Sorted.{IsPermutation}
use Rattle.reactor.specs.declared.turning.Turned.{Turned}
use Rattle.reactor.specs.declared.turning.Turned.TheVariants.{Progress, Idle, Over}

abbrev pub IfOver : Turned → Type 0 → Type 0
IfOver Over P = P
IfOver Progress P = Unit {0}
IfOver Idle P = Unit {0}

abbrev pub IfLive : Turned → Type 0 → Type 0
IfLive Over P = Unit {0}
IfLive Progress P = P
IfLive Idle P = P

-- the items that have turns to come, and those that are over and weren't taken out, the longest over first
pub record ReactorItems (T : Type 0) : Type 0 where
  pub live : List T
  pub over : List T

-- a turn: the item before it and behind it, and what it came to
pub record TurnOf (T : Type 0) : Type 0 where
  pub before : T
  pub after : T
  pub came_to : Turned

-- 1 for a turn that made progress
abbrev pub progress_of : Turned → ℕ
progress_of Progress = 1
progress_of Idle = 0
progress_of Over = 0

module _ {T : Type 0} where
  -- the list, with the item before it unless its turn was its last
  abbrev pub unless_over : Turned → T → List T → List T
  unless_over Progress item items = item ∷ items
  unless_over Idle item items = item ∷ items
  unless_over Over item items = items

  -- the list, with the item before it if its turn was its last
  abbrev pub if_over : Turned → T → List T → List T
  if_over Progress item items = items
  if_over Idle item items = items
  if_over Over item items = item ∷ items

  -- the items that had these turns
  abbrev pub befores : List (TurnOf T) → List T
  befores [] = []
  befores (t ∷ ts) = t.before ∷ befores ts

  -- the items as these turns left them: those that are live, and those that are over
  abbrev pub still_live : List (TurnOf T) → List T
  still_live [] = []
  still_live (t ∷ ts) = unless_over t.came_to t.after (still_live ts)

  abbrev pub now_over : List (TurnOf T) → List T
  now_over [] = []
  now_over (t ∷ ts) = if_over t.came_to t.after (now_over ts)

  -- how many of them made progress
  abbrev pub progressed_in : List (TurnOf T) → ℕ
  progressed_in [] = 0
  progressed_in (t ∷ ts) = progress_of t.came_to + progressed_in ts

  -- each is a turn of its item
  abbrev pub AreTurns : (T → T → Turned → Type 0) → List (TurnOf T) → Type 0
  AreTurns goes [] = Unit {0}
  AreTurns goes (t ∷ ts) = goes t.before t.after t.came_to × AreTurns goes ts

  -- A round: each item that was live had one turn, and no other item had one. Those whose turn was the last stand behind the others that
  -- are over.
  pub record IsRound (goes : T → T → Turned → Type 0) (before after : ReactorItems T) (progressed ended : ℕ) : Type 0 where
    pub turns : List (TurnOf T)
    pub each : AreTurns goes turns
    pub given : IsPermutation before.live (befores turns)
    pub live : after.live ≡ still_live turns
    pub over : after.over ≡ before.over ++ now_over turns
    pub progress : progressed ≡ progressed_in turns
    pub ends : ended ≡ length (now_over turns)

  -- ---- within a round

  -- what a turn leaves of the items: those before its place had theirs
  abbrev pub Leaves : Turned → T → ℕ → List T → List T → List T → List T → Type 0
  Leaves Progress item at live over live' over' =
      (take (at + 1) live' ≡ take at live ++ item ∷ []) × (drop (at + 1) live' ≡ drop (at + 1) live) × (over' ≡ over)
  Leaves Idle item at live over live' over' =
      (take (at + 1) live' ≡ take at live ++ item ∷ []) × (drop (at + 1) live' ≡ drop (at + 1) live) × (over' ≡ over)
  Leaves Over item at live over live' over' =
      (take at live' ≡ take at live) × IsPermutation (drop (at + 1) live) (drop at live') × (over' ≡ over ++ item ∷ [])

  -- the item at this place has had its turn
  pub record IsTurnAt (goes : T → T → Turned → Type 0) (at : ℕ) (live over live' over' : List T) (came_to : Turned) : Type 0 where
    pub before : T
    pub after : T
    pub did : goes before after came_to
    pub here : drop at live ≡ before ∷ drop (at + 1) live
    pub left : Leaves came_to after at live over live' over'

  -- the items before this place have had theirs
  pub record HaveGone (goes : T → T → Turned → Type 0) (first : ReactorItems T) (at : ℕ) (live over : List T) (progressed ended : ℕ) : Type 0 where
    pub turns : List (TurnOf T)
    pub each : AreTurns goes turns
    pub given : IsPermutation first.live (befores turns ++ drop at live)
    pub kept : take at live ≡ still_live turns
    pub gone : over ≡ first.over ++ now_over turns
    pub progress : progressed ≡ progressed_in turns
    pub ends : ended ≡ length (now_over turns)
