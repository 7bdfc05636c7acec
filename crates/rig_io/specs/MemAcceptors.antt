-- What the acceptor in memory is seen as.
use Rattle.std.specs.Prelude.{◌≡◌, ◌≢◌, ◌⊎◌, ℕ, List, [], ◌∷◌}
use Rattle.rig_io.specs.declared.acceptor.Accepted.{Accepted}
use Rattle.rig_io.specs.declared.acceptor.Accepted.TheVariants.{New, NotReady, Closed, Failed}
use Rattle.rig_io.specs.MemLinks.{MemLinkState, counted}

-- the links to come, those given, as they were then, and those taken back; how many links the last `listen` asked for, and how many
-- had been given before it; and the counts
pub record MemAcceptorState : Type 0 where
  pub pending : List MemLinkState
  pub given : List MemLinkState
  pub retired : List MemLinkState
  pub asked : ℕ
  pub before : ℕ
  pub given_count : ℕ
  pub faults : ℕ
  pub refused : ℕ

-- The links that are to come, behind a call: it gives the first of them. It fails where none is there, which is no want of memory,
-- and where one is there and memory is refused.
abbrev pub Accepts : List MemLinkState → List MemLinkState → Accepted MemLinkState → ℕ → ℕ → Type 0
Accepts before after (New link) refused now = (before ≡ link ∷ after) × (now ≡ refused)
Accepts before after NotReady refused now = ⊥
Accepts before after Closed refused now = (after ≡ before) × (now ≡ refused)
Accepts before after Failed refused now =
    (after ≡ before) × (((before ≡ []) × (now ≡ refused)) ⊎ ((before ≢ []) × (now ≡ counted refused)))
