-- What the dialer in memory is seen as.
use Rattle.std.specs.Prelude.{◌≡◌, ◌≢◌, ◌⊎◌, ℕ, List, [], ◌∷◌, Contains}
use Rattle.rig_io.specs.declared.dialer.Dialled.{Dialled}
use Rattle.rig_io.specs.declared.dialer.Dialled.TheVariants.{New, Failed}
use Rattle.rig_io.specs.MemLinks.{MemLinkState, counted}

-- the links to come, those given, as they were then, and those taken back; the numbers of the calls that are to fail, how many calls
-- there were so far, and the counts
pub record MemDialerState : Type 0 where
  pub pending : List MemLinkState
  pub given : List MemLinkState
  pub retired : List MemLinkState
  pub failing : List ℕ
  pub calls : ℕ
  pub given_count : ℕ
  pub faults : ℕ
  pub refused : ℕ

-- The links that are to come, behind a call: it gives the first of them. It fails at a listed call and where no link is there, which
-- is no want of memory, and elsewhere where memory is refused.
abbrev pub Dials : List ℕ → ℕ → List MemLinkState → List MemLinkState → Dialled MemLinkState → ℕ → ℕ → Type 0
Dials failing call before after (New link) refused now =
    (Contains failing call → ⊥) × (before ≡ link ∷ after) × (now ≡ refused)
Dials failing call before after Failed refused now =
    (after ≡ before)
    × (((Contains failing call ⊎ (before ≡ [])) × (now ≡ refused))
    ⊎ ((Contains failing call → ⊥) × (before ≢ []) × (now ≡ counted refused)))
