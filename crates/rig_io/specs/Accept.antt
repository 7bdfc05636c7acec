-- What an acceptor and a dialer tell of the links that they give and take back.
use Rattle.std.specs.Prelude.{◌≡◌, ℕ, ◌+◌, Bool, true, false, List, [], ◌∷◌, ◌++◌, Option}
use Rattle.std.specs.Option.{option_map}
use Rattle.rig_io.specs.declared.acceptor.Accepted.{Accepted}
use Rattle.rig_io.specs.declared.acceptor.Accepted.TheVariants.{New, NotReady, Closed, Failed}
use Rattle.rig_io.specs.declared.dialer.Dialled.{Dialled}
use Rattle.rig_io.specs.declared.dialer.Dialled.TheVariants as dialled

module _ {L : Type 0} where
  -- one more link was given, at New alone
  abbrev pub CountsAccepted : ℕ → ℕ → Accepted L → Type 0
  CountsAccepted before after (New link) = after ≡ before + 1
  CountsAccepted before after NotReady = after ≡ before
  CountsAccepted before after Closed = after ≡ before
  CountsAccepted before after Failed = after ≡ before

  abbrev pub ListsAccepted : Option (List L) → Option (List L) → Accepted L → Type 0
  ListsAccepted before after (New link) = after ≡ option_map (λ links. links ++ link ∷ []) before
  ListsAccepted before after NotReady = after ≡ before
  ListsAccepted before after Closed = after ≡ before
  ListsAccepted before after Failed = after ≡ before

  abbrev pub CountsDialled : ℕ → ℕ → Dialled L → Type 0
  CountsDialled before after (dialled.New link) = after ≡ before + 1
  CountsDialled before after dialled.Failed = after ≡ before

  abbrev pub ListsDialled : Option (List L) → Option (List L) → Dialled L → Type 0
  ListsDialled before after (dialled.New link) = after ≡ option_map (λ links. links ++ link ∷ []) before
  ListsDialled before after dialled.Failed = after ≡ before

  -- the link was taken back
  abbrev pub Retires : Option (List L) → Option (List L) → L → Type 0
  Retires before after link = after ≡ option_map (λ links. links ++ link ∷ []) before

-- as many links were given since the last `listen` that answered true as it asked for
abbrev pub AllAccepted : ℕ → ℕ → ℕ → Type 0
AllAccepted given_count since asked = given_count ≡ since + asked

-- what `listen` leaves: of an answer true, what was asked for and how many links had been given
abbrev pub Listens : Bool → ℕ → ℕ → ℕ × ℕ → ℕ × ℕ → Type 0
Listens true given_count connections before after = after ≡ (connections, given_count)
Listens false given_count connections before after = after ≡ before
