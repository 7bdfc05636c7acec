-- An exchange of all frames is one that is read.
use Rattle.std.proofs.Common.{◌≡◌, ℕ, List, [], ◌∷◌, inl, inr}
use Rattle.h2_frames.specs.declared.frame.Frame.{Frame}
use Rattle.h2_exchange.specs.Exchange.{received}
use Rattle.h2_exchange.specs.Laws.{CompleteExchangeIsRead}
use Rattle.h2_exchange.specs.Order.{AreFrames, received_bytes, peer_preface}
use Rattle.h2_exchange.specs.Outcomes.{BeginWithFrames}

front_of : (due bytes rest : List ℕ) (fs : List Frame) → AreFrames due bytes fs rest → BeginWithFrames due bytes fs
front_of due bytes rest [] are = tt
front_of due bytes rest (f ∷ fs) (inl (follows, reads, end)) = (rest, follows, reads)
front_of due bytes rest (f ∷ fs) (inr (bad, none, same)) = absurd (no_frames none)
  where
    no_frames : {g : Frame} {gs : List Frame} → g ∷ gs ≡ [] → ⊥
    no_frames e = cc

pub complete_exchange_is_read : CompleteExchangeIsRead
complete_exchange_is_read role limits heads ps out x rest is known =
    record { known = known; front = front_of (peer_preface role) (received_bytes ps) rest (received x) is.frames; whole = λ all clear. is.frames; text = is.text; order = is.order }
