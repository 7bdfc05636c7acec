-- What may be the rest of a connection's bytes.
use Rattle.std.proofs.Common.{◌≡◌, ◌⊎◌, inl, inr, ℕ, List, Option, Some, None, refl}
use Rattle.h2_exchange.specs.Exchange.{received}
use Rattle.h2_exchange.specs.Order.{AreFrames, peer_preface}
use Rattle.h2_exchange.specs.Stops.{Stop}
use Rattle.http_connection.specs.ConnectionTrace.{ConnectionTrace, NoMemory, Refusal, Stopped, stop_in}
use Rattle.server_account.specs.Agreeing.{MayBeRest}

pub never_some : {A B : Type 0} (o : Option B) (b : B) → o ≡ None → o ≡ Some b → A
never_some None b none some = absurd cc
never_some (Some other) b none some = absurd cc

-- any may, where the connection has not refused
pub alive_rest : (c : ConnectionTrace) (rest : List ℕ) → c.refusal ≡ None → MayBeRest c rest
alive_rest c rest alive stop stopped clear = never_some c.refusal (Stopped stop) alive stopped

-- or its frames stopped it
pub stopped_rest : (c : ConnectionTrace) (rest : List ℕ) (why : Stop) → stop_in c ≡ Some why → MayBeRest c rest
stopped_rest c rest why is stop stopped clear = never_some (stop_in c) why clear is

starved_rest : (c : ConnectionTrace) (rest : List ℕ) → c.refusal ≡ Some NoMemory → MayBeRest c rest
starved_rest c rest is stop stopped clear = differ c.refusal is stopped
  where
    differ : {A : Type 0} (o : Option Refusal) → o ≡ Some NoMemory → o ≡ Some (Stopped stop) → A
    differ None p q = absurd cc
    differ (Some NoMemory) p q = absurd cc
    differ (Some (Stopped why)) p q = absurd cc

-- Any may be the rest, or the one that stands behind all whole frames.
pub rests_of : (c : ConnectionTrace) → ((rest : List ℕ) → MayBeRest c rest) ⊎ ((rest : List ℕ) → MayBeRest c rest → AreFrames (peer_preface c.role) c.fed (received c.frames) rest)
rests_of c = by c.refusal (stop_in c) refl refl
  where
    by : (o : Option Refusal) (p : Option Stop) → c.refusal ≡ o → stop_in c ≡ p
        → ((rest : List ℕ) → MayBeRest c rest) ⊎ ((rest : List ℕ) → MayBeRest c rest → AreFrames (peer_preface c.role) c.fed (received c.frames) rest)
    by None p is at = inl (λ rest. alive_rest c rest is)
    by (Some NoMemory) p is at = inl (λ rest. starved_rest c rest is)
    by (Some (Stopped stop)) (Some why) is at = inl (λ rest. stopped_rest c rest why at)
    by (Some (Stopped stop)) None is at = inr (λ rest may. may stop is at)
