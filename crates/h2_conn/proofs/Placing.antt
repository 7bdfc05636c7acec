-- A connection that sends data.
use Rattle.std.proofs.Common.{◌≡◌, ℕ, ◌-◌, true, Option, Some, None, refl, ap, ◌∙◌}
use Rattle.std.specs.Prelude.{◌==◌}
use Rattle.h2_streams.specs.declared.live.Stream.{Stream}
use Rattle.h2_streams.specs.Live.{is_stream}
use Rattle.h2_streams.specs.Set.{Set, at, is_open_in, spent, spent_at}
use Rattle.h2_streams.proofs.Ends.{found_again}
use Rattle.h2_streams.proofs.Lists.{self_eq}
use Rattle.h2_streams.proofs.Places.{found_id}

open_by : (set : Set) (id n : ℕ) (o : Option Stream) → at id set ≡ o → is_open_in o ≡ true → is_open_in (at id (spent_at id n set o)) ≡ true
open_by set id n None e p = absurd cc
open_by set id n (Some stream) e p =
    let here : is_stream id (record stream { room = stream.room - n }) ≡ true = ap (λ (k : ℕ). k == id) (found_id id stream set.live e) ∙ self_eq id in
    ap is_open_in (found_again id (record stream { room = stream.room - n }) stream set.live here e) ∙ p

-- a stream on which data are sent stays open
pub still_open : (set : Set) (id n : ℕ) → is_open_in (at id set) ≡ true → is_open_in (at id (spent id n set)) ≡ true
still_open set id n p = open_by set id n (at id set) refl p
