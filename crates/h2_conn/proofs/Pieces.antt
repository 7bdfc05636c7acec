-- Pieces of data, and streams that are over with them.
use Rattle.std.proofs.Common.{◌≡◌, ℕ, Bool, ◌&&◌, List, [], length, refl}
use Rattle.std.specs.Prelude.{not, is_some, Result, Ok, Err, IfOk, ◌==◌}
use Rattle.h2_frames.specs.declared.frame.Frame.{Frame}
use Rattle.h2_exchange.specs.declared.fault.SendFault.{SendFault}
use Rattle.h2_exchange.specs.Windows.{placed_of}
use Rattle.h2_streams.specs.Set.{at, is_open_in}
use Rattle.http_connection.specs.ConnectionTrace.{ConnectionTrace, wrote}
use Rattle.http_connection.specs.Sends.{CarryPiece}
use Rattle.h2_conn.specs.Blocks.{closed_on}
use Rattle.h2_conn.specs.State.{State}
use Rattle.h2_conn.specs.Standing.{Stands}
use Rattle.h2_conn.specs.Steps.{with_part, placed_in, SendsBy}
use Rattle.h2_conn.proofs.Asking.{as_before, places}
use Rattle.h2_conn.proofs.Ending.{closes_on}

pub pieces : (s t : State) (c : ConnectionTrace) (k : ℕ) (piece : List ℕ) (last dead : Bool) (r : Result ℕ SendFault) → is_some s.refusal ≡ dead →
    IfOk r (λ n. (n ≡ placed_in k piece s) × (t ≡ closed_on k (last && n == length piece) (with_part k piece (last && n == length piece) n s))) → SendsBy (not dead && is_open_in (at k s.set)) r → Stands s c →
    IfOk r (λ n. (n ≡ placed_of c.frames k piece) × (fs : List Frame) × CarryPiece k piece last n fs × Stands t (wrote fs [] c))
pieces s t c k piece last dead (Err fault) d e sends h = tt
pieces s t c k piece last dead (Ok n) d e sends h =
    let ends = last && n == length piece in
    let part = with_part k piece ends n s in
    let r = places s part c k piece last dead (Ok n) d (e.0, refl) sends h in
    (r.0, r.1, r.2, as_before (closed_on k ends part) t (wrote r.1 [] c) e.1 (closes_on part (wrote r.1 [] c) k ends r.3))
