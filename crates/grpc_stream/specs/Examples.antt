-- Ends that a response's last fields say, and calls in their order.
use native.Mathlib.Omega.{arith}
use Rattle.std.specs.Prelude.{◌≡◌, Bool, true, false, List, [], ◌∷◌, ◌++◌, Ok, codes}
use Rattle.grpc_heads.specs.Written.{field, response_fields}
use Rattle.h2_frames.specs.declared.frame.Frame.{Frame}
use Rattle.h2_exchange.specs.declared.role.Role.TheVariants.{Server}
use Rattle.h2_exchange.specs.Calls.{are_in_place, calls}
use Rattle.h2_exchange.specs.Exchange.{Step, Received, Sent}
use Rattle.h2_exchange.specs.Samples.{cancel, head, limits, no_settings, request, served, update}
use Rattle.h2_exchange.specs.Stops.{events}
use Rattle.schema_numbers.specs.Numbers.{Numbers}
use Rattle.grpc_heads.specs.CallEnd.{Http, Unreadable, call_end_of, status_only}

pub record EndsAreRead (n : Numbers) : Type 0 where
  pub http : call_end_of n (field (codes ":status") (codes "405") ∷ []) ≡ Http 405
  pub other_http : call_end_of n (field (codes ":status") (codes "404") ∷ []) ≡ Unreadable
  pub not_alone : call_end_of n (field (codes ":status") (codes "405") ∷ field (codes "grpc-status") (codes "0") ∷ []) ≡ Unreadable
  pub no_status : call_end_of n response_fields ≡ Unreadable
  pub status_alone : call_end_of n (response_fields ++ field (codes "grpc-status") (codes "5") ∷ []) ≡ status_only 5 []
  pub trailers : call_end_of n (field (codes "grpc-status") (codes "5") ∷ []) ≡ status_only 5 []

-- ---- the order of calls

-- a call on stream 1, and then these frames of its client, of which each has the error of an increment of 0
abbrev pub in_place_behind : List Step → Bool
in_place_behind more =
    are_in_place (calls served 12 8 3 (events Server (limits 100) (Ok request ∷ []) (Received no_settings ∷ Received head ∷ more)))

abbrev pub no_credit : Frame
no_credit = update 1 (0 ∷ 0 ∷ 0 ∷ 0 ∷ []) (omega arith) (omega arith)

-- A call is dropped once, where the reset of its stream is sent; a side that sends none drops it at each error.
pub record ResetsAreNeeded : Type 0 where
  pub reset : in_place_behind (Received no_credit ∷ Sent cancel ∷ Received no_credit ∷ []) ≡ true
  pub unreset : in_place_behind (Received no_credit ∷ Received no_credit ∷ []) ≡ false
