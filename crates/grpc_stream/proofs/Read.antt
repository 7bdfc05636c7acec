-- Ends that a response's last fields say.
use Rattle.std.proofs.Common.{refl}
use Rattle.grpc_heads.specs.Trailers.{status_in_trailers, code_of}
use Rattle.grpc_framing.specs.Framing.{front_at, item_at, messages_of, messages_upto}
use Rattle.schema_numbers.specs.Numbers.{Numbers}
use Rattle.grpc_stream.specs.Examples.{EndsAreRead, ResetsAreNeeded}

pub ends_are_read : (n : Numbers) → EndsAreRead n
unfolding status_in_trailers code_of
ends_are_read n = record { http = refl; other_http = refl; not_alone = refl; no_status = refl; status_alone = refl; trailers = refl }

pub resets_are_needed : ResetsAreNeeded
unfolding front_at item_at messages_of messages_upto
resets_are_needed = record { reset = refl; unreset = refl }
