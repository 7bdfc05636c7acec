use Rattle.std.specs.Prelude.{All, take}
use Rattle.call_requests.specs.Responses.{HasSixOctets}
use Rattle.call_requests.proofs.responses.macs_have_six_octets.Given as goal

abbrev pub invariant-loop-row : goal.invariant-loop-row
invariant-loop-row l = All (λ row. HasSixOctets row.entry.payload) (take l.row-index l.rows)
