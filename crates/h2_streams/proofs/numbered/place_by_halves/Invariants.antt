use Rattle.std.proofs.Common.{◌-◌, length}
use Rattle.std.specs.Prelude.{◌==◌}
use Rattle.std.specs.List.{position_or_len}
use Rattle.h2_streams.proofs.Rising.{IsWithin}
use Rattle.h2_streams.proofs.numbered.place_by_halves.Given as goal

abbrev pub invariant-halves : goal.invariant-halves
invariant-halves g l = IsWithin (position_or_len (λ x. g.T.Numbered.number x == l.id) l.items) (length l.items) l.low l.high

abbrev pub decreases-halves : goal.decreases-halves
decreases-halves g l = l.high - l.low
