use Rattle.std.proofs.Common.{◌≡◌, length}
use Rattle.addr_text.specs.AddressGrammar as spec
use Rattle.addr_text.specs.Counting.{counted, counted_from, IsSmall}
use Rattle.addr_text.proofs.groups.read_groups.Given as goal

-- the groups so far, and what is left to read
abbrev pub invariant-groups : goal.invariant-groups
invariant-groups l =
    (counted (spec.groups l.tail (spec.parts 58 l.text)) ≡ counted_from l.count l.bits (spec.groups l.tail (spec.parts 58 l.rest))) × IsSmall (l.count, l.bits)

abbrev pub decreases-groups : goal.decreases-groups
decreases-groups l = length l.rest
