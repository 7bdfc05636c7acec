use Rattle.std.proofs.Common.{◌≡◌, ◌≤◌, ◌+◌, ◌*◌, ◌∷◌, ◌++◌, take, string_bytes}
use Rattle.std.specs.String.{string_len, string_capacity}
use Rattle.std.specs.List.{flat_map}
use Rattle.addr_text.specs.Printed as spec
use Rattle.addr_text.proofs.print.put_after_colons.Given as goal

-- what is written so far, and the room that is left
abbrev pub invariant-groups : goal.invariant-groups
invariant-groups l =
    (string_bytes l.out ≡ string_bytes l.initial.out ++ flat_map (λ group. 58 ∷ spec.hex_text group) (take l.group-index l.groups)) × (string_len l.out ≤ string_len l.initial.out + 5 * l.group-index) × (string_capacity l.initial.out ≤ string_capacity l.out)
