-- What is left out where it has no bytes.
use Rattle.std.proofs.Common.{◌≡◌, ℕ, ◌<◌, List, [], ◌∷◌, ◌++◌, take, drop, length, refl, arith}
use Rattle.std.proofs.lemmas.List.{length-drop}
use Rattle.std.proofs.lemmas.Grind.{common_steps}
use Rattle.proto_wire.specs.Written.{bytes_field}
use Rattle.aft_messages.specs.Writing.{nonempty_field}

empty : (number : ℕ) (bytes : List ℕ) → length bytes ≡ 0 → nonempty_field number bytes ≡ []
unfolding nonempty_field
empty number [] h = refl
empty number (byte ∷ bytes) h = absurd (omega (arith, h))

some : (number : ℕ) (bytes : List ℕ) → 0 < length bytes → nonempty_field number bytes ≡ bytes_field number bytes
unfolding nonempty_field
some number [] h = absurd (omega (arith, h))
some number (byte ∷ bytes) h = refl

pub none_left : (number start : ℕ) (bytes : List ℕ) → length bytes ≡ start → nonempty_field number (drop start bytes) ≡ []
none_left number start bytes h = empty number (drop start bytes) (omega (arith, h, length-drop start bytes))

pub some_left : (number start : ℕ) (bytes : List ℕ) → start < length bytes → nonempty_field number (drop start bytes) ≡ bytes_field number (drop start bytes)
some_left number start bytes h = some number (drop start bytes) (omega (arith, h, length-drop start bytes))

pub nothing_enclosed : (number start : ℕ) (bytes : List ℕ) → length bytes ≡ start → bytes ≡ take start bytes ++ nonempty_field number (drop start bytes)
nothing_enclosed number start bytes h = rw (none_left number start bytes h) (grind (arith, common_steps))

pub ruleset nonempty = (none_left, some_left)
