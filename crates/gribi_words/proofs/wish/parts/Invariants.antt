use Rattle.std.proofs.Common.{◌≡◌, map, string_bytes}
use Rattle.gribi_words.proofs.wish.parts.Given as goal

abbrev pub invariant-loop-part : goal.invariant-loop-part
invariant-loop-part l = map string_bytes l.names.items ≡ map (λ part. part.now) l.yielded
