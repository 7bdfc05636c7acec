use Rattle.std.proofs.Common.{◌≡◌, drop, string_bytes}
use Rattle.std.specs.Str.{bytes_eq}
use Rattle.aft_entries.specs.InstanceNames.{holds_twice}
use Rattle.aft_entries.proofs.instances.has_twice.Given as goal

-- no name so far stands again
abbrev pub invariant-names : goal.invariant-names
invariant-names l =
    holds_twice (λ other name. bytes_eq (string_bytes other) (string_bytes name)) l.names ≡ holds_twice (λ other name. bytes_eq (string_bytes other) (string_bytes name)) (drop l.place l.names)
