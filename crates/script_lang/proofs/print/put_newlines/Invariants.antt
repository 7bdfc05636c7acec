use Rattle.std.proofs.Common.{◌≡◌, ◌++◌, replicate, string_bytes}
use Rattle.script_lang.proofs.print.put_newlines.Given as goal

abbrev pub invariant-newlines : goal.invariant-newlines
invariant-newlines l = string_bytes l.out ++ replicate l.left 10 ≡ string_bytes l.initial.out ++ replicate l.initial.left 10

abbrev pub decreases-newlines : goal.decreases-newlines
decreases-newlines l = l.left
