use Rattle.std.proofs.Common.{◌≡◌, ◌++◌, drop, string_bytes}
use Rattle.script_lang.specs.Printed.{printed_behind}
use Rattle.script_lang.proofs.print.put_lines.Given as goal

abbrev pub invariant-lines : goal.invariant-lines
invariant-lines l = string_bytes l.out ++ printed_behind l.number (drop l.place l.fn.lines) ≡ string_bytes l.initial.out ++ printed_behind 1 l.fn.lines
