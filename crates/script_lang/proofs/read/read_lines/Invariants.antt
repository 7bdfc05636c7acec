use Rattle.std.proofs.Common.{◌≡◌, ◌≤◌, length}
use Rattle.script_lang.specs.Words.{lines}
use Rattle.script_lang.specs.Scripts.{from, long_line}
use Rattle.script_lang.proofs.read.read_lines.Given as goal

-- what is read so far, and what is left
abbrev pub invariant-lines : goal.invariant-lines
invariant-lines l = (from (long_line l.text) l.initial.script 1 (lines l.text) ≡ from l.long l.script l.number (lines l.rest)) × (l.number ≤ 10001)

abbrev pub decreases-lines : goal.decreases-lines
decreases-lines l = length l.rest
