use Rattle.std.proofs.Common.{◌≡◌, ◌^◌, length}
use Rattle.script_lang.specs.Words.{ended_by}
use Rattle.script_lang.specs.Forms.{both, each, number}
use Rattle.script_lang.proofs.entry.each_number.Given as goal

-- the fit so far, and what is left
abbrev pub invariant-pieces : goal.invariant-pieces
invariant-pieces l = each (number (2 ^ 64)) (ended_by 44 l.word) ≡ both l.fit (each (number (2 ^ 64)) (ended_by 44 l.rest))

abbrev pub decreases-pieces : goal.decreases-pieces
decreases-pieces l = length l.rest
