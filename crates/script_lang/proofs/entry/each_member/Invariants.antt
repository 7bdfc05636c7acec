use Rattle.std.proofs.Common.{◌≡◌, length}
use Rattle.script_lang.specs.Words.{ended_by}
use Rattle.script_lang.specs.Forms.{both, each, member}
use Rattle.script_lang.proofs.entry.each_member.Given as goal

-- the fit so far, and what is left
abbrev pub invariant-pieces : goal.invariant-pieces
invariant-pieces l = each member (ended_by 44 l.word) ≡ both l.fit (each member (ended_by 44 l.rest))

abbrev pub decreases-pieces : goal.decreases-pieces
decreases-pieces l = length l.rest
