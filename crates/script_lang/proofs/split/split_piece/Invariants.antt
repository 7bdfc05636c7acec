use Rattle.std.proofs.Common.{◌≡◌, take, drop}
use Rattle.script_lang.specs.Words.{ended_by}
use Rattle.script_lang.proofs.Pieces.{ahead}
use Rattle.script_lang.proofs.split.split_piece.Given as goal

-- no mark stands before the place
abbrev pub invariant-places : goal.invariant-places
invariant-places l = ended_by l.mark l.text ≡ ahead (take l.place l.text) (ended_by l.mark (drop l.place l.text))
