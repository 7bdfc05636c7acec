use Rattle.std.proofs.Common.{◌≡◌}
use Rattle.serde_json.specs.View.{members_view}
use Rattle.numbering_file.specs.File.{values_walked}
use Rattle.numbering_file.proofs.read.read_values.Given as goal

-- the members that are left, walked from here, give what all of them give
abbrev pub invariant-loop-key : goal.invariant-loop-key
invariant-loop-key l = values_walked l.enumeration (members_view l.key-iterator) l.draft ≡ values_walked l.enumeration (members_view l.members.entries) l.fn.draft
