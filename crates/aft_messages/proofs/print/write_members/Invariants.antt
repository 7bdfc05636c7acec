use Rattle.std.proofs.Common.{◌≡◌, ◌++◌, map, take}
use Rattle.std.specs.Prelude.{All}
use Rattle.std.specs.List.{flat_map}
use Rattle.aft_messages.specs.Writing.{member_field}
use Rattle.aft_messages.specs.Printing.{raw_member}
use Rattle.aft_messages.proofs.Printed.{MemberFits}
use Rattle.aft_messages.proofs.print.write_members.Given as goal

abbrev pub invariant-loop-member : goal.invariant-loop-member
invariant-loop-member l = (l.out.items ≡ l.fn.out.items ++ flat_map (member_field l.n) (map raw_member (take l.member-index l.members))) × All MemberFits (take l.member-index l.members)
