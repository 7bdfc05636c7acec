use Rattle.std.proofs.Common.{◌≡◌, ◌*◌, ◌-◌, ◌^◌, ◌<◌, ◌≤◌}
use Rattle.addr_text.proofs.groups.times_zero_groups.Given as goal

-- what is left to raise by
abbrev pub invariant-zeros : goal.invariant-zeros
invariant-zeros l = (l.number * 65536 ^ (8 - l.place) ≡ l.bits * 65536 ^ (8 - l.count)) × (l.number < 65536 ^ l.place) × (l.place ≤ 8)
