use Rattle.std.proofs.Common.{◌≡◌, ◌+◌, sum_by, drop}
use Rattle.hpack_tables.specs.EntrySizes.{size_of}
use Rattle.hpack_tables.proofs.encoder.block_room.Given as goal

abbrev pub invariant-loop-field : goal.invariant-loop-field
invariant-loop-field l = l.room + sum_by size_of (drop l.field-index l.fields) ≡ 6 + sum_by size_of l.fields
