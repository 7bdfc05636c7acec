use Rattle.std.proofs.Common.{◌≡◌, ◌+◌, ◌≤◌, drop, sum_by}
use Rattle.std.specs.Vec.{vec_capacity, vec_len}
use Rattle.hpack_tables.specs.EntrySizes.{size_of}
use Rattle.hpack_tables.proofs.FieldsWritten.{GoesOn}
use Rattle.hpack_tables.proofs.encoder.field_texts.put_fields.Given as goal

abbrev pub invariant-loop-field : goal.invariant-loop-field
invariant-loop-field l = record {
  so_far : GoesOn l.style l.fn.table.max l.fields l.fn.table.items l.fn.out.items l.table.items l.out.items (drop l.field-index l.fields);
  max : l.table.max ≡ l.fn.table.max;
  len : vec_len l.out + sum_by size_of (drop l.field-index l.fields) ≤ vec_len l.fn.out + sum_by size_of l.fields;
  capacity : vec_capacity l.fn.out ≤ vec_capacity l.out;
}
