use Rattle.std.proofs.Common.{drop}
use Rattle.hpack_tables.specs.Laws.{AreBytes}
use Rattle.hpack_tables.proofs.encoder.field_bytes.all_have_bytes.Given as goal

abbrev pub invariant-loop-field : goal.invariant-loop-field
invariant-loop-field l = record {
  so_far : AreBytes (drop l.field-index l.fields) → AreBytes l.fields;
}
