use Rattle.hpack_tables.proofs.FieldBytes.{one_more_has, all_have}
use Rattle.hpack_tables.proofs.encoder.field_bytes.all_have_bytes.Goals as goal

pub loop-field-preserved : goal.loop-field-preserved
loop-field-preserved c = record {
  so_far = one_more_has c.args.fields.now c.loop-field.field-index c.field-item.result c.loop-field-test.true c.field-item.is c.has_bytes.ensures c.loop-field.invariant.so_far;
}

pub returns : goal.returns
returns c = all_have c.args.fields.now c.loop-field.field-index c.loop-field-test.false c.loop-field.invariant.so_far
