use Rattle.std.proofs.Common.{◌∙◌, arith}
use Rattle.hpack_tables.proofs.FieldsWritten.{one_more, all_written, sum_here}
use Rattle.hpack_tables.proofs.encoder.field_texts.put_fields.Goals as goal

pub loop-field-preserved : goal.loop-field-preserved
loop-field-preserved c = record {
  so_far = one_more c.args.style c.args.table.now.max c.args.fields.now c.args.table.now.items c.args.out.now.items c.loop-field.table.items c.loop-field.out.items c.loop-field.field-index c.field-item.result
      c.loop-field.table.max c.put_field.new.table.items c.put_field.new.out.items c.loop-field.invariant.max c.loop-field.invariant.so_far c.loop-field-test.true c.field-item.is c.in_ok-put_field.ensures.text;
  max = c.in_ok-put_field.ensures.max ∙ c.loop-field.invariant.max;
  len = omega (arith, c.loop-field.invariant.len, c.in_ok-put_field.ensures.len, sum_here c.args.fields.now c.loop-field.field-index c.field-item.result c.loop-field-test.true c.field-item.is);
  capacity = omega (arith, c.loop-field.invariant.capacity, c.in_ok-put_field.ensures.capacity);
}

pub returns-clause-text : goal.returns-clause-text
returns-clause-text c =
    all_written c.args.style c.args.table.now.max c.args.fields.now c.args.table.now.items c.args.out.now.items c.loop-field.table.items c.loop-field.out.items c.loop-field.field-index c.loop-field.invariant.so_far c.loop-field-test.false
