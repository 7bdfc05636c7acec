use Rattle.std.proofs.Common.{◌+◌, ◌≤◌, length, sym, ◌∙◌, arith}
use Rattle.hpack_tables.specs.StaticTable.{field, static_table}
use Rattle.hpack_tables.specs.Writing.{fits}
use Rattle.hpack_tables.proofs.EntriesFound.{search_step, search_found, search_end, static_length}
use Rattle.hpack_tables.proofs.table.search.static_index.Goals as goal

pub returns-then-is_fit : goal.returns-then-is_fit
returns-then-is_fit c =
    search_found (fits c.args.whole c.args.field.now) 1 c.loop-place.place (c.loop-place.place + 1) static_table (field c.static_pair.result.0.now c.static_pair.result.1.now)
    c.static_pair.ensures (sym c.is_fit.ensures ∙ c.if-is_fit.true) c.loop-place.invariant.so_far (omega arith)

pub loop-place-preserved : goal.loop-place-preserved
loop-place-preserved c = record {
  so_far = search_step (fits c.args.whole c.args.field.now) 1 c.loop-place.place static_table (field c.static_pair.result.0.now c.static_pair.result.1.now)
      c.static_pair.ensures (sym c.is_fit.ensures ∙ c.if-is_fit.false) c.loop-place.invariant.so_far;
  within = omega (arith, c.loop-place-test.true);
}

pub returns : goal.returns
returns c =
    let all : length static_table ≤ c.loop-place.place = omega (arith, static_length, c.loop-place-test.false) in
    search_end (fits c.args.whole c.args.field.now) 1 c.loop-place.place static_table all c.loop-place.invariant.so_far
