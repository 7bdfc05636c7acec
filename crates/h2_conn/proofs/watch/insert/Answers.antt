use Rattle.std.proofs.Common.{◌∙◌, arith}
use Rattle.std.specs.Prelude.{nat_lt}
use Rattle.h2_conn.specs.declared.asked.Asked.{Asked}
use Rattle.h2_conn.proofs.Requests.{inserted, within}
use Rattle.h2_conn.proofs.watch.insert.Goals as goal

pub insert-requires : goal.insert-requires
insert-requires c = omega (arith, c.gap-place.ensures, within (λ (a : Asked). nat_lt c.args.id a.id) c.as_slice.result.now, c.as_slice.ensures.len)

pub returns-clause-ok : goal.returns-clause-ok
returns-clause-ok c = c.in_ok-insert.ensures.items ∙ inserted c.args.id c.gap-place.result c.args.new c.args.asked.now.items c.as_slice.result.now c.as_slice.ensures.value c.gap-place.ensures
