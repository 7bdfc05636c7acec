use Rattle.std.proofs.Common.{sym, ◌∙◌}
use Rattle.std.specs.Prelude.{nat_lt}
use Rattle.h2_conn.specs.declared.asked.Asked.{Asked}
use Rattle.h2_conn.proofs.Requests.{found_place, last_place}
use Rattle.h2_conn.proofs.watch.gap.Goals as goal

pub returns-in-Some : goal.returns-in-Some
returns-in-Some c = found_place (λ (a : Asked). nat_lt c.args.id a.id) c.in-Some.place c.args.asked.now (sym c.in-Some.is ∙ c.first_above.ensures)

pub returns-in-None : goal.returns-in-None
returns-in-None c = last_place (λ (a : Asked). nat_lt c.args.id a.id) c.args.asked.now (sym c.in-None.is ∙ c.first_above.ensures)
