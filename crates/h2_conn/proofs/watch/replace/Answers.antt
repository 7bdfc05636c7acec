use Rattle.h2_conn.proofs.Requests.{set_in_place, nothing_to_set}
use Rattle.h2_conn.proofs.watch.replace.Goals as goal

pub returns-then-place-asked : goal.returns-then-place-asked
returns-then-place-asked c = set_in_place c.args.id c.args.place c.args.new c.args.asked.now c.requires c.if-place-asked.true

pub returns-else-place-asked : goal.returns-else-place-asked
returns-else-place-asked c = nothing_to_set c.args.id c.args.place c.args.new c.args.asked.now c.requires c.if-place-asked.false
