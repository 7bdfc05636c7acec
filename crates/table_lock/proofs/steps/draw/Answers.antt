use Rattle.std.proofs.Common.{rules, arith, ◌∙◌, ap}
use Rattle.table_lock.proofs.Keeps.{draws}
use Rattle.table_lock.proofs.steps.draw.Goals as goal

pub compare_exchange-found-requires : goal.compare_exchange-found-requires
compare_exchange-found-requires g c = let now = c.loop.invariant.3 in let same = c.loop.invariant.2 in (
  search rules,
  omega arith,
  draws g.M.Machine.setup g.M.Machine.stands g.M.Machine.lawful (g.M.Machine.setup c.args.table.now.key.value) _ _ _ _ (ap (λ m. m.0.kind) now ∙ c.requires.1.0) (ap (λ m. m.0.phase) now ∙ c.requires.1.1) (omega arith),
)
