use Rattle.std.proofs.Common.{rules, arith, ◌∙◌, ap}
use Rattle.table_lock.proofs.Keeps.{looks}
use mathlib.Core.Option.{none}
use Rattle.atomic_table.specs.Table.{step}
use Rattle.table_lock.proofs.SeatFacts.{took}
use Rattle.table_lock.proofs.steps.await_turn.Goals as goal

pub load-served-requires : goal.load-served-requires
load-served-requires g c = let now = c.loop.invariant.3 in let same = c.loop.invariant.2 in (
  search rules,
  omega arith,
  looks g.M.Machine.setup g.M.Machine.stands g.M.Machine.lawful (g.M.Machine.setup c.args.table.now.key.value) _ _ c.args.ticket _ (ap (λ m. m.0.kind) now ∙ c.requires.1.0) (ap (λ m. m.0.phase) now ∙ c.requires.1.1),
)

pub returns-then-served-ticket-clause-turn : goal.returns-then-served-ticket-clause-turn
returns-then-served-ticket-clause-turn g c = took g.M.Machine.setup g.M.Machine.stands g.M.Machine.lawful (step 1 1 0 0 none) _ _ _ _ _ c.loop.invariant.3 c.requires.1.1 c.requires.1.2 c.if-served-ticket.true c.load-served.ensures.2
