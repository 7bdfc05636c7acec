use Rattle.std.proofs.Common.{arith}
use Rattle.h2_streams.proofs.Seen.{set_in_place, nothing_to_set}
use Rattle.h2_streams.proofs.live.replace.Goals as goal

pub returns-then-place-live : goal.returns-then-place-live
returns-then-place-live c = set_in_place c.args.id c.args.place c.args.new c.args.live.now c.requires (omega (arith, c.if-place-live.true))

pub returns-else-place-live : goal.returns-else-place-live
returns-else-place-live c = nothing_to_set c.args.id c.args.place c.args.new c.args.live.now c.requires (λ lt. omega (arith, lt, c.if-place-live.false))
