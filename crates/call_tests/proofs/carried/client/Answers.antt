use Rattle.std.proofs.Common.{refl}
use Rattle.call_tests.proofs.carried.client.Goals as goal

pub begins-requires : goal.begins-requires
begins-requires c = let new = c.in_ok-new.ensures in (_, c.new-client.ensures _ new.0 c.args.n.now new.1 new.2, refl)
