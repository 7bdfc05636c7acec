use Rattle.std.proofs.Common.{refl}
use Rattle.client_tests.proofs.judged.sent.Goals as goal

pub send_all-requires : goal.send_all-requires
send_all-requires c =
    let new = c.in_ok-conn.ensures in (_, c.new-client.ensures.stands c.args.n.now _ new.0 (c.new-calls.ensures _ new.0 c.args.n.now new.1 new.2))
