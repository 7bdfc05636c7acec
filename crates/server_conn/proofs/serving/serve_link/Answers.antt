use Rattle.std.proofs.Common.{Some, refl}
use Rattle.h2_exchange.specs.declared.limits.H2Limits.{H2Limits}
use Rattle.server_turns.specs.declared.outcome.Outcome.TheVariants.{NoMemory}
use Rattle.server_turns.specs.Serving.{Serves}
use Rattle.server_turns.proofs.Runs.{ran_none}
use Rattle.server_conn.proofs.Unserved.{unserved}
use Rattle.server_conn.proofs.serving.serve_link.Goals as goal

pub returns-in_default-clause-serves : goal.returns-in_default-clause-serves
returns-in_default-clause-serves g c = ran_none c.args.lock.now.setup (g.L.Link.pieces c.args.link.now) c.args.pass.now
    (λ past a. Serves c.args.setting.now past a (Some NoMemory)) c.requires.sound (unserved c.args.setting.now)

pub serve_turns-requires-clause-new : goal.serve_turns-requires-clause-new
serve_turns-requires-clause-new g c =
    (let limits : H2Limits = record {
      streams = 100;
      window = 1048576;
      list = 65536;
      window_is_raised = c.new-arg-1.given.0;
      window_in_range = c.new-arg-1.given.1.0;
    } in
    let new = c.in-Ok.ensures in
    c.new-2.ensures.starts c.args.setting.now limits (record { streams = refl; window = refl; list = refl })
    (new.0, new.1, c.new-calls.ensures limits new.0 c.args.setting.now.numbering new.1 new.2))
