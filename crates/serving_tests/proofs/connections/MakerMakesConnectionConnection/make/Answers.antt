use Rattle.std.proofs.Common.{refl}
use Rattle.serving_tests.proofs.connections.MakerMakesConnectionConnection.make.Goals as goal

pub returns : goal.returns
returns c setting =
    (let new = c.in_ok-conn.ensures in
    c.new-2.ensures.starts setting _ (record { streams = refl; window = refl; list = refl })
    (new.0, new.1, c.new-calls.ensures _ new.0 setting.numbering new.1 new.2))
