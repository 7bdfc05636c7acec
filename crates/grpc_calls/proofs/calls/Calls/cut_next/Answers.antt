use Rattle.std.proofs.Common.{◌∙◌, sym, ap, arith}
use Rattle.std.specs.Prelude.{is_some}
use Rattle.grpc_calls.specs.Object.{state_in}
use Rattle.call_telling.proofs.CutArms.{unheard_cut}
use Rattle.call_hearing.specs.Listening.{steps_of}
use Rattle.grpc_calls.proofs.calls.Calls.cut_next.Goals as goal

pub returns-in-None-clause-says : goal.returns-in-None-clause-says
returns-in-None-clause-says g c = λ t h numbers going cut.
    let x = c.args.self.now in
    unheard_cut g.C.HttpConnection.stands g.C.HttpConnection.output g.met.C.HttpConnection.sound x.conn x.fate going (state_in x) t h c.args.stream cut
    (sym c.listening.ensures.heard ∙ ap is_some c.in-None.is)

pub returns-in-None-clause-ahead : goal.returns-in-None-clause-ahead
returns-in-None-clause-ahead g c = λ down cut. omega (arith, ap steps_of cut)

pub returns-in-Some-clause-says : goal.returns-in-Some-clause-says
returns-in-Some-clause-says g c = λ t h numbers going cut. c.cut_at.ensures.says t h numbers going cut
