use Rattle.std.proofs.Common.{◌∙◌, refl, sym, ap, inl}
use Rattle.std.specs.Prelude.{is_some}
use Rattle.grpc_calls.specs.Object.{state_in}
use Rattle.h2_exchange.specs.Events.{Data}
use Rattle.h2_exchange.proofs.Places.{same_self}
use Rattle.call_telling.proofs.Arms.{unheard_arm}
use Rattle.grpc_calls.proofs.calls.Calls.on_piece.Goals as goal

pub returns-in-None-clause-says : goal.returns-in-None-clause-says
returns-in-None-clause-says g c = λ t h going quiet.
    let x = c.args.self.now in
    unheard_arm g.C.HttpConnection.stands g.C.HttpConnection.output g.met.C.HttpConnection.sound x.conn x.fate going (state_in x) quiet t (Data c.args.stream c.args.bytes) c.args.stream
    (λ n. refl) (refl, inl (same_self c.args.stream)) (sym c.listening.ensures.heard ∙ ap is_some c.in-None.is) h
