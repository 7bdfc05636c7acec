use Rattle.std.proofs.Common.{true, refl}
use Rattle.call_sending.proofs.Turning.{block_sent, without_memory}
use Rattle.call_sending.proofs.pumping.send_trailers.Goals as goal

pub returns-in-Ok-clause-turns : goal.returns-in-Ok-clause-turns
returns-in-Ok-clause-turns g c = λ k h.
    let got = block_sent g.C.HttpConnection.stands c.send_trailers.new.self k c.args.call.now.stream true c.args.call.now.fields c.args.call.now.fields refl (c.in-Ok.ensures.sends k h) (c.in-Ok.ensures.ok k h) in
    (got.0, got.1, (refl, got.2))

pub returns-in-Err-clause-turns : goal.returns-in-Err-clause-turns
returns-in-Err-clause-turns g c = λ k h. without_memory g.C.HttpConnection.stands c.send_trailers.new.self k (c.in-Err.ensures.err k h)
