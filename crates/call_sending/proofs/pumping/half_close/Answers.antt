use Rattle.std.proofs.Common.{[], true, refl}
use Rattle.call_sending.proofs.Turning.{piece_sent, without_memory}
use Rattle.call_sending.proofs.pumping.half_close.Goals as goal

pub returns-in-Ok-clause-turns : goal.returns-in-Ok-clause-turns
returns-in-Ok-clause-turns g c = λ k h.
    let got = piece_sent g.C.HttpConnection.stands c.send_piece.new.self k c.args.call.now.stream _ [] true true c.in-Ok.field-0 c.as_slice.ensures refl (c.in-Ok.ensures.sends k h) (c.in-Ok.ensures.ok k h) in
    (got.0, got.1, (refl, (c.in-Ok.field-0, got.2)))

pub returns-in-Err-clause-turns : goal.returns-in-Err-clause-turns
returns-in-Err-clause-turns g c = λ k h. without_memory g.C.HttpConnection.stands c.send_piece.new.self k (c.in-Err.ensures.err k h)
