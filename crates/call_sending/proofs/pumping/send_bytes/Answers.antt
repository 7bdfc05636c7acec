use Rattle.std.proofs.Common.{◌≤◌, ◌==◌, ◌&&◌, ℕ, refl, ap, length, drop, ◌∙◌, arith}
use Rattle.std.specs.Prelude.{not, nat_lt}
use Rattle.kept_calls.specs.CallState.{state_of}
use Rattle.call_sending.specs.Pumping.{is_half_close, placed_in}
use Rattle.call_sending.proofs.Turning.{piece_lessens, piece_sent, placed_within, without_memory}
use Rattle.call_sending.proofs.pumping.send_bytes.Goals as goal

pub returns-in-Ok-clause-turns : goal.returns-in-Ok-clause-turns
returns-in-Ok-clause-turns g c = λ k h.
    let call = c.args.call.now in
    let got = piece_sent g.C.HttpConnection.stands c.send_piece.new.self k call.stream _ call.unsent.items _ (is_half_close call.ending) c.in-Ok.n c.as_slice.ensures c.is_half_close-is_last.ensures (c.in-Ok.ensures.sends k h) (c.in-Ok.ensures.ok k h) in
    let fits : c.in-Ok.n ≤ length call.unsent.items = placed_within k call.stream c.in-Ok.n call.unsent.items call.unsent.items refl got.2.placed in
    let same = c.clipped-placed.ensures.same (omega (arith, fits, c.len.ensures)) in (
      got.0,
      got.1,
      record {
        n = c.in-Ok.n;
        sends = got.2;
        new_is = c.take_placed.ensures.new ∙ ap (λ (m : ℕ). placed_in m (state_of call)) same;
        goes_on_is = c.take_placed.ensures.goes_on ∙ ap (λ (m : ℕ). nat_lt 0 m && not (length (drop m call.unsent.items) == 0)) same;
      },
    )

pub returns-in-Ok-clause-left : goal.returns-in-Ok-clause-left
returns-in-Ok-clause-left g c =
    piece_lessens c.clipped-placed.result (state_of c.args.call.now) (state_of c.take_placed.new.call) c.take_placed.result c.take_placed.ensures.new c.take_placed.ensures.goes_on

pub returns-in-Err-clause-turns : goal.returns-in-Err-clause-turns
returns-in-Err-clause-turns g c = λ k h. without_memory g.C.HttpConnection.stands c.send_piece.new.self k (c.in-Err.ensures.err k h)
