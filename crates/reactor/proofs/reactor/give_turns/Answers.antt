use Rattle.std.proofs.Common.{arith}
use Rattle.reactor.proofs.Rounds.{progresses, idles, goes_over}
use Rattle.reactor.proofs.reactor.give_turns.Goals as goal

pub loop-at-preserved-in-Progress : goal.loop-at-preserved-in-Progress
loop-at-preserved-in-Progress g c =
    let i = c.loop-at.invariant in let e = c.in-Progress.ensures in (
      e.live,
      e.over,
      e.room,
      omega (arith, e.stays, c.loop-at-test.true, c.len.ensures),
      omega (arith, e.stays, i.4),
      omega (arith, i.5),
      progresses g.T.Turning.goes _ c.loop-at.at c.loop-at.live.items c.loop-at.over.items _ _ c.loop-at.round.progressed c.loop-at.round.ended i.6 e.turned,
    )

pub loop-at-preserved-in-Idle : goal.loop-at-preserved-in-Idle
loop-at-preserved-in-Idle g c =
    let i = c.loop-at.invariant in let e = c.in-Idle.ensures in (
      e.live,
      e.over,
      e.room,
      omega (arith, e.stays, c.loop-at-test.true, c.len.ensures),
      omega (arith, e.stays, i.4),
      omega (arith, i.5),
      idles g.T.Turning.goes _ c.loop-at.at c.loop-at.live.items c.loop-at.over.items _ _ c.loop-at.round.progressed c.loop-at.round.ended i.6 e.turned,
    )

pub loop-at-preserved : goal.loop-at-preserved
loop-at-preserved g c =
    let i = c.loop-at.invariant in let e = c.in-Over.ensures in (
      e.live,
      e.over,
      e.room,
      omega (arith, e.size, c.loop-at-test.true, c.len.ensures),
      omega (arith, e.size, i.4),
      i.5,
      goes_over g.T.Turning.goes _ c.loop-at.at c.loop-at.live.items c.loop-at.over.items _ _ c.loop-at.round.progressed c.loop-at.round.ended i.6 e.turned,
    )
