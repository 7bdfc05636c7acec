use Rattle.std.proofs.Common.{rules, ◌≡◌, length, vec_len, arith, refl}
use Rattle.reactor.proofs.Rounds.{turns_over}
use Rattle.reactor.proofs.reactor.turn_at.Goals as goal

pub returns-in-Over-clause-turned : goal.returns-in-Over-clause-turned
returns-in-Over-clause-turned g c =
    let long : length c.args.live.now.items ≡ vec_len c.args.live.now = search rules in
    turns_over g.T.Turning.goes c.args.at c.args.live.now.items c.args.over.now.items _ c.index_mut.result.now c.turn.new.self (omega (arith, long, c.requires.place))
    c.index_mut.ensures.value refl c.swap_remove-item.result _ _ c.in-Over.ensures.goes c.swap_remove-item.ensures.value c.swap_remove-item.ensures.items c.push_reserved.ensures.items
