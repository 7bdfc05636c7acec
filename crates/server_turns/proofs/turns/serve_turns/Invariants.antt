use Rattle.std.proofs.Common.{◌≡◌, None, false}
use Rattle.table_lock.specs.Passes.{IsPassOf}
use Rattle.server_turns.proofs.Runs.{Ran}
use Rattle.server_turns.proofs.turns.serve_turns.Given as goal

abbrev pub invariant-turns : goal.invariant-turns
invariant-turns g l = (goal.iterator-turns g).can_next l.iterator' × (goal.iterator-turns g).is_finite l.iterator' × IsPassOf l.lock l.pass
    × (g.L.Link.faults l.link ≡ g.L.Link.faults l.fn.link)
    × Ran l.lock.setup (g.L.Link.pieces l.fn.link) (g.L.Link.pieces l.link) false l.fn.pass l.pass
    (λ past a. g.T.ServedByTurns.stands l.conn l.setting past a None)
