use Rattle.std.proofs.Common.{[], refl, sym, subst, append-nil}
use Rattle.server_conn.specs.Standing.{KeptBy, past_of}
use Rattle.server_conn.proofs.Turning.{told_none}
use Rattle.server_conn.proofs.conn.ServerConn.say_last.Goals as goal

pub returns-else-goes_away-clause-keeps : goal.returns-else-goes_away-clause-keeps
returns-else-goes_away-clause-keeps g c s t pieces own is_ended h = (
  [],
  refl,
  told_none (g.L.Link.pieces c.args.link.now),
  subst (λ l. KeptBy s t (g.K.CallConnection.output c.args.self.now.calls) c.args.self.now.refused (past_of l own is_ended) c.args.outcome.now)
      (sym (append-nil pieces)) h,
)
