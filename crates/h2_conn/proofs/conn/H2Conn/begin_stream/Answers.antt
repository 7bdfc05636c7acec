use Rattle.std.proofs.Common.{◌∙◌, refl, ap, false, drop}
use Rattle.h2_conn.specs.Blocks.{with_block}
use Rattle.h2_conn.specs.State.{state_of}
use Rattle.h2_conn.proofs.Ending.{begun_state}
use Rattle.h2_conn.proofs.conn.H2Conn.begin_stream.Goals as goal

pub returns-in-Ok-begin-clause-ok : goal.returns-in-Ok-begin-clause-ok
returns-in-Ok-begin-clause-ok c =
    let s = state_of c.args.self.now in
    record {
      next = c.in-Ok-begin.ensures.exact.0;
      middle = with_block c.in-Ok-begin.stream false c.in-Ok.draft.text c.in-Ok.draft.after s;
      written = record { text = c.in-Ok.draft.text; after = c.in-Ok.draft.after; writes = c.in-Ok.ensures.writes; small = c.in-Ok.ensures.len; state = refl };
      state = c.put_draft.ensures
          ∙ begun_state s c.in-Ok-begin.stream c.in-Ok.draft.text c.in-Ok.draft.after _ _ (ap (λ l. drop c.args.self.now.start l) c.reserve_draft.ensures.items) c.in-Ok-begin.ensures.exact.1;
    }
