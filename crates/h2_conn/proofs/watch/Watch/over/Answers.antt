use Rattle.std.proofs.Common.{List, sym, subst}
use Rattle.std.specs.Prelude.{not, ◌==◌}
use Rattle.h2_streams.specs.Live.{Rises}
use Rattle.h2_streams.proofs.Rising.{rises_filtered}
use Rattle.h2_conn.specs.declared.asked.Asked.{Asked}
use Rattle.h2_conn.proofs.watch.Watch.over.Goals as goal

pub invariant_of-self : goal.invariant_of-self
invariant_of-self c =
    subst (λ (l : List Asked). Rises (λ (a : Asked). a.id) 0 4294967296 l) (sym c.remove.ensures.items)
    (rises_filtered (λ (a : Asked). a.id) (λ (a : Asked). not (a.id == c.args.id)) 0 4294967296 c.self.inside.asked.items c.self.invariant)
