use Rattle.std.proofs.Common.{sym, subst, ◌++◌, [], ◌∷◌}
use Rattle.h2_frames.specs.declared.frame.Frame.TheVariants.{WindowUpdate}
use Rattle.h2_exchange.specs.Exchange.{Sent}
use Rattle.h2_streams.specs.Set.{Set}
use Rattle.h2_streams.specs.Stands.{StandsFor}
use Rattle.h2_streams.proofs.Credits.{credits_stream}
use Rattle.h2_streams.proofs.set.StreamSet.credited_on.Goals as goal

pub returns-clause-stands : goal.returns-clause-stands
returns-clause-stands c = λ x b h alive on inc. subst (λ (s : Set). StandsFor s (x ++ Sent (WindowUpdate b) ∷ [])) (sym c.credit_on.ensures) (credits_stream c.args.self.now x c.args.stream c.args.n b h alive on inc)
