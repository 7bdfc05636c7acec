use Rattle.std.proofs.Common.{sym, subst, ◌++◌, [], ◌∷◌}
use Rattle.h2_frames.specs.declared.frame.Frame.TheVariants.{WindowUpdate}
use Rattle.h2_exchange.specs.Exchange.{Sent}
use Rattle.h2_streams.specs.Set.{Set}
use Rattle.h2_streams.specs.Stands.{StandsFor}
use Rattle.h2_streams.proofs.Credits.{credits_all}
use Rattle.h2_streams.proofs.set.StreamSet.credited.Goals as goal

pub returns-clause-stands : goal.returns-clause-stands
returns-clause-stands c = λ x b h on inc. subst (λ (s : Set). StandsFor s (x ++ Sent (WindowUpdate b) ∷ [])) (sym c.credit.ensures) (credits_all c.args.self.now x c.args.n b h on inc)
