use Rattle.std.proofs.Common.{sym, subst, ◌++◌, [], ◌∷◌}
use Rattle.h2_frames.specs.declared.frame.Frame.TheVariants.{Content}
use Rattle.h2_exchange.specs.Exchange.{Sent}
use Rattle.h2_streams.specs.Set.{Set}
use Rattle.h2_streams.specs.Stands.{StandsFor}
use Rattle.h2_streams.proofs.Sends.{sends}
use Rattle.h2_streams.proofs.set.StreamSet.sent.Goals as goal

pub returns-clause-stands : goal.returns-clause-stands
returns-clause-stands c = λ x b h is on long end. subst (λ (s : Set). StandsFor s (x ++ Sent (Content b) ∷ [])) (sym c.spend.ensures) (sends c.args.self.now x c.args.stream c.args.n b h is on long end c.requires)
