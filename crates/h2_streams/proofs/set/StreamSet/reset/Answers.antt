use Rattle.std.proofs.Common.{sym, subst, ◌++◌, [], ◌∷◌}
use Rattle.h2_frames.specs.declared.frame.Frame.TheVariants.{RstStream}
use Rattle.h2_exchange.specs.Exchange.{Sent}
use Rattle.h2_streams.specs.Set.{Set}
use Rattle.h2_streams.specs.Stands.{StandsFor}
use Rattle.h2_streams.proofs.Resets.{resets}
use Rattle.h2_streams.proofs.set.StreamSet.reset.Goals as goal

pub returns-clause-stands : goal.returns-clause-stands
returns-clause-stands c = λ x b h old on. subst (λ (s : Set). StandsFor s (x ++ Sent (RstStream b) ∷ [])) (sym c.drop_stream.ensures) (resets c.args.self.now x c.args.stream b h old on)
