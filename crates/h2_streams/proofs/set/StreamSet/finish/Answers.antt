use Rattle.std.proofs.Common.{sym, subst, ap, ◌∙◌, ◌++◌, [], ◌∷◌}
use Rattle.h2_frames.specs.declared.frame.Frame.TheVariants.{Content}
use Rattle.h2_exchange.specs.Exchange.{Sent}
use Rattle.h2_streams.specs.Set.{Set, finished}
use Rattle.h2_streams.specs.Stands.{StandsFor}
use Rattle.h2_streams.proofs.Ends.{ends_with_data}
use Rattle.h2_streams.proofs.SentBlocks.{finishes}
use Rattle.h2_streams.proofs.set.StreamSet.finish.Goals as goal

pub returns-clause-stands : goal.returns-clause-stands
returns-clause-stands c =
    λ before x b h is on fits end old. subst (λ (s : Set). StandsFor s (x ++ Sent (Content b) ∷ [])) (sym (c.end_here.ensures ∙ ap (finished c.args.stream) old)) (ends_with_data before x c.args.stream b h is on fits end)

pub returns-clause-trailers : goal.returns-clause-trailers
returns-clause-trailers c =
    λ x f b h is part on whole same last. subst (λ (s : Set). StandsFor s (x ++ Sent f ∷ [])) (sym c.end_here.ensures) (finishes c.args.self.now x f c.args.stream b h is part on whole same last)
