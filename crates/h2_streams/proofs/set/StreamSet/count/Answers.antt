use Rattle.std.proofs.Common.{ap, ◌∙◌, length}
use Rattle.std.proofs.lemmas.List.{length-map}
use Rattle.h2_exchange.specs.Streams.{live}
use Rattle.h2_streams.specs.Stands.{stream_at}
use Rattle.h2_streams.proofs.set.StreamSet.count.Goals as goal

pub returns-clause-stands : goal.returns-clause-stands
returns-clause-stands c = λ x h. c.live_count.ensures ∙ ap length h.live_is ∙ length-map (live c.args.self.now.role x) (stream_at c.args.self.now.limits x)
