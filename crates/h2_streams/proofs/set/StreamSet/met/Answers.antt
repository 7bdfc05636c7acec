use Rattle.std.proofs.Common.{ap, ◌∙◌}
use Rattle.h2_streams.specs.Set.{Set}
use Rattle.h2_streams.proofs.Seen.{met_at}
use Rattle.h2_streams.proofs.set.StreamSet.met.Goals as goal

pub returns : goal.returns
returns c = met_at c.args.id c.args.place c.args.self.now.live c.as_slice.result.now c.stream_at.result c.stream_at.ensures (c.as_slice.ensures.value ∙ ap (λ (s : Set). s.live) c.self.view_is) c.requires
