use Rattle.std.proofs.Common.{◌∙◌, ap, map, lit<}
use Rattle.std.proofs.lemmas.Iterator.Splits.{YieldsList-from_str_split}
use Rattle.std.proofs.lemmas.Iterator.Consumers.{YieldsList-end, YieldsList-at}
use Rattle.line_requests.specs.Entries.{member}
use Rattle.line_requests.proofs.lists.members.Goals as goal

pub returns : goal.returns
returns c =
    let road = YieldsList-from_str_split 44 c.args.word.now (lit< tt) c.split-part-items.ensures.text c.split-part-items.ensures.has_more c.split-part-items.ensures.pattern in
    c.loop-part.invariant ∙ ap (map member) (YieldsList-end (YieldsList-at c.into_iter-part-iterator.ensures.into_iter_gives road) c.loop-part.yielded _ c.loop-part.yielded_by _ _ c.in-None.is c.next.ensures.steps).0
