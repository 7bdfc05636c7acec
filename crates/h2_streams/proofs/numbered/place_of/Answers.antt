use Rattle.std.proofs.Common.{sym, ap, ◌∙◌}
use Rattle.h2_streams.proofs.Rising.{is_at}
use Rattle.h2_streams.proofs.numbered.place_of.Goals as goal

pub returns-then-number-id : goal.returns-then-number-id
returns-then-number-id g c =
    is_at g.T.Numbered.number 0 c.requires.0 c.args.items.now c.args.id c.guess-at.result c.index-items-at.result c.requires.1 c.if-at-items.true
    (ap g.T.Numbered.number (sym c.index-items-at.is) ∙ sym c.number-number.ensures ∙ c.if-number-id.true)
