use Rattle.std.proofs.Common.{sym, ◌∙◌, arith}
use Rattle.h2_exchange.specs.Windows.{settings_of}
use Rattle.h2_streams.proofs.Raises.{raises_none, raises_some}
use Rattle.h2_streams.proofs.settings.raises_streams.Goals as goal

pub returns-then-is_empty : goal.returns-then-is_empty
returns-then-is_empty c = raises_none c.args.live.now (settings_of c.args.payload.now) (sym c.is_empty.ensures ∙ c.if-is_empty.true)

pub returns : goal.returns
returns c = raises_some c.args.live.now (settings_of c.args.payload.now) _ _ (c.from.ensures ∙ c.greatest_window-window.ensures) (c.from-2.ensures ∙ c.greatest_room-room.ensures) (omega arith) (sym c.is_empty.ensures ∙ c.if-is_empty.false)
