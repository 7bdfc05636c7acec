use Rattle.std.proofs.Common.{◌≡◌, ◌*◌, drop}
use Rattle.h2_exchange.specs.Windows.{settings_of}
use Rattle.h2_streams.specs.Live.{greatest_window}
use Rattle.h2_streams.proofs.settings.greatest_window.Given as goal

abbrev pub invariant-loop-i : goal.invariant-loop-i
invariant-loop-i l = greatest_window 0 (settings_of l.payload) ≡ greatest_window l.most (settings_of (drop (6 * l.i) l.payload))
