use Rattle.std.proofs.Common.{◌≡◌, ◌*◌, drop}
use Rattle.h2_exchange.specs.Windows.{setting, settings_of}
use Rattle.h2_streams.proofs.settings.initial_window.Given as goal

abbrev pub invariant-loop-i : goal.invariant-loop-i
invariant-loop-i l = setting 4 l.first (settings_of l.payload) ≡ setting 4 l.value (settings_of (drop (6 * l.i) l.payload))
