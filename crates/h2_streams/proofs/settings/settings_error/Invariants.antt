use Rattle.std.proofs.Common.{◌≡◌, ◌*◌, drop}
use Rattle.h2_exchange.specs.Rules as rule
use Rattle.h2_exchange.specs.Windows.{settings_of}
use Rattle.h2_streams.proofs.settings.settings_error.Given as goal

abbrev pub invariant-loop-i : goal.invariant-loop-i
invariant-loop-i l = rule.settings_error l.role (settings_of l.payload) ≡ rule.settings_error l.role (settings_of (drop (6 * l.i) l.payload))
