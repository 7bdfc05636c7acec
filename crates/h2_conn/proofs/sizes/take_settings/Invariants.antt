use Rattle.std.proofs.Common.{◌≡◌, ◌*◌, drop}
use Rattle.h2_exchange.specs.Windows.{settings_of}
use Rattle.h2_conn.specs.Sizes.{limited_over}
use Rattle.h2_conn.proofs.sizes.take_settings.Given as goal

abbrev pub invariant-loop-i : goal.invariant-loop-i
invariant-loop-i l = limited_over (settings_of l.payload) l.fn.encoder ≡ limited_over (settings_of (drop (6 * l.i) l.payload)) l.encoder
