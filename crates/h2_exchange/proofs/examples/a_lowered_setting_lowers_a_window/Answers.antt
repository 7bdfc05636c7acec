use Rattle.h2_exchange.proofs.Computed.{lowered_window}
use Rattle.h2_exchange.proofs.examples.a_lowered_setting_lowers_a_window.Goals as goal

pub returns : goal.returns
returns c = lowered_window
