use Rattle.server_account.proofs.Credits.{credits_keep}
use Rattle.server_account.proofs.Pumped.{pumped, waits_fit}
use Rattle.server_account.proofs.laws.pumps_keep_up.Goals as goal

pub returns : goal.returns
returns c = λ s t output later calls actions pieces own left past rest. record {
  answered = λ u id h pumps alive none kept. pumped s t u later h.server pumps alive id past rest actions (h.handled.taken id) none kept;
  waits = λ h. waits_fit s t output rest actions left h.server.role h.handled.taken;
  credits = λ hold fs id carries. credits_keep s t output later past rest actions hold fs id carries;
}
