use Rattle.std.proofs.Common.{ap, is_some, not}
use Rattle.server_account.proofs.Credits.{handled_credits, server_credits, settled_credits, told_credits}
use Rattle.server_account.proofs.Feeding.{server_reads}
use Rattle.server_account.proofs.Uses.{handled_pumps, handled_reads, handled_writes, server_pumps, server_writes, settled_pumps, settled_writes, told_pumps, told_reads, told_writes}
use Rattle.server_account.proofs.laws.bytes_go_on.Goals as goal

pub returns : goal.returns
returns c = λ s t output later calls actions pieces own left rest. record {
  reads = λ piece h settled sound. record {
    server = server_reads s t output rest h.server settled piece later sound;
    told = told_reads s t output later piece pieces h.server h.told;
    handled = handled_reads s t output later piece calls actions own left h.handled;
  };
  writes = λ piece h settled sound. (
    record {
      server = server_writes s t output later piece sound h.server;
      told = told_writes s t output later piece pieces h.server h.told;
      handled = handled_writes s t output later piece calls actions own left h.handled;
    },
    settled_writes s t output later piece rest settled,
  );
  pumps = λ u h settled sound pumps. (
    record {
      server = server_pumps s t u output later h.server pumps sound settled.alive;
      told = told_pumps s t u output later h.server pumps sound pieces h.told;
      handled = handled_pumps s t u output later h.server pumps sound calls actions own left h.handled;
    },
    settled_pumps s t u output later h.server pumps sound rest settled,
  );
  credits = λ hold fs h settled carries sound.
      let alive = ap (λ o. not (is_some o)) settled.alive in (
        record {
          server = server_credits s t output later hold fs h.server alive carries sound;
          told = told_credits s t output later hold fs h.server alive carries pieces h.told;
          handled = handled_credits s t output later hold fs h.server alive carries calls actions own left h.handled;
        },
        settled_credits s t output later hold fs h.server alive carries rest settled,
      );
}
