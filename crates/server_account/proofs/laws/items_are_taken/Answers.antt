use Rattle.server_account.proofs.Takes.{handled_refuses, handled_takes, server_takes}
use Rattle.server_account.proofs.laws.items_are_taken.Goals as goal

pub returns : goal.returns
returns c = λ s t output later calls actions pieces own stream. record {
  takes = λ what more h taking fits sound. record {
    server = server_takes s t output later stream what more h.server taking sound fits;
    told = record { fed = h.told.fed; dropped = h.told.dropped; order = h.told.order };
    handled = handled_takes s t output later stream what more h.server taking calls actions own h.handled;
  };
  refuses = λ left h refused alive told unended. record {
    server = h.server;
    told = h.told;
    handled = handled_refuses s t output stream h.server refused alive told unended left calls actions own h.handled;
  };
}
