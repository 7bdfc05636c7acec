use Rattle.compliance_client.specs.Standing.{Past, StandsAs}
use Rattle.client_tests.proofs.judged.send_all.Given as goal

-- the client stands for something
abbrev pub invariant-lines : goal.invariant-lines
invariant-lines g l =
    (past : Past) × StandsAs g.K.CallConnection.stands l.fn.n l.client.over l.client.calls l.client.kept.items l.client.tally past
