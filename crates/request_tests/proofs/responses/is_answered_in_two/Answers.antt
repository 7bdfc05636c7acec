use Rattle.request_tests.proofs.Left.{still_known}
use Rattle.request_tests.proofs.responses.is_answered_in_two.Goals as goal

pub next_response-requires-2-clause-known : goal.next_response-requires-2-clause-known
next_response-requires-2-clause-known c = still_known _ _ _ _ c.new-selection.ensures c.in-Ok.ensures.rest c.requires.known c.requires.instances
