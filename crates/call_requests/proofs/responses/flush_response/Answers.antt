use Rattle.call_requests.proofs.Bounds.{flush_response-len}
use Rattle.call_requests.proofs.responses.flush_response.Goals as goal

pub returns-clause-short : goal.returns-clause-short
returns-clause-short c = flush_response-len _ _ _ c.encode_flush_response.ensures
