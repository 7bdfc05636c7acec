use Rattle.call_requests.proofs.Cutting.{first_rows, first_six}
use Rattle.call_requests.proofs.responses.first_response.Goals as goal

pub returns-clause-bytes : goal.returns-clause-bytes
returns-clause-bytes c = rw (← first_rows _ _ _ c.min.ensures c.split_at.ensures.front) c.encode_get_response.ensures.bytes

pub returns-clause-macs : goal.returns-clause-macs
returns-clause-macs c = first_six _ _ _ c.min.ensures c.split_at.ensures.front c.macs_have_six_octets.ensures
