use Rattle.std.proofs.Common.{ap, ◌∙◌, drop}
use Rattle.call_requests.proofs.Cutting.{left_rows, next_message, short_message}
use Rattle.call_requests.proofs.responses.Selection.next_response.Goals as goal

pub returns-clause-ok : goal.returns-clause-ok
returns-clause-ok c =
    let coming = c.split_at.ensures.back ∙ ap (λ l. drop c.self.inside.given l) c.as_slice-rows.ensures in
    next_message _ _ _ _ c.self.inside.rows _ _ _ c.self.view_is coming c.min-count.ensures c.requires.some c.in_ok-bytes.ensures.bytes

pub returns-clause-rest : goal.returns-clause-rest
returns-clause-rest c =
    let coming = c.split_at.ensures.back ∙ ap (λ l. drop c.self.inside.given l) c.as_slice-rows.ensures in
    left_rows _ _ c.self.inside.rows _ _ c.self.view_is coming c.min-count.ensures

pub returns-clause-short : goal.returns-clause-short
returns-clause-short c =
    let coming = c.split_at.ensures.back ∙ ap (λ l. drop c.self.inside.given l) c.as_slice-rows.ensures in
    short_message _ _ _ _ c.self.inside.rows _ _ _ c.self.view_is coming c.in_ok-bytes.ensures.bytes c.in_ok-bytes.ensures.macs
