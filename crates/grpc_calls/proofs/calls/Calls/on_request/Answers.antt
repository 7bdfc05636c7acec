use Rattle.std.proofs.Common.{◌∙◌, ap, sym}
use Rattle.grpc_heads.specs.CallEnd.{Http, Status, method_by}
use Rattle.call_standing.proofs.Refusals.{head_refusal_fits}
use Rattle.grpc_calls.proofs.Refusing.{failed_says, http_said, malformed_says, refusal_says, status_said}
use Rattle.grpc_calls.proofs.calls.Calls.on_request.Goals as goal

pub refuse_head-requires-clause-fits : goal.refuse_head-requires-clause-fits
refuse_head-requires-clause-fits g c = head_refusal_fits c.status_block.result c.args.n.now c.in-Status.status c.args.fields.now (sym c.in-Status.ensures) c.status_block.ensures.fields

pub returns-in-Method-clause-says : goal.returns-in-Method-clause-says
returns-in-Method-clause-says g c = λ t h numbers going quiet.
    c.begin_call.ensures.says t c.args.fields.now h (ap method_by (sym c.read_request_head.ensures ∙ c.in-Method.is)) going quiet

pub returns-in-Status-clause-says : goal.returns-in-Status-clause-says
returns-in-Status-clause-says g c = λ t h numbers going quiet.
    c.refuse_head.ensures.says t c.args.fields.now c.args.last (Status c.in-Status.status) h (ap method_by (sym c.in-Status.ensures))
    (status_said t c.args.n.now numbers c.status_block.result c.in-Status.status c.status_block.ensures.fields c.status_block.ensures.written) going quiet

pub returns-in-Http-clause-says : goal.returns-in-Http-clause-says
returns-in-Http-clause-says g c = λ t h numbers going quiet.
    let is = sym c.read_request_head.ensures ∙ c.in-Http.is in
    c.refuse_head-in-Http.ensures.says t c.args.fields.now c.args.last (Http c.in-Http.status) h (ap method_by is)
    (http_said t c.args.n.now numbers c.http_fields.result c.in-Http.status c.http_fields.ensures (refusal_says c.args.n.now c.args.fields.now c.in-Http.status is)) going quiet

pub returns-in-Malformed-clause-says : goal.returns-in-Malformed-clause-says
returns-in-Malformed-clause-says g c = λ t h numbers going quiet.
    c.refuse_head-in-Malformed.ensures.says t c.args.fields.now c.args.last (Http 400) h (ap method_by (sym c.read_request_head.ensures ∙ c.in-Malformed.is))
    (http_said t c.args.n.now numbers c.http_fields-in-Malformed.result 400 c.http_fields-in-Malformed.ensures (malformed_says c.args.n.now)) going quiet

pub returns-in-NoMemory-clause-says : goal.returns-in-NoMemory-clause-says
returns-in-NoMemory-clause-says g c = λ t h numbers going quiet.
    c.refuse_head-in-NoMemory.ensures.says t c.args.fields.now c.args.last (Http 500) h (ap method_by (sym c.read_request_head.ensures ∙ c.in-NoMemory.is))
    (http_said t c.args.n.now numbers c.http_fields-in-NoMemory.result 500 c.http_fields-in-NoMemory.ensures (failed_says c.args.n.now)) going quiet
