use Rattle.std.proofs.Common.{ℕ, ◌<◌, List, All, ap, subst, ◌∙◌, arith}
use Rattle.grpc_heads.specs.GrpcStatus.{GrpcStatus}
use Rattle.call_standing.proofs.Heading.{head_plain}
use Rattle.call_standing.proofs.written.statuses_are_written.Goals as goal

pub returns-clause-sound : goal.returns-clause-sound
returns-clause-sound c =
    head_plain c.args.n.now c.args.status.now (omega (arith, c.status.invariant, ap (λ (s : GrpcStatus). s.code) c.status.view_is))
    (subst (λ (message : List ℕ). All (λ byte. byte < 256) message) (c.as_slice.ensures ∙ ap (λ (s : GrpcStatus). s.message) c.status.view_is) c.are_bytes.ensures.small)
