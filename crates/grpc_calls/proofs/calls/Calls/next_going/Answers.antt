use Rattle.std.proofs.Common.{◌∙◌, ap, arith, subst, Option}
use Rattle.grpc_calls.specs.Object.{state_in}
use Rattle.call_standing.specs.Steps.{Steps, goes_down}
use Rattle.call_standing.proofs.Quiet.{next_later, quiet_more, quiet_numbers, quiet_start}
use Rattle.call_standing.proofs.Told.{going_of}
use Rattle.grpc_calls.proofs.calls.Calls.next_going.Goals as goal

pub steps-init : goal.steps-init
steps-init g c = (
  λ e. e,
  omega arith,
  λ t stands numbers going. (
    t,
    stands,
    quiet_start t (going_of g.C.HttpConnection.stands g.C.HttpConnection.output c.args.self.now.fate c.args.self.now.conn (state_in c.args.self.now) t going stands).alive,
  ),
)

pub returns-in-Some-clause-says : goal.returns-in-Some-clause-says
returns-in-Some-clause-says g c = λ t stands numbers going.
    let mid = c.steps.invariant.2 t stands numbers going in
    let still = c.steps.invariant.0 going in
    let was = going_of g.C.HttpConnection.stands g.C.HttpConnection.output _ _ _ mid.0 still mid.1 in
    let next = c.step.ensures.says mid.0 mid.1 (quiet_numbers t mid.0 mid.2 ∙ numbers) still in
    (next.0, next.1, next_later t mid.0 mid.2 was.alive _ next.0 (subst (λ (o : Option _). Steps mid.0 o next.0) c.in-Some.is next.2))

pub steps-preserved : goal.steps-preserved
steps-preserved g c = (
  λ going. c.step.ensures.going c.in-None.is (c.steps.invariant.0 going),
  omega (arith, c.steps.invariant.1, c.step.ensures.ahead (ap goes_down c.in-None.is)),
  λ t stands numbers going.
      let mid = c.steps.invariant.2 t stands numbers going in
      let still = c.steps.invariant.0 going in
      let next = c.step.ensures.says mid.0 mid.1 (quiet_numbers t mid.0 mid.2 ∙ numbers) still in
      (next.0, next.1, quiet_more t mid.0 mid.2 next.0 (subst (λ (o : Option _). Steps mid.0 o next.0) c.in-None.is next.2)),
)
