use Rattle.std.proofs.Common.{◌∙◌, ◌≤◌, ℕ, Bool, true, false, List, [], ◌∷◌, ◌++◌, sum_by, Some, sym, ap, subst, arith}
use Rattle.std.specs.Prelude.{if◌then◌else◌}
use Rattle.kept_calls.specs.CallState.{CallState, state_of, states}
use Rattle.grpc_calls.specs.Object.{state_in}
use Rattle.grpc_stream.specs.declared.event.CallEvent.TheVariants as says
use Rattle.h2_exchange.specs.Events.{Head}
use Rattle.call_hearing.specs.declared.pending.Pending.{Pending}
use Rattle.call_hearing.specs.declared.pending.Pending.TheVariants.{Nothing, End}
use Rattle.call_hearing.specs.Listening.{steps_of}
use Rattle.call_telling.proofs.Arms.{Comes, begun_arm, gave_up_arm, state_at}
use Rattle.call_telling.proofs.CutArms.{held_in, held_more}
use Rattle.grpc_calls.proofs.calls.Calls.begin_call.Goals as goal

steps_few : (b : Bool) (id : ℕ) → steps_of (if b then End id else Nothing) ≤ 1
steps_few true id = omega arith
steps_few false id = omega arith

pub returns-in-Ok-clause-says : goal.returns-in-Ok-clause-says
returns-in-Ok-clause-says g c = λ t fields h is going quiet.
    let x = c.args.self.now in
    subst (λ (p : Pending). Comes g.C.HttpConnection.stands g.C.HttpConnection.output g.met.C.HttpConnection.sound x.conn x.fate (state_at x.role p (states c.add_call.new.calls.items)) t (Some (says.Begun c.args.stream c.args.method)))
    (sym c.behind_head-self.ensures)
    (subst (λ (cs : List CallState). Comes g.C.HttpConnection.stands g.C.HttpConnection.output g.met.C.HttpConnection.sound x.conn x.fate (state_at x.role (if c.args.last then End c.args.stream else Nothing) cs) t (Some (says.Begun c.args.stream c.args.method)))
    (sym (c.in-Ok.ensures.ok ∙ ap (λ (s : CallState). states x.calls.items ++ s ∷ []) c.new.ensures))
    (begun_arm g.C.HttpConnection.stands g.C.HttpConnection.output g.met.C.HttpConnection.sound x.conn x.fate going (state_in x) quiet t c.args.stream fields c.args.last c.args.method is c.requires h))

pub returns-in-Ok-clause-ahead : goal.returns-in-Ok-clause-ahead
returns-in-Ok-clause-ahead g c = λ down quiet.
    let x = c.args.self.now in
    omega (
      arith,
      ap steps_of c.behind_head-self.ensures,
      steps_few c.args.last c.args.stream,
      ap (sum_by held_in) c.in-Ok.ensures.ok,
      held_more (states x.calls.items) (state_of c.new.result) (ap (λ (s : CallState). s.cutter.held) c.new.ensures),
    )

pub returns-in-Err-clause-says : goal.returns-in-Err-clause-says
returns-in-Err-clause-says g c = λ t fields h is going quiet.
    let x = c.args.self.now in
    gave_up_arm g.C.HttpConnection.stands g.C.HttpConnection.output g.met.C.HttpConnection.sound x.conn c.die.new.self.conn c.die.ensures.conn c.die.new.self.fate c.die.ensures.fate
    c.die.result c.die.ensures.event (state_in x) (state_in c.die.new.self) t (Head c.args.stream fields c.args.last) h
