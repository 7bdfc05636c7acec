use Rattle.std.proofs.Common.{◌∙◌, length, Some, refl, sym, ap, subst, inl, arith}
use Rattle.std.specs.Prelude.{is_some}
use Rattle.kept_calls.specs.CallState.{CallState, state_of, states}
use Rattle.grpc_calls.specs.Object.{state_in}
use Rattle.std.specs.Prelude.{slice_set}
use Rattle.grpc_heads.specs.GrpcStatus.{GrpcStatus}
use Rattle.grpc_stream.specs.declared.event.CallEvent.TheVariants as says
use Rattle.h2_exchange.specs.Events.{Ended}
use Rattle.h2_exchange.proofs.Places.{same_self}
use Rattle.call_hearing.specs.declared.pending.Pending.{Pending}
use Rattle.call_hearing.specs.declared.pending.Pending.TheVariants.{Nothing}
use Rattle.call_hearing.specs.Listening.{steps_of}
use Rattle.call_telling.proofs.CutArms.{held_at}
use Rattle.call_telling.proofs.Arms.{Comes, end_arm, found_at, state_at, unheard_arm}
use Rattle.grpc_calls.proofs.calls.Calls.on_end.Goals as goal

pub returns-in-Server-clause-says : goal.returns-in-Server-clause-says
returns-in-Server-clause-says g c = λ t h numbers going quiet. c.end_request.ensures.says t h numbers going quiet

pub returns-in-Client-clause-says : goal.returns-in-Client-clause-says
returns-in-Client-clause-says g c = λ t h numbers going quiet.
    let x = c.args.self.now in
    let heard = sym c.listening.ensures.heard ∙ ap is_some c.in-Some.is in
    let f = found_at x.calls.items c.args.stream c.in-Some.at c.index_mut.result.now (c.listening.ensures.at c.in-Some.at c.in-Some.is) c.index_mut.ensures.value heard in
    subst (λ (p : Pending). Comes g.C.HttpConnection.stands g.C.HttpConnection.output g.met.C.HttpConnection.sound x.conn x.fate (state_at x.role p (states (slice_set x.calls.items c.in-Some.at c.stop.new.self))) t (Some (says.Closed c.args.stream c.refusal.result)))
    (sym quiet)
    (subst (λ (status : GrpcStatus). Comes g.C.HttpConnection.stands g.C.HttpConnection.output g.met.C.HttpConnection.sound x.conn x.fate (state_at x.role Nothing (states (slice_set x.calls.items c.in-Some.at c.stop.new.self))) t (Some (says.Closed c.args.stream status)))
    (sym c.refusal.ensures)
    (end_arm g.C.HttpConnection.stands g.C.HttpConnection.output g.met.C.HttpConnection.sound x.conn x.fate going (state_in x) quiet t (state_of c.index_mut.result.now) (state_of c.stop.new.self) (states (slice_set x.calls.items c.in-Some.at c.stop.new.self)) c.args.stream
    f.on c.stop.ensures f.opened c.in-Client.is (f.changes c.stop.new.self (ap (λ (s : CallState). s.stream) c.stop.ensures)) h))

pub returns-in-Client-clause-ahead : goal.returns-in-Client-clause-ahead
returns-in-Client-clause-ahead g c = λ down quiet.
    let x = c.args.self.now in
    omega (
      arith,
      ap steps_of quiet,
      held_at x.calls.items c.args.stream c.in-Some.at c.index_mut.result.now c.stop.new.self (c.listening.ensures.at c.in-Some.at c.in-Some.is) c.index_mut.ensures.value,
      ap (λ (s : CallState). length s.cutter.held) c.stop.ensures,
    )

pub returns-in-None-clause-says : goal.returns-in-None-clause-says
returns-in-None-clause-says g c = λ t h numbers going quiet.
    let x = c.args.self.now in
    unheard_arm g.C.HttpConnection.stands g.C.HttpConnection.output g.met.C.HttpConnection.sound x.conn x.fate going (state_in x) quiet t (Ended c.args.stream) c.args.stream
    (λ n. refl) (refl, inl (same_self c.args.stream)) (sym c.listening.ensures.heard ∙ ap is_some c.in-None.is) h
