use Rattle.std.proofs.Common.{◌∙◌, true, length, Some, refl, sym, ap, subst, arith}
use Rattle.std.specs.Prelude.{is_some}
use Rattle.kept_calls.specs.CallState.{CallState, state_of, states}
use Rattle.grpc_calls.specs.Object.{state_in}
use Rattle.std.specs.Prelude.{slice_set}
use Rattle.grpc_heads.specs.GrpcStatus.{GrpcStatus}
use Rattle.grpc_stream.specs.declared.event.CallEvent.TheVariants as says
use Rattle.h2_exchange.specs.Events.{Head}
use Rattle.call_hearing.specs.declared.pending.Pending.{Pending}
use Rattle.call_hearing.specs.declared.pending.Pending.TheVariants.{Nothing}
use Rattle.schema_numbers.specs.Numbers.{Numbers}
use Rattle.grpc_heads.specs.CallEnd.{status_by}
use Rattle.grpc_heads.specs.Trailers.{status_in_trailers}
use Rattle.call_hearing.specs.Listening.{steps_of}
use Rattle.call_telling.proofs.CutArms.{held_at}
use Rattle.call_telling.proofs.Arms.{Comes, client_unheard_arm, found_at, gave_up_arm, state_at, trailers_arm}
use Rattle.grpc_calls.proofs.calls.Calls.on_trailers.Goals as goal

pub returns-in-Ok-clause-says : goal.returns-in-Ok-clause-says
returns-in-Ok-clause-says g c = λ t h numbers going quiet.
    let x = c.args.self.now in
    let heard = sym c.listening.ensures.heard ∙ ap is_some c.in-Some.is in
    let f = found_at x.calls.items c.args.stream c.in-Some.at c.index_mut.result.now (c.listening.ensures.at c.in-Some.at c.in-Some.is) c.index_mut.ensures.value heard in
    subst (λ (p : Pending). Comes g.C.HttpConnection.stands g.C.HttpConnection.output g.met.C.HttpConnection.sound x.conn x.fate (state_at x.role p (states (slice_set x.calls.items c.in-Some.at c.stop.new.self))) t (Some (says.Closed c.args.stream c.in-Ok.status)))
    (sym quiet)
    (subst (λ (status : GrpcStatus). Comes g.C.HttpConnection.stands g.C.HttpConnection.output g.met.C.HttpConnection.sound x.conn x.fate (state_at x.role Nothing (states (slice_set x.calls.items c.in-Some.at c.stop.new.self))) t (Some (says.Closed c.args.stream status)))
    (sym (c.in-Ok.ensures ∙ ap (λ (n : Numbers). status_by (status_in_trailers n c.args.fields.now)) (sym numbers)))
    (trailers_arm g.C.HttpConnection.stands g.C.HttpConnection.output g.met.C.HttpConnection.sound x.conn x.fate going (state_in x) quiet t c.args.fields.now (state_of c.index_mut.result.now) (state_of c.stop.new.self) (states (slice_set x.calls.items c.in-Some.at c.stop.new.self)) c.args.stream
    f.on c.stop.ensures f.opened c.requires (f.changes c.stop.new.self (ap (λ (s : CallState). s.stream) c.stop.ensures)) h))

pub returns-in-Ok-clause-ahead : goal.returns-in-Ok-clause-ahead
returns-in-Ok-clause-ahead g c = λ down quiet.
    let x = c.args.self.now in
    omega (
      arith,
      ap steps_of quiet,
      held_at x.calls.items c.args.stream c.in-Some.at c.index_mut.result.now c.stop.new.self (c.listening.ensures.at c.in-Some.at c.in-Some.is) c.index_mut.ensures.value,
      ap (λ (s : CallState). length s.cutter.held) c.stop.ensures,
    )

pub returns-in-Err-clause-says : goal.returns-in-Err-clause-says
returns-in-Err-clause-says g c = λ t h numbers going quiet.
    let x = c.args.self.now in
    gave_up_arm g.C.HttpConnection.stands g.C.HttpConnection.output g.met.C.HttpConnection.sound x.conn c.die.new.self.conn c.die.ensures.conn c.die.new.self.fate c.die.ensures.fate
    c.die.result c.die.ensures.event (state_in x) (state_in c.die.new.self) t (Head c.args.stream c.args.fields.now true) h

pub returns-in-None-clause-says : goal.returns-in-None-clause-says
returns-in-None-clause-says g c = λ t h numbers going quiet.
    let x = c.args.self.now in
    client_unheard_arm g.C.HttpConnection.stands g.C.HttpConnection.output g.met.C.HttpConnection.sound x.conn x.fate going (state_in x) quiet t (Head c.args.stream c.args.fields.now true) c.args.stream
    (λ n. refl) c.requires (sym c.listening.ensures.heard ∙ ap is_some c.in-None.is) h
