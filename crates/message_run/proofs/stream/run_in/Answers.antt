use Rattle.std.proofs.Common.{arith, inl, inr, refl, ap}
use Rattle.message_run.specs.Outcomes.{Complete, Refused, Unreadable}
use Rattle.message_run.specs.Runs.{Told, told as told_by}
use Rattle.message_run.specs.Reading.{close_of}
use Rattle.message_run.specs.declared.stop.Stop.TheVariants as why
use Rattle.message_run.proofs.Closing.{may_leave, runs_closed, finished_here, nothing_to_close, last_written, not_zero, not_four, runs_failed, goes_on}
use Rattle.message_run.proofs.stream.run_in.Goals as goal

pub leave_at-requires : goal.leave_at-requires
leave_at-requires g c = λ close e.
    let s = c.handle_stream-stop.ensures.stopped c.requires.first.0 c.requires.first.1 c.requires.first.2 in
    let told : Told = told_by g.S.Source.taken g.S.Source.left g.K.Sink.placed c.args.input.now c.handle_stream-stop.new.input c.args.output.now c.handle_stream-stop.new.output in
    let m = may_leave s.0 (g.A.MessageHandler.stands c.handle_stream-stop.new.server s.0) c.handle_stream-stop.result told close s.2 e in
    (s.0, m.0, m.1, m.2)

pub returns-in-Finished-clause-runs : goal.returns-in-Finished-clause-runs
returns-in-Finished-clause-runs g c = λ first show stood.
    let s = c.in-Finished.ensures.stopped first show stood in
    let told : Told = told_by g.S.Source.taken g.S.Source.left g.K.Sink.placed c.args.input.now c.handle_stream-stop.new.input c.args.output.now c.handle_stream-stop.new.output in (
      s.0,
      c.leave_at.ensures.shown s.0 s.1,
      runs_closed s.0 (g.A.MessageHandler.stands c.handle_stream-stop.new.server s.0) (g.A.MessageHandler.stands c.leave_at.new.server s.0) (g.A.MessageHandler.left c.leave_at.new.server s.0) why.Finished told Complete 0 told.sink.after s.2 refl
          (λ t. finished_here told.sink.after) (nothing_to_close told.sink.after) (c.leave_at.ensures.left Complete (ap close_of c.in-Finished.is) s.0) (λ z. refl) (λ z. omega (arith, z)) (λ z. refl),
    )

pub returns-in-Refused-clause-runs : goal.returns-in-Refused-clause-runs
returns-in-Refused-clause-runs g c = λ first show stood.
    let s = c.in-Refused.ensures.stopped first show stood in
    let told : Told = told_by g.S.Source.taken g.S.Source.left g.K.Sink.placed c.args.input.now c.handle_stream-stop.new.input c.args.output.now c.handle_stream-stop.new.output in
    let after = g.K.Sink.placed c.close.new.output in (
      s.0,
      c.leave_at.ensures.shown s.0 s.1,
      runs_closed s.0 (g.A.MessageHandler.stands c.handle_stream-stop.new.server s.0) (g.A.MessageHandler.stands c.leave_at.new.server s.0) (g.A.MessageHandler.left c.leave_at.new.server s.0) (why.Refused c.in-Refused.code) told (Refused c.in-Refused.code) c.close.result after s.2 refl
          (last_written 7 c.close.result (Refused c.in-Refused.code) told.sink.after after refl (inr refl) c.close.ensures.status c.close.ensures.whole) c.close.ensures.part (c.leave_at.ensures.left (Refused c.in-Refused.code) (ap close_of c.in-Refused.is) s.0)
          (not_zero 7 c.close.result (why.Refused c.in-Refused.code) (inr refl) c.close.ensures.status) (not_four 7 c.close.result (inr refl) c.close.ensures.status) c.close.ensures.lacks,
    )

pub returns-in-Unreadable-clause-runs : goal.returns-in-Unreadable-clause-runs
returns-in-Unreadable-clause-runs g c = λ first show stood.
    let s = c.in-Unreadable.ensures.stopped first show stood in
    let told : Told = told_by g.S.Source.taken g.S.Source.left g.K.Sink.placed c.args.input.now c.handle_stream-stop.new.input c.args.output.now c.handle_stream-stop.new.output in
    let after = g.K.Sink.placed c.close-in-Unreadable.new.output in (
      s.0,
      c.leave_at.ensures.shown s.0 s.1,
      runs_closed s.0 (g.A.MessageHandler.stands c.handle_stream-stop.new.server s.0) (g.A.MessageHandler.stands c.leave_at.new.server s.0) (g.A.MessageHandler.left c.leave_at.new.server s.0) (why.Unreadable c.in-Unreadable.place) told (Unreadable c.in-Unreadable.place) c.close-in-Unreadable.result after s.2 refl
          (last_written 3 c.close-in-Unreadable.result (Unreadable c.in-Unreadable.place) told.sink.after after refl (inl refl) c.close-in-Unreadable.ensures.status c.close-in-Unreadable.ensures.whole) c.close-in-Unreadable.ensures.part (c.leave_at.ensures.left (Unreadable c.in-Unreadable.place) (ap close_of c.in-Unreadable.is) s.0)
          (not_zero 3 c.close-in-Unreadable.result (why.Unreadable c.in-Unreadable.place) (inl refl) c.close-in-Unreadable.ensures.status) (not_four 3 c.close-in-Unreadable.result (inl refl) c.close-in-Unreadable.ensures.status) c.close-in-Unreadable.ensures.lacks,
    )

pub returns-in-ReadFault-clause-runs : goal.returns-in-ReadFault-clause-runs
returns-in-ReadFault-clause-runs g c = λ first show stood.
    let s = c.in-ReadFault.ensures.stopped first show stood in
    let told : Told = told_by g.S.Source.taken g.S.Source.left g.K.Sink.placed c.args.input.now c.handle_stream-stop.new.input c.args.output.now c.handle_stream-stop.new.output in
    (s.0, c.leave_at.ensures.shown s.0 s.1, rw (c.leave_at.ensures.stays (ap close_of c.in-ReadFault.is)) (runs_failed s.0 (g.A.MessageHandler.stands c.handle_stream-stop.new.server s.0) (g.A.MessageHandler.left c.handle_stream-stop.new.server s.0) why.ReadFault told 4 s.2 (goes_on 4 (inl refl)) (λ z. refl)))

pub returns-in-WriteFault-clause-runs : goal.returns-in-WriteFault-clause-runs
returns-in-WriteFault-clause-runs g c = λ first show stood.
    let s = c.in-WriteFault.ensures.stopped first show stood in
    let told : Told = told_by g.S.Source.taken g.S.Source.left g.K.Sink.placed c.args.input.now c.handle_stream-stop.new.input c.args.output.now c.handle_stream-stop.new.output in
    (s.0, c.leave_at.ensures.shown s.0 s.1, rw (c.leave_at.ensures.stays (ap close_of c.in-WriteFault.is)) (runs_failed s.0 (g.A.MessageHandler.stands c.handle_stream-stop.new.server s.0) (g.A.MessageHandler.left c.handle_stream-stop.new.server s.0) why.WriteFault told 5 s.2 (goes_on 5 (inr (inl refl))) (λ z. absurd (omega (arith, z)))))

pub returns-clause-runs : goal.returns-clause-runs
returns-clause-runs g c = λ first show stood.
    let s = c.in-NoMemory.ensures.stopped first show stood in
    let told : Told = told_by g.S.Source.taken g.S.Source.left g.K.Sink.placed c.args.input.now c.handle_stream-stop.new.input c.args.output.now c.handle_stream-stop.new.output in
    (s.0, c.leave_at.ensures.shown s.0 s.1, rw (c.leave_at.ensures.stays (ap close_of c.in-NoMemory.is)) (runs_failed s.0 (g.A.MessageHandler.stands c.handle_stream-stop.new.server s.0) (g.A.MessageHandler.left c.handle_stream-stop.new.server s.0) why.NoMemory told 6 s.2 (goes_on 6 (inr (inr refl))) (λ z. absurd (omega (arith, z)))))
