-- Whether an operation is refused, by one look at the seat of its session.
use Rattle.std.proofs.Common.{◌≡◌, ℕ, Bool, true, false, List, [], ◌∷◌, Some, None, Option, refl, sym}
use Rattle.std.specs.Prelude.{◌||◌, not, cond, find, is_some}
use Rattle.table_model.specs.declared.command.Operation.{Operation}
use Rattle.table_model.specs.declared.reply.Reply.TheVariants as reply
use Rattle.session_params.specs.declared.SessionRecord.{SessionRecord}
use Rattle.session_params.specs.Rows.{is_of, is_entered}
use Rattle.rib_core.specs.Core.{Core}
use Rattle.rib_core.specs.Decisions.{refuse_running_in, verdict_in, failed}

found_step : (b : Bool) (session_record : SessionRecord) (rest : Option SessionRecord) (more : Bool) → more ≡ is_some rest → b || more ≡ is_some (cond b (Some session_record) rest)
found_step true session_record rest more h = refl
found_step false session_record rest more h = h

entered_found : (session : ℕ) (session_records : List SessionRecord) → is_entered session session_records ≡ is_some (find (is_of session) session_records)
entered_found session [] = refl
entered_found session (session_record ∷ session_records) = found_step (is_of session session_record) session_record (find (is_of session) session_records) (is_entered session session_records) (entered_found session session_records)

module _ (core : Core) (session : ℕ) (operation : Operation) (session_records : List SessionRecord) (same : session_records ≡ core.session_records) where
  pub refuse_without : None ≡ find (is_of session) session_records → Some reply.Gone ≡ refuse_running_in core session operation
  refuse_without is = sym (rw (← same, entered_found session session_records, ← is) refl)

  pub refuse_with : (session_record : SessionRecord) → Some session_record ≡ find (is_of session) session_records → (b : Bool) → is_some session_record.params ≡ b
      → cond (not b) (Some reply.NoParams) (failed (verdict_in core session operation)) ≡ refuse_running_in core session operation
  refuse_with session_record is b some = sym (rw (← same, entered_found session session_records, ← is, some) refl)
