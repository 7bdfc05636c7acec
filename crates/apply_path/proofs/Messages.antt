-- A message.
use Rattle.std.proofs.Common.{◌≡◌, ℕ, ◌+◌, List, [], ◌∷◌, ◌++◌, length, Some, None, refl, sym, ap, ◌∙◌, arith}
use Rattle.std.proofs.lemmas.List.{append-nil}
use Rattle.schema_numbers.specs.Numbers.{Numbers}
use Rattle.call_answers.specs.declared.orders.Setting.{Setting}
use Rattle.table_model.specs.declared.command.Command.{Command}
use Rattle.table_model.specs.declared.command.Config.{Config}
use Rattle.table_model.specs.Event.{Event}
use Rattle.rib_core.specs.Core.{Core}
use Rattle.apply_path.specs.History.{answered, up_to_end, first_end, run_commands}
use Rattle.apply_path.specs.Responses.{config_of, run_message, history_from}
use Rattle.table_model.specs.declared.job.Verdict.{Verdict}
use Rattle.apply_path.specs.SessionAt.{RanOn, Ended, with_prefix}

-- ---- a message that can't be read

-- ---- one that is done

pub history_more : (s : Setting) (said : List Verdict) (past : List Event) (place : ℕ) (done : List (List ℕ)) (m : List ℕ)
    → history_from s said past place (done ++ m ∷ []) ≡ (run_message s said (history_from s said past place done) (length done + place) m).past
unfolding history_from
history_more s said past place [] m = let same : 0 + place ≡ place = omega arith in rw same refl
history_more s said past place (x ∷ xs) m =
    history_more s said (run_message s said past place x).past (place + 1) xs m
    ∙ ap (λ (k : ℕ). (run_message s said (history_from s said (run_message s said past place x).past (place + 1) xs) k m).past) (omega arith)

pub run_none : (n : Numbers) (config : Config) (past : List Event) → run_commands n config past [] ≡ record { written = []; ending = None; past = past }
unfolding run_commands answered up_to_end first_end
run_none n config past = refl

pub went_all : (s : Setting) (new : Core) (past : List Event) (cs : List Command) (before after : List ℕ) (k : RanOn s.numbering (config_of s) new past cs before after)
    → run_commands s.numbering (config_of s) past cs ≡ record { written = k.written; ending = None; past = k.now }
went_all s new past cs before after k =
    ap (run_commands s.numbering (config_of s) past) (sym (append-nil cs)) ∙ k.goes [] ∙ ap (with_prefix k.written) (run_none s.numbering (config_of s) k.now)
    ∙ ap (λ (w : List ℕ). record { written = w; ending = None; past = k.now }) (append-nil k.written)

pub ended_all : (s : Setting) (new : Core) (past : List Event) (cs : List Command) (code : ℕ) (before after : List ℕ) (k : Ended s.numbering (config_of s) new past cs code before after)
    → run_commands s.numbering (config_of s) past cs ≡ record { written = k.written; ending = Some code; past = k.now }
ended_all s new past cs code before after k = ap (run_commands s.numbering (config_of s) past) (sym (append-nil cs)) ∙ k.ends []
