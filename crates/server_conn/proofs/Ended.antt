-- What a turn answers.
use Rattle.std.proofs.Common.{◌≡◌, ◌⊎◌, ℕ, ◌≤◌, Bool, true, false, List, [], ◌++◌, Option, Some, None, sym, ◌∙◌, subst}
use Rattle.rig_io.specs.Fault.{HasCause, StaysUnless}
use Rattle.grpc_stream.specs.CallTrace.{CallTrace}
use Rattle.table_lock.specs.Passes.{PassView}
use Rattle.table_model.specs.declared.command.Command.{Command}
use Rattle.table_model.specs.declared.command.Config.{Config}
use Rattle.table_model.specs.declared.reply.Reply.{Reply}
use Rattle.table_model.specs.Event.{Event}
use Rattle.call_answers.specs.declared.orders.Setting.{Setting}
use Rattle.session_engine.specs.Queries.{OpenCallsView}
use Rattle.server_turns.specs.declared.outcome.Outcome.{Outcome}
use Rattle.server_turns.specs.declared.outcome.TurnEnd.{TurnEnd}
use Rattle.server_turns.specs.Making.{MadeLast, Makes}
use Rattle.server_turns.specs.Past.{Past}
use Rattle.server_turns.specs.Serving.{Account}
use Rattle.server_turns.specs.Turning.{Counts, During, GoesOn, IsAnswer, IsFault, KeepsUpUnlessOver, MayFail, behind, is_spent, outcome_of}
use Rattle.server_conn.specs.Standing.{NoneWaits, StandsAs}
use Rattle.server_conn.specs.Turns.{TurnsOn, answer_by}
use Rattle.server_conn.proofs.Grown.{made_more}

-- an outcome that is kept is none that isn't
pub kept_not : {A : Type 0} (kept : Option Outcome) (outcome : Outcome) → kept ≡ None → kept ≡ Some outcome → A
kept_not kept outcome e f = absurd (refuted outcome (sym f ∙ e))
  where
    refuted : (outcome : Outcome) → Some outcome ≡ None → ⊥
    refuted outcome g = cc

pub kept_is : (kept : Option Outcome) (a b : Outcome) → kept ≡ Some a → kept ≡ Some b → a ≡ b
kept_is kept a b e f = cc

pub quiet_answer : (first now : ℕ) (moved : Bool) (result : TurnEnd) → result ≡ answer_by moved → HasCause first now ⊥ × StaysUnless first now ⊥ →
    HasCause first now (IsFault result) × StaysUnless first now (MayFail result)
quiet_answer first now true result e h =
    subst (λ (r : TurnEnd). HasCause first now (IsFault r) × StaysUnless first now (MayFail r)) (sym e) h
quiet_answer first now false result e h =
    subst (λ (r : TurnEnd). HasCause first now (IsFault r) × StaysUnless first now (MayFail r)) (sym e) h

pub made_even : (config : Config) (spent : Bool) (p q : PassView Command Reply Config) (own did : List Event) → MadeLast p own →
    Makes config spent p q did → MadeLast q (own ++ did)
made_even config false p q own did last made = made_more config p q own did last made
made_even config true p q own did last made =
    (let m = made_more config p made.0 own did last made.1 in
    subst (λ (x : PassView Command Reply Config). MadeLast x (own ++ did)) (sym made.2) m)

module _ {K : Type 0} (uses : K → CallTrace → Type 0) (output : K → List ℕ) (s : Setting) (config : Config) (p q : PassView Command Reply Config)
    (calls : K) (open_calls : OpenCallsView) (refused waiting : ℕ) (is_ended may_wait : Bool) (kept : Option Outcome) (past : Past) (before : Account) (turn : During)
    (from to : Counts) where
  abbrev pub Comes : Account → TurnEnd → Type 0
  Comes after result = Makes config (is_spent (outcome_of result)) p q turn.own
      × StandsAs uses output s calls open_calls refused is_ended may_wait kept (behind turn past) after (outcome_of result)
      × GoesOn past before after turn from to × IsAnswer past turn from to result × KeepsUpUnlessOver result s past before after turn waiting from to

  pub comes_on : (moved : Bool) (result : TurnEnd) → result ≡ answer_by moved → kept ≡ None →
      (h : TurnsOn uses output s config p q calls open_calls refused waiting is_ended past before turn moved from to) →
      (may_wait ≡ false → NoneWaits open_calls (past.own ++ turn.own)) → Comes h.after result
  comes_on true result e none h idle = subst (Comes h.after) (sym e) (h.made, (h.goes, none, idle), h.goes_on, h.answer, h.keeps_up)
  comes_on false result e none h idle = subst (Comes h.after) (sym e) (h.made, (h.goes, none, idle), h.goes_on, h.answer, h.keeps_up)
