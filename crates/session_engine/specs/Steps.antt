-- What commands under the lock make of a step of a call, one after another.
use Rattle.std.specs.Prelude.{◌≡◌, ℕ, ◌||◌, ◌⊎◌, Bool, true, false, List, [], ◌∷◌, ◌++◌, Option, Some, None}
use Rattle.std.specs.List.{flat_map, list_any}
use Rattle.aft_entries.specs.declared.operation.Row.{Row}
use Rattle.grpc_heads.specs.CallEnd.{CallEnd}
use Rattle.h2_exchange.specs.Calls.{Request}
use Rattle.h2_exchange.specs.StreamParts.{Item}
use Rattle.table_lock.specs.declared.machine.Entry.{Entry}
use Rattle.table_lock.specs.Passes.{PassView, IsSound}
use Rattle.table_model.specs.declared.command.Command.{Command}
use Rattle.table_model.specs.declared.command.Command.TheVariants as command
use Rattle.table_model.specs.declared.reply.Reply.{Reply}
use Rattle.table_model.specs.declared.reply.Reply.TheVariants as reply
use Rattle.table_model.specs.Event.{Event}
use Rattle.call_answers.specs.Ends.{status_by}
use Rattle.call_answers.specs.declared.orders.Setting.{Setting}
use Rattle.call_orders.specs.Owed.{has_end, is_leave, items_for, ok, want_of_memory}
use Rattle.call_orders.specs.Calls.{Modifies, commands_for, good_end, refusal_for}
use Rattle.call_orders.specs.Actions.{AreDone, AreDoneInPart, leave}
use Rattle.call_orders.specs.Orders.{is_stopped, is_stopped_by}
use Rattle.session_engine.specs.declared.step.Step.{Step}
use Rattle.session_engine.specs.declared.step.Progress.{Progress}
use Rattle.session_engine.specs.declared.step.Progress.TheVariants.{GoesOn, Ended, OutOfMemory, Spent}
use Rattle.session_engine.specs.Queries.{OpenCallsView, call_on}
use Rattle.session_engine.specs.Stands.{AreSameElsewhere, IsSpentBehind, MakesEntries, items_in, leaves_by}

-- The step got these items. Where the call goes on none of them is an end, and where it ended one is. Where memory was wanting, or a
-- call was Spent, it got the first of them, and no end.
abbrev pub AddsItems : Progress → List (Item CallEnd) → Step → Step → Type 0
AddsItems GoesOn items before after = (has_end items ≡ false) × (items_in after ≡ items_in before ++ items) × (after.end ≡ None)
AddsItems Ended items before after = (has_end items ≡ true) × (items_in after ≡ items_in before ++ items)
AddsItems OutOfMemory items before after =
    (after.end ≡ None)
    × ((made : List (Item CallEnd)) × (rest : List (Item CallEnd)) × (items ≡ made ++ rest) × (items_in after ≡ items_in before ++ made))
AddsItems Spent items before after = after.end ≡ None

-- The same of one reply: where memory was wanting it got none.
abbrev pub AddsAnswer : Progress → List (Item CallEnd) → Step → Step → Type 0
AddsAnswer GoesOn items before after = (has_end items ≡ false) × (items_in after ≡ items_in before ++ items) × (after.end ≡ None)
AddsAnswer Ended items before after = (has_end items ≡ true) × (items_in after ≡ items_in before ++ items)
AddsAnswer OutOfMemory items before after = (after.end ≡ None) × (items_in after ≡ items_in before)
AddsAnswer Spent items before after = ⊥

-- a call that goes on ends well where nothing is left to be done for it
abbrev pub EndsFinished : Progress → Bool → Progress → Step → Step → Type 0
EndsFinished GoesOn true progress before after = (progress ≡ Ended) × (after ≡ record before { end = Some ok })
EndsFinished GoesOn false progress before after = (progress ≡ GoesOn) × (after ≡ before)
EndsFinished other is_over progress before after = (progress ≡ other) × (after ≡ before)

-- a command for a message of a Modify call, or to collect
abbrev pub is_modify : Command → Bool
is_modify (command.Select which kinds) = false
is_modify (command.Flush by which now) = false
is_modify (command.Leave session) = false
is_modify command.Begin = false
is_modify other = true

abbrev pub begin_entry : Reply → Event
begin_entry said = record { command = command.Begin; reply = said }

abbrev pub session_begun : Reply → Option ℕ
session_begun (reply.Began session) = Some session
session_begun said = None

abbrev pub collect_entry : ℕ → Reply → Event
collect_entry session said = record { command = command.Collect session; reply = said }

abbrev pub rows_selected : Reply → Option (List Row)
rows_selected (reply.Selected rows) = Some rows
rows_selected said = None

-- the end of a call whose Begin began no session: that of the reply, or for want of memory
abbrev pub EndsUnbegun : Reply → Step → Step → Type 0
EndsUnbegun said before after =
    (after.halted ≡ (before.halted || is_stopped_by said)) × (after.answers ≡ before.answers)
    × ((after.end ≡ status_by false said) ⊎ (after.end ≡ Some want_of_memory))

-- what a message of a Modify call with this session asks for, and the end that it brings by itself
abbrev pub asked_by_message : Setting → ℕ → List ℕ → List Command
asked_by_message s session m = commands_for s (Modifies session false) (Request 0 m)

abbrev pub refused_by_message : Setting → List ℕ → List (Item CallEnd)
refused_by_message s m = refusal_for s (Modifies 0 false) (Request 0 m)

-- the first of the commands were done, and one more was due
abbrev pub AreShort : Setting → List Command → List Event → Type 0
AreShort s cs did = (next : Event) × (is_leave next.command ≡ false) × AreDoneInPart s cs (did ++ next ∷ [])

-- these events answer the commands, whatever others stand behind them
abbrev pub AnswerFirst : Setting → Progress → List Command → List Event → Type 0
AnswerFirst s GoesOn cs did = (others : List Command) (more : List Event) → AreDone s others more → AreDone s (cs ++ others) (did ++ more)
AnswerFirst s Ended cs did = (others : List Command) → AreDone s (cs ++ others) did
AnswerFirst s OutOfMemory cs did = (others : List Command) → AreDoneInPart s (cs ++ others) did
AnswerFirst s Spent cs did = (others : List Command) → AreShort s (cs ++ others) did

-- these events are all that the commands ask for, or the first of that
abbrev pub AnswerAll : Setting → Progress → List Command → List Event → Type 0
AnswerAll s GoesOn cs did = AreDone s cs did
AnswerAll s Ended cs did = AreDone s cs did
AnswerAll s OutOfMemory cs did = AreDoneInPart s cs did
AnswerAll s Spent cs did = AreShort s cs did

module _ {G : Type 0} (lawful : G → List (Entry Command Reply) → Type 0) (setup : G) where
  -- the pass made these entries, and where a call was Spent, that call came behind them
  abbrev pub PassGoes : Progress → PassView Command Reply G → PassView Command Reply G → List Event → Type 0
  PassGoes Spent p q did = IsSpentBehind lawful setup p q did
  PassGoes other p q did = MakesEntries lawful setup p q did

  -- commands were done, one after another, and their items added, and then these others
  pub record DoesCommands (s : Setting) (p q : PassView Command Reply G) (cs : List Command) (more : List (Item CallEnd)) (progress : Progress)
      (before after : Step) : Type 0 where
    pub did : List Event
    pub calls : PassGoes progress p q did
    pub sound : IsSound lawful setup q
    pub answered : AnswerFirst s progress cs did
    pub plain : list_any (λ e. is_leave e.command) did ≡ false
    pub told : AddsItems progress (flat_map (items_for s) did ++ more) before after
    pub halted : after.halted ≡ (before.halted || list_any is_stopped did)

  -- all that a message asks for was done, or the first of that, and its items added, its refusal behind them
  pub record DoesMessage (s : Setting) (p q : PassView Command Reply G) (cs : List Command) (more : List (Item CallEnd)) (progress : Progress)
      (before after : Step) : Type 0 where
    pub did : List Event
    pub calls : PassGoes progress p q did
    pub sound : IsSound lawful setup q
    pub answers : AnswerAll s progress cs did
    pub plain : list_any (λ e. is_leave e.command) did ≡ false
    pub told : AddsItems progress (flat_map (items_for s) did ++ more) before after
    pub halted : after.halted ≡ (before.halted || list_any is_stopped did)

  -- Results were collected, unless the call was Spent, and added, with the good end behind them where they are the last.
  pub record CollectsResults (s : Setting) (p q : PassView Command Reply G) (session : ℕ) (is_finished : Bool) (progress : Progress)
      (has_left : Bool) (before after : Step) : Type 0 where
    pub said : Reply
    pub calls : (progress ≡ Spent → ⊥) → MakesEntries lawful setup p q (collect_entry session said ∷ [])
    pub spent : progress ≡ Spent → IsSpentBehind lawful setup p q []
    pub sound : IsSound lawful setup q
    pub told : AddsItems progress (flat_map (items_for s) (collect_entry session said ∷ []) ++ good_end (Modifies session is_finished) (collect_entry
        session said ∷ [])) before after
    pub halted : after.halted ≡ (before.halted || is_stopped_by said)
    pub left : (progress ≡ Spent → ⊥) → has_left ≡ leaves_by said

  abbrev pub BeginsSession : PassView Command Reply G → PassView Command Reply G → Option ℕ → Step → Step → Type 0
  BeginsSession p q (Some session) before after =
      (said : Reply) × MakesEntries lawful setup p q (begin_entry said ∷ []) × (after ≡ before) × (session_begun said ≡ Some session)
  BeginsSession p q None before after =
      (said : Reply) × MakesEntries lawful setup p q (begin_entry said ∷ []) × EndsUnbegun said before after × (session_begun said ≡ None)

  -- a session left
  abbrev pub SessionLeaves : PassView Command Reply G → PassView Command Reply G → ℕ → Type 0
  SessionLeaves p q session = (said : Reply) × MakesEntries lawful setup p q (leave session said ∷ [])

  -- the session left, and its call is over
  pub record ClosesSession (stream session : ℕ) (p q : PassView Command Reply G) (old new : OpenCallsView) : Type 0 where
    pub leaves : SessionLeaves p q session
    pub over : call_on new stream ≡ None
    pub others : AreSameElsewhere stream old new

  -- How a call is closed behind its commands: one that goes on stays as it is, and else its session leaves and it is over.
  abbrev pub ClosesCall : Progress → ℕ → ℕ → PassView Command Reply G → PassView Command Reply G
      → OpenCallsView → OpenCallsView → Step → Step → Type 0
  ClosesCall GoesOn stream session p q old new before after = (q ≡ p) × (new ≡ old) × (after ≡ before)
  ClosesCall Ended stream session p q old new before after = ClosesSession stream session p q old new × (after ≡ before)
  ClosesCall OutOfMemory stream session p q old new before after = ClosesSession stream session p q old new
      × (after ≡ record before { end = Some want_of_memory })
  ClosesCall Spent stream session p q old new before after = ⊥

  -- or a call was Spent: the last of the commands, or that of the Leave
  abbrev pub StopsClosing : Progress → PassView Command Reply G → PassView Command Reply G → Type 0
  StopsClosing Spent p q = q ≡ p
  StopsClosing GoesOn p q = ⊥
  StopsClosing other p q = IsSpentBehind lawful setup p q []
