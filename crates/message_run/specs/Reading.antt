-- What a server has made of the bytes so far.
use Rattle.std.specs.Prelude.{◌≡◌, ℕ, ◌+◌, ◌-◌, ◌≤◌, ◌==◌, List, [], ◌++◌, length, if◌then◌else◌}
use Rattle.std.specs.Prelude.{Option, Some, None, IfSome, IfNone, MatchOption}
use Rattle.std.specs.Option.{option_map}
use Rattle.grpc_framing.specs.Framing.{front_at, messages_of, all_then, items}
use Rattle.message_run.specs.Behaviour.{Behaviour, MessageTrace, trace_from}
use Rattle.grpc_framing.specs.declared.front.Front.TheVariants.{NeedMore}
use Rattle.message_run.specs.Outcomes.{Close, Complete, Refused, Unreadable, outcome_at, outcome_of, IsGoingOn, MAX_MESSAGE_SIZE, MAX_INPUT_SIZE}
use Rattle.message_run.specs.Written.{Wrote, WrotePart}
use Rattle.message_run.specs.Runs.{Told}
use Rattle.message_run.specs.declared.stop.Stop.{Stop}
use Rattle.message_run.specs.declared.stop.Stop.TheVariants as why

abbrev pub with_prefix : List ℕ → MessageTrace → MessageTrace
with_prefix written c = record { done = c.done; written = written ++ c.written; ending = c.ending }

-- The messages of these bytes up to the held ones are done, and their answers were written; whatever follows, those go on from there.
pub record HandledSoFar (f : Behaviour) (stands : List (List ℕ) → Type 0) (bytes held written : List ℕ) : Type 0 where
  pub messages : List (List ℕ)
  pub leads : (more : List ℕ) → messages_of MAX_MESSAGE_SIZE (bytes ++ more) ≡ all_then messages (messages_of MAX_MESSAGE_SIZE (held ++ more))
  pub goes : (others : List (List ℕ)) → trace_from f [] (messages ++ others) ≡ with_prefix written (trace_from f messages others)
  pub stood : stands messages
  pub size : length bytes ≡ length (items messages) + length held

-- The run closes at these bytes, whatever follows them.
pub record Closes (f : Behaviour) (stands : List (List ℕ) → Type 0) (bytes written : List ℕ) (close : Close) : Type 0 where
  pub messages : List (List ℕ)
  pub closes : (count : ℕ) (more : List ℕ)
      → outcome_at f count (messages_of MAX_MESSAGE_SIZE (bytes ++ more)) ≡ record { done = messages; written = written; close = close }
  pub stood : stands messages
  pub few : length messages ≤ length bytes

-- What was written are the first of the answers to these bytes.
pub record AnswersBegin (f : Behaviour) (bytes written : List ℕ) : Type 0 where
  pub others : List ℕ
  pub begins : (trace_from f [] (messages_of MAX_MESSAGE_SIZE bytes).messages).written ≡ written ++ others

-- what a run closes with that stops so, where it closes
abbrev pub close_of : Stop → Option Close
close_of why.Finished = Some Complete
close_of (why.Refused code) = Some (Refused code)
close_of (why.Unreadable place) = Some (Unreadable place)
close_of why.ReadFault = None
close_of why.WriteFault = None
close_of why.NoMemory = None

-- what the messages of a piece may stop a run with
abbrev pub IsOfMessages : Stop → Type 0
IsOfMessages why.Finished = ⊥
IsOfMessages (why.Refused code) = Unit {0}
IsOfMessages (why.Unreadable place) = Unit {0}
IsOfMessages why.ReadFault = ⊥
IsOfMessages why.WriteFault = ⊥
IsOfMessages why.NoMemory = Unit {0}

-- and what a piece may, whose answers are written
abbrev pub IsOfPieces : Stop → Type 0
IsOfPieces why.Finished = ⊥
IsOfPieces (why.Refused code) = Unit {0}
IsOfPieces (why.Unreadable place) = Unit {0}
IsOfPieces why.ReadFault = ⊥
IsOfPieces why.WriteFault = Unit {0}
IsOfPieces why.NoMemory = Unit {0}

-- The run closes at these bytes, if it does.
abbrev pub ClosesIfSome : Behaviour → (List (List ℕ) → Type 0) → List ℕ → List ℕ → Option Close → Type 0
ClosesIfSome f stands bytes written None = Unit {0}
ClosesIfSome f stands bytes written (Some close) = Closes f stands bytes written close

-- What becomes of bytes that a server is handed, message by message, with a behaviour that shows then.
pub record FeedsBytes (shows : Behaviour → Type 0) (stands : Behaviour → List (List ℕ) → Type 0) (stop : Option Stop)
    (bytes held written : List ℕ) : Type 0 where
  pub behaviour : Behaviour
  pub shown : shows behaviour
  pub reads : IfNone stop (HandledSoFar behaviour (stands behaviour) bytes held written)
  pub stops : IfSome stop (λ why. ClosesIfSome behaviour (stands behaviour) bytes written (close_of why))
  pub begins : AnswersBegin behaviour bytes written

-- The run goes on behind these bytes: the answers to all but the held ones were written.
pub record RunContinues (f : Behaviour) (stands : List (List ℕ) → Type 0) (bytes held : List ℕ) (before now : Option (List ℕ)) : Type 0 where
  pub sent : List ℕ
  pub reads : HandledSoFar f stands bytes held sent
  pub partial : front_at MAX_MESSAGE_SIZE held ≡ NeedMore
  pub wrote : Wrote before sent now

-- The run stops at these bytes: the first of the answers to them were written, and all where it closes.
pub record RunStops (f : Behaviour) (stands : List (List ℕ) → Type 0) (bytes : List ℕ) (before : Option (List ℕ)) (stop : Stop)
    (now : Option (List ℕ)) : Type 0 where
  pub part : WrotePart before (trace_from f [] (messages_of MAX_MESSAGE_SIZE bytes).messages).written now
  pub closes : (close : Close) → close_of stop ≡ Some close → (sent : List ℕ) × Closes f stands bytes sent close × Wrote before sent now

-- The run goes on behind these bytes or stops there, with a behaviour that shows then.
pub record HandlesPiece (shows : Behaviour → Type 0) (stands : Behaviour → List (List ℕ) → Type 0) (stop : Option Stop)
    (bytes held : List ℕ) (before now : Option (List ℕ)) : Type 0 where
  pub behaviour : Behaviour
  pub shown : shows behaviour
  pub cases : MatchOption stop (RunContinues behaviour (stands behaviour) bytes held before now)
      (λ why. RunStops behaviour (stands behaviour) bytes before why now)

-- The run has stopped, and its last item is still to be written.
pub record Stopped (f : Behaviour) (stands : List (List ℕ) → Type 0) (stop : Stop) (told : Told) : Type 0 where
  pub taken : List ℕ
  pub taken_is : told.source.taken_after ≡ option_map (λ given. given ++ taken) told.source.taken_before
  pub left_is : told.source.left_before ≡ option_map (λ rest. taken ++ rest) told.source.left_after
  pub closes : (close : Close) → close_of stop ≡ Some close
      → ((outcome_of f taken).close ≡ close) × Wrote told.sink.before (outcome_of f taken).written told.sink.after
      × stands (outcome_of f taken).done × (length (outcome_of f taken).done ≤ MAX_INPUT_SIZE)
  pub still : (close : Close) → close_of stop ≡ Some close → (rest : List ℕ)
      → told.source.left_after ≡ Some rest → outcome_of f (taken ++ rest) ≡ outcome_of f taken
  pub over : stop ≡ why.Finished → IfSome told.source.left_after (λ rest. rest ≡ [])
  pub failed : stop ≡ why.ReadFault
      → stands (outcome_of f taken).done × Wrote told.sink.before (outcome_of f taken).written told.sink.after × IsGoingOn f taken
  pub answers : WrotePart told.sink.before (outcome_of f taken).written told.sink.after

-- what ends a run at the end of an input of so many bytes, of which so many are held
abbrev pub stop_at : ℕ → ℕ → Stop
stop_at taken held = if held == 0 then why.Finished else why.Unreadable (taken - held)
