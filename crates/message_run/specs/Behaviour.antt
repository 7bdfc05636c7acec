-- What a server answers to the messages of a stream, and how a message ends the stream.
use Rattle.std.specs.Prelude.{◌≡◌, ℕ, List, [], ◌∷◌, ◌++◌, Option, Some, None}
use Rattle.message_run.specs.declared.message_handler.Handled.{Handled}
use Rattle.message_run.specs.declared.message_handler.Handled.TheVariants.{Continue, Ends, Unreadable, NoMemory}

-- A message ends the stream where a reply does, with this status number of gRPC, and where a field of it can't be read, at this
-- place in the message.
pub data Ending : Type 0 where
  Reply : (code : ℕ) → Ending
  Field : (place : ℕ) → Ending

-- what a message comes to: the answers to it as they stand in the output, and how it ends the stream, if it does
pub record Response : Type 0 where
  pub written : List ℕ
  pub ending : Option Ending

-- what a message comes to after the messages before it
abbrev pub Behaviour : Type 0
Behaviour = List (List ℕ) → List ℕ → Response

-- two behaviours come to the same at each of these messages, after those before them
abbrev pub AgreesAt : Behaviour → Behaviour → List (List ℕ) → List (List ℕ) → Type 0
AgreesAt f g done [] = Unit {0}
AgreesAt f g done (m ∷ ms) = (f done m ≡ g done m) × AgreesAt f g (done ++ m ∷ []) ms

-- ---- messages in a row

-- the messages that were done, all that was written, and how a message ended the stream
pub record MessageTrace : Type 0 where
  pub done : List (List ℕ)
  pub written : List ℕ
  pub ending : Option Ending

-- One message and the others behind it. It is done with them where a reply to it ends the stream, and not where it can't be read.
abbrev pub trace_with : List (List ℕ) → List ℕ → List ℕ → Option Ending → MessageTrace → MessageTrace
trace_with done m written None others = record { done = others.done; written = written ++ others.written; ending = others.ending }
trace_with done m written (Some (Reply code)) others = record { done = done ++ m ∷ []; written = written; ending = Some (Reply code) }
trace_with done m written (Some (Field place)) others = record { done = done; written = written; ending = Some (Field place) }

-- the course of messages after those that were done
unfoldable pub trace_from : Behaviour → List (List ℕ) → List (List ℕ) → MessageTrace
trace_from f done [] = record { done = done; written = []; ending = None }
trace_from f done (m ∷ ms) = trace_with done m (f done m).written (f done m).ending (trace_from f (done ++ m ∷ []) ms)

-- ---- what a server tells of one message

-- bytes of which the first were appended
pub record PartAppended (bytes before after : List ℕ) : Type 0 where
  pub part : List ℕ
  pub others : List ℕ
  pub bytes_are : bytes ≡ part ++ others
  pub appended : after ≡ before ++ part

-- Each answer comes exactly where this is the message's fate. Without memory the first of its answers may have been appended.
abbrev pub Appends : Response → Handled → List ℕ → List ℕ → Type 0
Appends response Continue before after = (response.ending ≡ None) × (after ≡ before ++ response.written)
Appends response (Ends code) before after = (response.ending ≡ Some (Reply code)) × (after ≡ before ++ response.written)
Appends response (Unreadable place) before after = (response ≡ record { written = []; ending = Some (Field place) }) × (after ≡ before)
Appends response NoMemory before after = PartAppended response.written before after

-- A message that was answered is done, and one that can't be read is not.
abbrev pub HandledAfter : (List (List ℕ) → Type 0) → List (List ℕ) → List ℕ → Handled → Type 0
HandledAfter stands done m Continue = stands (done ++ m ∷ [])
HandledAfter stands done m (Ends code) = stands (done ++ m ∷ [])
HandledAfter stands done m (Unreadable place) = stands done
HandledAfter stands done m NoMemory = Unit {0}

-- A message is handled by a behaviour that may be known only then: it is the one so far at the messages that are done.
pub record HandlesMessage (shows : Behaviour → Type 0) (stands : Behaviour → List (List ℕ) → Type 0) (so_far : Behaviour)
    (done : List (List ℕ)) (message : List ℕ) (answer : Handled) (before after : List ℕ) : Type 0 where
  pub behaviour : Behaviour
  pub shown : shows behaviour
  pub agrees : AgreesAt so_far behaviour [] done
  pub appends : Appends (behaviour done message) answer before after
  pub stood : HandledAfter (stands behaviour) done message answer
