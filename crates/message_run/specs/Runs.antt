-- What a run answers, takes and writes.
use Rattle.std.specs.Prelude.{◌≡◌, ◌⊎◌, ℕ, List, [], ◌++◌, Option, Some, IfSome}
use Rattle.std.specs.Option.{option_map}
use Rattle.message_run.specs.Behaviour.{Behaviour}
use Rattle.message_run.specs.Outcomes.{outcome_of, output_of, status_of, done_of}
use Rattle.message_run.specs.Outcomes.{IsGoingOn}
use Rattle.message_run.specs.Written.{Wrote, WrotePart}

-- The run has closed: the input was read and answered to its end, it can't be read, or a reply ended the stream.
abbrev pub IsClosing : ℕ → Type 0
IsClosing status = (status ≡ 0) ⊎ (status ≡ 3) ⊎ (status ≡ 7)

abbrev pub IsStatus : ℕ → Type 0
IsStatus status = (status ≡ 0) ⊎ (status ≡ 3) ⊎ (status ≡ 4) ⊎ (status ≡ 5) ⊎ (status ≡ 6) ⊎ (status ≡ 7)

-- the bytes that a source told as taken and as left, before and after
pub record SourceTold : Type 0 where
  pub taken_before : Option (List ℕ)
  pub taken_after : Option (List ℕ)
  pub left_before : Option (List ℕ)
  pub left_after : Option (List ℕ)

-- and those that a sink told as placed
pub record SinkTold : Type 0 where
  pub before : Option (List ℕ)
  pub after : Option (List ℕ)

pub record Told : Type 0 where
  pub source : SourceTold
  pub sink : SinkTold

-- what a source and a sink told of themselves, each before and after
abbrev pub told : {X Y : Type 0} → (taken left : X → Option (List ℕ)) (placed : Y → Option (List ℕ)) (source source' : X) (sink sink' : Y) → Told
told taken left placed source source' sink sink' = record {
  source = record { taken_before = taken source; taken_after = taken source'; left_before = left source; left_after = left source' };
  sink = record { before = placed sink; after = placed sink' };
}

-- A run with this status, of a server that answers so. What it has done tells `has_done`, and with what it has left `has_left`.
pub record Runs (f : Behaviour) (has_done has_left : List (List ℕ) → Type 0) (status : ℕ) (told : Told) : Type 0 where
  -- the bytes that the run took
  pub taken : List ℕ
  pub taken_is : told.source.taken_after ≡ option_map (λ given. given ++ taken) told.source.taken_before
  pub left_is : told.source.left_before ≡ option_map (λ rest. taken ++ rest) told.source.left_after
  -- 0, 3 and 7: they come to that status, all that is to be written for them was, and the server has left
  pub whole : IsClosing status → (status_of f taken ≡ status) × Wrote told.sink.before (output_of f taken) told.sink.after × has_left (done_of f taken)
  -- and what is left of the input changes nothing
  pub still : IsClosing status → (rest : List ℕ) → told.source.left_after ≡ Some rest → outcome_of f (taken ++ rest) ≡ outcome_of f taken
  -- 4: nothing in the bytes taken ends the stream, the server has done all their messages, and all answers to them were written
  pub failed : status ≡ 4 → has_done (done_of f taken) × Wrote told.sink.before (outcome_of f taken).written told.sink.after × IsGoingOn f taken
  -- 0: nothing is left
  pub over : status ≡ 0 → IfSome told.source.left_after (λ rest. rest ≡ [])
  -- 4 and 6: of the last item nothing was written
  pub answers : (status ≡ 4) ⊎ (status ≡ 6) → WrotePart told.sink.before (outcome_of f taken).written told.sink.after
  -- always: what was written is the first of what is to be written for the bytes taken
  pub part : WrotePart told.sink.before (output_of f taken) told.sink.after

-- The same of a source that tells its whole input.
pub record RunsOver (f : Behaviour) (has_done has_left : List (List ℕ) → Type 0) (status : ℕ) (input : List ℕ) (told : Told) : Type 0 where
  pub taken : List ℕ
  pub rest : List ℕ
  pub input_is : input ≡ taken ++ rest
  pub taken_is : told.source.taken_after ≡ option_map (λ given. given ++ taken) told.source.taken_before
  pub left_is : told.source.left_after ≡ Some rest
  -- 0: the input is read and answered to its end, nothing of it is left, and all of its output was written
  pub done : status ≡ 0 → (status_of f input ≡ 0) × (rest ≡ []) × Wrote told.sink.before (output_of f input) told.sink.after
  -- 3: the input can't be read, and all of its output was written, the last item included
  pub unreadable : status ≡ 3 → (status_of f input ≡ 3) × Wrote told.sink.before (output_of f input) told.sink.after
  -- 7: a reply ended the stream, and all of its output was written, the last item included
  pub refused : status ≡ 7 → (status_of f input ≡ 7) × Wrote told.sink.before (output_of f input) told.sink.after
  -- 0, 3 and 7: the server has left, with the messages of the input up to its end
  pub server : IsClosing status → has_left (done_of f input)
  -- 4: nothing in the bytes taken ends the stream, the server has done all their messages, and all answers to them were written
  pub failed : status ≡ 4 → has_done (done_of f taken) × Wrote told.sink.before (outcome_of f taken).written told.sink.after × IsGoingOn f taken
  -- 4 and 6: of the last item nothing was written
  pub answers : (status ≡ 4) ⊎ (status ≡ 6) → WrotePart told.sink.before (outcome_of f taken).written told.sink.after
  -- always: what was written is the first of what is to be written for the bytes taken
  pub part : WrotePart told.sink.before (output_of f taken) told.sink.after

-- A run of a server whose behaviour shows in it; and over the input, where the source tells it.
pub record RunsSomehow (shows : Behaviour → Type 0) (has_done has_left : Behaviour → List (List ℕ) → Type 0) (status : ℕ) (told : Told) : Type 0 where
  pub behaviour : Behaviour
  pub shown : shows behaviour
  pub runs : Runs behaviour (has_done behaviour) (has_left behaviour) status told
  pub over : (input : List ℕ) → told.source.left_before ≡ Some input → RunsOver behaviour (has_done behaviour) (has_left behaviour) status input told
