-- The exchange of a connection: its frames, each received or sent, in one order.
use Rattle.std.specs.Prelude.{ℕ, Bool, false, ◌||◌, List, [], ◌∷◌, ◌++◌, Option, Some, None, is_some, if◌then◌else◌}
use Rattle.std.specs.Option.{option_or}
use Rattle.std.specs.List.{flat_map}
use Rattle.h2_frames.specs.declared.frame.Frame.{Frame}
use Rattle.h2_frames.specs.Layout.{frame_text}

pub data Step : Type 0 where
  Received : Frame → Step
  Sent : Frame → Step

abbrev pub received_of : Step → List Frame
received_of (Received f) = f ∷ []
received_of (Sent f) = []

abbrev pub sent_of : Step → List Frame
sent_of (Received f) = []
sent_of (Sent f) = f ∷ []

abbrev pub received : List Step → List Frame
received x = flat_map received_of x

abbrev pub sent : List Step → List Frame
sent x = flat_map sent_of x

-- the bytes of the sent frames
abbrev pub sent_text : List Step → List ℕ
sent_text x = flat_map frame_text (sent x)

-- ---- looking through a list from its first element on

-- what each element gives, in the light of those before it
abbrev pub collect : {S A : Type 0} → (List S → S → List A) → List S → List S → List A
collect g past [] = []
collect g past (s ∷ x) = g past s ++ collect g (past ++ s ∷ []) x

-- whether some element passes, in the light of those before it
abbrev pub some_step : {S : Type 0} → (List S → S → Bool) → List S → List S → Bool
some_step p past [] = false
some_step p past (s ∷ x) = p past s || some_step p (past ++ s ∷ []) x

-- the elements before the first that gives something, in the light of those before it
abbrev pub front_before : {S A : Type 0} → (List S → S → Option A) → List S → List S → List S
front_before g past [] = []
front_before g past (s ∷ x) = if is_some (g past s) then [] else s ∷ front_before g (past ++ s ∷ []) x

-- what that one gives
abbrev pub first_given : {S A : Type 0} → (List S → S → Option A) → List S → List S → Option A
first_given g past [] = None
first_given g past (s ∷ x) = option_or (g past s) (first_given g (past ++ s ∷ []) x)

-- the first of the rules that is broken
abbrev pub first_broken : {A : Type 0} → List (Bool × A) → Option A
first_broken [] = None
first_broken (rule ∷ rules) = if rule.0 then Some rule.1 else first_broken rules
