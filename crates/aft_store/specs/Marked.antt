-- A list parted by marks, one for each place. A place behind the last mark has none.
use Rattle.std.specs.Prelude.{Bool, List, [], ◌∷◌, if◌then◌else◌}

-- the elements that have a mark
abbrev pub chosen : {X : Type 0} → List Bool → List X → List X
chosen [] xs = []
chosen (mark ∷ marks) [] = []
chosen (mark ∷ marks) (x ∷ xs) = if mark then x ∷ chosen marks xs else chosen marks xs

-- the elements that have none
abbrev pub unchosen : {X : Type 0} → List Bool → List X → List X
unchosen [] xs = xs
unchosen (mark ∷ marks) [] = []
unchosen (mark ∷ marks) (x ∷ xs) = if mark then unchosen marks xs else x ∷ unchosen marks xs
