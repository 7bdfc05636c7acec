-- The calls of a connection, each on its stream.
use Rattle.std.specs.Prelude.{ℕ, ◌+◌, ◌==◌, List, [], ◌∷◌, ◌++◌, Bool, true, false, length, sum_by, if◌then◌else◌}
use Rattle.kept_calls.specs.CallState.{CallState}

-- One call is changed: the first on its stream.
abbrev pub changed_at : Bool → CallState → List CallState → List CallState → (CallState → CallState) → List CallState
changed_at true c cs more on = on c ∷ cs
changed_at false c cs more on = c ∷ more

abbrev pub changed_on : ℕ → (CallState → CallState) → List CallState → List CallState
changed_on id on [] = []
changed_on id on (c ∷ cs) = changed_at (c.stream == id) c cs (changed_on id on cs) on

-- how many bytes no frame holds yet, on the streams that pass
abbrev pub waiting_on : (ℕ → Bool) → List CallState → ℕ
waiting_on is_live cs = sum_by (λ (c : CallState). if is_live c.stream then length c.unsent else 0) cs
