-- What the server of the tests appends.
use Rattle.std.proofs.Common.{◌≡◌, ℕ, true, false, List, [], ◌∷◌, ◌++◌, refl, sym, ◌∙◌}
use Rattle.std.specs.Str.{bytes_eq}
use Rattle.std.proofs.lemmas.List.{append-nil}
use Rattle.message_run.specs.Behaviour.{Appends}
use Rattle.message_run.specs.declared.message_handler.Handled.TheVariants.{Continue, Ends, Unreadable, NoMemory}
use Rattle.program_tests.specs.Echoes.{echo}

module _ (done : List (List ℕ)) (m before after : List ℕ) where
  pub unread : bytes_eq m (8 ∷ []) ≡ true → Appends (echo done m) (Unreadable 2) before before
  unread eight = (rw eight refl, refl)

  pub ends : bytes_eq m (8 ∷ []) ≡ false → bytes_eq m (9 ∷ []) ≡ true → after ≡ before ++ m → Appends (echo done m) (Ends 9) before after
  ends eight nine appended = (rw (eight, nine) refl, rw (eight, nine) appended)

  pub goes_on : bytes_eq m (8 ∷ []) ≡ false → bytes_eq m (9 ∷ []) ≡ false → after ≡ before ++ m → Appends (echo done m) Continue before after
  goes_on eight nine appended = (rw (eight, nine) refl, rw (eight, nine) appended)

  pub nothing : after ≡ before → Appends (echo done m) NoMemory before after
  nothing same = record { part = []; others = (echo done m).written; bytes_are = refl; appended = same ∙ sym (append-nil before) }
