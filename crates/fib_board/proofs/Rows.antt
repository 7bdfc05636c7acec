-- What is due to each session where a row changes, comes or goes.
use Rattle.std.proofs.Common.{◌≡◌, ℕ, ◌<◌, ◌≤◌, ◌+◌, Bool, true, false, List, [], ◌∷◌, ◌++◌, Option, Some, None, length, drop, get_or, set, refl, sym, ap, ◌∙◌, arith}
use Rattle.std.specs.Prelude.{◌==◌, find, filter, not, if◌then◌else◌}
use Rattle.std.specs.List.{position, position_or_len}
use Rattle.std.specs.Option.{option_or}
use Rattle.std.proofs.lemmas.Bool.{eqb-true, eq-eqb}
use Rattle.std.proofs.lemmas.List.{append-nil, length-drop}
use Rattle.std.proofs.lemmas.List.Filters.{sum_by-filter_both}
use Rattle.std.proofs.lemmas.List.Folds.{find-set, find_past, find-append}
use Rattle.std.proofs.lemmas.List.Quantifiers.{position-Some}
use Rattle.std.proofs.lemmas.List.Sums.{sum_by-set}
use Rattle.std.proofs.lemmas.Option.{slice_get-get_or}
use Rattle.table_model.specs.declared.results.FibResult.{FibResult}
use Rattle.table_model.specs.BoardState.{DueResults, due_for, results_in}
use Rattle.table_model.proofs.LookupLemmas.{find_filter_in, find_filter_out}
use Rattle.fib_board.specs.BoardInvariant.{due_total}
use Rattle.fib_board.specs.Steps.{due_after_collect, due_after_forget}
use Rattle.fib_board.proofs.Finding.{first_is, found_at, found_none}

abbrev pub is_of : ℕ → DueResults → Bool
is_of session row = row.session == session

same_test : (n session other : ℕ) (b : Bool) → n ≡ session → (session == other) ≡ b → (n == other) ≡ b
same_test n session other b is test = rw is test

module _ (due : List DueResults) (session at : ℕ) (row : DueResults) (found : position (is_of session) due ≡ Some at) (is : row ≡ get_or due at row) where
  facts : (at < length due) × (is_of session (get_or due at row) ≡ true) × ((k : ℕ) → k < at → is_of session (get_or due k row) ≡ false)
  facts = position-Some (is_of session) due at row found

  pub within : at < length due
  within = facts.0

  first : at ≡ position_or_len (is_of session) due
  first = first_is (is_of session) due at found

  row_session : row.session ≡ session
  row_session = eqb-true row.session session (ap (is_of session) is ∙ facts.1)

  pub due_of_row : due_for due session ≡ row.results
  unfolding due_for
  due_of_row = ap results_in (found_at (is_of session) due at found ∙ slice_get-get_or due at row within ∙ ap Some (sym is))

  module _ (f : List FibResult → List FibResult) (y : DueResults) (same : y.session ≡ row.session) (now : y.results ≡ f row.results) where
    pub row_changed : (other : ℕ) → due_for (set due at y) other ≡ (if session == other then f (due_for due other) else due_for due other)
    unfolding due_for
    row_changed other = by_test (session == other) refl
      where
        by_test : (b : Bool) → (session == other) ≡ b → due_for (set due at y) other ≡ (if b then f (due_for due other) else due_for due other)
        by_test true test =
            let here : session ≡ other = eqb-true session other test in
            let passes : is_of session y ≡ true = eq-eqb y.session session (same ∙ row_session) in
            rw (← here) (ap results_in (find-set (is_of session) due at y first within passes) ∙ now ∙ ap f (sym due_of_row))
        by_test false test =
            let old : is_of other (get_or due at row) ≡ false = ap (is_of other) (sym is) ∙ same_test row.session session other false row_session test in
            let new : is_of other y ≡ false = same_test y.session session other false (same ∙ row_session) test in
            ap results_in (find_past (is_of other) due at y row old new)

  pub total_with : (y : DueResults) → due_total (set due at y) + length row.results ≡ due_total due + length y.results
  total_with y = ap (λ (r : DueResults). due_total (set due at y) + length r.results) is ∙ sum_by-set (λ (r : DueResults). length r.results) due at y row within

module _ (due : List DueResults) (session : ℕ) (missing : position (is_of session) due ≡ None) where
  no_row : find (is_of session) due ≡ None
  no_row = found_none (is_of session) due missing

  pub none_due : due_for due session ≡ []
  unfolding due_for
  none_due = ap results_in no_row

  or_none : (o : Option DueResults) → option_or o None ≡ o
  or_none None = refl
  or_none (Some x) = refl

  pub row_added : (more : List FibResult) (other : ℕ) → due_for (due ++ record { session = session; results = more } ∷ []) other ≡ due_for due other ++ (if session == other then more else [])
  unfolding due_for
  row_added more other = by_test (session == other) refl
    where
      new : DueResults
      new = record { session = session; results = more }

      by_test : (b : Bool) → (session == other) ≡ b → due_for (due ++ new ∷ []) other ≡ due_for due other ++ (if b then more else [])
      by_test true test =
          let here : session ≡ other = eqb-true session other test in
          let only : find (is_of session) (new ∷ []) ≡ Some new = rw (eq-eqb session session refl) refl in
          let looked : find (is_of session) (due ++ new ∷ []) ≡ Some new = find-append (is_of session) due (new ∷ []) ∙ ap (λ o. option_or o (find (is_of session) (new ∷ []))) no_row ∙ only in
          rw (← here) (ap results_in looked ∙ sym (ap (λ l. l ++ more) none_due))
      by_test false test =
          let away : find (is_of other) (new ∷ []) ≡ None = rw test refl in
          let looked : find (is_of other) (due ++ new ∷ []) ≡ find (is_of other) due = find-append (is_of other) due (new ∷ []) ∙ ap (option_or (find (is_of other) due)) away ∙ or_none (find (is_of other) due) in
          ap results_in looked ∙ sym (append-nil (due_for due other))

pub appended_if : (b : Bool) (xs more : List FibResult) → (if b then xs ++ more else xs) ≡ xs ++ (if b then more else [])
appended_if true xs more = refl
appended_if false xs more = sym (append-nil xs)

pub none_to_collect : (due : List DueResults) (session : ℕ) → position (is_of session) due ≡ None → (other : ℕ) → due_for due other ≡ due_after_collect session other (due_for due other)
none_to_collect due session missing other = by_test (session == other) refl
  where
    by_test : (b : Bool) → (session == other) ≡ b → due_for due other ≡ (if b then drop 256 (due_for due other) else due_for due other)
    by_test true test =
        let here : session ≡ other = eqb-true session other test in
        let nothing : due_for due other ≡ [] = rw (← here) (none_due due session missing) in
        nothing ∙ sym (ap (drop 256) nothing)
    by_test false test = refl

abbrev pub is_not_of : ℕ → DueResults → Bool
is_not_of session row = not (row.session == session)

pub rows_out : (due : List DueResults) (session other : ℕ) → due_for (filter (is_not_of session) due) other ≡ due_after_forget session other (due_for due other)
unfolding due_for
rows_out due session other = by_test (session == other) refl
  where
    drops : session ≡ other → (row : DueResults) → is_of other row ≡ true → is_not_of session row ≡ false
    drops here row test = rw here (ap not test)

    keeps : (session == other) ≡ false → (row : DueResults) → is_of other row ≡ true → is_not_of session row ≡ true
    keeps away row test = by_same (row.session == session) refl
      where
        by_same : (b : Bool) → (row.session == session) ≡ b → not b ≡ true
        by_same true same = let both : (session == other) ≡ true = rw (← eqb-true row.session session same) test in cc
        by_same false same = refl

    by_test : (b : Bool) → (session == other) ≡ b → due_for (filter (is_not_of session) due) other ≡ (if b then [] else due_for due other)
    by_test true test = ap results_in (find_filter_out (is_of other) (is_not_of session) due (drops (eqb-true session other test)))
    by_test false test = ap results_in (find_filter_in (is_of other) (is_not_of session) due (keeps test))

pub total_out : (due : List DueResults) (session : ℕ) → due_total (filter (is_not_of session) due) ≤ due_total due
total_out due session =
    let both = sum_by-filter_both (is_of session) (is_not_of session) (λ row. refl) (λ (row : DueResults). length row.results) due in
    omega (arith, both)

-- what is due to one session is due
pub due_fits : (due : List DueResults) (session at : ℕ) (row : DueResults) → position (is_of session) due ≡ Some at → row ≡ get_or due at row → length row.results ≤ due_total due
due_fits due session at row found is =
    let emptied = total_with due session at row found is (record { session = session; results = [] }) in
    omega (arith, emptied)

pub total_less : (due : List DueResults) (session at : ℕ) (row : DueResults) → position (is_of session) due ≡ Some at → row ≡ get_or due at row → (y : DueResults) (n : ℕ) → y.results ≡ drop n row.results → due_total (set due at y) ≤ due_total due
total_less due session at row found is y n now =
    let all = total_with due session at row found is y in
    let short : length y.results ≤ length row.results = rw (now, length-drop n row.results) (omega arith) in
    omega (arith, all, short)
