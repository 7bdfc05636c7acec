-- The next response of a Get: what it takes of the rows, and what its step gets.
use Rattle.std.specs.Prelude.{◌≡◌, ◌<◌, true, false, is_some, length, List, ◌++◌, Option, Some, None}
use Rattle.aft_entries.specs.declared.operation.Row.{Row}
use Rattle.call_answers.specs.declared.orders.Setting.{Setting}
use Rattle.call_orders.specs.Owed.{has_end, selected_items}
use Rattle.call_orders.specs.Calls.{next_items, waiting_behind}
use Rattle.session_engine.specs.declared.known_rows.Given.{Given}
use Rattle.session_engine.specs.declared.known_rows.Given.TheVariants.{Part, Last, OutOfMemory}
use Rattle.session_engine.specs.declared.open_calls.OpenCall.{OpenCall}
use Rattle.session_engine.specs.declared.open_calls.OpenCall.TheVariants as opened
use Rattle.session_engine.specs.declared.step.Step.{Step}
use Rattle.session_engine.specs.Stands.{items_in}

-- of these rows: the step got the next items, and the others are left; where memory was wanting it got none
abbrev pub GivesNext : Setting → Given → List Row → List Row → Step → Step → Type 0
GivesNext s Part rows left before after =
    (length left < length rows) × (items_in after ≡ items_in before ++ next_items (selected_items s rows))
    × (has_end (next_items (selected_items s rows)) ≡ false) × (waiting_behind (selected_items s rows) ≡ selected_items s left) × (after.end ≡ None)
GivesNext s Last rows left before after =
    (items_in after ≡ items_in before ++ next_items (selected_items s rows)) × (has_end (next_items (selected_items s rows)) ≡ true)
    × (is_some after.end ≡ true)
GivesNext s OutOfMemory rows left before after = (after.end ≡ None) × (items_in after ≡ items_in before)

-- of an open call, which is a Get whose rows were selected
abbrev pub GivesOf : Setting → Given → Option OpenCall → Option OpenCall → Step → Step → Type 0
GivesOf s how (Some (opened.Responds rows)) now before after =
    (left : List Row) × (now ≡ Some (opened.Responds left)) × GivesNext s how rows left before after
GivesOf s how other now before after = ⊥
