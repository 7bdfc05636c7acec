-- How a request for parameters ends.
use Rattle.std.specs.Prelude.{ℕ, List, Option, Some, None, is_some, if◌then◌else◌}
use Rattle.table_model.specs.declared.params.Params.{Params}
use Rattle.session_params.specs.declared.SessionRecord.{SessionRecord}
use Rattle.session_params.specs.declared.SetEnd.{SetEnd}
use Rattle.session_params.specs.declared.SetEnd.TheVariants.{Set, Unsupported, NotAllowed, Differs}
use Rattle.session_params.specs.Rows.{params_in, differing_in, with_params}

abbrev pub end_by : Option Params → SetEnd
end_by None = Set
end_by (Some other) = Differs other

abbrev pub set_end : List SessionRecord → ℕ → Option Params → SetEnd
set_end session_records session None = Unsupported
set_end session_records session (Some params) =
    if is_some (params_in session session_records) then NotAllowed else end_by (differing_in session params session_records)

abbrev pub session_records_after : SetEnd → List SessionRecord → ℕ → Option Params → List SessionRecord
session_records_after Set session_records session params = with_params session params session_records
session_records_after _ session_records session params = session_records
