-- Sessions with their parameters, in the order in which they began.
use Rattle.std.specs.Prelude.{ℕ, Bool, not, ◌==◌, List, map, filter, find, filter_map, Option, option_and_then, if◌then◌else◌}
use Rattle.std.specs.List.{list_any}
use Rattle.table_model.specs.declared.params.Params.{Params}
use Rattle.session_params.specs.declared.SessionRecord.{SessionRecord}
use Rattle.table_model.specs.Sessions.{same_params}

abbrev pub is_of : ℕ → SessionRecord → Bool
is_of session session_record = session_record.session == session

abbrev pub is_entered : ℕ → List SessionRecord → Bool
is_entered session session_records = list_any (is_of session) session_records

-- the parameters that were accepted of the session
abbrev pub params_in : ℕ → List SessionRecord → Option Params
params_in session session_records = option_and_then (λ session_record. session_record.params) (find (is_of session) session_records)

-- the parameters of another session that differ from these
abbrev pub differing_in : ℕ → Params → List SessionRecord → Option Params
differing_in session params session_records =
    find (λ other. not (same_params params other))
    (filter_map (λ session_record. session_record.params) (filter (λ session_record. not (is_of session session_record)) session_records))

abbrev pub session_record_with : ℕ → Option Params → SessionRecord → SessionRecord
session_record_with session params session_record = if is_of session session_record then record { session = session; params = params } else session_record

abbrev pub with_params : ℕ → Option Params → List SessionRecord → List SessionRecord
with_params session params session_records = map (session_record_with session params) session_records
