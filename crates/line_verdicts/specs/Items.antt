-- What the messages of a call give: items in their order, a count of entries, and the end. Each result is an item, then the answer
-- to the session parameters, then the election id. What no expect line can name gives none.
use Rattle.std.specs.Prelude.{ℕ, ◌==◌, ◌+◌, ◌-◌, ◌^◌, Bool, ◌||◌, if◌then◌else◌, List, [], ◌∷◌, ◌++◌, Option, Some, None, min}
use Rattle.std.specs.List.{flat_map}
use Rattle.std.specs.Option.{option_map_or}
use Rattle.schema_numbers.specs.Numbers.{Numbers, value_of}
use Rattle.schema_numbers.specs.declared.names.ValueName.TheVariants as value
use Rattle.gribi_messages.specs.declared.response.AftResult.{AftResult}
use Rattle.gribi_messages.specs.declared.response.ModifyResponse.{ModifyResponse}
use Rattle.line_verdicts.specs.declared.seen.SeenEnd.{SeenEnd}
use Rattle.line_verdicts.specs.declared.seen.Seen.{Seen}
use Rattle.line_verdicts.specs.declared.seen.Seen.TheVariants as seen

-- what is known of a call: the items that no line used, how many entries came, and the end
pub record Heard : Type 0 where
  pub unused : List Seen
  pub entries : ℕ
  pub ended : Option SeenEnd

unfoldable pub result_items : Numbers → AftResult → List Seen
result_items n r =
    if r.status == value_of n value.ResultStatusRibProgrammed then seen.RibProgrammed r.id ∷ []
    else if r.status == value_of n value.ResultStatusFibProgrammed then seen.FibProgrammed r.id ∷ []
    else if r.status == value_of n value.ResultStatusFailed then seen.Failed r.id r.reason ∷ []
    else if r.status == value_of n value.ResultStatusFibFailed then seen.FibFailed r.id r.reason ∷ []
    else []

abbrev pub params_items : Numbers → ℕ → List Seen
params_items n status = if status == value_of n value.ParamsStatusOk then seen.ParamsOk ∷ [] else []

abbrev pub election_items : ℕ → List Seen
election_items id = seen.Elected id ∷ []

unfoldable pub modify_items : Numbers → ModifyResponse → List Seen
modify_items n r =
    flat_map (result_items n) r.results ++ option_map_or (params_items n) r.params [] ++ option_map_or election_items r.election []

abbrev pub flush_items : Numbers → ℕ → List Seen
flush_items n result =
    if result == value_of n value.FlushResultOk then seen.FlushedOk ∷ []
    else if result == value_of n value.FlushResultNonZeroReferenceRemain then seen.FlushedRemain ∷ []
    else []

-- a count stops at the last number of 64 bits
abbrev pub counted : ℕ → ℕ → ℕ
counted before more = min (before + more) (2 ^ 64 - 1)

abbrev pub with_items : List Seen → Heard → Heard
with_items items h = record { unused = h.unused ++ items; entries = h.entries; ended = h.ended }

abbrev pub with_entries : ℕ → Heard → Heard
with_entries more h = record { unused = h.unused; entries = counted h.entries more; ended = h.ended }

-- the first end stays
abbrev pub first_end : SeenEnd → Option SeenEnd → Option SeenEnd
first_end ending None = Some ending
first_end ending (Some earlier) = Some earlier

abbrev pub with_end : SeenEnd → Heard → Heard
with_end ending h = record { unused = h.unused; entries = h.entries; ended = first_end ending h.ended }

-- the three counts of results
abbrev pub is_rib : Numbers → AftResult → Bool
is_rib n r = r.status == value_of n value.ResultStatusRibProgrammed

abbrev pub is_fib : Numbers → AftResult → Bool
is_fib n r = r.status == value_of n value.ResultStatusFibProgrammed

abbrev pub is_failed : Numbers → AftResult → Bool
is_failed n r = r.status == value_of n value.ResultStatusFailed || r.status == value_of n value.ResultStatusFibFailed
