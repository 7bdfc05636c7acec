-- The one ModifyResponse that a reply is owed (gRIBI): that parameters were set, the election id that stands, the result of an
-- operation, or results of the forwarding table.
use Rattle.std.specs.Prelude.{◌≡◌, ℕ, ℤ, Bool, true, false, List, [], ◌∷◌, ◌++◌, map, Option, Some, None}
use Rattle.schema_numbers.specs.Numbers.{Numbers, value_of}
use Rattle.schema_numbers.specs.declared.names.ValueName.TheVariants as value
use Rattle.aft_entries.specs.Operations.{reason_number}
use Rattle.aft_entries.specs.declared.operation.Reason.{Reason}
use Rattle.gribi_messages.specs.Response.{response_bytes}
use Rattle.gribi_messages.specs.declared.response.AftResult.{AftResult}
use Rattle.gribi_messages.specs.declared.response.ModifyResponse.{ModifyResponse}
use Rattle.table_model.specs.declared.reply.Reply.{Reply}
use Rattle.table_model.specs.declared.reply.Reply.TheVariants as reply
use Rattle.table_model.specs.declared.results.FibResult.{FibResult}

-- how many bytes a message has at most: what a client of gRPC takes where nothing else is set
abbrev pub MAX_MESSAGE_SIZE : ℕ
MAX_MESSAGE_SIZE = 4194304

abbrev pub response : List AftResult → Option ℕ → Option ℕ → ModifyResponse
response results params election = record { results = results; params = params; election = election }

abbrev pub result : ℕ → ℕ → ℤ → ℕ → AftResult
result id status now reason = record { id = id; status = status; timestamp = now; reason = reason }

-- a result of the forwarding table: programmed, or failed for a reason
abbrev pub fib_result : Numbers → FibResult → AftResult
fib_result n r = elim r.failed [
  | None ↦ result r.id (value_of n value.ResultStatusFibProgrammed) r.now 0
  | Some reason ↦ result r.id (value_of n value.ResultStatusFibFailed) r.now reason
]

abbrev pub collected : Numbers → List FibResult → Option ModifyResponse
collected n [] = None
collected n (r ∷ rs) = Some (response (map (fib_result n) (r ∷ rs)) None None)

abbrev pub params_set : Numbers → ModifyResponse
params_set n = response [] (Some (value_of n value.ParamsStatusOk)) None

abbrev pub announced : ℕ → ModifyResponse
announced highest = response [] None (Some highest)

abbrev pub one_result : AftResult → ModifyResponse
one_result r = response (r ∷ []) None None

-- the result of an operation: done, or failed for a reason
abbrev pub operation_result : Numbers → ℕ → ℤ → Option Reason → AftResult
operation_result n id now None = result id (value_of n value.ResultStatusRibProgrammed) now 0
operation_result n id now (Some reason) = result id (value_of n value.ResultStatusFailed) now (reason_number reason)

-- what is owed for a reply; an operation's result bears its id and its moment
abbrev pub response_for : Numbers → ℕ → ℤ → Reply → Option ModifyResponse
response_for n id now reply.ParamsSet = Some (params_set n)
response_for n id now (reply.Announced highest) = Some (announced highest)
response_for n id now reply.RibDone = Some (one_result (operation_result n id now None))
response_for n id now (reply.RibFailed reason) = Some (one_result (operation_result n id now (Some reason)))
response_for n id now (reply.Collected given outstanding) = collected n given
response_for n id now _ = None

-- an answer is owed, and its bytes were appended, or none is
abbrev pub Answers : Numbers → Bool → Option ModifyResponse → List ℕ → List ℕ → Type 0
Answers n has_response None before after = (has_response ≡ false) × (after ≡ before)
Answers n has_response (Some r) before after = (has_response ≡ true) × (after ≡ before ++ response_bytes n r)
