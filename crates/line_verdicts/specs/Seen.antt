-- How an item stands on an expect line: the words behind the call's name.
use Rattle.std.specs.Prelude.{ℕ, ◌==◌, Bool, true, false, ◌&&◌, if◌then◌else◌, List, [], ◌∷◌, Option, Some, None, codes}
use Rattle.std.specs.Str.{bytes_eq}
use Rattle.std.specs.Fmt.{decimal}
use Rattle.grpc_heads.specs.declared.status.ModifyReason.{ModifyReason}
use Rattle.grpc_heads.specs.declared.status.ModifyReason.TheVariants as reason
use Rattle.line_verdicts.specs.declared.seen.Seen.{Seen}
use Rattle.line_verdicts.specs.declared.seen.Seen.TheVariants as seen

-- the names of the status codes of gRPC; a code above 16 is none
unfoldable pub later_status_name : ℕ → List ℕ
later_status_name code =
    if code == 8 then codes "RESOURCE_EXHAUSTED" else if code == 9 then codes "FAILED_PRECONDITION"
    else if code == 10 then codes "ABORTED" else if code == 11 then codes "OUT_OF_RANGE"
    else if code == 12 then codes "UNIMPLEMENTED" else if code == 13 then codes "INTERNAL"
    else if code == 14 then codes "UNAVAILABLE" else if code == 15 then codes "DATA_LOSS"
    else if code == 16 then codes "UNAUTHENTICATED" else codes "UNKNOWN"

unfoldable pub status_name : ℕ → List ℕ
status_name code =
    if code == 0 then codes "OK" else if code == 1 then codes "CANCELLED"
    else if code == 2 then codes "UNKNOWN" else if code == 3 then codes "INVALID_ARGUMENT"
    else if code == 4 then codes "DEADLINE_EXCEEDED" else if code == 5 then codes "NOT_FOUND"
    else if code == 6 then codes "ALREADY_EXISTS" else if code == 7 then codes "PERMISSION_DENIED"
    else later_status_name code

abbrev pub reason_name : ModifyReason → List ℕ
reason_name reason.UnsupportedParams = codes "UNSUPPORTED_PARAMS"
reason_name reason.ModifyNotAllowed = codes "MODIFY_NOT_ALLOWED"
reason_name reason.ParamsDiffer = codes "PARAMS_DIFFER_FROM_OTHER_CLIENTS"
reason_name reason.ElectionIdInAllPrimary = codes "ELECTION_ID_IN_ALL_PRIMARY"

-- an end without its reason
abbrev pub end_words : ℕ → List (List ℕ)
end_words code = codes "end" ∷ status_name code ∷ []

abbrev pub whole_end_words : ℕ → Option ModifyReason → List (List ℕ)
whole_end_words code None = end_words code
whole_end_words code (Some why) = codes "end" ∷ status_name code ∷ reason_name why ∷ []

abbrev pub seen_words : Seen → List (List ℕ)
seen_words seen.ParamsOk = codes "params-ok" ∷ []
seen_words (seen.Elected id) = codes "elected" ∷ decimal id ∷ []
seen_words (seen.RibProgrammed id) = decimal id ∷ codes "rib-programmed" ∷ []
seen_words (seen.FibProgrammed id) = decimal id ∷ codes "fib-programmed" ∷ []
seen_words (seen.Failed id why) = decimal id ∷ codes "failed" ∷ decimal why ∷ []
seen_words (seen.FibFailed id why) = decimal id ∷ codes "fib-failed" ∷ decimal why ∷ []
seen_words (seen.Entries count) = codes "entries" ∷ decimal count ∷ []
seen_words seen.FlushedOk = codes "flushed" ∷ codes "ok" ∷ []
seen_words seen.FlushedRemain = codes "flushed" ∷ codes "remain" ∷ []
seen_words (seen.End ending) = whole_end_words ending.code ending.reason

-- whether words are these
abbrev pub same_words : List (List ℕ) → List (List ℕ) → Bool
same_words [] [] = true
same_words (word ∷ words) (other ∷ others) = bytes_eq word other && same_words words others
same_words words others = false
