-- The rows of the script language: which words a line may have. A word is the list of its bytes.
use Rattle.std.specs.Prelude.{ℕ, ◌+◌, ◌-◌, ◌*◌, ◌^◌, ◌==◌, nat_le, nat_lt, Bool, ◌&&◌, ◌||◌, not, if◌then◌else◌, List, [], ◌∷◌, fold, take, drop, length, slice_index_or, codes, Option, Some, None, Result, Ok, Err}
use Rattle.std.specs.List.{list_any, position}
use Rattle.std.specs.Str.{bytes_eq}
use Rattle.script_lang.specs.Words.{ended_by}
use Rattle.script_lang.specs.declared.fit.Fit.{Fit}
use Rattle.script_lang.specs.declared.fit.Fit.TheVariants.{Fits, TooGreat, Unlike}
use Rattle.script_lang.specs.declared.line.Row.{Row}
use Rattle.script_lang.specs.declared.line.Row.TheVariants as row
use Rattle.script_lang.specs.declared.fault.ScriptFaultKind.{ScriptFaultKind}
use Rattle.script_lang.specs.declared.fault.ScriptFaultKind.TheVariants.{UnknownWord, BadShape, BadNumber}

-- Fitting

abbrev pub both : Fit → Fit → Fit
both Fits second = second
both TooGreat Unlike = Unlike
both TooGreat Fits = TooGreat
both TooGreat TooGreat = TooGreat
both Unlike second = Unlike

abbrev pub fits_if : Bool → Fit
fits_if holds = if holds then Fits else Unlike

abbrev pub is : List ℕ → List ℕ → Bool
is text word = bytes_eq word text

-- Numbers

abbrev pub is_digit : ℕ → Bool
is_digit c = nat_le 48 c && nat_le c 57

-- decimal digits without needless zero
abbrev pub is_number : List ℕ → Bool
is_number word = not (list_any (λ c. not (is_digit c)) word) && not (length word == 0) && (length word == 1 || not (slice_index_or word 0 0 == 48))

abbrev pub value : List ℕ → ℕ
value digits = fold (λ number c. number * 10 + (c - 48)) 0 digits

abbrev pub below : ℕ → ℕ → Option ℕ
below limit number = if nat_lt number limit then Some number else None

-- a number, which may be past its limit
unfoldable pub number : ℕ → List ℕ → Fit
number limit word = if is_number word then (if nat_lt (value word) limit then Fits else TooGreat) else Unlike

-- Words of entries

-- a text of at least one byte
abbrev pub some_text : List ℕ → Fit
some_text word = fits_if (nat_lt 0 (length word))

abbrev pub halves_at : (List ℕ → Fit) → List ℕ → Option ℕ → Fit
halves_at test word None = Unlike
halves_at test word (Some place) = both (test (take place word)) (test (drop (place + 1) word))

-- two parts, parted by the first such byte
abbrev pub halves : ℕ → (List ℕ → Fit) → List ℕ → Fit
halves mark test word = halves_at test word (position (λ c. c == mark) word)

abbrev pub each : (List ℕ → Fit) → List (List ℕ) → Fit
each test [] = Fits
each test (word ∷ words) = both (test word) (each test words)

abbrev pub ends_in_piece : List ℕ → Bool
ends_in_piece word = not (length word == 0) && not (slice_index_or word (length word - 1) 0 == 44)

-- one or more parts, parted by commas
unfoldable pub listed : (List ℕ → Fit) → List ℕ → Fit
listed test word = if ends_in_piece word then each test (ended_by 44 word) else Unlike

-- index and weight of a member
abbrev pub member : List ℕ → Fit
member word = halves 58 (number (2 ^ 64)) word

-- what stands behind the key in a word that begins with it
abbrev pub behind_key : List ℕ → List ℕ → Option (List ℕ)
behind_key key word = if bytes_eq (take (length key) word) key then Some (drop (length key) word) else None

-- what the next word gives for a key
abbrev pub option_at : List ℕ → List (List ℕ) → Option (List ℕ)
option_at key [] = None
option_at key (word ∷ words) = behind_key key word

-- the words without the next one, where it begins with the key
abbrev pub rest_at : List ℕ → List (List ℕ) → List (List ℕ)
rest_at key [] = []
rest_at key (word ∷ words) = if bytes_eq (take (length key) word) key then words else word ∷ words

abbrev pub test_at : (List ℕ → Fit) → Option (List ℕ) → Fit
test_at test None = Fits
test_at test (Some text) = test text

abbrev pub must : (List ℕ → Fit) → Option (List ℕ) → Fit
must test None = Unlike
must test (Some text) = test text

-- a word that may stand before the others: the key, and behind it what is tested
abbrev pub option : List ℕ → (List ℕ → Fit) → (List (List ℕ) → Fit) → List (List ℕ) → Fit
option key test behind words = both (test_at test (option_at key words)) (behind (rest_at key words))

-- the same, where the word must stand
abbrev pub required : List ℕ → (List ℕ → Fit) → (List (List ℕ) → Fit) → List (List ℕ) → Fit
required key test behind words = both (must test (option_at key words)) (behind (rest_at key words))

-- Operations

abbrev pub elected_by : List ℕ → Fit
elected_by word = if is (codes "none") word then Fits else number (2 ^ 128) word

-- `by X`, or nothing
abbrev pub by_form : List (List ℕ) → Fit
by_form [] = Fits
by_form (first ∷ id ∷ []) = both (fits_if (is (codes "by") first)) (elected_by id)
by_form other = Unlike

-- what stands last at a next hop: its subinterface, the ends of a tunnel, pushed labels
unfoldable pub hop_end : List (List ℕ) → Fit
hop_end words =
    option (codes "subinterface=") (number (2 ^ 64)) (option (codes "ipip=") (halves 44 some_text)
    (option (codes "push=") (listed (number (2 ^ 64))) by_form)) words

unfoldable pub hop_form : List (List ℕ) → Fit
hop_form words =
    option (codes "ip=") some_text (option (codes "mac=") some_text (option (codes "interface=") some_text hop_end)) words

unfoldable pub group_form : List (List ℕ) → Fit
group_form words = option (codes "hops=") (listed member) (option (codes "backup=") (number (2 ^ 64)) by_form) words

unfoldable pub route_form : List (List ℕ) → Fit
route_form words = required (codes "group=") (number (2 ^ 64)) (option (codes "group-instance=") some_text by_form) words

-- a kind of entry, and its key
abbrev pub key_form : List ℕ → List ℕ → Fit
key_form kind key =
    if is (codes "next-hop") kind || is (codes "group") kind || is (codes "mpls") kind then number (2 ^ 64) key
    else fits_if (is (codes "ipv4") kind || is (codes "ipv6") kind)

abbrev pub payload_form : List ℕ → List (List ℕ) → Fit
payload_form kind words =
    if is (codes "next-hop") kind then hop_form words else if is (codes "group") kind then group_form words else route_form words

-- an added or replaced entry, behind the operation's word: call, id, instance, kind, key, and the payload
unfoldable pub put_form : List (List ℕ) → Fit
put_form (call ∷ id ∷ instance ∷ kind ∷ key ∷ words) = both (number (2 ^ 64) id) (both (key_form kind key) (payload_form kind words))
put_form other = Unlike

-- a deleted one
unfoldable pub delete_form : List (List ℕ) → Fit
delete_form (call ∷ id ∷ instance ∷ kind ∷ key ∷ words) = both (number (2 ^ 64) id) (both (key_form kind key) (by_form words))
delete_form other = Unlike

-- Other rows, behind their first word

abbrev pub call_form : List (List ℕ) → Fit
call_form (call ∷ []) = Fits
call_form other = Unlike

abbrev pub is_params : List ℕ → List ℕ → List ℕ → Bool
is_params redundancy persistence ack =
    (is (codes "all-primary") redundancy || is (codes "single-primary") redundancy)
    && (is (codes "delete") persistence || is (codes "preserve") persistence)
    && (is (codes "rib-ack") ack || is (codes "rib-and-fib-ack") ack)

abbrev pub params_form : List (List ℕ) → Fit
params_form (call ∷ redundancy ∷ persistence ∷ ack ∷ []) = fits_if (is_params redundancy persistence ack)
params_form other = Unlike

abbrev pub elect_form : List (List ℕ) → Fit
elect_form (call ∷ id ∷ []) = number (2 ^ 128) id
elect_form other = Unlike

abbrev pub is_get_kind : List ℕ → Bool
is_get_kind word =
    is (codes "all") word || is (codes "ipv4") word || is (codes "ipv6") word || is (codes "mpls") word
    || is (codes "next-hop") word || is (codes "group") word

abbrev pub get_form : List (List ℕ) → Fit
get_form (call ∷ instance ∷ kind ∷ []) = fits_if (is_get_kind kind)
get_form other = Unlike

abbrev pub flush_form : List (List ℕ) → Fit
flush_form (call ∷ way ∷ instance ∷ []) = fits_if (is (codes "override") way)
flush_form (call ∷ way ∷ id ∷ instance ∷ []) = both (fits_if (is (codes "id") way)) (number (2 ^ 128) id)
flush_form other = Unlike

-- What is expected

-- numbers 0 to 7
abbrev pub is_first_status : List ℕ → Bool
is_first_status word =
    is (codes "OK") word || is (codes "CANCELLED") word || is (codes "UNKNOWN") word || is (codes "INVALID_ARGUMENT") word
    || is (codes "DEADLINE_EXCEEDED") word || is (codes "NOT_FOUND") word || is (codes "ALREADY_EXISTS") word
    || is (codes "PERMISSION_DENIED") word

-- numbers 8 to 16
abbrev pub is_later_status : List ℕ → Bool
is_later_status word =
    is (codes "RESOURCE_EXHAUSTED") word || is (codes "FAILED_PRECONDITION") word || is (codes "ABORTED") word
    || is (codes "OUT_OF_RANGE") word || is (codes "UNIMPLEMENTED") word || is (codes "INTERNAL") word
    || is (codes "UNAVAILABLE") word || is (codes "DATA_LOSS") word || is (codes "UNAUTHENTICATED") word

abbrev pub is_status : List ℕ → Bool
is_status word = is_first_status word || is_later_status word

abbrev pub is_reason : List ℕ → Bool
is_reason word =
    is (codes "UNSUPPORTED_PARAMS") word || is (codes "MODIFY_NOT_ALLOWED") word
    || is (codes "PARAMS_DIFFER_FROM_OTHER_CLIENTS") word || is (codes "ELECTION_ID_IN_ALL_PRIMARY") word

abbrev pub is_success : List ℕ → Bool
is_success word = is (codes "rib-programmed") word || is (codes "fib-programmed") word

abbrev pub is_failure : List ℕ → Bool
is_failure word = is (codes "failed") word || is (codes "fib-failed") word

abbrev pub is_flush_result : List ℕ → Bool
is_flush_result word = is (codes "ok") word || is (codes "remain") word

abbrev pub is_end : List ℕ → List ℕ → Bool
is_end status reason = is_status status && is_reason reason

abbrev pub judged : Row → Fit → Result Row ScriptFaultKind
judged row Fits = Ok row
judged row TooGreat = Err BadNumber
judged row Unlike = Err BadShape

abbrev pub expect_one : List ℕ → Result Row ScriptFaultKind
expect_one item = judged row.ExpectParamsOk (fits_if (is (codes "params-ok") item))

unfoldable pub expect_two : List ℕ → List ℕ → Result Row ScriptFaultKind
expect_two item what =
    if is (codes "elected") item then judged row.ExpectElected (number (2 ^ 128) what)
    else if is (codes "entries") item then judged row.ExpectEntries (number (2 ^ 64) what)
    else if is (codes "flushed") item then judged row.ExpectFlushed (fits_if (is_flush_result what))
    else if is (codes "end") item then judged row.ExpectEnd (fits_if (is_status what))
    else judged row.ExpectResult (both (number (2 ^ 64) item) (fits_if (is_success what)))

unfoldable pub expect_three : List ℕ → List ℕ → List ℕ → Result Row ScriptFaultKind
expect_three item what reason =
    if is (codes "end") item then judged row.ExpectEnd (fits_if (is_end what reason))
    else judged row.ExpectResult (both (number (2 ^ 64) item) (both (fits_if (is_failure what)) (number (2 ^ 64) reason)))

abbrev pub expect_row : List (List ℕ) → Result Row ScriptFaultKind
expect_row (call ∷ item ∷ []) = expect_one item
expect_row (call ∷ item ∷ what ∷ []) = expect_two item what
expect_row (call ∷ item ∷ what ∷ reason ∷ []) = expect_three item what reason
expect_row other = Err BadShape

-- The row that words have, whose first word tells which rows can be meant

unfoldable pub row_behind : List ℕ → List (List ℕ) → Result Row ScriptFaultKind
row_behind first words =
    if is (codes "modify") first then judged row.Modify (call_form words)
    else if is (codes "params") first then judged row.Params (params_form words)
    else if is (codes "elect") first then judged row.Elect (elect_form words)
    else if is (codes "add") first || is (codes "replace") first then judged row.Operate (put_form words)
    else if is (codes "delete") first then judged row.Operate (delete_form words)
    else if is (codes "finish") first || is (codes "drop") first then judged row.Close (call_form words)
    else if is (codes "get") first then judged row.Get (get_form words)
    else if is (codes "flush") first then judged row.Flush (flush_form words)
    else if is (codes "expect") first then expect_row words
    else Err UnknownWord

abbrev pub row_of : List (List ℕ) → Result Row ScriptFaultKind
row_of [] = Err UnknownWord
row_of (first ∷ words) = row_behind first words
