-- When the words of a command line are a command, and what they ask for. A text is the list of its bytes.
use Rattle.std.specs.Prelude.{ℕ, Bool, false, true, ◌&&◌, not, ◌==◌, nat_le, if◌then◌else◌, List, [], ◌∷◌, take, drop, length, codes, Option, Some, None, is_none, option_map, option_and_then, unwrap_or}
use Rattle.std.specs.List.{list_any, list_all, find, count_by, slice_split, before_first, after_first}
use Rattle.std.specs.Str.{bytes_eq}
use Rattle.addr_text.specs.AddressGrammar.{digit, number_by}
use Rattle.aft_entries.specs.InstanceNames.{fault_of}
use Rattle.gribi_words.specs.declared.wish.Wish.{Wish}
use Rattle.gribi_words.specs.declared.wish.Wish.TheVariants.{Apply, Serve}

-- Options

-- a value isn't empty and doesn't begin with a dash
abbrev pub is_value : List ℕ → Bool
is_value [] = false
is_value (c ∷ text) = not (c == 45)

-- an option's name and value, from `--name` and the value
abbrev pub option_of : List ℕ → List ℕ → Option (List ℕ × List ℕ)
option_of word value = if bytes_eq (take 2 word) (codes "--") && is_value value then Some (drop 2 word, value) else None

abbrev pub is_equals : ℕ → Bool
is_equals c = c == 61

-- the same, from `--name=value`
abbrev pub joined_option : List ℕ → Option (List ℕ × List ℕ)
joined_option word = option_of (before_first is_equals word) (after_first is_equals word)

abbrev pub ahead : {X : Type 0} → Option X → Option (List X) → Option (List X)
ahead first others = option_and_then (λ x. option_map (λ xs. x ∷ xs) others) first

-- the options that words give, each as `--name value` or as `--name=value`, or None where the words are other ones
unfoldable pub options : List (List ℕ) → Option (List (List ℕ × List ℕ))
options [] = Some []
options (word ∷ []) = if list_any is_equals word then ahead (joined_option word) (Some []) else None
options (word ∷ next ∷ words) =
    if list_any is_equals word then ahead (joined_option word) (options (next ∷ words)) else ahead (option_of word next) (options words)

-- whether an option has this name
abbrev pub has_name : List ℕ → List ℕ × List ℕ → Bool
has_name name option = bytes_eq option.0 name

abbrev pub is_once : List (List ℕ × List ℕ) → List ℕ → Bool
is_once given name = nat_le (count_by (has_name name) given) 1

-- whether all options have one of these names, and each name stands at most once
abbrev pub are_of : List (List ℕ) → List (List ℕ × List ℕ) → Bool
are_of names given = list_all (λ option. list_any (λ name. has_name name option) names) given && list_all (is_once given) names

-- the value of an option, or None where it is absent
abbrev pub value_of : List ℕ → List (List ℕ × List ℕ) → Option (List ℕ)
value_of name given = option_map (λ option. option.1) (find (has_name name) given)

-- Values

-- one to seven digits, of which the first is a 0 only where it stands alone
abbrev pub is_plain : List ℕ → Bool
is_plain [] = false
is_plain (c ∷ others) = if length others == 0 then true else not (c == 48) && nat_le (length others) 6

abbrev pub within : ℕ → Option ℕ → Option ℕ
within most None = None
within most (Some number) = if nat_le 1 number && nat_le number most then Some number else None

-- a decimal number from 1 to `most`, without sign or needless zero
unfoldable pub decimal : ℕ → List ℕ → Option ℕ
decimal most text = if is_plain text then within most (number_by digit 10 text) else None

-- the number that an option says, which is `absent` where it is absent
abbrev pub number_in : ℕ → ℕ → Option (List ℕ) → Option ℕ
number_in most absent None = Some absent
number_in most absent (Some text) = decimal most text

-- the names of the network instances, parted by commas
abbrev pub names_in : List ℕ → Option (List (List ℕ))
names_in text = if is_none (fault_of (slice_split (λ c. c == 44) text)) then Some (slice_split (λ c. c == 44) text) else None

unfoldable pub instances_of : List (List ℕ × List ℕ) → Option (List (List ℕ))
instances_of given = names_in (unwrap_or (value_of (codes "instances") given) (codes "DEFAULT"))

-- Commands

abbrev pub apply_names : List (List ℕ)
apply_names = codes "instances" ∷ []

unfoldable pub apply_wish : List (List ℕ × List ℕ) → Option Wish
apply_wish given = if are_of apply_names given then option_map (λ names. Apply names) (instances_of given) else None

abbrev pub serve_names : List (List ℕ)
serve_names = codes "listen" ∷ codes "connections" ∷ codes "instances" ∷ codes "workers" ∷ codes "reactors" ∷ []

-- `serve` with what its options say, if each says something
abbrev pub served : Option (List ℕ) → Option ℕ → Option ℕ → Option ℕ → Option (List (List ℕ)) → Option Wish
served listen connections workers reactors instances =
    option_and_then (λ l. option_and_then (λ c. option_and_then (λ w. option_and_then (λ r. option_map (λ i. Serve l c i w r) instances) reactors) workers) connections) listen

abbrev pub serve_values : List (List ℕ × List ℕ) → Option Wish
serve_values given = served (value_of (codes "listen") given)
    (number_in 1000000 1000000 (value_of (codes "connections") given))
    (number_in 16 1 (value_of (codes "workers") given))
    (number_in 16 1 (value_of (codes "reactors") given))
    (instances_of given)

unfoldable pub serve_wish : List (List ℕ × List ℕ) → Option Wish
serve_wish given = if are_of serve_names given then serve_values given else None

abbrev pub wish_of : List ℕ → List (List ℕ × List ℕ) → Option Wish
wish_of command given =
    if bytes_eq command (codes "apply") then apply_wish given else if bytes_eq command (codes "serve") then serve_wish given else None

-- what words ask for: a command, then its options in any order, each at most once; or None where they are no command
unfoldable pub wish_in : List (List ℕ) → Option Wish
wish_in [] = None
wish_in (command ∷ words) = option_and_then (wish_of command) (options words)
