-- The numbers that words ask for lie in their ranges.
use Rattle.std.proofs.Common.{◌≡◌, ℕ, ◌≤◌, List, [], ◌∷◌, Bool, true, false, ◌&&◌, nat_le, if◌then◌else◌, Option, Some, None, codes, refl, ap, ◌∙◌, arith}
use Rattle.std.proofs.lemmas.Bool.Decides.{nat_tests}
use Rattle.std.specs.Option.{option_map, option_and_then}
use Rattle.std.specs.Str.{bytes_eq}
use Rattle.addr_text.specs.AddressGrammar.{digit, number_by}
use Rattle.gribi_words.specs.Grammar.{apply_names, apply_wish, are_of, decimal, instances_of, is_plain, number_in, options, serve_names, serve_values, serve_wish, served, value_of, wish_in, wish_of, within}
use Rattle.gribi_words.specs.declared.wish.Wish.{Wish}
use Rattle.gribi_words.specs.declared.wish.Wish.TheVariants.{Apply, Serve}

-- a number that lies in the range of an option
abbrev pub IsWithin : ℕ → ℕ → Type 0
IsWithin most n = (1 ≤ n) × (n ≤ most)

tested : (most number n : ℕ) (b : Bool) → b ≡ (nat_le 1 number && nat_le number most) → (if b then Some number else None) ≡ Some n → IsWithin most n
tested most number n true e said = grind (arith, nat_tests)
tested most number n false e said = absurd cc

within_range : (most : ℕ) (o : Option ℕ) (n : ℕ) → within most o ≡ Some n → IsWithin most n
within_range most None n said = absurd cc
within_range most (Some number) n said = tested most number n (nat_le 1 number && nat_le number most) refl said

plain_range : (most : ℕ) (text : List ℕ) (n : ℕ) (b : Bool) → (if b then within most (number_by digit 10 text) else None) ≡ Some n → IsWithin most n
plain_range most text n true said = within_range most (number_by digit 10 text) n said
plain_range most text n false said = absurd cc

decimal_range : (most : ℕ) (text : List ℕ) (n : ℕ) → decimal most text ≡ Some n → IsWithin most n
unfolding decimal
decimal_range most text n said = plain_range most text n (is_plain text) said

number_range : (most absent : ℕ) (o : Option (List ℕ)) (n : ℕ) → IsWithin most absent → number_in most absent o ≡ Some n → IsWithin most n
number_range most absent None n range said = grind (arith)
number_range most absent (Some text) n range said = decimal_range most text n said

-- what `serve` was said to ask for
served_numbers : (l : Option (List ℕ)) (c w r : Option ℕ) (i : Option (List (List ℕ))) (listen : List ℕ) (connections workers reactors : ℕ) (names : List (List ℕ))
    → served l c w r i ≡ Some (Serve listen connections names workers reactors) → (c ≡ Some connections) × (w ≡ Some workers) × (r ≡ Some reactors)
served_numbers None c w r i listen connections workers reactors names said = absurd cc
served_numbers (Some l) None w r i listen connections workers reactors names said = absurd cc
served_numbers (Some l) (Some c) None r i listen connections workers reactors names said = absurd cc
served_numbers (Some l) (Some c) (Some w) None i listen connections workers reactors names said = absurd cc
served_numbers (Some l) (Some c) (Some w) (Some r) None listen connections workers reactors names said = absurd cc
served_numbers (Some l) (Some c) (Some w) (Some r) (Some i) listen connections workers reactors names said = (cc, cc, cc)

-- the ranges of what `serve` asks for
abbrev pub AreWithin : ℕ → ℕ → ℕ → Type 0
AreWithin connections workers reactors = IsWithin 1000000 connections × IsWithin 16 workers × IsWithin 16 reactors

values_range : (given : List (List ℕ × List ℕ)) (listen : List ℕ) (connections workers reactors : ℕ) (names : List (List ℕ))
    → serve_values given ≡ Some (Serve listen connections names workers reactors) → AreWithin connections workers reactors
values_range given listen connections workers reactors names said =
    let c = value_of (codes "connections") given in
    let w = value_of (codes "workers") given in
    let r = value_of (codes "reactors") given in
    let parts = served_numbers (value_of (codes "listen") given) (number_in 1000000 1000000 c) (number_in 16 1 w) (number_in 16 1 r) (instances_of given)
    listen connections workers reactors names said in (
      number_range 1000000 1000000 c connections (omega arith, omega arith) parts.0,
      number_range 16 1 w workers (omega arith, omega arith) parts.1,
      number_range 16 1 r reactors (omega arith, omega arith) parts.2,
    )

serve_range_if : (given : List (List ℕ × List ℕ)) (b : Bool) (listen : List ℕ) (connections workers reactors : ℕ) (names : List (List ℕ))
    → (if b then serve_values given else None) ≡ Some (Serve listen connections names workers reactors) → AreWithin connections workers reactors
serve_range_if given true listen connections workers reactors names said = values_range given listen connections workers reactors names said
serve_range_if given false listen connections workers reactors names said = absurd cc

serve_range : (given : List (List ℕ × List ℕ)) (listen : List ℕ) (connections workers reactors : ℕ) (names : List (List ℕ))
    → serve_wish given ≡ Some (Serve listen connections names workers reactors) → AreWithin connections workers reactors
unfolding serve_wish
serve_range given listen connections workers reactors names said = serve_range_if given (are_of serve_names given) listen connections workers reactors names said

applied : (o : Option (List (List ℕ))) (b : Bool) (listen : List ℕ) (connections workers reactors : ℕ) (names : List (List ℕ))
    → (if b then option_map (λ names. Apply names) o else None) ≡ Some (Serve listen connections names workers reactors) → ⊥
applied None true listen connections workers reactors names said = absurd cc
applied (Some i) true listen connections workers reactors names said = absurd cc
applied o false listen connections workers reactors names said = absurd cc

not_applied : (given : List (List ℕ × List ℕ)) (listen : List ℕ) (connections workers reactors : ℕ) (names : List (List ℕ))
    → apply_wish given ≡ Some (Serve listen connections names workers reactors) → ⊥
unfolding apply_wish
not_applied given listen connections workers reactors names said = applied (instances_of given) (are_of apply_names given) listen connections workers reactors names said

command_range : (given : List (List ℕ × List ℕ)) (a b : Bool) (listen : List ℕ) (connections workers reactors : ℕ) (names : List (List ℕ))
    → (if a then apply_wish given else if b then serve_wish given else None) ≡ Some (Serve listen connections names workers reactors) → AreWithin connections workers reactors
command_range given true b listen connections workers reactors names said = absurd (not_applied given listen connections workers reactors names said)
command_range given false true listen connections workers reactors names said = serve_range given listen connections workers reactors names said
command_range given false false listen connections workers reactors names said = absurd cc

given_range : (command : List ℕ) (o : Option (List (List ℕ × List ℕ))) (listen : List ℕ) (connections workers reactors : ℕ) (names : List (List ℕ))
    → option_and_then (wish_of command) o ≡ Some (Serve listen connections names workers reactors) → AreWithin connections workers reactors
given_range command None listen connections workers reactors names said = absurd cc
given_range command (Some given) listen connections workers reactors names said =
    command_range given (bytes_eq command (codes "apply")) (bytes_eq command (codes "serve")) listen connections workers reactors names said

-- words that ask for `serve` ask for 1 to 1,000,000 links, 1 to 16 workers and 1 to 16 reactors
pub numbers_are_within : (words : List (List ℕ)) (listen : List ℕ) (connections workers reactors : ℕ) (names : List (List ℕ))
    → wish_in words ≡ Some (Serve listen connections names workers reactors) → AreWithin connections workers reactors
unfolding wish_in
numbers_are_within [] listen connections workers reactors names said = absurd cc
numbers_are_within (command ∷ words) listen connections workers reactors names said = given_range command (options words) listen connections workers reactors names said

pub wish_numbers_are_within : (words : List (List ℕ)) (wish : Wish) (listen : List ℕ) (connections : ℕ) (names : List (List ℕ)) (workers reactors : ℕ)
    → wish_in words ≡ Some wish → wish ≡ Serve listen connections names workers reactors → AreWithin connections workers reactors
wish_numbers_are_within words wish listen connections names workers reactors said is =
    numbers_are_within words listen connections workers reactors names (said ∙ ap (λ (w : Wish). Some w) is)
