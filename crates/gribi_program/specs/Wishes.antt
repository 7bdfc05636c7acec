-- Which of its arguments the program leaves alone, and what it writes for words that are no command.
use Rattle.std.specs.Prelude.{ℕ, Bool, true, false, List, codes, Option, Some}
use Rattle.gribi_words.specs.declared.wish.Wish.{Wish}
use Rattle.gribi_words.specs.declared.wish.Wish.TheVariants.{Apply, Serve}

-- `apply` alone reads the input
abbrev pub reads_input : Option Wish → Bool
reads_input (Some (Apply instances)) = true
reads_input other = false

-- `serve` alone uses the acceptor
abbrev pub uses_acceptor : Option Wish → Bool
uses_acceptor (Some (Serve listen connections instances workers reactors)) = true
uses_acceptor other = false

abbrev pub usage_line : List ℕ
usage_line = codes "usage: gribi apply | serve\n"
