-- What holds of every Huffman string.
use Rattle.std.specs.Prelude.{◌≡◌, ℕ, List, Result, Ok, Err}
use Rattle.hpack_huffman.specs.declared.decode.HuffFault.{HuffFault}
use Rattle.hpack_huffman.specs.Code.{IsHuffman}
use Rattle.hpack_huffman.specs.Faults.{IsText, Ends}

-- what the bytes are: the string of a text, or this is at fault
abbrev pub Reading : List ℕ → Result (List ℕ) HuffFault → Type 0
Reading bytes (Ok text) = IsText text × IsHuffman bytes text
Reading bytes (Err fault) = Ends bytes fault

-- bytes are the string of one text, or have one fault
abbrev pub HaveOneReading : Type 0
HaveOneReading = (bytes : List ℕ) (r s : Result (List ℕ) HuffFault) → Reading bytes r → Reading bytes s → r ≡ s

-- one text has one string
abbrev pub HaveOneString : Type 0
HaveOneString = (text bytes other : List ℕ) → IsText bytes → IsText other → IsHuffman bytes text → IsHuffman other text → bytes ≡ other
