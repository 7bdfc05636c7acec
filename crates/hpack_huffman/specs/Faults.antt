-- What stands behind the last whole code of a string.
use Rattle.std.specs.Prelude.{◌≡◌, ℕ, ◌<◌, List, ◌++◌, replicate, All, Result, Ok, Err, IsOk}
use Rattle.hpack_huffman.specs.declared.decode.HuffFault.{HuffFault}
use Rattle.hpack_huffman.specs.declared.decode.HuffFault.TheVariants.{BadPadding, EosInside}
use Rattle.hpack_huffman.specs.Code.{code_of, codes_of, bits_of, IsHuffman}

abbrev pub IsText : List ℕ → Type 0
IsText text = All (λ symbol. symbol < 256) text

-- no symbol's whole code stands in front
abbrev pub HasNoCode : List ℕ → Type 0
HasNoCode left = (symbol : ℕ) → symbol < 256 → (more : List ℕ) → left ≡ code_of symbol ++ more → ⊥

-- fewer than eight one bits, and nothing else
abbrev pub IsPadding : List ℕ → Type 0
IsPadding left = (n : ℕ) × (n < 8) × (left ≡ replicate n 1)

-- thirty one bits stand in front
abbrev pub BeginsWithEnd : List ℕ → Type 0
BeginsWithEnd left = (more : List ℕ) × (left ≡ replicate 30 1 ++ more)

-- what is answered of the bits that are left
abbrev pub Judged : Result (Unit {0}) HuffFault → List ℕ → Type 0
Judged (Ok u) left = IsPadding left
Judged (Err BadPadding) left = (IsPadding left → ⊥) × (BeginsWithEnd left → ⊥)
Judged (Err EosInside) left = BeginsWithEnd left

-- the bytes are the codes of the text, and then bits without a whole code
pub record Splits (bytes text left : List ℕ) : Type 0 where
  pub symbols : IsText text
  pub bits : bits_of bytes ≡ codes_of text ++ left
  pub no_code : HasNoCode left

-- where the codes end, this is at fault
abbrev pub Ends : List ℕ → HuffFault → Type 0
Ends bytes fault = (text left : List ℕ) × Splits bytes text left × Judged (Err fault) left

-- the symbols of the whole codes stand behind the old ones, and what is left is judged
abbrev pub Decodes : List ℕ → List ℕ → List ℕ → Result (Unit {0}) HuffFault → Type 0
Decodes bytes old new result = (text left : List ℕ) × (new ≡ old ++ text) × Splits bytes text left × Judged result left

-- where the bytes are the string of some text, that text is added
abbrev pub ReadsAll : List ℕ → List ℕ → List ℕ → Result (Unit {0}) HuffFault → Type 0
ReadsAll bytes old new result = (text : List ℕ) → IsText text → IsHuffman bytes text → IsOk result × (new ≡ old ++ text)
