-- Words that are parted by one space are read as the same words.
use Rattle.std.proofs.Common.{◌≡◌, ℕ, Bool, true, false, List, [], ◌∷◌, refl, ap, ◌∙◌, length}
use Rattle.std.proofs.lemmas.List.Elements.{All-nil, All-cons}
use Rattle.std.proofs.lemmas.List.Splits.{slice_split_none, slice_split_at}
use Rattle.std.specs.Prelude.{◌==◌, not, cond}
use Rattle.std.specs.List.{All, filter, slice_split, onto_first, join_with_byte}
use Rattle.script_lang.specs.Words.{words, is_some_text}
use Rattle.script_lang.proofs.Pieces.{words_keep}

abbrev Apart : ℕ → Type 0
Apart c = (c == 32) ≡ false

abbrev Lacks : List ℕ → Type 0
Lacks piece = All Apart piece

abbrev Lacking : List (List ℕ) → Type 0
Lacking [] = true ≡ true
Lacking (piece ∷ pieces) = Lacks piece × Lacking pieces

abbrev GoodWords : List (List ℕ) → Type 0
GoodWords [] = true ≡ true
GoodWords (word ∷ words) = (Lacks word × ((length word == 0) ≡ false)) × GoodWords words

more : (c : ℕ) (b : Bool) (e : (c == 32) ≡ b) (pieces : List (List ℕ)) → Lacking pieces → Lacking (cond b ([] ∷ pieces) (onto_first c pieces))
more c true e pieces h = (All-nil Apart, h)
more c false e [] h = (All-cons Apart c [] e (All-nil Apart), refl)
more c false e (piece ∷ pieces) h = (All-cons Apart c piece e h.0, h.1)

pieces_lack : (text : List ℕ) → Lacking (slice_split (λ c. c == 32) text)
pieces_lack [] = (All-nil Apart, refl)
pieces_lack (c ∷ text) = more c (c == 32) refl (slice_split (λ c. c == 32) text) (pieces_lack text)

keep : (piece : List ℕ) (b : Bool) → (length piece == 0) ≡ b → Lacks piece → (rest : List (List ℕ)) → GoodWords rest → GoodWords (cond (not b) (piece ∷ rest) rest)
keep piece true e lacks rest good = good
keep piece false e lacks rest good = ((lacks, e), good)

all_good : (pieces : List (List ℕ)) → Lacking pieces → GoodWords (filter is_some_text pieces)
all_good [] h = refl
all_good (piece ∷ pieces) h = keep piece (length piece == 0) refl h.0 (filter is_some_text pieces) (all_good pieces h.1)

pub words_good : (line : List ℕ) → GoodWords (words line)
unfolding words
words_good line = all_good (slice_split (λ c. c == 32) line) (pieces_lack line)

joined_again : (ws : List (List ℕ)) → GoodWords ws → filter is_some_text (slice_split (λ c. c == 32) (join_with_byte 32 ws)) ≡ ws
joined_again [] good = refl
joined_again (w ∷ []) good = ap (filter is_some_text) (slice_split_none (λ c. c == 32) w good.0.0) ∙ words_keep w [] good.0.1
joined_again (w ∷ v ∷ ws) good =
    ap (filter is_some_text) (slice_split_at (λ c. c == 32) w 32 (join_with_byte 32 (v ∷ ws)) good.0.0 refl)
    ∙ words_keep w (slice_split (λ c. c == 32) (join_with_byte 32 (v ∷ ws))) good.0.1
    ∙ ap (λ r. w ∷ r) (joined_again (v ∷ ws) good.1)

pub words_again : (line : List ℕ) → words (join_with_byte 32 (words line)) ≡ words line
unfolding words
words_again line = joined_again (filter is_some_text (slice_split (λ c. c == 32) line)) (words_good line)
