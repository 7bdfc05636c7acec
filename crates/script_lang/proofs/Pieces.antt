-- Pieces of a text that is gone through from its front.
use Rattle.std.proofs.Common.{◌≡◌, ℕ, ◌+◌, ◌<◌, Bool, true, false, List, [], ◌∷◌, ◌++◌, refl, sym, ap, ◌∙◌, append_assoc, length, arith}
use Rattle.std.specs.Prelude.{◌==◌, not, if◌then◌else◌, cond}
use Rattle.std.proofs.Common.{length-drop}
use Rattle.std.proofs.lemmas.Bool.Decides.{nat_tests}
use Rattle.std.proofs.lemmas.List.Splits.{slice_split_none, slice_split_first}
use Rattle.std.proofs.lemmas.List.Sums.{fails_before_first}
use Rattle.std.specs.List.{All, filter, slice_split, position_or_len, before_first, after_first}
use Rattle.script_lang.specs.Words.{ended_by, onto_first, is_some_text}

pub append-nil : {X : Type 0} (xs : List X) → xs ++ [] ≡ xs
append-nil [] = refl
append-nil (x ∷ xs) = ap (λ ys. x ∷ ys) (append-nil xs)

abbrev pub ahead : List ℕ → List (List ℕ) → List (List ℕ)
ahead front [] = front ∷ []
ahead front (piece ∷ others) = (front ++ piece) ∷ others

ahead-onto : (front : List ℕ) (c : ℕ) (ps : List (List ℕ)) → ahead front (onto_first c ps) ≡ ahead (front ++ c ∷ []) ps
ahead-onto front c [] = refl
ahead-onto front c (piece ∷ others) = ap (λ p. p ∷ others) (sym (append_assoc front (c ∷ []) piece))

ahead-none : (b : Bool) (c : ℕ) (ps : List (List ℕ)) → (if b then [] ∷ ps else onto_first c ps) ≡ ahead [] (if b then [] ∷ ps else onto_first c ps)
ahead-none true c ps = refl
ahead-none false c [] = refl
ahead-none false c (p ∷ ps) = refl

pub pieces_start : (mark : ℕ) (text : List ℕ) → (length text == 0) ≡ false → ended_by mark text ≡ ahead [] (ended_by mark text)
pieces_start mark [] some = cc
pieces_start mark (c ∷ text) some = ahead-none (c == mark) c (ended_by mark text)

-- one more byte that isn't the mark
pub pieces_more : (mark : ℕ) (front : List ℕ) (c : ℕ) (text : List ℕ) → (c == mark) ≡ false → ahead front (ended_by mark (c ∷ text)) ≡ ahead (front ++ c ∷ []) (ended_by mark text)
pieces_more mark front c text other = ap (λ b. ahead front (if b then [] ∷ ended_by mark text else onto_first c (ended_by mark text))) other ∙ ahead-onto front c (ended_by mark text)

-- the mark
pub pieces_found : (mark : ℕ) (front : List ℕ) (c : ℕ) (text : List ℕ) → (c == mark) ≡ true → ahead front (ended_by mark (c ∷ text)) ≡ front ∷ ended_by mark text
pieces_found mark front c text same = ap (λ b. ahead front (if b then [] ∷ ended_by mark text else onto_first c (ended_by mark text))) same ∙ ap (λ f. f ∷ ended_by mark text) (append-nil front)

-- Words

pub words_skip : (piece : List ℕ) (ps : List (List ℕ)) → (length piece == 0) ≡ true → filter is_some_text (piece ∷ ps) ≡ filter is_some_text ps
words_skip piece ps none = ap (λ b. cond (not b) (piece ∷ filter is_some_text ps) (filter is_some_text ps)) none

pub words_keep : (piece : List ℕ) (ps : List (List ℕ)) → (length piece == 0) ≡ false → filter is_some_text (piece ∷ ps) ≡ piece ∷ filter is_some_text ps
words_keep piece ps some = ap (λ b. cond (not b) (piece ∷ filter is_some_text ps) (filter is_some_text ps)) some

pub words_end : (text : List ℕ) → (length text == 0) ≡ true → filter is_some_text (slice_split (λ c. c == 32) text) ≡ []
words_end [] none = refl
words_end (c ∷ text) none = absurd (grind (arith, nat_tests))

-- a text without a space is one piece
pub split_none : (text : List ℕ) → position_or_len (λ c. c == 32) text ≡ length text → filter is_some_text (slice_split (λ c. c == 32) text) ≡ filter is_some_text (text ∷ slice_split (λ c. c == 32) [])
split_none text none =
    let front : All (λ c. (c == 32) ≡ false) text = λ k d inside. fails_before_first (λ c. c == 32) text k d (omega (arith, none, inside)) in
    ap (filter is_some_text) (slice_split_none (λ c. c == 32) text front) ∙ one text (length text == 0)
  where
    one : (text : List ℕ) (b : Bool) → filter is_some_text (text ∷ []) ≡ filter is_some_text (text ∷ [] ∷ [])
    one text b = refl

pub split_found : (text : List ℕ) → position_or_len (λ c. c == 32) text < length text → filter is_some_text (slice_split (λ c. c == 32) text) ≡ filter is_some_text (before_first (λ c. c == 32) text ∷ slice_split (λ c. c == 32) (after_first (λ c. c == 32) text))
split_found text found = ap (filter is_some_text) (slice_split_first (λ c. c == 32) text 0 found)

pub split_shorter : (text : List ℕ) → position_or_len (λ c. c == 32) text < length text → length (after_first (λ c. c == 32) text) < length text
split_shorter text found = omega (arith, found, length-drop (position_or_len (λ c. c == 32) text + 1) text)
