-- The messages of an answer are cut one after another.
use Rattle.std.proofs.Common.{◌≡◌, ℕ, zero, suc, ◌+◌, ◌≤◌, ◌<◌, List, [], ◌∷◌, length, refl, sym, ap, subst, ◌∙◌, arith, None}
use Rattle.std.specs.Prelude.{All, take, drop, min}
use Rattle.std.proofs.lemmas.List.{length-drop, length-take, drop-drop}
use Rattle.std.proofs.lemmas.List.Elements.{All-nil, All-cons, All-take, All-drop}
use Rattle.schema_numbers.specs.Numbers.{Numbers}
use Rattle.aft_entries.specs.declared.operation.Row.{Row}
use Rattle.aft_entries.specs.InstanceNames.{fault_of}
use Rattle.gribi_messages.specs.Rows.{rows_bytes}
use Rattle.call_answers.specs.Answers.{MAX_MESSAGE_SIZE}
use Rattle.call_requests.specs.Responses.{HasSixOctets, RowIsSound, responses_upto, get_responses}
use Rattle.call_requests.proofs.Bounds.{few_rows-len}

-- what is left has fewer rows
fewer : (row : Row) (rows : List Row) (most : ℕ) → length (row ∷ rows) ≤ suc most → length (drop 64 (row ∷ rows)) ≤ most
fewer row rows most few = omega (arith, length-drop 64 (row ∷ rows), few)

module _ (n : Numbers) (names : List (List ℕ)) where
  -- any count that is enough gives the same messages
  upto_same : (a b : ℕ) (rows : List Row) → length rows ≤ a → length rows ≤ b → responses_upto a n names rows ≡ responses_upto b n names rows
  upto_same zero zero rows p q = refl
  upto_same zero (suc b) [] p q = refl
  upto_same zero (suc b) (row ∷ rows) p q = absurd (omega arith)
  upto_same (suc a) zero [] p q = refl
  upto_same (suc a) zero (row ∷ rows) p q = absurd (omega arith)
  upto_same (suc a) (suc b) [] p q = refl
  upto_same (suc a) (suc b) (row ∷ rows) p q =
      ap (λ l. rows_bytes n names (take 64 (row ∷ rows)) ∷ l) (upto_same a b (drop 64 (row ∷ rows)) (fewer row rows a p) (fewer row rows b q))

  pub one_more : (rows : List Row) → 1 ≤ length rows → get_responses n names rows ≡ rows_bytes n names (take 64 rows) ∷ get_responses n names (drop 64 rows)
  unfolding get_responses
  one_more [] some = absurd (omega arith)
  one_more (row ∷ rows) some =
      ap (λ l. rows_bytes n names (take 64 (row ∷ rows)) ∷ l) (upto_same (length rows) (length (drop 64 (row ∷ rows))) (drop 64 (row ∷ rows)) (fewer row rows (length rows) (omega arith)) (omega arith))

  module _ (taken : fault_of names ≡ None) (count : ℕ) where
    upto_short : (most : ℕ) (rows : List Row) → All (RowIsSound count) rows → All (λ row. HasSixOctets row.entry.payload) rows → All (λ bytes. length bytes ≤ MAX_MESSAGE_SIZE) (responses_upto most n names rows)
    upto_short zero rows sound six = All-nil (λ bytes. length bytes ≤ MAX_MESSAGE_SIZE)
    upto_short (suc most) [] sound six = All-nil (λ bytes. length bytes ≤ MAX_MESSAGE_SIZE)
    upto_short (suc most) (row ∷ rows) sound six =
        All-cons (λ bytes. length bytes ≤ MAX_MESSAGE_SIZE) (rows_bytes n names (take 64 (row ∷ rows))) (responses_upto most n names (drop 64 (row ∷ rows)))
        (few_rows-len n names taken count (take 64 (row ∷ rows)) (omega (arith, length-take 64 (row ∷ rows))) (All-take (RowIsSound count) 64 (row ∷ rows) sound) (All-take (λ row. HasSixOctets row.entry.payload) 64 (row ∷ rows) six))
        (upto_short most (drop 64 (row ∷ rows)) (All-drop (RowIsSound count) 64 (row ∷ rows) sound) (All-drop (λ row. HasSixOctets row.entry.payload) 64 (row ∷ rows) six))

pub all_short : (n : Numbers) (names : List (List ℕ)) (count : ℕ) (rows : List Row) → fault_of names ≡ None → All (RowIsSound count) rows → All (λ row. HasSixOctets row.entry.payload) rows → All (λ bytes. length bytes ≤ MAX_MESSAGE_SIZE) (get_responses n names rows)
unfolding get_responses
all_short n names count rows taken sound six = upto_short n names taken count (length rows) rows sound six

-- ---- one message

same_take : {A : Type 0} (k n : ℕ) (xs : List A) → k ≡ min (length xs) n → take k xs ≡ take n xs
same_take zero zero xs e = refl
same_take zero (suc n) [] e = refl
same_take zero (suc n) (x ∷ xs) e = absurd (omega arith)
same_take (suc k) zero xs e = absurd (omega arith)
same_take (suc k) (suc n) [] e = refl
same_take (suc k) (suc n) (x ∷ xs) e = ap (λ (l : List _). x ∷ l) (same_take k n xs (omega arith))

same_drop : {A : Type 0} (k n : ℕ) (xs : List A) → k ≡ min (length xs) n → drop k xs ≡ drop n xs
same_drop zero zero xs e = refl
same_drop zero (suc n) [] e = refl
same_drop zero (suc n) (x ∷ xs) e = absurd (omega arith)
same_drop (suc k) zero xs e = absurd (omega arith)
same_drop (suc k) (suc n) [] e = refl
same_drop (suc k) (suc n) (x ∷ xs) e = same_drop k n xs (omega arith)

pub first_rows : (k : ℕ) (rows first : List Row) → k ≡ min (length rows) 64 → first ≡ take k rows → first ≡ take 64 rows
first_rows k rows first e is = is ∙ same_take k 64 rows e

pub first_six : (k : ℕ) (rows first : List Row) → k ≡ min (length rows) 64 → first ≡ take k rows → All (λ row. HasSixOctets row.entry.payload) first → All (λ row. HasSixOctets row.entry.payload) (take 64 rows)
first_six k rows first e is six = subst (λ l. All (λ row. HasSixOctets row.entry.payload) l) (first_rows k rows first e is) six

pub left_rows : (given k : ℕ) (rows now coming : List Row) → drop given rows ≡ now → coming ≡ drop given rows → k ≡ min (length coming) 64 → drop (given + k) rows ≡ drop 64 now
left_rows given k rows now coming is same count =
    sym (drop-drop k given rows) ∙ ap (λ l. drop k l) (sym same) ∙ same_drop k 64 coming count ∙ ap (λ l. drop 64 l) (same ∙ is)

pub next_message : (n : Numbers) (names : List (List ℕ)) (given k : ℕ) (rows now coming : List Row) (bytes : List ℕ) → drop given rows ≡ now → coming ≡ drop given rows → k ≡ min (length coming) 64 → 0 < length now
    → bytes ≡ rows_bytes n names (take 64 coming) → get_responses n names now ≡ bytes ∷ get_responses n names (drop (given + k) rows)
next_message n names given k rows now coming bytes is same count some spelled =
    one_more n names now (omega arith)
    ∙ ap (λ l. l ∷ get_responses n names (drop 64 now)) (ap (λ l. rows_bytes n names (take 64 l)) (sym (same ∙ is)) ∙ sym spelled)
    ∙ ap (λ l. bytes ∷ get_responses n names l) (sym (left_rows given k rows now coming is same count))

pub short_message : (n : Numbers) (names : List (List ℕ)) (count given : ℕ) (rows now coming : List Row) (bytes : List ℕ) → drop given rows ≡ now → coming ≡ drop given rows
    → bytes ≡ rows_bytes n names (take 64 coming) → All (λ row. HasSixOctets row.entry.payload) (take 64 coming) → fault_of names ≡ None → All (RowIsSound count) now → length bytes ≤ MAX_MESSAGE_SIZE
short_message n names count given rows now coming bytes is same spelled six taken sound =
    let here = subst (λ l. All (RowIsSound count) l) (sym (same ∙ is)) sound in
    subst (λ l. length l ≤ MAX_MESSAGE_SIZE) (sym spelled) (few_rows-len n names taken count (take 64 coming) (omega (arith, length-take 64 coming)) (All-take (RowIsSound count) 64 coming here) six)
