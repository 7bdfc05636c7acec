-- Bytes that begin with others, or are a first part of them.
use Rattle.std.proofs.Common.{◌≡◌, ℕ, zero, suc, ◌≤◌, List, [], ◌∷◌, ◌++◌, length, take, drop, refl, sym, ◌∙◌, arith}
use Rattle.std.proofs.lemmas.List.{take_all}
use Rattle.h2_frames.specs.Stream.{MatchesPreface}

pub take_nothing : (n : ℕ) → take {A = ℕ} n [] ≡ []
take_nothing zero = refl
take_nothing (suc n) = refl

two_heads : (b d : ℕ) (xs ys : List ℕ) → b ∷ xs ≡ d ∷ ys → (b ≡ d) × (xs ≡ ys)
two_heads b d xs ys h = (cc, cc)

both_heads : (b d : ℕ) (xs ys : List ℕ) → b ≡ d → xs ≡ ys → b ∷ xs ≡ d ∷ ys
both_heads b d xs ys p q = cc

-- a list that begins like another, by the part that both have
pub MatchesPreface-cut : (due bytes more : List ℕ) → MatchesPreface due (bytes ++ more) → MatchesPreface due bytes
MatchesPreface-cut [] bytes more h = sym (take_nothing (length bytes))
MatchesPreface-cut (d ∷ due) [] more h = refl
MatchesPreface-cut (d ∷ due) (b ∷ bytes) more h =
    let p = two_heads b d (take (length due) (bytes ++ more)) (take (length (bytes ++ more)) due) h in
    both_heads b d (take (length due) bytes) (take (length bytes) due) p.0 (MatchesPreface-cut due bytes more p.1)

pub MatchesPreface-append : (due bytes more : List ℕ) → length due ≤ length bytes → MatchesPreface due bytes → MatchesPreface due (bytes ++ more)
MatchesPreface-append [] bytes more le h = sym (take_nothing (length (bytes ++ more)))
MatchesPreface-append (d ∷ due) [] more le h = absurd (omega arith)
MatchesPreface-append (d ∷ due) (b ∷ bytes) more le h =
    let p = two_heads b d (take (length due) bytes) (take (length bytes) due) h in
    both_heads b d (take (length due) (bytes ++ more)) (take (length (bytes ++ more)) due) p.0 (MatchesPreface-append due bytes more (omega arith) p.1)

-- bytes in two parts: the second goes on where the first ends
pub MatchesPreface-behind : (due xs ys : List ℕ) → MatchesPreface due (xs ++ ys) → MatchesPreface (drop (length xs) due) ys
MatchesPreface-behind due [] ys h = h
MatchesPreface-behind [] (x ∷ xs) ys h = sym (take_nothing (length ys))
MatchesPreface-behind (d ∷ due) (x ∷ xs) ys h =
    MatchesPreface-behind due xs ys (two_heads x d (take (length due) (xs ++ ys)) (take (length (xs ++ ys)) due) h).1

pub MatchesPreface-join : (due xs ys : List ℕ) → MatchesPreface due xs → MatchesPreface (drop (length xs) due) ys → MatchesPreface due (xs ++ ys)
MatchesPreface-join due [] ys p q = q
MatchesPreface-join [] (x ∷ xs) ys p q = sym (take_nothing (length (x ∷ xs ++ ys)))
MatchesPreface-join (d ∷ due) (x ∷ xs) ys p q =
    let h = two_heads x d (take (length due) xs) (take (length xs) due) p in
    both_heads x d (take (length due) (xs ++ ys)) (take (length (xs ++ ys)) due) h.0 (MatchesPreface-join due xs ys h.1 q)

-- bytes that are as long are the same
pub MatchesPreface-all : (due bytes : List ℕ) → length bytes ≡ length due → MatchesPreface due bytes → bytes ≡ due
MatchesPreface-all due bytes e h = sym (take_all (length due) bytes (omega arith)) ∙ h ∙ take_all (length bytes) due (omega arith)

pub MatchesPreface-self : (due : List ℕ) → MatchesPreface due due
MatchesPreface-self due = refl
