-- Texts that are written piece by piece.
use Rattle.std.proofs.Common.{◌≡◌, ℕ, ◌<◌, List, [], ◌∷◌, ◌++◌, append_assoc, refl, sym, ap, ◌∙◌, length, map, drop, get_or, arith}
use Rattle.std.specs.List.{flat_map}
use Rattle.addr_text.specs.Printed.{joined, hex_text, colons}

pub quads_written : (o a b c d s t u : List ℕ) → s ≡ o ++ (a ++ 46 ∷ b) → t ≡ s ++ 46 ∷ [] → u ≡ t ++ (c ++ 46 ∷ d) → u ≡ o ++ (a ++ 46 ∷ (b ++ 46 ∷ (c ++ 46 ∷ d)))
quads_written o a b c d s t u e f g = rw (g, f, e) (simp append_assoc)

pub joined_is : (f : ℕ → List ℕ) (separator g : ℕ) (gs : List ℕ) → joined separator (map f (g ∷ gs)) ≡ f g ++ flat_map (λ x. separator ∷ f x) gs
joined_is f separator g [] = sym (append-nil (f g))
  where
    append-nil : (xs : List ℕ) → xs ++ [] ≡ xs
    append-nil [] = refl
    append-nil (x ∷ xs) = ap (λ ys. x ∷ ys) (append-nil xs)
joined_is f separator g (h ∷ gs) = ap (λ text. f g ++ separator ∷ text) (joined_is f separator h gs)

pub colons_written : (gs o s t : List ℕ) → 0 < length gs → s ≡ o ++ hex_text (get_or gs 0 0) → t ≡ s ++ flat_map (λ g. 58 ∷ hex_text g) (drop 1 gs) → t ≡ o ++ colons gs
colons_written [] o s t some e f = absurd (omega arith)
colons_written (g ∷ gs) o s t some e f = f ∙ ap (λ w. w ++ flat_map (λ x. 58 ∷ hex_text x) gs) e ∙ append_assoc o (hex_text g) (flat_map (λ x. 58 ∷ hex_text x) gs) ∙ ap (λ w. o ++ w) (sym (joined_is hex_text 58 g gs))
