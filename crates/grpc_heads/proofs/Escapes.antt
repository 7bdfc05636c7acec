-- The escapes of a message are those of the set that the encoder is given.
use Rattle.std.proofs.Common.{◌≡◌, ℕ, suc, zero, ◌<◌, Bool, true, false, List, [], ◌∷◌, ◌++◌, refl, sym, ap, ◌∙◌, arith}
use Rattle.std.specs.Prelude.{IfOk, Result, Ok, Err, ◌&&◌, ◌||◌, ◌==◌, not, nat_lt, if◌then◌else◌}
use Rattle.std.specs.Char.{is_ascii}
use Rattle.std.proofs.lemmas.Bool.{and_parts}
use Rattle.std.proofs.lemmas.Bool.Decides.{nat_tests}
use Rattle.percent_encoding.specs.declared.ascii_set.AsciiSet.{AsciiSet}
use Rattle.percent_encoding.specs.AsciiSet.{contains, should_percent_encode}
use Rattle.percent_encoding.specs.Percent.{percent_encode, percent_encode_byte}
use Rattle.grpc_heads.specs.Written.{is_escaped, escaped}

abbrev pub agrees : Bool → Bool → Bool
agrees true b = b
agrees false b = not b

agreed : (a b : Bool) → agrees a b ≡ true → a ≡ b
agreed true b e = sym e
agreed false true e = cc
agreed false false e = refl

-- the tests agree on all numbers below
abbrev pub agree_below : ℕ → (ℕ → Bool) → (ℕ → Bool) → Bool
agree_below zero f g = true
agree_below (suc n) f g = agrees (f n) (g n) && agree_below n f g

below : (n : ℕ) (f g : ℕ → Bool) → agree_below n f g ≡ true → (b : ℕ) → b < n → f b ≡ g b
below zero f g h b le = absurd (omega arith)
below (suc n) f g h b le =
    let both = and_parts (agrees (f n) (g n)) (agree_below n f g) h in
    last (nat_lt b n) refl (below n f g both.1 b) (agreed (f n) (g n) both.0)
  where
    last : (t : Bool) → nat_lt b n ≡ t → (b < n → f b ≡ g b) → f n ≡ g n → f b ≡ g b
    last true e lower here = lower (grind (arith, nat_tests))
    last false e lower here = let same : b ≡ n = grind (arith, nat_tests) in ap f same ∙ here ∙ ap g (sym same)

middle : (x y z : Bool) → y ≡ true → x || y || z ≡ true
middle true y z e = refl
middle false true z e = refl
middle false false z e = cc

far : (b : ℕ) → nat_lt b 128 ≡ false → nat_lt 126 b ≡ true
far b e = grind (arith, nat_tests)

tests : (set : AsciiSet) → agree_below 128 (contains set) is_escaped ≡ true → (b : ℕ) → should_percent_encode set b ≡ is_escaped b
unfolding should_percent_encode
tests set h b = by (nat_lt b 128) refl
  where
    by : (t : Bool) → nat_lt b 128 ≡ t → not (is_ascii b) || contains set b ≡ is_escaped b
    by true e =
        let ascii : not (is_ascii b) ≡ false = ap not e in
        ap (λ t. t || contains set b) ascii ∙ below 128 (contains set) is_escaped h b (grind (arith, nat_tests))
    by false e =
        let other : not (is_ascii b) ≡ true = ap not e in
        let high : is_escaped b ≡ true = middle (nat_lt b 32) (nat_lt 126 b) (b == 37) (far b e) in
        ap (λ t. t || contains set b) other ∙ sym high

pub escapes : (set : AsciiSet) → agree_below 128 (contains set) is_escaped ≡ true → (message : List ℕ) → percent_encode set message ≡ escaped message
unfolding percent_encode escaped
escapes set h [] = refl
escapes set h (b ∷ message) =
    ap (λ t. (if t then percent_encode_byte b else b ∷ []) ++ percent_encode set message) (tests set h b)
    ∙ ap (λ rest. (if is_escaped b then percent_encode_byte b else b ∷ []) ++ rest) (escapes set h message)

pub made : {E : Type 0} (set : AsciiSet) (message text seen old coded : List ℕ) (result : Result (List ℕ) E) → agree_below 128 (contains set) is_escaped ≡ true → IfOk result (λ made. made ≡ seen) → seen ≡ text → text ≡ old ++ coded → old ≡ [] → coded ≡ percent_encode set message → IfOk result (λ made. made ≡ escaped message)
made set message text seen old coded (Err e) h is same whole none by = is
made set message text seen old coded (Ok bytes) h is same whole none by =
    is ∙ same ∙ whole ∙ ap (λ (front : List ℕ). front ++ coded) none ∙ by ∙ escapes set h message
