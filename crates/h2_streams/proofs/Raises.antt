-- Some setting raises a stream's window where the greatest initial window raises that of the stream with the greatest room.
use Rattle.std.proofs.Common.{◌≡◌, ℕ, suc, ◌+◌, ◌≤◌, max, Bool, true, false, ◌&&◌, ◌||◌, List, [], ◌∷◌, length, refl, sym, ap, ◌∙◌, arith}
use Rattle.std.specs.Prelude.{nat_lt, ◌==◌, if◌then◌else◌}
use Rattle.std.specs.List.{list_any}
use Rattle.std.proofs.lemmas.Bool.Decides.{nat_tests}
use Rattle.h2_streams.specs.declared.live.Stream.{Stream}
use Rattle.h2_streams.specs.Live.{is_raised, is_raising, greatest_window, greatest_room}
use Rattle.h2_streams.proofs.Judged.{any_same}

abbrev bound : ℕ
bound = 4294967295

-- ---- over the streams

either : (size a b : ℕ) → nat_lt bound (size + max a b) ≡ (nat_lt bound (size + a) || nat_lt bound (size + b))
either size a b = grind (arith, nat_tests)

or_groups : (a b c : Bool) → ((a || b) || c) ≡ (a || (b || c))
or_groups true b c = refl
or_groups false b c = refl

room_any : (size most : ℕ) (live : List Stream) → nat_lt bound (size + greatest_room most live) ≡ (nat_lt bound (size + most) || list_any (is_raised size) live)
room_any size most [] = sym (or_nothing (nat_lt bound (size + most)))
  where
    or_nothing : (b : Bool) → (b || false) ≡ b
    or_nothing true = refl
    or_nothing false = refl
room_any size most (s ∷ live) =
    room_any size (max most s.room) live ∙ ap (λ (t : Bool). t || list_any (is_raised size) live) (either size most s.room)
    ∙ or_groups (nat_lt bound (size + most)) (is_raised size s) (list_any (is_raised size) live)

smallest : (size room : ℕ) (more : Bool) → (nat_lt bound (size + 0) || (nat_lt bound (size + room) || more)) ≡ (nat_lt bound (size + room) || more)
smallest size room more = by (nat_lt bound (size + 0)) (nat_lt bound (size + room)) refl refl
  where
    low : nat_lt bound (size + 0) ≡ true → nat_lt bound (size + room) ≡ false → ⊥
    low e f = grind (arith, nat_tests)

    by : (t u : Bool) → nat_lt bound (size + 0) ≡ t → nat_lt bound (size + room) ≡ u → (t || (u || more)) ≡ (u || more)
    by true true e f = refl
    by true false e f = absurd (low e f)
    by false u e f = refl

some_raised : (size : ℕ) (s : Stream) (live : List Stream) → list_any (is_raised size) (s ∷ live) ≡ nat_lt bound (size + greatest_room 0 (s ∷ live))
some_raised size s live = sym (room_any size 0 (s ∷ live) ∙ smallest size s.room (list_any (is_raised size) live))

-- ---- over the settings

window_any : (room most : ℕ) (settings : List (ℕ × ℕ)) → nat_lt bound (greatest_window most settings + room) ≡ (nat_lt bound (most + room) || list_any (λ (s : ℕ × ℕ). s.0 == 4 && nat_lt bound (s.1 + room)) settings)
window_any room most [] = sym (or_nothing (nat_lt bound (most + room)))
  where
    or_nothing : (b : Bool) → (b || false) ≡ b
    or_nothing true = refl
    or_nothing false = refl
window_any room most (s ∷ settings) =
    window_any room (if s.0 == 4 then max most s.1 else most) settings ∙ ap (λ (t : Bool). t || rest) (by (s.0 == 4))
    ∙ or_groups (nat_lt bound (most + room)) (s.0 == 4 && nat_lt bound (s.1 + room)) rest
  where
    rest : Bool
    rest = list_any (λ (s : ℕ × ℕ). s.0 == 4 && nat_lt bound (s.1 + room)) settings

    both : (a b : ℕ) → nat_lt bound (max a b + room) ≡ (nat_lt bound (a + room) || nat_lt bound (b + room))
    both a b = grind (arith, nat_tests)

    or_false : (b : Bool) → b ≡ (b || false)
    or_false true = refl
    or_false false = refl

    by : (t : Bool) → nat_lt bound ((if t then max most s.1 else most) + room) ≡ (nat_lt bound (most + room) || (t && nat_lt bound (s.1 + room)))
    by true = both most s.1
    by false = or_false (nat_lt bound (most + room))

low_room : (room : ℕ) → room ≤ bound → nat_lt bound (0 + room) ≡ false
low_room room le = grind (arith, nat_tests)

and_none : (t u : Bool) → u ≡ false → (t && false || u) ≡ false
and_none true u e = e
and_none false u e = e

none_raised : (settings : List (ℕ × ℕ)) → list_any (is_raising []) settings ≡ false
none_raised [] = refl
none_raised (s ∷ settings) = and_none (s.0 == 4) (list_any (is_raising []) settings) (none_raised settings)

-- no stream is live
pub raises_none : (live : List Stream) (settings : List (ℕ × ℕ)) → (length live == 0) ≡ true → false ≡ list_any (is_raising live) settings
raises_none [] settings e = sym (none_raised settings)
raises_none (s ∷ live) settings e = absurd (clash (length live) e)
  where
    clash : (n : ℕ) → (suc n == 0) ≡ true → ⊥
    clash n e = grind (arith, nat_tests)

-- some are
pub raises_some : (live : List Stream) (settings : List (ℕ × ℕ)) (window room : ℕ) → window ≡ greatest_window 0 settings → room ≡ greatest_room 0 live → room ≤ 4294967295 → (length live == 0) ≡ false →
    nat_lt 4294967295 (window + room) ≡ list_any (is_raising live) settings
raises_some [] settings window room w r le e = absurd cc
raises_some (s ∷ live) settings window room w r le e =
    ap (λ (n : ℕ). nat_lt bound (n + room)) w ∙ window_any room 0 settings
    ∙ ap (λ (t : Bool). t || list_any (λ (t : ℕ × ℕ). t.0 == 4 && nat_lt bound (t.1 + room)) settings) (low_room room le)
    ∙ any_same (λ (t : ℕ × ℕ). t.0 == 4 && nat_lt bound (t.1 + room)) (is_raising (s ∷ live)) settings
    (λ t. ap (λ (n : ℕ). t.0 == 4 && nat_lt bound (t.1 + n)) r ∙ ap (λ (u : Bool). t.0 == 4 && u) (sym (some_raised t.1 s live)))
