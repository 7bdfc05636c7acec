-- A server has a place for a new stream.
use Rattle.std.proofs.Common.{◌≡◌, ℕ, suc, ◌<◌, ◌≤◌, Bool, true, false, not, List, [], ◌∷◌, length, Option, Some, None, refl, sym, ap, ◌∙◌, arith}
use Rattle.std.specs.Prelude.{find, ◌==◌, if◌then◌else◌}
use Rattle.h2_exchange.specs.declared.role.Role.{Role}
use Rattle.h2_exchange.specs.declared.role.Role.TheVariants.{Client, Server}
use Rattle.h2_streams.specs.declared.live.Stream.{Stream}
use Rattle.h2_streams.specs.Live.{is_stream, replaced, without, is_headless, is_waiting, HasPlace}
use Rattle.h2_streams.proofs.Lists.{eqb_is, by_number, isnt}
use Rattle.h2_streams.proofs.Ends.{found_again}

kept_length : (b : Bool) (s : Stream) (xs ys : List Stream) → length xs ≤ length ys → length (if b then s ∷ xs else xs) ≤ length (s ∷ ys)
kept_length true s xs ys le = omega arith
kept_length false s xs ys le = omega arith

pub without_fewer : (k : ℕ) (xs : List Stream) → length (without k xs) ≤ length xs
without_fewer k [] = omega arith
without_fewer k (s ∷ xs) = kept_length (not (is_stream k s)) s (without k xs) xs (without_fewer k xs)

-- a stream that is found is one less
pub without_found : (k : ℕ) (old : Stream) (xs : List Stream) → find (is_stream k) xs ≡ Some old → length (without k xs) < length xs
without_found k old [] e = absurd cc
without_found k old (s ∷ xs) e = by (is_stream k s) (find (is_stream k) xs) (λ g. without_found k old xs g) e
  where
    by : (b : Bool) (later : Option Stream) → (later ≡ Some old → length (without k xs) < length xs) → (if b then Some s else later) ≡ Some old → length (if not b then s ∷ without k xs else without k xs) < length (s ∷ xs)
    by true later r e = omega (arith, without_fewer k xs)
    by false later r e = omega (arith, r e)

pub found_id : (k : ℕ) (old : Stream) (xs : List Stream) → find (is_stream k) xs ≡ Some old → old.id ≡ k
found_id k old [] e = absurd cc
found_id k old (s ∷ xs) e = by (is_stream k s) refl (find (is_stream k) xs) (λ g. found_id k old xs g) e
  where
    by : (b : Bool) → is_stream k s ≡ b → (later : Option Stream) → (later ≡ Some old → old.id ≡ k) → (if b then Some s else later) ≡ Some old → old.id ≡ k
    by true g later r e = ap (λ (t : Stream). t.id) (sym (some_is s old e)) ∙ eqb_is s.id k g
      where
        some_is : (a b : Stream) → Some a ≡ Some b → a ≡ b
        some_is a b e = cc
    by false g later r e = r e

-- ---- another stream is found as before

if_same : (b c : Bool) (s t : Stream) (later again : Option Stream) → b ≡ c → s ≡ t → later ≡ again → (if b then Some s else later) ≡ (if c then Some t else again)
if_same b c s t later again e f g = cc

pub found_without : (k j : ℕ) (xs : List Stream) → (j ≡ k → ⊥) → find (is_stream j) (without k xs) ≡ find (is_stream j) xs
found_without k j [] f = refl
found_without k j (s ∷ xs) f = by (is_stream k s) (is_stream j s) refl refl (found_without k j xs f)
  where
    by : (b c : Bool) → is_stream k s ≡ b → is_stream j s ≡ c → find (is_stream j) (without k xs) ≡ find (is_stream j) xs → find (is_stream j) (if not b then s ∷ without k xs else without k xs) ≡ (if c then Some s else find (is_stream j) xs)
    by true true e g r = absurd (f (sym (eqb_is s.id j g) ∙ eqb_is s.id k e))
    by true false e g r = r
    by false c e g r = if_same (is_stream j s) c s s (find (is_stream j) (without k xs)) (find (is_stream j) xs) g refl r

pub found_replaced : (k j : ℕ) (new : Stream) (xs : List Stream) → new.id ≡ k → (j ≡ k → ⊥) → find (is_stream j) (replaced k new xs) ≡ find (is_stream j) xs
found_replaced k j new [] e f = refl
found_replaced k j new (s ∷ xs) e f = by (is_stream k s) refl (found_replaced k j new xs e f)
  where
    new_isnt : is_stream j new ≡ false
    new_isnt = ap (λ (n : ℕ). n == j) e ∙ isnt j k (λ g. f (sym g))

    old_isnt : is_stream k s ≡ true → is_stream j s ≡ false
    old_isnt g = ap (λ (n : ℕ). n == j) (eqb_is s.id k g) ∙ isnt j k (λ h. f (sym h))

    by : (b : Bool) → is_stream k s ≡ b → find (is_stream j) (replaced k new xs) ≡ find (is_stream j) xs → find (is_stream j) (if b then new ∷ xs else s ∷ replaced k new xs) ≡ find (is_stream j) (s ∷ xs)
    by true g r = ap (λ (t : Bool). if t then Some new else find (is_stream j) xs) new_isnt ∙ ap (λ (t : Bool). if t then Some s else find (is_stream j) xs) (sym (old_isnt g))
    by false g r = ap (λ (o : Option Stream). if is_stream j s then Some s else o) r

pub replaced_length : (k : ℕ) (new : Stream) (xs : List Stream) → length (replaced k new xs) ≡ length xs
replaced_length k new [] = refl
replaced_length k new (s ∷ xs) = by (is_stream k s) (replaced_length k new xs)
  where
    by : (b : Bool) → length (replaced k new xs) ≡ length xs → length (if b then new ∷ xs else s ∷ replaced k new xs) ≡ suc (length xs)
    by true r = refl
    by false r = ap suc r

-- ---- a place is kept

pub waits_replaced : (b : Option (ℕ × Bool)) (k : ℕ) (old new : Stream) (xs : List Stream) → new.id ≡ k → find (is_stream k) xs ≡ Some old → new.has_head ≡ old.has_head → is_waiting b (replaced k new xs) ≡ is_waiting b xs
waits_replaced None k old new xs e f g = refl
waits_replaced (Some block) k old new xs e f g =
    by_number (λ j. is_headless (find (is_stream j) (replaced k new xs)) ≡ is_headless (find (is_stream j) xs)) k block.0
    (λ h. ap (λ (j : ℕ). is_headless (find (is_stream j) (replaced k new xs))) h ∙ ap is_headless (found_again k new old xs (ap (λ (n : ℕ). n == k) e ∙ Rattle.h2_streams.proofs.Lists.self_eq k) f) ∙ ap not g ∙ ap is_headless (sym f) ∙ ap (λ (j : ℕ). is_headless (find (is_stream j) xs)) (sym h))
    (λ h. ap is_headless (found_replaced k block.0 new xs e h))

pub place_replaced : (role : Role) (streams places : ℕ) (b : Option (ℕ × Bool)) (k : ℕ) (old new : Stream) (xs : List Stream) → new.id ≡ k → find (is_stream k) xs ≡ Some old → new.has_head ≡ old.has_head → HasPlace role streams places b xs → HasPlace role streams places b (replaced k new xs)
place_replaced Client streams places b k old new xs e f g h = tt
place_replaced Server streams places b k old new xs e f g h =
    (h.0, λ w. omega (arith, h.1 (sym (waits_replaced b k old new xs e f g) ∙ w), replaced_length k new xs))

pub place_without : (role : Role) (streams places : ℕ) (b : Option (ℕ × Bool)) (k : ℕ) (xs : List Stream) → length xs ≤ places → HasPlace role streams places b xs → HasPlace role streams places b (without k xs)
place_without Client streams places b k xs le h = tt
place_without Server streams places None k xs le h = (h.0, λ w. omega (arith, h.1 refl, without_fewer k xs))
place_without Server streams places (Some block) k xs le h = (
  h.0,
  λ v. by_number (λ j. is_headless (find (is_stream j) (without k xs)) ≡ false → (is_headless (find (is_stream j) xs) ≡ false → length xs < places) → length (without k xs) < places) k block.0
      (λ e w g. by (find (is_stream k) xs) refl (λ o n m. g (ap (λ (j : ℕ). is_headless (find (is_stream j) xs)) e ∙ ap is_headless (n ∙ m))))
      (λ e w g. omega (arith, g (ap is_headless (sym (found_without k block.0 xs e)) ∙ w), without_fewer k xs)) v h.1,
)
  where
    by : (o : Option Stream) → find (is_stream k) xs ≡ o → ((p : Option Stream) → find (is_stream k) xs ≡ p → p ≡ None → length xs < places) → length (without k xs) < places
    by None e g = omega (arith, g None e refl, without_fewer k xs)
    by (Some old) e g = omega (arith, without_found k old xs e, le)

-- a stream that was found is put back with the head that it had
pub place_put : (role : Role) (streams places : ℕ) (b : Option (ℕ × Bool)) (k : ℕ) (old new : Stream) (xs : List Stream) → find (is_stream k) xs ≡ Some old → new.id ≡ old.id → new.has_head ≡ old.has_head → HasPlace role streams places b xs → HasPlace role streams places b (replaced k new xs)
place_put role streams places b k old new xs f e g h = place_replaced role streams places b k old new xs (e ∙ found_id k old xs f) f g h
