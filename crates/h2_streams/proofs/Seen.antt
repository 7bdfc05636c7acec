-- The place of a stream, and what is left of a stream that a frame stands on.
use Rattle.std.proofs.Common.{◌≡◌, ℕ, ◌+◌, ◌-◌, ◌<◌, zero, suc, Bool, true, false, not, ◌&&◌, List, [], ◌∷◌, length, set, map, Option, Some, None, refl, sym, ap, ◌∙◌, arith}
use Rattle.std.specs.Prelude.{find, option_map, slice_get, is_some, if◌then◌else◌, ◌==◌}
use Rattle.std.proofs.lemmas.List.Folds.{find_at}
use Rattle.std.proofs.lemmas.List.Recursion.{is_position_or_len}
use Rattle.h2_frames.specs.declared.code.ErrorCode.{ErrorCode}
use Rattle.h2_frames.specs.declared.frame.Frame.{Frame}
use Rattle.h2_exchange.specs.Exchange.{Step}
use Rattle.h2_exchange.specs.Frames.{stream_of}
use Rattle.h2_exchange.specs.declared.limits.H2Limits.{H2Limits}
use Rattle.h2_exchange.specs.Streams.{live, is_live}
use Rattle.h2_streams.specs.declared.live.StreamOutcome.{StreamOutcome}
use Rattle.h2_streams.specs.declared.live.StreamOutcome.TheVariants.{Over, Alive}
use Rattle.h2_streams.specs.declared.live.Stream.{Stream}
use Rattle.h2_streams.specs.ConnectionErrors.{frame_error_in}
use Rattle.h2_streams.specs.Live.{is_stream, place_of, replaced, without, with_outcome}
use Rattle.h2_streams.specs.Receiving.{is_new_in, fault_in, changed_in, outcome_on, taken_by, is_alive, is_live_by}
use Rattle.h2_streams.specs.Set.{Set, at, new_stream}
use Rattle.h2_streams.specs.Stands.{StandsFor, owed_on, stream_at}
use Rattle.h2_streams.proofs.Ends.{found_again}
use Rattle.h2_streams.proofs.Kept.{found_last}
use Rattle.h2_streams.proofs.Lists.{self_eq}
use Rattle.h2_streams.proofs.Places.{found_id}
use Rattle.h2_streams.proofs.Standing.{at_is}

-- ---- what is put in its place

abbrev steps : ℕ → List Stream → ℕ
steps id [] = 0
steps id (s ∷ xs) = if is_stream id s then 0 else suc (steps id xs)

steps_are : (id : ℕ) (xs : List Stream) → steps id xs ≡ place_of id xs
steps_are id xs = is_position_or_len (steps id) (is_stream id) refl (λ x ys. one_more (is_stream id x) (steps id ys)) xs
  where
    one_more : (b : Bool) (n : ℕ) → (if b then 0 else suc n) ≡ (if b then 0 else 1 + n)
    one_more true n = refl
    one_more false n = omega arith

set_at_steps : (id : ℕ) (new : Stream) (xs : List Stream) → steps id xs < length xs → set xs (steps id xs) new ≡ replaced id new xs
set_at_steps id new [] lt = absurd (omega (arith, lt))
set_at_steps id new (s ∷ xs) lt = by (is_stream id s) lt (λ l. set_at_steps id new xs l)
  where
    by : (b : Bool) → (if b then 0 else suc (steps id xs)) < length (s ∷ xs) → (steps id xs < length xs → set xs (steps id xs) new ≡ replaced id new xs) →
        set (s ∷ xs) (if b then 0 else suc (steps id xs)) new ≡ (if b then new ∷ xs else s ∷ replaced id new xs)
    by true l r = refl
    by false l r = ap (λ (ys : List Stream). s ∷ ys) (r (omega (arith, l)))

none_at_steps : (id : ℕ) (new : Stream) (xs : List Stream) → length xs ≡ steps id xs → xs ≡ replaced id new xs
none_at_steps id new [] e = refl
none_at_steps id new (s ∷ xs) e = by (is_stream id s) e (λ l. none_at_steps id new xs l)
  where
    by : (b : Bool) → suc (length xs) ≡ (if b then 0 else suc (steps id xs)) → (length xs ≡ steps id xs → xs ≡ replaced id new xs) → s ∷ xs ≡ (if b then new ∷ xs else s ∷ replaced id new xs)
    by true l r = absurd (omega (arith, l))
    by false l r = ap (λ (ys : List Stream). s ∷ ys) (r (omega (arith, l)))

steps_within : (id : ℕ) (xs : List Stream) → steps id xs < suc (length xs)
steps_within id [] = omega arith
steps_within id (s ∷ xs) = by (is_stream id s) (steps_within id xs)
  where
    by : (b : Bool) → steps id xs < suc (length xs) → (if b then 0 else suc (steps id xs)) < suc (suc (length xs))
    by true l = omega arith
    by false l = omega (arith, l)

pub set_in_place : (id place : ℕ) (new : Stream) (xs : List Stream) → place ≡ place_of id xs → place < length xs → set xs place new ≡ replaced id new xs
set_in_place id place new xs e lt =
    let is : place ≡ steps id xs = e ∙ sym (steps_are id xs) in
    ap (λ (n : ℕ). set xs n new) is ∙ set_at_steps id new xs (omega (arith, is, lt))

pub nothing_to_set : (id place : ℕ) (new : Stream) (xs : List Stream) → place ≡ place_of id xs → (place < length xs → ⊥) → xs ≡ replaced id new xs
nothing_to_set id place new xs e none = none_at_steps id new xs (same (steps id xs) (length xs) (steps_within id xs) (λ l. none (omega (arith, e, sym (steps_are id xs), l))))
  where
    same : (m n : ℕ) → m < suc n → (m < n → ⊥) → n ≡ m
    same m n w f = grind (arith, w, f)

-- ---- the place itself

pub met_at : (id place : ℕ) (xs ys : List Stream) (met : Option Stream) → met ≡ slice_get ys place → ys ≡ xs → place ≡ place_of id xs → met ≡ find (is_stream id) xs
met_at id place xs ys met e same is = e ∙ ap (λ (l : List Stream). slice_get l place) same ∙ ap (slice_get xs) is ∙ sym (find_at (is_stream id) xs)

-- ---- whether it is live behind a frame

none_without : (k : ℕ) (xs : List Stream) → find (is_stream k) (without k xs) ≡ None
none_without k [] = refl
none_without k (s ∷ xs) = by (is_stream k s) refl (none_without k xs)
  where
    by : (b : Bool) → is_stream k s ≡ b → find (is_stream k) (without k xs) ≡ None → find (is_stream k) (if not b then s ∷ without k xs else without k xs) ≡ None
    by true e r = r
    by false e r = ap (λ (z : Bool). if z then Some s else find (is_stream k) (without k xs)) e ∙ r

module _ (s : Set) (f : Frame) where
  abbrev k : ℕ
  k = stream_of f

  abbrev IsLeft : Bool → StreamOutcome → Type 0
  IsLeft n o = is_alive o ≡ is_some (find (is_stream k) (with_outcome n k o s.live))

  left_new : at k s ≡ None → (t : Stream) → t.id ≡ k → (b : Bool) → IsLeft true (if b then Over else Alive t)
  left_new none t e true = sym (ap is_some none)
  left_new none t e false = sym (ap is_some (found_last k t s.live none (ap (λ (n : ℕ). n == k) e ∙ self_eq k)))

  left_old : (old : Stream) → at k s ≡ Some old → (t : Stream) → t.id ≡ k → (b : Bool) → IsLeft false (if b then Over else Alive t)
  left_old old found t e true = sym (ap is_some (none_without k s.live))
  left_old old found t e false = sym (ap is_some (found_again k t old s.live (ap (λ (n : ℕ). n == k) e ∙ self_eq k) found))

  is_new_none : is_new_in s f ≡ true → at k s ≡ None
  is_new_none e = by (at k s) (back _ (not (is_some (at k s))) e)
    where
      back : (a b : Bool) → (a && b) ≡ true → b ≡ true
      back true b e = e
      back false b e = absurd cc

      by : (o : Option Stream) → not (is_some o) ≡ true → o ≡ None
      by None e = refl
      by (Some t) e = absurd cc

  left_behind : (n : Bool) (old : Option Stream) (fault : Option ErrorCode) → is_new_in s f ≡ n → at k s ≡ old → IsLeft n (outcome_on s f fault (if n then Some (new_stream s.limits k) else old))
  left_behind true old None e g = left_new (is_new_none e) (changed_in s f (new_stream s.limits k)) refl _
  left_behind true old (Some why) e g = left_new (is_new_none e) (new_stream s.limits k) refl true
  left_behind false None None e g = sym (ap is_some g)
  left_behind false None (Some why) e g = sym (ap is_some g)
  left_behind false (Some old) None e g = left_old old g (changed_in s f old) (found_id k old s.live g) _
  left_behind false (Some old) (Some why) e g = left_old old g old (found_id k old s.live g) true

  pub live_behind_is : (new : Set) → new ≡ taken_by (frame_error_in s f) s f → is_live_by (frame_error_in s f) s f ≡ is_some (at k new)
  live_behind_is new left = by (frame_error_in s f) left
    where
      by : (e : Option ErrorCode) → new ≡ taken_by e s f → is_live_by e s f ≡ is_some (at k new)
      by (Some why) g = ap (λ (t : Set). is_some (at k t)) (sym g)
      by None g = left_behind (is_new_in s f) (at k s) (fault_in s f) refl refl ∙ ap (λ (t : Set). is_some (at k t)) (sym g)

-- ---- the streams one after another

module _ {A : Type 0} (g : ℕ → Stream) (told : Stream → A) (by_id : ℕ → A) (same : (id : ℕ) → told (g id) ≡ by_id id) where
  told_at : (ids : List ℕ) (place : ℕ) → option_map told (slice_get (map g ids) place) ≡ option_map by_id (slice_get ids place)
  told_at [] place = refl
  told_at (id ∷ ids) zero = ap Some (same id)
  told_at (id ∷ ids) (suc n) = told_at ids n

option_same : (o : Option ℕ) → option_map (λ (id : ℕ). id) o ≡ o
option_same None = refl
option_same (Some id) = refl

pub id_told : (s : Set) (x : List Step) → StandsFor s x → (place : ℕ) → option_map (λ (t : Stream). t.id) (slice_get s.live place) ≡ slice_get (live s.role x) place
id_told s x h place =
    ap (λ (l : List Stream). option_map (λ (t : Stream). t.id) (slice_get l place)) h.live_is
    ∙ told_at (stream_at s.limits x) (λ t. t.id) (λ id. id) (λ id. refl) (live s.role x) place ∙ option_same (slice_get (live s.role x) place)

abbrev owed_of : H2Limits → Stream → ℕ × ℕ
owed_of limits t = (t.id, limits.window - t.receive)

abbrev owing : H2Limits → List Step → ℕ → ℕ × ℕ
owing limits x id = (id, owed_on limits x id)

pub owed_told : (s : Set) (x : List Step) → StandsFor s x → (place : ℕ) → option_map (owed_of s.limits) (slice_get s.live place) ≡ option_map (owing s.limits x) (slice_get (live s.role x) place)
owed_told s x h place =
    ap (λ (l : List Stream). option_map (owed_of s.limits) (slice_get l place)) h.live_is
    ∙ told_at (stream_at s.limits x) (owed_of s.limits) (owing s.limits x) (λ id. refl) (live s.role x) place

some_when : (b : Bool) (stream : Stream) → b ≡ true → (if b then Some stream else None) ≡ Some stream
some_when true stream e = refl
some_when false stream e = absurd cc

pub live_found : (s : Set) (x : List Step) (k : ℕ) → StandsFor s x → is_live s.role x k ≡ true → at k s ≡ Some (stream_at s.limits x k)
live_found s x k h alive = at_is s x h k ∙ some_when (is_live s.role x k) (stream_at s.limits x k) alive
