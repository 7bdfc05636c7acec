-- Workers that are hired with the first of the devices, and dismissed from the last one on.
use Rattle.std.proofs.Common.{◌≡◌, ℕ, zero, suc, ◌+◌, ◌<◌, ◌≤◌, List, [], ◌∷◌, ◌++◌, length, take, All, refl, sym, ap, ◌∙◌, subst, arith, append_assoc}
use Rattle.std.specs.Prelude.{map, reverse, slice_index_or}
use Rattle.std.specs.List.{remove}
use Rattle.std.proofs.lemmas.List.{length-append, length-map, map-append, get_or_push, get_or_append_left}
use Rattle.std.proofs.Math.Seq.{take-append_seam}
use mathlib.Core.List.{IsPrefix, reverse-cons}
use Rattle.table_lock.proofs.Lists.{prefix_trans}
use Rattle.link_serving.specs.Serving.{Each}

module _ {W D : Type 0} (f : W → D) where
  -- one more worker has the first of the devices that are left
  pub handed : (ws : List W) (all ds : List D) (d : D) (w : W) → all ≡ map f ws ++ ds → 0 < length ds → d ≡ slice_index_or ds 0 d → f w ≡ d
      → all ≡ map f (ws ++ w ∷ []) ++ remove ds 0
  handed ws all [] d w is some first has = absurd (omega (arith, some))
  handed ws all (x ∷ ds) d w is some first has =
      is ∙ (sym (append_assoc (map f ws) (x ∷ []) ds)
      ∙ ap (λ (l : List D). l ++ ds) (ap (λ (y : D). map f ws ++ y ∷ []) (sym first ∙ sym has) ∙ sym (map-append f ws (w ∷ []))))

  -- where so many devices were there, one is left for the next worker
  pub some_left : (ws : List W) (all ds : List D) (n count : ℕ) → all ≡ map f ws ++ ds → length ws ≡ n → n < count → count ≤ length all → 0 < length ds
  some_left ws all ds n count is size more most = omega (arith, size, more, most, ap length is, length-append (map f ws) ds, length-map ws f)

module _ {W : Type 0} where
  -- what holds of each worker at its place, and of one more
  pub each_place : (P : ℕ → W → Type 0) (ws : List W) (w : W) → ((i : ℕ) (d : W) → i < length ws → P i (slice_index_or ws i d)) → P (length ws) w
      → (i : ℕ) (d : W) → i < length ws + 1 → P i (slice_index_or (ws ++ w ∷ []) i d)
  each_place P [] w h p zero d lt = p
  each_place P [] w h p (suc i) d lt = absurd (omega (arith, lt))
  each_place P (x ∷ ws) w h p zero d lt = h zero d (omega arith)
  each_place P (x ∷ ws) w h p (suc i) d lt =
      each_place (λ k v. P (suc k) v) ws w (λ k e below. h (suc k) e (omega (arith, below))) p i d (omega (arith, lt))

  pub all_more : (P : W → Type 0) (ws : List W) (w : W) → All P ws → P w → All P (ws ++ w ∷ [])
  all_more P ws w h p i d lt = each_place (λ k v. P v) ws w h p i d (omega (arith, lt, length-append ws (w ∷ [])))

  -- the last of workers that all are such
  pub last_is : (P : W → Type 0) (ws xs : List W) (w : W) → xs ≡ ws ++ w ∷ [] → All P xs → P w
  last_is P ws xs w is all =
      subst P (ap (λ (l : List W). slice_index_or l (length ws) w) is ∙ get_or_push ws w w (length ws) refl)
      (all (length ws) w (omega (arith, ap length is, length-append ws (w ∷ []))))

  pub front_is : (P : W → Type 0) (ws xs : List W) (w : W) → xs ≡ ws ++ w ∷ [] → All P xs → All P ws
  front_is P ws xs w is all k d lt =
      subst P (ap (λ (l : List W). slice_index_or l k d) is ∙ get_or_append_left ws (w ∷ []) d k lt)
      (all k d (omega (arith, lt, ap length is, length-append ws (w ∷ []))))

  -- one more worker is dismissed, before those that were
  pub parted : (all ws xs gone : List W) (w : W) → all ≡ xs ++ gone → xs ≡ ws ++ w ∷ [] → all ≡ ws ++ w ∷ gone
  parted all ws xs gone w is last = is ∙ (ap (λ (l : List W). l ++ gone) last ∙ append_assoc ws (w ∷ []) gone)

  pub joined : {Y : Type 0} (f : W → Y) (first : List Y) (gone : List W) (w : W)
      → (first ++ map f (reverse gone)) ++ f w ∷ [] ≡ first ++ map f (reverse (w ∷ gone))
  joined f first gone w =
      append_assoc first (map f (reverse gone)) (f w ∷ [])
      ∙ ap (λ (l : List _). first ++ l) (sym (ap (map f) (reverse-cons w gone) ∙ map-append f (reverse gone) (w ∷ [])))

  pub each_seen : {Y : Type 0} (f : W → List Y) (seen seen' : List Y) (gone : List W) → IsPrefix seen seen' → Each (λ w. IsPrefix (f w) seen) gone
      → Each (λ w. IsPrefix (f w) seen') gone
  each_seen f seen seen' [] more h = tt
  each_seen f seen seen' (w ∷ gone) more h = (prefix_trans (f w) seen seen' h.0 more, each_seen f seen seen' gone more h.1)

  -- workers that a slice of a vector was written to
  pub written : (ws vs : List W) (n : ℕ) → length vs ≡ n → take n (vs ++ ws) ≡ vs
  written ws vs n size = ap (λ (k : ℕ). take k (vs ++ ws)) (sym size) ∙ take-append_seam vs ws
