-- What becomes of the entries where their boxes are edited.
use Rattle.std.proofs.Common.{◌≡◌, ℕ, List, ◌∷◌, take, drop, get_or, set, suc, Box, Global, refl, sym, ap, ◌∙◌}
use Rattle.std.specs.List.{insert, remove}
use Rattle.std.proofs.Math.ListN.{get_or-map}
use Rattle.std.proofs.lemmas.List.{take-map, drop-map, map-append, map-set}
use Rattle.aft_entries.specs.declared.entry.Entry.{Entry}
use Rattle.aft_store.specs.Boxes.{unboxed}

abbrev pub in_box : Box Entry Global → Entry
in_box b = b.value

module _ (boxes : List (Box Entry Global)) (at : ℕ) (b : Box Entry Global) where
  pub value_at : b ≡ get_or boxes at b → b.value ≡ get_or (unboxed boxes) at b.value
  value_at is = ap in_box is ∙ sym (get_or-map in_box boxes at b)

  pub box_set : unboxed (set boxes at b) ≡ set (unboxed boxes) at b.value
  box_set = map-set in_box boxes at b

  pub box_in : unboxed (insert boxes at b) ≡ insert (unboxed boxes) at b.value
  box_in = map-append in_box (take at boxes) (b ∷ drop at boxes) ∙ rw (take-map in_box at boxes, drop-map in_box at boxes) refl

pub box_out : (boxes : List (Box Entry Global)) (at : ℕ) → unboxed (remove boxes at) ≡ remove (unboxed boxes) at
box_out boxes at = map-append in_box (take at boxes) (drop (suc at) boxes) ∙ rw (take-map in_box at boxes, drop-map in_box (suc at) boxes) refl
